-- Functions and agents, one after the other.
use Rattle.std.proofs.Common.{◌≡◌, ℕ, ◌+◌, ◌≤◌, List, [], ◌∷◌, ◌++◌, map, length, refl, sym, ap, ◌∙◌, arith, append_assoc, length-append}
use Rattle.std.proofs.lemmas.List.{map-append}
use Rattle.std.specs.Prelude.{ℤ, pos, replicate}
use Rattle.std.specs.List.{flat_map}
use Rattle.psy_tree.specs.declared.unit.Slots.{Slots}
use Rattle.psy_code.specs.declared.instr.Instr.{Instr}
use Rattle.psy_code.specs.declared.instr.Instr.TheVariants as instr
use Rattle.psy_code.specs.declared.code.AgentCode.{AgentCode}
use Rattle.psy_code.specs.declared.code.CopyInit.{CopyInit}
use Rattle.psy_code.specs.declared.code.FunctionCode.{FunctionCode}
use Rattle.psy_tree.specs.declared.unit.Unit.{Unit as Whole}
use Rattle.psy_tree.specs.declared.unit.AgentDecl.{AgentDecl}
use Rattle.psy_tree.specs.declared.unit.FunctionDecl.{FunctionDecl}
use Rattle.psy_tree.specs.declared.unit.VarDecl.{VarDecl}
use Rattle.psy_tree.specs.Paths.{total}
use Rattle.psy_meaning.specs.Sizes.{unit_size}
use Rattle.psy_meaning.specs.Alike.{owned_copy, owned_from}
use Rattle.psy_gen.specs.Emission.{Emit, copy_init, stmts_code, codes_from, function_layout, function_code, function_size, functions_size, function_entry, function_entries, agent_layout, agent_code, agent_size, agent_entry, agent_entries, code_of}
use Rattle.psy_gen.proofs.Lengths.{stmts_length}

pub function_length : (f : FunctionDecl) (p : ℕ) → length (function_code f p) ≡ function_size f
function_length f p = length-append (stmts_code (function_layout f) f.stmts 0 p) (instr.Push (pos 0) ∷ (instr.Return ∷ [])) ∙ ap (λ n. n + 2) (stmts_length (function_layout f) f.stmts 0 p)

pub agent_length : (a : AgentDecl) (p : ℕ) → length (agent_code a p) ≡ agent_size a
agent_length a p = length-append (stmts_code (agent_layout a) a.stmts 0 p) (instr.Jump p ∷ []) ∙ ap (λ n. n + 1) (stmts_length (agent_layout a) a.stmts 0 p)

module _ {X : Type 0} (code : X → Emit) (size : X → ℕ) (measured : (x : X) (p : ℕ) → length (code x p) ≡ size x) where
  pub codes_length : (xs : List X) (p : ℕ) → length (codes_from code size xs p) ≡ total (map size xs)
  codes_length [] p = refl
  codes_length (x ∷ xs) p = omega (arith, length-append (code x p) (codes_from code size xs (p + size x)), measured x p, codes_length xs (p + size x))

  pub behind_code : (x : X) (c0 c1 : List Instr) → c1 ≡ c0 ++ code x (length c0) → length c1 ≡ length c0 + size x
  behind_code x c0 c1 is = ap length is ∙ length-append c0 (code x (length c0)) ∙ ap (λ n. length c0 + n) (measured x (length c0))

  pub codes_more : (x : X) (rest : List X) (c0 c1 : List Instr) → c1 ≡ c0 ++ code x (length c0) → c1 ++ codes_from code size rest (length c1) ≡ c0 ++ codes_from code size (x ∷ rest) (length c0)
  codes_more x rest c0 c1 is =
      ap (λ c. c ++ codes_from code size rest (length c1)) is ∙ append_assoc c0 (code x (length c0)) (codes_from code size rest (length c1))
      ∙ ap (λ n. c0 ++ (code x (length c0) ++ codes_from code size rest n)) (behind_code x c0 c1 is)

pub functions_more : (f : FunctionDecl) (rest : List FunctionDecl) (c0 c1 : List Instr) → c1 ≡ c0 ++ function_code f (length c0) →
    c1 ++ codes_from function_code function_size rest (length c1) ≡ c0 ++ codes_from function_code function_size (f ∷ rest) (length c0)
functions_more = codes_more function_code function_size function_length

pub agents_more : (a : AgentDecl) (rest : List AgentDecl) (c0 c1 : List Instr) → c1 ≡ c0 ++ agent_code a (length c0) →
    c1 ++ codes_from agent_code agent_size rest (length c1) ≡ c0 ++ codes_from agent_code agent_size (a ∷ rest) (length c0)
agents_more = codes_more agent_code agent_size agent_length

pub function_entries_more : (f : FunctionDecl) (rest : List FunctionDecl) (c0 c1 : List Instr) (es fs : List FunctionCode) (e : FunctionCode) → c1 ≡ c0 ++ function_code f (length c0) →
    e ≡ function_entry f (length c0) → fs ≡ es ++ e ∷ [] → fs ++ function_entries rest (length c1) ≡ es ++ function_entries (f ∷ rest) (length c0)
function_entries_more f rest c0 c1 es fs e is made pushed =
    ap (λ l. l ++ function_entries rest (length c1)) pushed ∙ append_assoc es (e ∷ []) (function_entries rest (length c1))
    ∙ ap (λ x. es ++ (x ∷ function_entries rest (length c1))) made
    ∙ ap (λ n. es ++ (function_entry f (length c0) ∷ function_entries rest n)) (behind_code function_code function_size function_length f c0 c1 is)

pub agent_entries_more : (unit : Whole) (number : ℕ) (a : AgentDecl) (rest : List AgentDecl) (c0 c1 : List Instr) (es fs : List AgentCode) (e : AgentCode) → c1 ≡ c0 ++ agent_code a (length c0) →
    e ≡ agent_entry unit number a (length c0) → fs ≡ es ++ e ∷ [] → fs ++ agent_entries unit (number + 1) rest (length c1) ≡ es ++ agent_entries unit number (a ∷ rest) (length c0)
agent_entries_more unit number a rest c0 c1 es fs e is made pushed =
    ap (λ l. l ++ agent_entries unit (number + 1) rest (length c1)) pushed ∙ append_assoc es (e ∷ []) (agent_entries unit (number + 1) rest (length c1))
    ∙ ap (λ x. es ++ (x ∷ agent_entries unit (number + 1) rest (length c1))) made
    ∙ ap (λ n. es ++ (agent_entry unit number a (length c0) ∷ agent_entries unit (number + 1) rest n)) (behind_code agent_code agent_size agent_length a c0 c1 is)

pub copies_more : (agent number : ℕ) (v : VarDecl) (rest : List VarDecl) (q0 q1 : List CopyInit) → q1 ≡ q0 ++ map copy_init (owned_copy agent number v v.owner) →
    q1 ++ map copy_init (owned_from agent (number + 1) rest) ≡ q0 ++ map copy_init (owned_from agent number (v ∷ rest))
copies_more agent number v rest q0 q1 is =
    ap (λ q. q ++ map copy_init (owned_from agent (number + 1) rest)) is ∙ append_assoc q0 (map copy_init (owned_copy agent number v v.owner)) (map copy_init (owned_from agent (number + 1) rest))
    ∙ ap (λ q. q0 ++ q) (sym (map-append copy_init (owned_copy agent number v v.owner) (owned_from agent (number + 1) rest)))

-- The functions' code, and the agents' behind it
pub code_is : (unit : Whole) (c1 c2 : List Instr) (functions : List FunctionCode) (agents : List AgentCode) → c1 ≡ codes_from function_code function_size unit.functions 0 →
    c2 ≡ c1 ++ codes_from agent_code agent_size unit.agents (length c1) → functions ≡ function_entries unit.functions 0 → agents ≡ agent_entries unit 0 unit.agents (length c1) →
    record { instrs = c2; agents = agents; functions = functions } ≡ code_of unit
code_is unit c1 c2 functions agents e1 e2 f a =
    let start : length c1 ≡ functions_size unit.functions = ap length e1 ∙ codes_length function_code function_size function_length unit.functions 0 in
    let front = codes_from function_code function_size unit.functions 0 in
    let code : c2 ≡ front ++ codes_from agent_code agent_size unit.agents (functions_size unit.functions) =
    e2 ∙ ap (λ c. c ++ codes_from agent_code agent_size unit.agents (length c1)) e1 ∙ ap (λ n. front ++ codes_from agent_code agent_size unit.agents n) start in
    rw (code, f, a, start) refl

pub code_size : (unit : Whole) → length (code_of unit).instrs ≤ unit_size unit
code_size unit =
    let start = functions_size unit.functions in
    omega (arith, length-append (codes_from function_code function_size unit.functions 0) (codes_from agent_code agent_size unit.agents start), codes_length function_code function_size function_length unit.functions 0, codes_length agent_code agent_size agent_length unit.agents start)

-- The cells that slots begin with, slot by slot
pub cells_is : (slots : List Slots) → flat_map (λ (s : Slots). replicate s.cells s.init) slots ≡ flat_map (λ (cells : List ℤ). cells) (map (λ (s : Slots). replicate s.cells s.init) slots)
cells_is [] = refl
cells_is (s ∷ slots) = ap (λ cells. replicate s.cells s.init ++ cells) (cells_is slots)
