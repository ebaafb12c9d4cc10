-- The code of a text's unit keeps the ranges of an image.
use Rattle.std.proofs.Common.{◌≡◌, ℕ, ℤ, zero, suc, ◌+◌, ◌*◌, ◌<◌, ◌≤◌, true, false, cond, eqb, List, [], ◌∷◌, ◌++◌, map, replicate, length, Option, Some, None, refl, sym, ap, subst, arith}
use Rattle.std.specs.Prelude.{◌==◌, Bool, FitsSigned, pos, slice_get}
use Rattle.std.specs.Int.{w32}
use Rattle.std.specs.List.{flat_map}
use Rattle.std.proofs.Math.Facts.{sfits_lit}
use Rattle.std.proofs.lemmas.List.{length-append, length-map, length-replicate}
use Rattle.std.proofs.lemmas.Option.{none-some, same_Some}
use Rattle.psy_base.specs.declared.limits.TheConstants.{CELLS, FUNCTIONS}
use Rattle.psy_code.specs.declared.code.AgentCode.{AgentCode}
use Rattle.psy_code.specs.declared.code.CopyInit.{CopyInit}
use Rattle.psy_code.specs.declared.instr.Instr.TheVariants as instr
use Rattle.psy_code.specs.Execution.{Copy}
use Rattle.psy_gen.specs.Emission.{Emit, agent_code, agent_entries, agent_entry, agent_layout, agent_size, codes_from, copy_init, function_code, function_entries, function_layout, function_size, stmts_code}
use Rattle.psy_image.specs.Images.{owned_from, owned_one}
use Rattle.psy_meaning.proofs.lemmas.Eaches.{each-append}
use Rattle.psy_meaning.specs.Alike.{first_copies, first_slots, owned_copy}
use Rattle.psy_meaning.specs.Alike as alike
use Rattle.psy_meaning.specs.Depths.{loops_in}
use Rattle.psy_meaning.specs.Sound.{AreSound, AreSoundFunctions, Each, IsSoundFunction, agent_scope, function_scope}
use Rattle.psy_meaning.specs.Units.{IsBare, IsBareAgent, IsBareFunction, IsBareSlot, IsBareVariable}
use Rattle.psy_tree.specs.declared.unit.AgentDecl.{AgentDecl}
use Rattle.psy_tree.specs.declared.unit.FunctionDecl.{FunctionDecl}
use Rattle.psy_tree.specs.declared.unit.LocalDecl.{LocalDecl}
use Rattle.psy_tree.specs.declared.unit.Slots.{Slots}
use Rattle.psy_tree.specs.declared.unit.StreamDecl.{StreamDecl}
use Rattle.psy_tree.specs.declared.unit.Unit.{Unit as Whole}
use Rattle.psy_tree.specs.declared.unit.VarDecl.{VarDecl}
use Rattle.psy_tree.specs.Paths.{total}
use Rattle.psy_build.proofs.Emitted.{HasSmall, stmts_fit}
use Rattle.psy_build.proofs.FirstValues.{LocalFits, SlotFits}
use Rattle.psy_build.proofs.Fit.{Fit, Small}
use Rattle.psy_build.proofs.Lengths.{stmts_length}
use Rattle.psy_build.proofs.Lists.{each_of}
use Rattle.psy_build.proofs.Narrow.{narrow_stmts}
use Rattle.psy_build.proofs.SpelledParts.{IsFitFunction}

-- ---- copies

abbrev variables_in : List Copy → List ℕ
variables_in cs = map (λ (k : CopyInit). k.variable) (map copy_init cs)

owned_if : (number : ℕ) (v : VarDecl) (cs : List Copy) (owned : List ℕ) → variables_in cs ≡ owned → (b : Bool) → variables_in (cond b (record { variable = number; value = v.init } ∷ []) [] ++ cs) ≡ cond b (number ∷ []) [] ++ owned
owned_if number v cs owned rest true = ap (λ l. number ∷ l) rest
owned_if number v cs owned rest false = rest

owned_by : (agent number : ℕ) (v : VarDecl) (cs : List Copy) (owned : List ℕ) → variables_in cs ≡ owned → (o : Option ℕ) → variables_in (owned_copy agent number v o ++ cs) ≡ owned_one agent number o ++ owned
owned_by agent number v cs owned rest None = rest
owned_by agent number v cs owned rest (Some owner) = owned_if number v cs owned rest (eqb owner agent)

-- The copies that an agent begins with are of the variables that it owns.
pub owned_is : (agent number : ℕ) (vs : List VarDecl) → variables_in (alike.owned_from agent number vs) ≡ owned_from agent number vs
owned_is agent number [] = refl
owned_is agent number (v ∷ vs) = owned_by agent number v (alike.owned_from agent (number + 1) vs) (owned_from agent (number + 1) vs) (owned_is agent (number + 1) vs) v.owner

abbrev CopyFits : ℕ → Copy → Type 0
CopyFits most c = (c.variable < most) × FitsSigned w32 c.value

owned_fit : (agent number most : ℕ) (vs : List VarDecl) → number + length vs ≤ most → Each (λ (v : VarDecl). FitsSigned w32 v.init) vs → Each (CopyFits most) (alike.owned_from agent number vs)
owned_fit agent number most [] room fits = tt
owned_fit agent number most (v ∷ vs) room fits = each-append (CopyFits most) (owned_copy agent number v v.owner) (alike.owned_from agent (number + 1) vs) (by v.owner) (owned_fit agent (number + 1) most vs (omega (arith, room)) fits.1)
  where
    by_owner : (b : Bool) → Each (CopyFits most) (cond b (record { variable = number; value = v.init } ∷ []) [])
    by_owner true = ((omega (arith, room), fits.0), tt)
    by_owner false = tt

    by : (o : Option ℕ) → Each (CopyFits most) (owned_copy agent number v o)
    by None = tt
    by (Some owner) = by_owner (eqb owner agent)

owned_few : (agent number : ℕ) (vs : List VarDecl) → length (alike.owned_from agent number vs) ≤ length vs
owned_few agent number [] = omega arith
owned_few agent number (v ∷ vs) = omega (arith, length-append (owned_copy agent number v v.owner) (alike.owned_from agent (number + 1) vs), by v.owner, owned_few agent (number + 1) vs)
  where
    by_owner : (b : Bool) → length {A = Copy} (cond b (record { variable = number; value = v.init } ∷ []) []) ≤ 1
    by_owner true = omega arith
    by_owner false = omega arith

    by : (o : Option ℕ) → length (owned_copy agent number v o) ≤ 1
    by None = omega arith
    by (Some owner) = by_owner (eqb owner agent)

inits_fit : (most : ℕ) (cs : List Copy) → most ≤ 256 → Each (CopyFits most) cs → Each (λ (k : CopyInit). Small k.variable × FitsSigned w32 k.init) (map copy_init cs)
inits_fit most [] few h = tt
inits_fit most (c ∷ cs) few h = ((omega (arith, h.0.0, few), h.0.1), inits_fit most cs few h.1)

pub copies_fit : (unit : Whole) (number : ℕ) → length unit.variables ≤ 256 → Each (λ (v : VarDecl). FitsSigned w32 v.init) unit.variables
    → Each (λ (k : CopyInit). Small k.variable × FitsSigned w32 k.init) (map copy_init (first_copies unit number))
copies_fit unit number few fits = inits_fit (length unit.variables) (first_copies unit number) few (owned_fit number 0 (length unit.variables) unit.variables (omega arith) fits)

pub copies_few : (unit : Whole) (number : ℕ) → length (map copy_init (first_copies unit number)) ≤ length unit.variables
copies_few unit number = omega (arith, length-map (first_copies unit number) copy_init, owned_few number 0 unit.variables)

named_at : (most : ℕ) (cs : List Copy) (place variable : ℕ) → Each (CopyFits most) cs → slice_get (map (λ (c : Copy). c.variable) cs) place ≡ Some variable → variable < most
named_at most [] place variable h e = absurd (none-some variable e)
named_at most (c ∷ cs) zero variable h e = subst (λ n. n < most) (same_Some c.variable variable e) h.0.0
named_at most (c ∷ cs) (suc place) variable h e = named_at most cs place variable h.1 e

-- ---- cells

pub cells_few : (slots : List Slots) → Each IsBareSlot slots → total (map (λ (s : Slots). s.cells) slots) ≤ CELLS * length slots
cells_few [] h = omega arith
cells_few (s ∷ slots) h = omega (arith, h.0.cells.1, cells_few slots h.1)

pub cells_count : (slots : List Slots) → length (flat_map (λ (cells : List ℤ). cells) (map (λ (s : Slots). replicate s.cells s.init) slots)) ≡ total (map (λ (s : Slots). s.cells) slots)
cells_count [] = refl
cells_count (s ∷ slots) =
    omega (arith, length-append (replicate s.cells s.init) (flat_map (λ (cells : List ℤ). cells) (map (λ (s : Slots). replicate s.cells s.init) slots)), length-replicate s.cells s.init, cells_count slots)

replicated : (n : ℕ) (z : ℤ) → FitsSigned w32 z → Each (FitsSigned w32) (replicate n z)
replicated zero z h = tt
replicated (suc n) z h = (h, replicated n z h)

pub cells_fit : (slots : List Slots) → Each SlotFits slots → Each (FitsSigned w32) (flat_map (λ (cells : List ℤ). cells) (map (λ (s : Slots). replicate s.cells s.init) slots))
cells_fit [] h = tt
cells_fit (s ∷ slots) h = each-append (FitsSigned w32) (replicate s.cells s.init) (flat_map (λ (cells : List ℤ). cells) (map (λ (s : Slots). replicate s.cells s.init) slots)) (replicated s.cells s.init h.0) (cells_fit slots h.1)

-- ---- what can be named

depth_at : (unit : Whole) (vs : List VarDecl) (variable depth : ℕ) → Each (IsBareVariable unit) vs → slice_get (map (λ (v : VarDecl). v.depth) vs) variable ≡ Some depth → depth ≤ 1024
depth_at unit [] variable depth h e = absurd (none-some depth e)
depth_at unit (v ∷ vs) zero depth h e = omega (arith, same_Some v.depth depth e, h.0.depth.1)
depth_at unit (v ∷ vs) (suc variable) depth h e = depth_at unit vs variable depth h.1 e

pub agent_small : (unit : Whole) (number : ℕ) (a : AgentDecl) → IsBare unit → IsBareAgent unit a → Each (λ (v : VarDecl). FitsSigned w32 v.init) unit.variables → HasSmall (agent_scope unit number a)
agent_small unit number a bare own fits = record {
  layout = omega (arith, cells_few a.slots (each_of IsBareSlot a.slots own.slots), own.names);
  copies = λ place variable e. (
      let there = named_at (length unit.variables) (first_copies unit number) place variable (owned_fit number 0 (length unit.variables) unit.variables (omega arith) fits) e in
      omega (arith, there, bare.variable_limit)
      );
  depths = omega (arith, length-map unit.variables (λ (v : VarDecl). v.depth), bare.variable_limit);
  deep = λ variable depth e. omega (arith, depth_at unit unit.variables variable depth (each_of (IsBareVariable unit) unit.variables bare.variables) e);
  streams = omega (arith, length-map unit.streams (λ (c : StreamDecl). c.receiver == number), bare.stream_limit);
  clocks = omega (arith, bare.clock_limit);
  functions = omega (arith, bare.function_limit);
  points = omega (arith, own.limit);
}

ones : (n : ℕ) → total (replicate n 1) ≡ n
ones zero = refl
ones (suc n) = omega (arith, ones n)

pub function_small : (above : List FunctionDecl) (f : FunctionDecl) → IsBareFunction f → length above ≤ FUNCTIONS → HasSmall (function_scope above [] [] f)
function_small above f bare few = record {
  layout = omega (arith, ones (f.params + length f.locals), bare.slots);
  copies = λ place variable e. absurd (none-some variable e);
  depths = omega arith;
  deep = λ variable depth e. absurd (none-some depth e);
  streams = omega arith;
  clocks = omega arith;
  functions = omega (arith, few);
  points = omega arith;
}

-- ---- functions

abbrev Fine : FunctionDecl → Type 0
Fine f = narrow_stmts f.stmts ≡ true

function_fit : (above : List FunctionDecl) (f : FunctionDecl) (p high : ℕ) → Small high → p + function_size f ≤ high → IsBareFunction f → length above ≤ FUNCTIONS → IsSoundFunction above f → Fine f → Each Fit (function_code f p)
function_fit above f p high room below bare few sound thin =
    let both = stmts_fit (function_scope above [] [] f) (function_small above f bare few) high room f.stmts 0 p (omega arith) (omega (arith, below)) (sound.stmts [] []) thin in
    each-append Fit (stmts_code (function_layout f) f.stmts 0 p) (instr.Push (pos 0) ∷ (instr.Return ∷ [])) both.0 (sfits_lit tt, (tt {0}, tt {0}))

pub functions_fit : (above fs : List FunctionDecl) (p high : ℕ) → Small high → p + total (map function_size fs) ≤ high → Each IsBareFunction fs → length above + length fs ≤ FUNCTIONS → AreSoundFunctions above fs → Each Fine fs
    → Each Fit (codes_from function_code function_size fs p)
functions_fit above [] p high room below bare few sound thin = tt
functions_fit above (f ∷ fs) p high room below bare few sound thin =
    each-append Fit (function_code f p) (codes_from function_code function_size fs (p + function_size f)) (function_fit above f p high room (omega (arith, below)) bare.0 (omega (arith, few)) sound.0 thin.0)
    (functions_fit (above ++ f ∷ []) fs (p + function_size f) high room (omega (arith, below)) bare.1 (omega (arith, few, length-append above (f ∷ []))) sound.1 thin.1)

inits : (locals : List LocalDecl) → Each LocalFits locals → Each (FitsSigned w32) (map (λ (l : LocalDecl). l.init) locals)
inits [] h = tt
inits (l ∷ locals) h = (h.0, inits locals h.1)

pub entries_fit : (fs : List FunctionDecl) (p high most : ℕ) → Small high → p + total (map function_size fs) ≤ high → most ≤ 524288 → Each IsBareFunction fs → Each (λ (f : FunctionDecl). Each LocalFits f.locals) fs
    → Each (λ (f : FunctionDecl). 8 * loops_in f.stmts ≤ most) fs → Each IsFitFunction (function_entries fs p)
entries_fit [] p high most room below small bare values few = tt
entries_fit (f ∷ fs) p high most room below small bare values few = (
  record {
    entry = omega (arith, below, room);
    slots = omega (arith, bare.0.slots, length-map f.locals (λ (l : LocalDecl). l.init));
    locals = inits f.locals values.0;
    counters = omega (arith, few.0, small);
  },
  entries_fit fs (p + function_size f) high most room (omega (arith, below)) small bare.1 values.1 few.1,
)

pub entries_count : (fs : List FunctionDecl) (p : ℕ) → length (function_entries fs p) ≡ length fs
entries_count [] p = refl
entries_count (f ∷ fs) p = ap suc (entries_count fs (p + function_size f))

-- ---- agents

pub agent_fit : (unit : Whole) (number : ℕ) (a : AgentDecl) (p high : ℕ) → Small high → p + agent_size a ≤ high → HasSmall (agent_scope unit number a) → AreSound (agent_scope unit number a) a.stmts → narrow_stmts a.stmts ≡ true
    → Each Fit (agent_code a p) × Each Small ((agent_entry unit number a p).points)
agent_fit unit number a p high room below small sound thin =
    let both = stmts_fit (agent_scope unit number a) small high room a.stmts 0 p (omega arith) (omega (arith, below)) sound thin in
    let start : Small p = omega (arith, below, room) in (
      each-append Fit (stmts_code (agent_layout a) a.stmts 0 p) (instr.Jump p ∷ []) both.0 (start, tt {0}),
      (start, both.1),
    )

-- What is asked of an agent, by its number
abbrev pub Asked : Whole → ℕ → AgentDecl → Type 0
Asked unit number a = HasSmall (agent_scope unit number a) × AreSound (agent_scope unit number a) a.stmts × (narrow_stmts a.stmts ≡ true)

pub agents_fit : (unit : Whole) (n : ℕ) (crew : List AgentDecl) (p high : ℕ) → Small high → p + total (map agent_size crew) ≤ high → ((i : ℕ) (a : AgentDecl) → slice_get crew i ≡ Some a → Asked unit (n + i) a)
    → Each Fit (codes_from agent_code agent_size crew p)
agents_fit unit n [] p high room below asked = tt
agents_fit unit n (a ∷ crew) p high room below asked =
    let here : n + 0 ≡ n = omega arith in
    let (small, sound, thin) = subst (λ k. Asked unit k a) here (asked 0 a refl) in
    each-append Fit (agent_code a p) (codes_from agent_code agent_size crew (p + agent_size a)) (agent_fit unit n a p high room (omega (arith, below)) small sound thin).0
    (agents_fit unit (n + 1) crew (p + agent_size a) high room (omega (arith, below)) (λ i b at. (let next : n + suc i ≡ n + 1 + i = omega arith in subst (λ k. Asked unit k b) next (asked (suc i) b at))))

-- What an agent's machine is made from, at a place
abbrev pub IsEntry : Whole → ℕ → ℕ → AgentDecl → AgentCode → Type 0
IsEntry unit high number a c = (q : ℕ) × (q + agent_size a ≤ high) × (c ≡ agent_entry unit number a q)

pub entry_at : (unit : Whole) (n : ℕ) (crew : List AgentDecl) (p high i : ℕ) (a : AgentDecl) (c : AgentCode) → p + total (map agent_size crew) ≤ high → slice_get crew i ≡ Some a → slice_get (agent_entries unit n crew p) i ≡ Some c
    → IsEntry unit high (n + i) a c
entry_at unit n [] p high i a c below at there = absurd (none-some a at)
entry_at unit n (b ∷ crew) p high zero a c below at there =
    let same : b ≡ a = same_Some b a at in
    let here : n ≡ n + 0 = omega arith in
    let is : c ≡ agent_entry unit n b p = sym (same_Some (agent_entry unit n b p) c there) in
    subst (λ k. IsEntry unit high k a c) here (subst (λ x. IsEntry unit high n x c) same (p, omega (arith, below), is))
entry_at unit n (b ∷ crew) p high (suc i) a c below at there =
    let next : n + 1 + i ≡ n + suc i = omega arith in
    subst (λ k. IsEntry unit high k a c) next (entry_at unit (n + 1) crew (p + agent_size b) high i a c (omega (arith, below)) at there)

pub agents_count : (unit : Whole) (n : ℕ) (crew : List AgentDecl) (p : ℕ) → length (agent_entries unit n crew p) ≡ length crew
agents_count unit n [] p = refl
agents_count unit n (a ∷ crew) p = ap suc (agents_count unit (n + 1) crew (p + agent_size a))

-- ---- how many instructions

codes_count : {X : Type 0} (code : X → Emit) (size : X → ℕ) → ((x : X) (p : ℕ) → length (code x p) ≡ size x) → (xs : List X) (p : ℕ) → length (codes_from code size xs p) ≡ total (map size xs)
codes_count code size each [] p = refl
codes_count code size each (x ∷ xs) p = omega (arith, length-append (code x p) (codes_from code size xs (p + size x)), each x p, codes_count code size each xs (p + size x))

pub functions_count : (fs : List FunctionDecl) (p : ℕ) → length (codes_from function_code function_size fs p) ≡ total (map function_size fs)
functions_count = codes_count function_code function_size (λ f p. omega (arith, length-append (stmts_code (function_layout f) f.stmts 0 p) (instr.Push (pos 0) ∷ (instr.Return ∷ [])), stmts_length (function_layout f) f.stmts 0 p))

pub crew_count : (crew : List AgentDecl) (p : ℕ) → length (codes_from agent_code agent_size crew p) ≡ total (map agent_size crew)
crew_count = codes_count agent_code agent_size (λ a p. omega (arith, length-append (stmts_code (agent_layout a) a.stmts 0 p) (instr.Jump p ∷ []), stmts_length (agent_layout a) a.stmts 0 p))
