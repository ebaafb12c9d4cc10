-- What the parts of an image keep: no owner or receiver is refused before the bytes begin, and the unit is empty of statements.
use Rattle.std.proofs.Common.{◌≡◌, ◌∙◌, ℕ, ℤ, ◌-◌, ◌≤◌, Bool, true, false, cond, ltb, eqb, List, [], ◌∷◌, ◌++◌, length, map, Option, Some, None, refl, sym, ap}
use Rattle.std.specs.Prelude.{⊤}
use Rattle.std.proofs.lemmas.List.{map-append}
use Rattle.psy_base.specs.declared.limits.TheConstants.{NAMES}
use Rattle.psy_clock.specs.declared.clock.Clock.{Clock}
use Rattle.psy_code.specs.declared.code.CopyInit.{CopyInit}
use Rattle.psy_code.specs.declared.code.FunctionCode.{FunctionCode}
use Rattle.psy_code.specs.declared.instr.Instr.{Instr}
use Rattle.psy_image.specs.declared.agents.AgentLists.{AgentLists}
use Rattle.psy_image.specs.declared.image.Image.{Image}
use Rattle.psy_image.specs.declared.seen.Claim.{Claim}
use Rattle.psy_image.specs.declared.seen.Seen.{Seen}
use Rattle.psy_image.specs.Answers.{emptied, emptied_agent}
use Rattle.psy_image.specs.Formats.{Format, Refuse}
use Rattle.psy_image.specs.Images.{agent, agents, claim_of, clock, clocks, copies, copy, declaration, function, functions, head, image, instr, instrs, judged, machine}
use Rattle.psy_image.specs.Images.{owned_from, point, points, stream, streams, value, values_up_to, variable, variables}
use Rattle.psy_image.specs.Instructions.{instruction, operands, or_more, pushed, with_none, with_one, with_two}
use Rattle.psy_tree.specs.declared.unit.AgentDecl.{AgentDecl}
use Rattle.psy_tree.specs.declared.unit.Point.{Point}
use Rattle.psy_tree.specs.declared.unit.StreamDecl.{StreamDecl}
use Rattle.psy_tree.specs.declared.unit.Unit.{Unit as Whole}
use Rattle.psy_tree.specs.declared.unit.VarDecl.{VarDecl}
use Rattle.psy_image.proofs.Bounds.{Keeps, keeps_each, keeps_then, keeps_times}

-- Nothing is asked.
abbrev Any : {A : Type 0} → A → Type 0
Any a = ⊤

-- At each of the claims at most so many bytes were left.
abbrev pub Few : ℕ → List Claim → Type 0
Few n [] = ⊤
Few n (claim ∷ claims) = (claim.left ≤ n) × Few n claims

few_append : (n : ℕ) (some more : List Claim) → Few n some → Few n more → Few n (some ++ more)
few_append n [] more h g = g
few_append n (claim ∷ some) more h g = (h.0, few_append n some more h.1 g)

few_claim : (n owner at : ℕ) → at ≤ n → Few n (claim_of owner at)
few_claim n owner at few = by (eqb owner 0)
  where
    by : (b : Bool) → Few n (cond b [] (record { agent = owner - 1; left = at } ∷ []))
    by true = tt
    by false = (few, tt)

-- ---- declarations

keeps_clock : (n : ℕ) (s : List (List ℕ) × List Clock) → Keeps n Any (clock s)
unfolding clock
keeps_clock n s = λ name period first. tt

keeps_clocks : (n : ℕ) → Keeps n Any clocks
unfolding clocks
keeps_clocks n = λ count. keeps_times n Any clock count ([], []) tt (λ s h. keeps_clock n s)

abbrev FewSeen : {X : Type 0} → ℕ → Seen × X → Type 0
FewSeen n s = Few n s.0.claims

keeps_variable : (n many : ℕ) (s : Seen × List VarDecl) → FewSeen n s → Keeps n (FewSeen n) (variable many s)
unfolding variable
keeps_variable n many s h = λ name at few owner clock init depth. few_append n s.0.claims (claim_of owner at) h (few_claim n owner at few)

keeps_variables : (n many : ℕ) (seen : Seen) → Few n seen.claims → Keeps n (FewSeen n) (variables many seen)
unfolding variables
keeps_variables n many seen h = λ count. keeps_times n (FewSeen n) (variable many) count (seen, []) h (λ s g. keeps_variable n many s g)

keeps_stream : (n many : ℕ) (s : Seen × List StreamDecl) → FewSeen n s → Keeps n (FewSeen n) (stream many s)
unfolding stream
keeps_stream n many s h = λ name at few receiver keep clock. few_append n s.0.claims (record { agent = receiver; left = at } ∷ []) h (few, tt)

keeps_streams : (n many : ℕ) (seen : Seen) → Few n seen.claims → Keeps n (FewSeen n) (streams many seen)
unfolding streams
keeps_streams n many seen h = λ count. keeps_times n (FewSeen n) (stream many) count (seen, []) h (λ s g. keeps_stream n many s g)

judged_by : (n count : ℕ) (claim : Claim) (claims : List Claim) → claim.left ≤ n → Keeps n Any (judged count claims) → (b : Bool) → Keeps n Any (cond b (judged count claims) (Refuse claim.left))
judged_by n count claim claims few rest true = rest
judged_by n count claim claims few rest false = few

keeps_judged : (n count : ℕ) (claims : List Claim) → Few n claims → Keeps n Any (judged count claims)
unfolding judged
keeps_judged n count [] h = tt
keeps_judged n count (claim ∷ claims) h = judged_by n count claim claims h.0 (keeps_judged n count claims h.1) (ltb claim.agent count)

-- ---- code

keeps_value : (n : ℕ) (values : List ℤ) → Keeps n Any (value values)
unfolding value
keeps_value n values = λ z. tt

keeps_values : (n most : ℕ) → Keeps n Any (values_up_to most)
unfolding values_up_to
keeps_values n most = λ count. keeps_times n Any value count [] tt (λ s h. keeps_value n s)

keeps_function : (n : ℕ) (s : List FunctionCode) → Keeps n Any (function s)
unfolding function
keeps_function n s = λ entry params. keeps_then n Any Any (values_up_to (NAMES - params)) _ (keeps_values n (NAMES - params)) (λ locals h counters. tt)

keeps_functions : (n : ℕ) → Keeps n Any functions
unfolding functions
keeps_functions n = λ count. keeps_times n Any function count [] tt (λ s h. keeps_function n s)

keeps_more : (n : ℕ) (o : Option Instr) (more : Format Instr) → Keeps n Any more → Keeps n Any (or_more o more)
keeps_more n (Some i) more h = tt
keeps_more n None more h = h

keeps_operands : (n byte : ℕ) → Keeps n Any (operands byte)
unfolding operands
keeps_operands n byte = λ first. keeps_more n (with_one byte first) _ (λ second. keeps_more n (with_two byte first second) _ (λ third. tt))

keeps_instruction : (n : ℕ) → Keeps n Any instruction
unfolding instruction
keeps_instruction n = λ byte. keeps_more n (with_none byte) _ (by byte (eqb byte 1))
  where
    by : (byte : ℕ) (b : Bool) → Keeps n Any (cond b pushed (operands byte))
    by byte true = λ z. tt
    by byte false = keeps_operands n byte

keeps_instr : (n : ℕ) (s : List Instr) → Keeps n Any (instr s)
unfolding instr
keeps_instr n s = keeps_then n Any Any instruction _ (keeps_instruction n) (λ i h. tt)

keeps_instrs : (n : ℕ) → Keeps n Any instrs
unfolding instrs
keeps_instrs n = λ count. keeps_times n Any instr count [] tt (λ s h. keeps_instr n s)

-- ---- agents

keeps_point : (n count : ℕ) (s : List Point × List ℕ) → Keeps n Any (point count s)
unfolding point
keeps_point n count s = λ count clock budget place. tt

keeps_head : (n clock budget : ℕ) → Keeps n Any (head clock budget)
unfolding head
keeps_head n clock budget = λ none same_clock same_budget place. tt

keeps_points : (n many clock budget : ℕ) → Keeps n Any (points many clock budget)
unfolding points
keeps_points n many clock budget = λ count. keeps_then n Any Any (head clock budget) _ (keeps_head n clock budget)
    (λ first h. keeps_times n Any (point many) (count - 1) first tt (λ s g. keeps_point n many s))

keeps_copy : (n owned : ℕ) (s : List CopyInit) → Keeps n Any (copy owned s)
unfolding copy
keeps_copy n owned s = λ variable init. tt

keeps_copies : (n : ℕ) (owned : List ℕ) → Keeps n Any (copies owned)
unfolding copies
keeps_copies n owned = λ count. keeps_each n Any copy owned [] tt (λ x s h. keeps_copy n x s)

abbrev IsEmptied : AgentDecl × List ℕ → Type 0
IsEmptied its = emptied_agent its.0 ≡ its.0

keeps_declaration : (n clocks : ℕ) (names : List (List ℕ)) → Keeps n IsEmptied (declaration clocks names)
unfolding declaration
keeps_declaration n clocks names = λ name clock budget processor. keeps_then n Any IsEmptied (points clocks clock budget) _ (keeps_points n clocks clock budget) (λ its h. refl)

keeps_machine : (n : ℕ) (owned places : List ℕ) → Keeps n Any (machine owned places)
unfolding machine
keeps_machine n owned places = keeps_then n Any Any (values_up_to _) _ (keeps_values n _) (λ cells h counters.
    keeps_then n Any Any (copies owned) _ (keeps_copies n owned) (λ its g stack frames. tt))

abbrev AreEmptied : AgentLists → Type 0
AreEmptied s = map emptied_agent s.agents ≡ s.agents

keeps_agent : (n clocks : ℕ) (variables : List VarDecl) (s : AgentLists) → AreEmptied s → Keeps n AreEmptied (agent clocks variables s)
unfolding agent
keeps_agent n clocks variables s h = keeps_then n IsEmptied AreEmptied (declaration clocks s.names) _ (keeps_declaration n clocks s.names) (λ its is.
    keeps_then n Any AreEmptied (machine (owned_from (length s.agents) 0 variables) its.1) _ (keeps_machine n (owned_from (length s.agents) 0 variables) its.1) (λ code g.
    map-append emptied_agent s.agents (its.0 ∷ []) ∙ ap (λ xs. xs ++ emptied_agent its.0 ∷ []) h ∙ ap (λ a. s.agents ++ a ∷ []) is))

keeps_agents : (n clocks : ℕ) (variables : List VarDecl) (seen : Seen) → Few n seen.claims → Keeps n AreEmptied (agents clocks variables seen)
unfolding agents
keeps_agents n clocks variables seen h = λ count. keeps_then n Any AreEmptied (judged count seen.claims) _ (keeps_judged n count seen.claims h) (λ good g.
    keeps_times n AreEmptied (agent clocks variables) count (record { names = seen.names; agents = []; codes = [] }) refl (λ s e. keeps_agent n clocks variables s e))

-- ---- the whole

-- The unit of an image has nothing but its declarations.
abbrev pub IsBareImage : Image → Type 0
IsBareImage it = it.unit ≡ emptied it.unit

pub keeps_image : (n : ℕ) → Keeps n IsBareImage image
unfolding image
keeps_image n = λ magic quantum. keeps_then n Any IsBareImage clocks _ (keeps_clocks n) (λ cs h0.
    keeps_then n (FewSeen n) IsBareImage (variables (length cs.1) (record { names = cs.0; claims = [] })) _ (keeps_variables n (length cs.1) (record { names = cs.0; claims = [] }) tt) (λ vs h1.
    keeps_then n (FewSeen n) IsBareImage (streams (length cs.1) vs.0) _ (keeps_streams n (length cs.1) vs.0 h1) (λ ss h2.
    keeps_then n Any IsBareImage functions _ (keeps_functions n) (λ fs h3.
    keeps_then n AreEmptied IsBareImage (agents (length cs.1) vs.1 ss.0) _ (keeps_agents n (length cs.1) vs.1 ss.0 h2) (λ crew h4.
    keeps_then n Any IsBareImage instrs _ (keeps_instrs n) (λ code h5 end.
    ap {B = Whole} (λ (xs : List AgentDecl). record { quantum = quantum; clocks = cs.1; clock_names = cs.0; variables = vs.1; streams = ss.1; functions = []; agents = xs }) (sym h4)))))))
