-- The unit of a program without a fault is sound.
use Rattle.std.proofs.Common.{◌≡◌, ℕ, suc, ◌+◌, Bool, List, [], ◌∷◌, ◌++◌, map, take, length, Option, Some, refl, sym, ap, subst, ◌∙◌, arith, append-nil}
use Rattle.std.specs.Prelude.{slice_get}
use Rattle.std.specs.List.{range_with_len}
use Rattle.std.proofs.lemmas.List.FromFn.{length-range_with_len}
use Rattle.std.proofs.lemmas.Option.{slice_get_within, get_or_from_slice_get}
use Rattle.psy_tree.specs.declared.raw.Name.{Name}
use Rattle.psy_tree.specs.declared.raw.Lit.{Lit}
use Rattle.psy_tree.specs.declared.raw.Local.{Local}
use Rattle.psy_tree.specs.declared.raw.RawStmt.{RawStmt}
use Rattle.psy_tree.specs.declared.raw.Item.{Item}
use Rattle.psy_tree.specs.declared.raw.Item.TheVariants as item
use Rattle.psy_tree.specs.declared.raw.Raw.{Raw}
use Rattle.psy_tree.specs.declared.rules.RuleKind.TheVariants as kind
use Rattle.psy_tree.specs.declared.unit.Unit.{Unit as Whole}
use Rattle.psy_tree.specs.declared.unit.FunctionDecl.{FunctionDecl}
use Rattle.psy_tree.specs.declared.unit.AgentDecl.{AgentDecl}
use Rattle.psy_tree.specs.Scope.{slots_of}
use Rattle.psy_tree.specs.Places.{HasBody, inside_places, slot_places, local_place, stmts_places, body_places}
use Rattle.psy_tree.specs.Paths.{advances_list, quiet_list as raw_quiet_list}
use Rattle.psy_tree.specs.Rules.{NoFault, is_agent, is_clock, is_function}
use Rattle.psy_tree.specs.Stands.{Stands, unit_of, inside_of, counting, global_number, head_point, local_of, agent_with, stmts_of, functions, agents, each_from}
use Rattle.psy_meaning.specs.Sound.{Each, AreSound, function_scope, AreSoundFunctions, agent_scope, IsSoundAgent, IsSoundUnit}
use Rattle.psy_tree.proofs.lemmas.Advances.{function_quiet}
use Rattle.psy_tree.proofs.lemmas.Numbers.{each_from_more, length-each, gives_functions}
use Rattle.psy_tree.proofs.lemmas.Limits.{few_functions}
use Rattle.psy_tree.proofs.lemmas.Lists.{only}
use Rattle.psy_tree.proofs.lemmas.Numbers.{agent_from}
use Rattle.psy_meaning.proofs.PathsOf.{quiet_of, points_of, numbers_of}
use Rattle.psy_meaning.proofs.lemmas.Eaches.{each-among, each-first, each-second}
use Rattle.psy_tree.proofs.lemmas.Faultless.{Fine, fine_inside}
use Rattle.psy_meaning.proofs.SoundStmts.{sound_stmts}
use Rattle.psy_meaning.proofs.AgentNames.{agent_suits}
use Rattle.psy_meaning.proofs.FunctionNames.{function_suits}
use Rattle.psy_meaning.proofs.Literals.{locals_fit, slots_fit, variables_fit}

-- ---- functions

module _ (raw : Raw) (fault : NoFault raw) where
  abbrev before : ℕ → List FunctionDecl
  before k = each_from (functions raw.items) 0 (take k raw.items)

  abbrev function_of : ℕ → Name → List Name → List Local → List RawStmt → FunctionDecl
  function_of k name params locals stmts = record { name = name.text; params = length params; locals = map local_of locals; stmts = (stmts_of (inside_of raw.items k) stmts []).0 }

  -- What stands behind the names inside a function has no fault.
  inside_function : (k : ℕ) (name : Name) (params : List Name) (locals : List Local) (stmts : List RawStmt) → slice_get raw.items k ≡ Some (item.Function name params locals stmts)
      → Each (Fine (inside_of raw.items k)) (map local_place locals ++ stmts_places stmts)
  inside_function k name params locals stmts own =
      let i = item.Function name params locals stmts in
      let site = inside_of raw.items k in
      each-second (Fine site) (slot_places 0 (slots_of i)) (body_places i) (each-among (Fine site) (inside_places i) (λ p there. fine_inside raw fault k i p own there))

  function_locals : (k : ℕ) (name : Name) (params : List Name) (locals : List Local) (stmts : List RawStmt) → slice_get raw.items k ≡ Some (item.Function name params locals stmts)
      → Each (Fine (inside_of raw.items k)) (map local_place locals)
  function_locals k name params locals stmts own = each-first (Fine (inside_of raw.items k)) (map local_place locals) (stmts_places stmts) (inside_function k name params locals stmts own)

  function_sound : (k : ℕ) (name : Name) (params : List Name) (locals : List Local) (stmts : List RawStmt) (depths : List ℕ) (streams : List Bool) → slice_get raw.items k ≡ Some (item.Function name params locals stmts)
      → AreSound (function_scope (before k) depths streams (function_of k name params locals stmts)) (stmts_of (inside_of raw.items k) stmts []).0
  function_sound k name params locals stmts depths streams own =
      let f = function_of k name params locals stmts in
      let site = inside_of raw.items k in
      let fines = each-second (Fine site) (map local_place locals) (stmts_places stmts) (inside_function k name params locals stmts own) in
      sound_stmts site (function_scope (before k) depths streams f) (function_suits raw.items k name params locals stmts f depths streams own refl refl)
      stmts fines [] (omega (arith, function_quiet raw k name params locals stmts fault own))

  -- what one declaration gives, in front of others
  one_sound : (k : ℕ) (i : Item) (rest : List FunctionDecl) → slice_get raw.items k ≡ Some i → AreSoundFunctions (before k ++ functions raw.items k i) rest → AreSoundFunctions (before k) (functions raw.items k i ++ rest)
  one_sound k (item.Function name params locals stmts) rest own h = (record { stmts = λ depths streams. function_sound k name params locals stmts depths streams own; locals = locals_fit (inside_of raw.items k) locals (function_locals k name params locals stmts own) }, h)
  one_sound k _ rest own h = subst (λ l. AreSoundFunctions l rest) (append-nil (before k)) h

  functions_sound : (k : ℕ) (xs : List Item) → ((j : ℕ) → slice_get raw.items (k + j) ≡ slice_get xs j) → AreSoundFunctions (before k) (each_from (functions raw.items) k xs)
  functions_sound k [] same = tt
  functions_sound k (i ∷ xs) same =
      let z : k ≡ k + 0 = omega arith in
      let own = ap (slice_get raw.items) z ∙ same 0 in
      let more = each_from_more (functions raw.items) raw.items k i (slice_get_within raw.items k i own) ∙ ap (λ x. before k ++ functions raw.items k x) (get_or_from_slice_get raw.items k i i own) in
      one_sound k i (each_from (functions raw.items) (k + 1) xs) own
      (subst (λ l. AreSoundFunctions l (each_from (functions raw.items) (k + 1) xs)) more
      (functions_sound (k + 1) xs (λ j. let next : k + 1 + j ≡ k + suc j = omega arith in ap (slice_get raw.items) next ∙ same (suc j))))

  all_functions : AreSoundFunctions [] (unit_of raw).functions
  all_functions = functions_sound 0 raw.items (λ j. let z : 0 + j ≡ j = omega arith in ap (slice_get raw.items) z)

  -- ---- agents

  agent_sound : (k : ℕ) (name clock : Name) (processor : Option Lit) (budget : Lit) (locals : List Local) (body : ℕ) (stmts : List RawStmt) → slice_get raw.items k ≡ Some (item.Agent name clock processor budget locals body stmts)
      → IsSoundAgent (unit_of raw) (counting is_agent (take k raw.items)) (agent_with raw.items name clock processor budget locals (stmts_of (inside_of raw.items k) stmts (head_point (global_number is_clock raw.items clock) budget.value ∷ [])))
  agent_sound k name clock processor budget locals body stmts own =
      let i = item.Agent name clock processor budget locals body stmts in
      let site = inside_of raw.items k in
      let head = head_point (global_number is_clock raw.items clock) budget.value in
      let agent = agent_with raw.items name clock processor budget locals (stmts_of site stmts (head ∷ [])) in
      let last = HasBody body (raw_quiet_list stmts) ∷ [] in
      let inside = each-among (Fine site) (inside_places i) (λ p there. fine_inside raw fault k i p own there) in
      let behind = each-second (Fine site) (slot_places 0 (slots_of i)) (body_places i) inside in
      let cells = each-first (Fine site) (map local_place locals) (stmts_places stmts ++ last) behind in
      let below = each-second (Fine site) (map local_place locals) (stmts_places stmts ++ last) behind in
      let ends = (each-second (Fine site) (stmts_places stmts) last below).0 in
      let count = points_of site stmts (head ∷ []) in
      let order = numbers_of site stmts (head ∷ []) in
      let many = ap length order ∙ length-range_with_len 1 (advances_list stmts) in
      let suits = agent_suits raw fault k name clock processor budget locals body stmts agent own refl cells in
      record {
        stmts = sound_stmts site (agent_scope (unit_of raw) (counting is_agent (take k raw.items)) agent) suits stmts (each-first (Fine site) (stmts_places stmts) last below) (head ∷ []) (omega (arith, count));
        ends = quiet_of site stmts (head ∷ []) ∙ ends kind.NoAdvance;
        points = omega (arith, count, many);
        numbered = order ∙ ap (range_with_len 1) (sym many);
        values = slots_fit site locals cells;
      }

  agent_of : (k : ℕ) (i : Item) (agent : AgentDecl) → slice_get raw.items k ≡ Some i → agents raw.items k i ≡ agent ∷ [] → IsSoundAgent (unit_of raw) (counting is_agent (take k raw.items)) agent
  agent_of k (item.Agent name clock processor budget locals body stmts) agent own gives = subst (IsSoundAgent (unit_of raw) (counting is_agent (take k raw.items))) (only _ agent gives) (agent_sound k name clock processor budget locals body stmts own)
  agent_of k _ agent own gives = cc

  all_agents : (number : ℕ) (agent : AgentDecl) → slice_get (unit_of raw).agents number ≡ Some agent → IsSoundAgent (unit_of raw) number agent
  all_agents number agent got =
      let (k, i, own, gives, same) = agent_from raw number agent got in
      subst (λ n. IsSoundAgent (unit_of raw) n agent) (sym same) (agent_of k i agent own gives)

pub unit_sound : (raw : Raw) (unit : Whole) → Stands unit raw → IsSoundUnit unit
unit_sound raw unit stands =
    subst IsSoundUnit (sym stands.numbered)
    (record {
      functions = all_functions raw stands.no_fault;
      few = omega (arith, length-each is_function (functions raw.items) (gives_functions raw.items) 0 raw.items, few_functions raw.items stands.within_limits);
      agents = all_agents raw stands.no_fault;
      values = variables_fit raw.items raw.items;
    })
