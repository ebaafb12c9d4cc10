-- The code of a sound unit acts as its statements.
use Rattle.std.proofs.Common.{◌≡◌, refl, sym, ap, subst, ◌∙◌, arith}
use Rattle.std.specs.Prelude.{ℕ, zero, suc, ◌+◌, ◌<◌, ◌≤◌, T, List, [], ◌∷◌, ◌++◌, map, length, slice_get, slice_index_or, Some}
use Rattle.std.proofs.lemmas.List.{length-append, append_assoc}
use Rattle.psy_meaning.proofs.lemmas.SlotCells.{lengths_of}
use Rattle.psy_tree.specs.declared.unit.Unit.{Unit as Whole}
use Rattle.psy_tree.specs.declared.unit.AgentDecl.{AgentDecl}
use Rattle.psy_tree.specs.declared.unit.FunctionDecl.{FunctionDecl}
use Rattle.psy_code.specs.declared.code.Code.{Code}
use Rattle.psy_code.specs.declared.code.AgentCode.{AgentCode}
use Rattle.psy_code.specs.declared.instr.Instr.{Instr}
use Rattle.psy_code.specs.declared.instr.Instr.TheVariants as instr
use Rattle.psy_code.specs.Views.{View}
use Rattle.psy_code.specs.Execution.{Copy, Run, RanTo, TrappedBy, copy_from, run_code, standing}
use Rattle.psy_code.specs.Execution as code
use Rattle.psy_code.specs.Lasting.{IsOver, Lasted}
use Rattle.psy_tree.specs.Paths.{total}
use Rattle.psy_meaning.specs.Sizes.{stmts_size}
use Rattle.psy_meaning.specs.Depths.{Depth, call_depths, loops_in, agent_depth}
use Rattle.psy_meaning.specs.Sound.{Scope, agent_scope, IsSoundAgent, IsSoundUnit}
use Rattle.psy_meaning.specs.States.{Store, State, Final, Ended, Trapped, Halts}
use Rattle.psy_meaning.specs.Statements.{act, callees_of}
use Rattle.psy_meaning.specs.Rest.{rest}
use Rattle.psy_meaning.specs.Alike.{first_copies, IsStoreOf, IsViewOf, SameAs, EndsAs, home_holding, begun, started, AgentAlike, ActsAlike}
use Rattle.psy_gen.specs.Emission.{codes_from, function_code, function_size, functions_size, function_entries, agent_code, agent_size, agent_entry, agent_entries, stmts_code, code_of, copy_init}
use Rattle.psy_gen.proofs.Contexts.{Home, Room, at, HasAt, has-first, has-second, Shape, Holds}
use Rattle.psy_gen.proofs.Wholes.{function_length, agent_length}
use Rattle.psy_gen.proofs.Outcomes.{After}
use Rattle.psy_gen.proofs.PlaceCounts.{places_count}
use Rattle.psy_gen.proofs.ExprRuns.{expr_runs}
use Rattle.psy_gen.proofs.Calls.{StandFrom, all_ready}
use Rattle.psy_gen.proofs.RestRuns.{body_runs}
use Rattle.psy_gen.proofs.Basics.{default, how_many, got-within}

-- A run that is over lasted as many instructions as were counted.
abbrev pub Lasts : Type 0
Lasts = (whole : Code) (its : AgentCode) (s t : code.RunState) (n : ℕ) → IsOver (run_code whole its s n) t → Lasted whole its s n t

-- Each action of a sound unit's agent ends or traps.
abbrev pub Ends : Type 0
Ends = (unit : Whole) (number : ℕ) (agent : AgentDecl) (point : ℕ) (s : State) → IsSoundUnit unit → slice_get unit.agents number ≡ Some agent → (final : Final) × (act unit.functions (rest agent.stmts point) s ≡ Halts final)

-- ---- where the code stands

pub whole_has : (before is : List Instr) → HasAt (before ++ is) (length before) is
whole_has before [] = tt {0}
whole_has before (i ∷ is) =
    (here before i is, subst (λ n. HasAt (before ++ i ∷ is) n is) (length-append before (i ∷ [])) (subst (λ l. HasAt l (length (before ++ i ∷ [])) is) (append_assoc before (i ∷ []) is) (whole_has (before ++ i ∷ []) is)))
  where
    here : (before : List Instr) (i : Instr) (is : List Instr) → slice_get (before ++ i ∷ is) (length before) ≡ Some i
    here [] i is = refl
    here (x ∷ before) i is = here before i is

functions_length : (fs : List FunctionDecl) (p : ℕ) → length (codes_from function_code function_size fs p) ≡ functions_size fs
functions_length [] p = refl
functions_length (f ∷ fs) p = length-append (function_code f p) (codes_from function_code function_size fs (p + function_size f)) ∙ omega (arith, function_length f p, functions_length fs (p + function_size f))

module _ (whole : Code) (its : AgentCode) where
  stand_from : (fs : List FunctionDecl) (n p : ℕ) → HasAt whole.instrs p (codes_from function_code function_size fs p) → p + functions_size fs ≤ length whole.instrs
      → ((i : ℕ) → slice_get whole.functions (n + i) ≡ slice_get (function_entries fs p) i) → StandFrom whole its n fs
  stand_from [] n p h small entries = tt {0}
  stand_from (f ∷ fs) n p h small entries =
      let rest_code = codes_from function_code function_size fs (p + function_size f) in
      let z : n ≡ n + 0 = omega arith in (
        record { place = p; entry = ap (slice_get whole.functions) z ∙ entries 0; has = has-first whole.instrs p (function_code f p) rest_code h; small = omega (arith, small) },
        stand_from fs (n + 1) (p + function_size f) (subst (λ y. HasAt whole.instrs (p + y) rest_code) (function_length f p) (has-second whole.instrs p (function_code f p) rest_code h)) (omega (arith, small))
            (λ i. let e : n + 1 + i ≡ n + suc i = omega arith in ap (slice_get whole.functions) e ∙ entries (suc i)),
      )

-- The code of one agent
pub record AgentAt (unit : Whole) (whole : Code) (number : ℕ) (agent : AgentDecl) (its : AgentCode) : Type 0 where
  pub place : ℕ
  pub entry : its ≡ agent_entry unit number agent place
  pub has : HasAt whole.instrs place (agent_code agent place)
  pub small : place + agent_size agent ≤ length whole.instrs

agent_at : (unit : Whole) (whole : Code) (agents : List AgentDecl) (first p number : ℕ) (agent : AgentDecl) (its : AgentCode) → HasAt whole.instrs p (codes_from agent_code agent_size agents p) → p + total (map agent_size agents) ≤ length whole.instrs
    → slice_get agents number ≡ Some agent → slice_get (agent_entries unit first agents p) number ≡ Some its → AgentAt unit whole (first + number) agent its
agent_at unit whole [] first p number agent its h small e f = absurd (omega (arith, ap how_many e))
agent_at unit whole (a ∷ rest) first p zero agent its h small e f =
    let same : a ≡ agent = ap (default a) e in
    let z : first + 0 ≡ first = omega arith in
    subst (λ x. AgentAt unit whole (first + 0) x its) same
    (record { place = p; entry = sym (ap (default (agent_entry unit first a p)) f) ∙ ap (λ n. agent_entry unit n a p) (sym z); has = has-first whole.instrs p (agent_code a p) (codes_from agent_code agent_size rest (p + agent_size a)) h; small = omega (arith, small) })
agent_at unit whole (a ∷ rest) first p (suc number) agent its h small e f =
    let n : first + 1 + number ≡ first + suc number = omega arith in
    let rest_code = codes_from agent_code agent_size rest (p + agent_size a) in
    subst (λ x. AgentAt unit whole x agent its) n
    (agent_at unit whole rest (first + 1) (p + agent_size a) number agent its (subst (λ y. HasAt whole.instrs (p + y) rest_code) (agent_length a p) (has-second whole.instrs p (agent_code a p) rest_code h)) (omega (arith, small)) e f)

-- ---- an agent

copies_same : (copies : List Copy) → map copy_from (map copy_init copies) ≡ copies
copies_same [] = refl
copies_same (c ∷ rest) = ap (λ l. c ∷ l) (copies_same rest)

module _ (unit : Whole) (whole : Code) (number : ℕ) (agent : AgentDecl) (its : AgentCode) (sound : IsSoundUnit unit) (here : AgentAt unit whole number agent its) (stand : StandFrom whole its 0 unit.functions) (lasts : Lasts) (ends : Ends) (got : slice_get unit.agents number ≡ Some agent) where
  own : IsSoundAgent unit number agent
  own = sound.agents number agent got

  abbrev sc : Scope
  sc = agent_scope unit number agent

  abbrev depth : Depth
  depth = agent_depth unit agent

  abbrev count : ℕ
  count = loops_in agent.stmts

  its_is : its ≡ agent_entry unit number agent here.place
  its_is = here.entry

  room : Room its Home (total sc.layout + count) depth.operands depth.cells (length unit.functions)
  room = subst (λ x. Room x Home (total sc.layout + count) depth.operands depth.cells (length unit.functions)) (sym its_is) (record { stack = omega arith; frames = omega arith; calls = omega (arith, sound.few) })

  shape : (store : Store) (view : View) → IsStoreOf unit number agent store → IsViewOf unit number view → Shape sc (begun store view)
  shape store view is seen = record { slots = is.slots ∙ lengths_of agent.slots; copies = is.variables; pasts = seen.depths; streams = seen.streams }

  -- the number of its points
  points_are : length its.points ≡ length agent.points
  points_are = ap (λ (a : AgentCode). length a.points) its_is ∙ omega (arith, places_count agent.stmts here.place, own.points)

  same_as : (s : State) (t : code.RunState) → Holds Home s t → SameAs s t
  same_as s t h = record { cells = h.0; copies = h.1; deeds = h.2 }

  ends_as : (start : code.RunState) (end : ℕ) (counters : List ℕ) (final : Final) → start.deeds.steps ≡ 0 → After whole its sc Home end 0 [] counters start (Halts final) → EndsAs (Halts final) (run_code whole its start)
  ends_as start end counters (Ended point s) zero_steps (n, t, e, h) =
      let lasted = lasts whole its start t n (subst (λ r. IsOver r t) (sym e) refl) in
      let m : s.deeds.steps ≡ lasted.steps = sym (ap (λ d. d.steps) h.2) ∙ omega (arith, lasted.counted, zero_steps) in
      (t, subst (λ x. run_code whole its start x ≡ RanTo point t) (sym m) (lasted.over ∙ e), same_as s t h)
  ends_as start end counters (Trapped kind s) zero_steps (n, t, e, h) =
      let lasted = lasts whole its start t n (subst (λ r. IsOver r t) (sym e) refl) in
      let m : s.deeds.steps ≡ lasted.steps = sym (ap (λ d. d.steps) h.2) ∙ omega (arith, lasted.counted, zero_steps) in
      (t, subst (λ x. run_code whole its start x ≡ TrappedBy kind t) (sym m) (lasted.over ∙ e), same_as s t h)

  named : (point : ℕ) → point < sc.points → (place : ℕ) × (slice_get its.points point ≡ Some place)
  named point less = got-within its.points point (omega (arith, less, points_are))

  acts : (point : ℕ) (store : Store) (view : View) (counters : List ℕ) → point < length agent.points → IsStoreOf unit number agent store → IsViewOf unit number view → length counters ≡ its.counters
      → EndsAs (act unit.functions (rest agent.stmts point) (begun store view)) (run_code whole its (started (standing its point (home_holding store counters) store.copies) view))
  acts point store view counters less is seen len =
      let p = here.place in
      let has : HasAt whole.instrs p (stmts_code sc.layout agent.stmts 0 p ++ instr.Jump p ∷ []) = here.has in
      let kept : length counters ≡ count = len ∙ ap (λ (a : AgentCode). a.counters) its_is in
      let at_point = ap (λ (a : AgentCode). slice_index_or a.points point 0) its_is in
      let runs = body_runs whole its sc (callees_of unit.functions) (call_depths unit.functions) (length unit.functions) count depth
      (expr_runs whole its sc Home (callees_of unit.functions) (call_depths unit.functions) (length unit.functions) (all_ready whole its unit.functions sound.functions stand Home sc refl) (λ variable has. refl))
      (λ variable has. refl) (λ e. elim (subst T (sym e) (tt {0})) [ ]) named room
      agent.stmts p point has (omega (arith, here.small)) (omega arith) own.stmts (omega arith, omega arith) (omega (arith, less, own.points, places_count agent.stmts p)) counters (begun store view) kept (shape store view is seen) in
      let start = started (standing its point (home_holding store counters) store.copies) view in
      let halts = ends unit number agent point (begun store view) sound got in
      subst (λ o. EndsAs o (run_code whole its start)) (sym halts.1)
      (ends_as start (p + stmts_size agent.stmts) counters halts.0 refl
      (subst (After whole its sc Home (p + stmts_size agent.stmts) 0 [] counters start) halts.1
      (subst (λ q. After whole its sc Home (p + stmts_size agent.stmts) 0 [] counters (at Home q [] (begun store view) counters) (act unit.functions (rest agent.stmts point) (begun store view))) (sym at_point) runs)))

  agent_alike : AgentAlike unit whole number agent its
  agent_alike = record {
    points = points_are;
    cells = ap (λ (a : AgentCode). a.cells) its_is;
    copies = ap (λ (a : AgentCode). map copy_from a.copies) its_is ∙ copies_same (first_copies unit number);
    acts = acts;
  }

-- ---- the whole

pub agents_length : (unit : Whole) (agents : List AgentDecl) (n p : ℕ) → length (agent_entries unit n agents p) ≡ length agents
agents_length unit [] n p = refl
agents_length unit (a ∷ rest) n p = ap suc (agents_length unit rest (n + 1) (p + agent_size a))

agents_size : (agents : List AgentDecl) (p : ℕ) → length (codes_from agent_code agent_size agents p) ≡ total (map agent_size agents)
agents_size [] p = refl
agents_size (a ∷ rest) p = length-append (agent_code a p) (codes_from agent_code agent_size rest (p + agent_size a)) ∙ omega (arith, agent_length a p, agents_size rest (p + agent_size a))

code_length : (unit : Whole) → length (code_of unit).instrs ≡ functions_size unit.functions + total (map agent_size unit.agents)
code_length unit =
    let start = functions_size unit.functions in
    omega (arith, length-append (codes_from function_code function_size unit.functions 0) (codes_from agent_code agent_size unit.agents start), functions_length unit.functions 0, agents_size unit.agents start)

-- The code of an agent, by its number
pub agent_found : (unit : Whole) (number : ℕ) (agent : AgentDecl) (its : AgentCode) → slice_get unit.agents number ≡ Some agent → slice_get (code_of unit).agents number ≡ Some its → AgentAt unit (code_of unit) number agent its
agent_found unit number agent its e f =
    let start = functions_size unit.functions in
    let first = codes_from function_code function_size unit.functions 0 in
    let second = codes_from agent_code agent_size unit.agents start in
    let all_second = subst (λ n. HasAt (first ++ second) n second) (functions_length unit.functions 0) (whole_has first second) in
    let z : 0 + number ≡ number = omega arith in
    subst (λ n. AgentAt unit (code_of unit) n agent its) z (agent_at unit (code_of unit) unit.agents 0 start number agent its all_second (omega (arith, code_length unit)) e f)

pub code_alike : Lasts → Ends → (unit : Whole) → IsSoundUnit unit → ActsAlike unit (code_of unit)
code_alike lasts ends unit sound =
    let start = functions_size unit.functions in
    let first = codes_from function_code function_size unit.functions 0 in
    let second = codes_from agent_code agent_size unit.agents start in
    let all_first = has-first (first ++ second) 0 first second (whole_has [] (first ++ second)) in
    record {
      agents = agents_length unit unit.agents 0 start;
      each = λ number agent its e f.
          agent_alike unit (code_of unit) number agent its sound (agent_found unit number agent its e f)
          (stand_from (code_of unit) its unit.functions 0 0 all_first (omega (arith, code_length unit)) (λ i. let y : 0 + i ≡ i = omega arith in ap (slice_get (function_entries unit.functions 0)) y))
          lasts ends e;
    }
