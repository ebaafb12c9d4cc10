-- The looks of a trace are those that its judge asks for: in a cycle of their action, and of the value that was published for its start.
use Rattle.std.proofs.Common.{◌≡◌, ◌∙◌, refl, sym, ap, subst, ℕ, zero, suc, ◌+◌, ◌-◌, ◌*◌, ◌/◌, ◌<◌, ◌≤◌, ◌==◌, ◌&&◌, nat_le, nat_lt, true, List, [], AllPairs, length, map, get_or, reverse, Option, Some, int_eq, inl, inr, arith}
use Rattle.std.specs.Prelude.{if◌then◌else◌, pos, slice_get}
use Rattle.std.specs.List.{Contains, list_any, range_with_len}
use Rattle.std.proofs.lemmas.Bool.{and_from, and_parts, cases_Bool, cases_lt, eq-eqb, eqb-true, le-leb, le-ltb, lt-ltb}
use Rattle.std.proofs.lemmas.Bool.Decides.{Decides-int_eq}
use Rattle.std.proofs.lemmas.List.{get_or-map, length-map}
use Rattle.std.proofs.lemmas.List.FromFn.{get_or-range_with_len, length-range_with_len}
use Rattle.std.proofs.lemmas.Nat.{div_below, le-div}
use Rattle.std.proofs.lemmas.Option.{get_or_from_slice_get, none-some, same_Some, slice_get-get_or, slice_get_within}
use Rattle.psy_base.specs.declared.sizes.Sizes.{Sizes}
use Rattle.psy_budget.specs.Charges.{cycle_of}
use Rattle.psy_clock.specs.declared.clock.Clock.{Clock}
use Rattle.psy_clock.specs.Dates.{count, date}
use Rattle.psy_code.specs.Views.{Looked}
use Rattle.psy_lists.proofs.lemmas.Members.{contains_map}
use Rattle.psy_tree.specs.declared.unit.VarDecl.{VarDecl}
use Rattle.psy_tree.specs.Parts.{variable_at}
use Rattle.psy_history.specs.Actions.{Action, System, publishing, variable_of}
use Rattle.psy_history.specs.History.{history}
use Rattle.psy_history.specs.Processors.{processor_at}
use Rattle.psy_history.specs.Rings.{age_at, slot_of}
use Rattle.psy_history.specs.Schedule.{Turn, cycle_of_unit, is_of, units}
use Rattle.psy_history.specs.Scheduled.{turns_by}
use Rattle.psy_history.specs.Visible.{past, published}
use Rattle.psy_audit.specs.declared.said.Act.{Act}
use Rattle.psy_audit.specs.declared.said.Look.{Look}
use Rattle.psy_audit.specs.declared.said.Segment.{Segment}
use Rattle.psy_audit.specs.Courses.{has_cycle}
use Rattle.psy_audit.specs.Looks.{age_in, finds, is_look, is_look_of, is_value_of}
use Rattle.psy_audit.specs.Traced.{act_of, shown}
use Rattle.psy_audit.specs.Traces.{Judged, Lines, acts_of, publications_of, segments_of}
use Rattle.psy_legal.proofs.ActCycles.{before_due, behind_start}
use Rattle.psy_legal.proofs.Blocks.{look_told}
use Rattle.psy_legal.proofs.ClockDates.{count_rises}
use Rattle.psy_legal.proofs.Firsts.{tiles_of}
use Rattle.psy_legal.proofs.Lists.{contains_reverse}
use Rattle.psy_legal.proofs.Numbers.{agent_of}
use Rattle.psy_legal.proofs.PastValues.{published_stays}
use Rattle.psy_legal.proofs.StartedActions.{start_below, was_started}
use Rattle.psy_legal.proofs.TileCycles.{any_of, stretch_of}
use Rattle.psy_legal.proofs.Told.{IsOnTime, Tells, all_stretches, judge, publication_number}
use Rattle.psy_legal.proofs.Turns.{as_many, next_turn, serving, turns_in}

-- What is known of the looks of a run: each is at a variable that there is, no further back than its depth, and is never reached for beyond its ring;
-- and those of an action rise.
pub record IsSighted (s : System) (sizes : Sizes) (until : ℕ) : Type 0 where
  pub looks : (agent : ℕ) (r : Action) (look : Looked) → Contains (history s until agent) r → Contains r.deeds.looks look
      → (decl : VarDecl) × (slice_get s.unit.variables look.variable ≡ Some decl) × (look.back < decl.depth)
      × ((date : ℕ) → r.start ≤ date → date < r.deadline → age_at s look.variable look.back r.start date < get_or sizes.rings look.variable 0)
  pub rise : (agent : ℕ) (r : Action) → Contains (history s until agent) r → AllPairs (λ (l m : Looked). l.number < m.number) r.deeds.looks

-- Each unit of an action is the turn of a cycle, with as many units before it.
pub turn_of_unit : (s : System) (order : ℕ → List ℕ) (agent number unit cycles cycle : ℕ) → cycle_of_unit agent number unit (turns_in s order cycles) ≡ Some cycle
    → (cycle < cycles) × (is_of agent number (next_turn s order cycle) ≡ true) × (units agent number (turns_in s order cycle) ≡ unit)
turn_of_unit s order agent number unit zero cycle e = absurd (none-some cycle e)
turn_of_unit s order agent number unit (suc cycles) cycle e =
    let turn = is_of agent number (next_turn s order cycles) in
    let nth = units agent number (turns_in s order cycles) == unit in
    elim (cases_Bool (turn && nth)) [
      | inl t ↦ (
          let now : Some (length (turns_in s order cycles)) ≡ Some cycle = rw t at e in
          let same : cycles ≡ cycle = sym (as_many s order cycles) ∙ same_Some (length (turns_in s order cycles)) cycle now in
          let both = and_parts turn nth t in
          (omega (arith, same), subst (λ c. is_of agent number (next_turn s order c) ≡ true) same both.0, subst (λ c. units agent number (turns_in s order c) ≡ unit) same (eqb-true (units agent number (turns_in s order cycles)) unit both.1)))
      | inr f ↦ (let before = turn_of_unit s order agent number unit cycles cycle (rw f at e) in (omega (arith, before.0), before.1, before.2))
    ]

-- What is made of each number of a range, at one of them
made_at : {X : Type 0} (f : ℕ → X) (n i : ℕ) (d : X) → i < n → get_or (map f (range_with_len 0 n)) i d ≡ f i
made_at f n i d less =
    let zero_more : 0 + i ≡ i = omega arith in
    get_or-map f (range_with_len 0 n) i 0 d (omega (arith, less, length-range_with_len 0 n)) ∙ ap f (get_or-range_with_len 0 n i 0 less ∙ zero_more)

module _ (s : System) (order : ℕ → List ℕ) (sizes : Sizes) (until : ℕ) (known : IsOnTime s order sizes until) (sighted : IsSighted s sizes until) (all : Lines) (tells : Tells s order sizes until all)
    (agent : ℕ) (r : Action) (there : Contains (history s until agent) r) (look : Looked) (looked : Contains r.deeds.looks look) (cycle : ℕ)
    (at : cycle_of_unit r.agent r.number (cycle_of (s.stalls r.agent) r.number look.number) (turns_by s order (until * s.unit.quantum) r.agent) ≡ Some cycle) where
  abbrev j : Judged
  j = judge s order sizes until

  abbrev last : ℕ
  last = until * s.unit.quantum

  abbrev home : ℕ
  home = processor_at s.unit r.agent

  abbrev own : ℕ → List ℕ
  own = serving s order home

  abbrev l : Look
  l = look_told s sizes r look cycle

  abbrev its : List Segment
  its = segments_of r.agent r.number all

  abbrev clock : Clock
  clock = publishing s look.variable

  mine : Contains (history s until r.agent) r
  mine = subst (λ a. Contains (history s until a) r) (sym (agent_of s until agent r there)) there

  pub turn : (cycle < last) × (is_of r.agent r.number (next_turn s own cycle) ≡ true) × (units r.agent r.number (turns_in s own cycle) ≡ cycle_of (s.stalls r.agent) r.number look.number)
  turn = turn_of_unit s own r.agent r.number (cycle_of (s.stalls r.agent) r.number look.number) last cycle at

  in_cycle : list_any (has_cycle cycle) its ≡ true
  in_cycle =
      let (t, has, low, high) = stretch_of (next_turn s own) home last (all_stretches s order sizes until home) its (tiles_of s own home last) r.agent r.number (tells.of_act r.agent r.number) (tells.of_home r.agent r.number) cycle turn.0 turn.1 in
      any_of (has_cycle cycle) its t has (and_from (nat_le t.first cycle) (nat_lt cycle t.past) (le-leb t.first cycle low) (lt-ltb cycle t.past high))

  sight : (decl : VarDecl) × (slice_get s.unit.variables look.variable ≡ Some decl) × (look.back < decl.depth)
      × ((date : ℕ) → r.start ≤ date → date < r.deadline → age_at s look.variable look.back r.start date < get_or sizes.rings look.variable 0)
  sight = sighted.looks agent r look there looked

  declared : (variable_at s.unit look.variable).depth ≡ sight.0.depth
  declared = ap (λ (v : VarDecl). v.depth) (get_or_from_slice_get s.unit.variables look.variable sight.0 _ sight.1)

  deep : look.back < (variable_at s.unit look.variable).depth
  deep = omega (arith, sight.2, declared)

  known_variable : look.variable < length s.unit.variables
  known_variable = slice_get_within s.unit.variables look.variable sight.0 sight.1

  kept : age_at s look.variable look.back r.start (cycle / s.unit.quantum) < get_or sizes.rings look.variable 0
  kept =
      let low = behind_start s order sizes until known agent r there cycle turn.1 in
      let high = before_due s order sizes until known agent r there cycle turn.0 turn.1 in
      sight.3 (cycle / s.unit.quantum) (le-div r.start cycle s.unit.quantum (omega (arith, known.quantum)) low) (div_below cycle s.unit.quantum r.deadline (omega (arith, known.quantum)) high)

  -- ---- the value

  pub shown_is : shown r.view look.variable look.back ≡ past s (history s r.start) look.variable r.start look.back
  shown_is =
      let (before, was) = was_started s known.lawful until r.agent r mine in
      let n = was.next in
      let depth = λ (v : ℕ). (variable_of s v).depth in
      let values = λ (v : ℕ). map (past s (history s n.start) v n.start) (range_with_len 0 (depth v)) in
      let start : r.start ≡ n.start = ap (λ (x : Action). x.start) was.made in
      ap (λ (x : Action). shown x.view look.variable look.back) was.made
      ∙ ap (λ pasts. get_or pasts look.back (pos 0)) (made_at values (length s.unit.variables) look.variable [] known_variable)
      ∙ made_at (past s (history s n.start) look.variable n.start) (depth look.variable) look.back (pos 0) deep
      ∙ ap (λ d. past s (history s d) look.variable d look.back) (sym start)

  starts_below : r.start < until
  starts_below = start_below s known.lawful until r.agent r mine

  found : finds j (publications_of look.variable all) (count clock r.start) l ≡ true
  found = elim (cases_lt look.back (count clock r.start)) [
    | inl within ↦ (
        let i : ℕ = count clock r.start - 1 - look.back in
        let total = count clock until in
        let few : i < total = (let rises = count_rises clock r.start until (omega (arith, starts_below)) in omega (arith, rises, within)) in
        let d = date clock i in
        let early : d ≤ r.start = (known.counted.upto clock r.start i (known.clocks look.variable)).1 (omega (arith, within)) in
        let p = publication_number s sizes look.variable i in
        let listed : slice_get (publications_of look.variable all) i ≡ Some p =
        ap (λ ps. slice_get ps i) (tells.published look.variable known_variable)
        ∙ slice_get-get_or (map (publication_number s sizes look.variable) (range_with_len 0 total)) i p (omega (arith, few, length-map (range_with_len 0 total) (publication_number s sizes look.variable), length-range_with_len 0 total))
        ∙ ap Some (made_at (publication_number s sizes look.variable) total i p few) in
        let value : l.value ≡ p.value = shown_is
        ∙ ap (λ t. if t then published s (history s r.start) look.variable d else (variable_of s look.variable).init) (lt-ltb look.back (count clock r.start) within)
        ∙ published_stays s known.lawful look.variable d d r.start (omega arith) early
        ∙ sym (published_stays s known.lawful look.variable d d (d + 1) (omega arith) (omega arith)) in
        ap (λ t. if t then is_value_of l.value (slice_get (publications_of look.variable all) i) else int_eq l.value (variable_at s.unit look.variable).init) (lt-ltb look.back (count clock r.start) within)
        ∙ ap (is_value_of l.value) listed
        ∙ (Decides-int_eq l.value p.value).1 value)
    | inr beyond ↦ (
        let value : l.value ≡ (variable_at s.unit look.variable).init = shown_is
        ∙ ap (λ t. if t then published s (history s r.start) look.variable (date clock (count clock r.start - 1 - look.back)) else (variable_of s look.variable).init) (le-ltb look.back (count clock r.start) beyond) in
        ap (λ t. if t then is_value_of l.value (slice_get (publications_of look.variable all) (count clock r.start - 1 - look.back)) else int_eq l.value (variable_at s.unit look.variable).init) (le-ltb look.back (count clock r.start) beyond)
        ∙ (Decides-int_eq l.value (variable_at s.unit look.variable).init).1 value)
  ]

  -- ---- the look

  pub looks_at : is_look j all l ≡ true
  looks_at =
      let turns : List (Option Turn) = turns_by s order last r.agent in
      let a : Act = act_of turns r in
      let size = get_or sizes.rings look.variable 0 in
      let dates = count clock r.start in
      let slot = slot_of size dates look.back in
      let finding = finds j (publications_of look.variable all) dates l in
      let aged = nat_lt (age_in j r.start l) size in
      let deep_is = nat_lt look.back (variable_at s.unit look.variable).depth in
      let listed : Contains (acts_of r.agent all) a = subst (λ acts. Contains acts a) (sym (tells.acts r.agent)) (contains_map (act_of turns) (reverse (history s until r.agent)) r (contains_reverse (history s until r.agent) r mine)) in
      any_of (is_look_of j all l) (acts_of r.agent all) a listed
      (and_from (r.number == r.number) (list_any (has_cycle cycle) its && (deep_is && (slot == slot && (finding && aged)))) (eq-eqb r.number r.number refl)
      (and_from (list_any (has_cycle cycle) its) (deep_is && (slot == slot && (finding && aged))) in_cycle
      (and_from deep_is (slot == slot && (finding && aged)) (lt-ltb look.back (variable_at s.unit look.variable).depth deep)
      (and_from (slot == slot) (finding && aged) (eq-eqb slot slot refl)
      (and_from finding aged found (lt-ltb (age_in j r.start l) size kept))))))
