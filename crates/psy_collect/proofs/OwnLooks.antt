-- What the action that gets a cycle looks at with it.
use Rattle.std.proofs.Common.{◌≡◌, ◌≢◌, ◌∙◌, refl, sym, ap, subst, ℕ, suc, ◌+◌, ◌-◌, ◌<◌, ◌≤◌, ◌==◌, ◌&&◌, Bool, true, false, List, [], ◌∷◌, ◌++◌, Option, Some, None, map, length, get_or, append-nil, inl, inr, arith}
use Rattle.std.specs.Prelude.{if◌then◌else◌, pos, slice_get, IfSome, ℤ}
use Rattle.std.specs.List.{All, flat_map}
use Rattle.std.proofs.lemmas.Bool.{and_right, eq-eqb, ltb-true, ne_eqb}
use Rattle.std.proofs.lemmas.Grind.{flat_map-append}
use Rattle.std.proofs.lemmas.List.Elements.{All-head, All-nil, All-tail, All-weaker}
use Rattle.std.proofs.lemmas.Option.{get_or_from_slice_get, none-some, same_Some}
use Rattle.psy_audit.specs.declared.said.Look.{Look}
use Rattle.psy_audit.specs.declared.said.Said.{Said}
use Rattle.psy_audit.specs.declared.said.Said.TheVariants.{Looked}
use Rattle.psy_audit.specs.Traced.{look_in, looks_of, shown}
use Rattle.psy_base.specs.declared.sizes.Sizes.{Sizes}
use Rattle.psy_budget.specs.declared.charge.Stall.{Stall}
use Rattle.psy_budget.specs.declared.charge.Tick.{Tick}
use Rattle.psy_budget.specs.declared.charge.Tick.TheVariants as tick
use Rattle.psy_budget.specs.Charges.{Charged, cycle_of, tick_of}
use Rattle.psy_budget.proofs.lemmas.Stalls.{more_stalled}
use Rattle.psy_budget.proofs.lemmas.Units as charged
use Rattle.psy_clock.specs.Dates.{count}
use Rattle.psy_code.specs.declared.code.AgentCode.{AgentCode}
use Rattle.psy_code.specs.declared.code.Code.{Code}
use Rattle.psy_code.specs.Execution.{NoRun, RanTo, Run, RunState, Running, TrappedBy, call_of, run_code}
use Rattle.psy_code.specs.Views.{Call, Looked as Sight, Past, Ready, Send, Take, View, found_in, past_of}
use Rattle.psy_collect.specs.Keeping.{look_of}
use Rattle.psy_collect.proofs.LookSplits.{call_looks, early, over_stays, run_looks, split_at, steps_on, at_steps}
use Rattle.psy_collect.proofs.Turns.{own_of}
use Rattle.psy_dates.specs.declared.plan.Plan.{Plan}
use Rattle.psy_dates.specs.Plans.{IsPlan}
use Rattle.psy_history.specs.Actions.{Action, System, publishing}
use Rattle.psy_history.specs.Executors.{Carried, Executor, acted_as}
use Rattle.psy_history.specs.History.{action_of, history}
use Rattle.psy_history.specs.Regular.{Runs, WasStarted, begun_by}
use Rattle.psy_history.specs.Rings.{slot_of}
use Rattle.psy_history.specs.Runs.{IsRun}
use Rattle.psy_history.specs.Schedule.{Turn, cycle_of_unit, is_of, is_pending, turn_of, units, work}
use Rattle.psy_kernel.specs.Acting.{LooksBy}
use Rattle.psy_kernel.specs.declared.seen.Seen.{Seen}
use Rattle.psy_kernel.specs.Standing.{charge_after}
use Rattle.psy_kernel.specs.Units.{IsFound, IsLookBy, asked_of}
use Rattle.psy_machine.specs.Stepping.{look_of as asked_by}
use Rattle.psy_meaning.specs.CodeWays.{agent_code_at}
use Rattle.psy_meaning.specs.KnownWays.{Listed, Ways}

-- The look that was seen, of an action of this number and agent, in a cycle
abbrev pub seen_looks : ℕ → ℕ → ℕ → Option Seen → List Look
seen_looks number cycle agent None = []
seen_looks number cycle agent (Some seen) = look_of number cycle agent seen ∷ []

-- The code of each action runs within its budget.
abbrev pub AllRun : Type 0
AllRun = (s : System) (ways : Ways) (code : Code) → IsRun s ways code → (dates agent : ℕ) → All (Runs s ways code) (history s dates agent)

-- ---- units that an action didn't have

late_none : (agent number unit : ℕ) (turns : List (Option Turn)) → units agent number turns ≤ unit → cycle_of_unit agent number unit turns ≡ None
late_none agent number unit [] few = refl
late_none agent number unit (turn ∷ turns) few = by (is_of agent number turn) refl (λ less. late_none agent number unit turns less)
  where
    by : (b : Bool) → is_of agent number turn ≡ b → (units agent number turns ≤ unit → cycle_of_unit agent number unit turns ≡ None) → cycle_of_unit agent number unit (turn ∷ turns) ≡ None
    by true e before =
        let more : suc (units agent number turns) ≤ unit = subst (λ t. (if t then suc (units agent number turns) else units agent number turns) ≤ unit) e few in
        ap (λ t. if t then Some (length turns) else cycle_of_unit agent number unit turns)
        (and_right (is_of agent number turn) (units agent number turns == unit) (ne_eqb (units agent number turns) unit (λ same. absurd (omega (arith, same, more)))))
        ∙ before (omega (arith, more))
    by false e before =
        let same : units agent number turns ≤ unit = subst (λ t. (if t then suc (units agent number turns) else units agent number turns) ≤ unit) e few in
        ap (λ t. if t && units agent number turns == unit then Some (length turns) else cycle_of_unit agent number unit turns) e ∙ before same

-- ---- which looks are executed

module _ (s : System) (sizes : Sizes) (r : Action) (turns : List (Option Turn)) (cycle : ℕ) (long : length turns ≡ cycle) where
  abbrev had : ℕ
  had = units r.agent r.number turns

  abbrev unit_of : Sight → ℕ
  unit_of look = cycle_of (s.stalls r.agent) r.number look.number

  abbrev old : Sight → List Said
  old look = look_in s sizes r look (cycle_of_unit r.agent r.number (unit_of look) turns)

  abbrev new : Sight → List Said
  new look = look_in s sizes r look (cycle_of_unit r.agent r.number (unit_of look) (turn_of (Some r) ∷ turns))

  abbrev told : Sight → List Said
  told look = look_in s sizes r look (Some cycle)

  abbrev by_test : Sight → Bool → List Said
  by_test look b = look_in s sizes r look (if b then Some (length turns) else cycle_of_unit r.agent r.number (unit_of look) turns)

  same_at : (look : Sight) → unit_of look ≢ had → new look ≡ old look
  same_at look other = ap (by_test look) (and_right (is_of r.agent r.number (turn_of (Some r))) (had == unit_of look) (ne_eqb had (unit_of look) (λ e. other (sym e))))

  here_at : (look : Sight) → unit_of look ≡ had → new look ≡ told look
  here_at look same =
      ap (by_test look) (ap (λ b. b && had == unit_of look) (own_of r) ∙ eq-eqb had (unit_of look) (sym same)) ∙ ap (λ n. look_in s sizes r look (Some n)) long

  none_at : (look : Sight) → had ≤ unit_of look → old look ≡ []
  none_at look late = ap (look_in s sizes r look) (late_none r.agent r.number (unit_of look) turns late)

  same_all : (looks : List Sight) → All (λ (l : Sight). unit_of l ≢ had) looks → flat_map new looks ≡ flat_map old looks
  same_all [] all = refl
  same_all (l ∷ looks) all =
      ap (λ xs. xs ++ flat_map new looks) (same_at l (All-head (λ (x : Sight). unit_of x ≢ had) l looks all))
      ∙ ap (λ xs. old l ++ xs) (same_all looks (All-tail (λ (x : Sight). unit_of x ≢ had) l looks all))

  here_all : (looks : List Sight) → All (λ (l : Sight). unit_of l ≡ had) looks → flat_map new looks ≡ flat_map told looks
  here_all [] all = refl
  here_all (l ∷ looks) all =
      ap (λ xs. xs ++ flat_map new looks) (here_at l (All-head (λ (x : Sight). unit_of x ≡ had) l looks all))
      ∙ ap (λ xs. told l ++ xs) (here_all looks (All-tail (λ (x : Sight). unit_of x ≡ had) l looks all))

  none_all : (looks : List Sight) → All (λ (l : Sight). had ≤ unit_of l) looks → flat_map old looks ≡ []
  none_all [] all = refl
  none_all (l ∷ looks) all =
      ap (λ xs. xs ++ flat_map old looks) (none_at l (All-head (λ (x : Sight). had ≤ unit_of x) l looks all)) ∙ none_all looks (All-tail (λ (x : Sight). had ≤ unit_of x) l looks all)

  -- Of looks in front, those of the unit, and later ones, the unit executes its own.
  split_looks : (front now rest : List Sight) → All (λ (l : Sight). unit_of l < had) front → All (λ (l : Sight). unit_of l ≡ had) now → All (λ (l : Sight). had < unit_of l) rest
      → flat_map new (front ++ (now ++ rest)) ≡ flat_map old (front ++ (now ++ rest)) ++ flat_map told now
  split_looks front now rest before here behind =
      let new_rest = same_all rest (All-weaker (λ (l : Sight). had < unit_of l) (λ (l : Sight). unit_of l ≢ had) (λ l less e. omega (arith, less, e)) rest behind)
      ∙ none_all rest (All-weaker (λ (l : Sight). had < unit_of l) (λ (l : Sight). had ≤ unit_of l) (λ l less. omega (arith, less)) rest behind) in
      let old_rest = none_all rest (All-weaker (λ (l : Sight). had < unit_of l) (λ (l : Sight). had ≤ unit_of l) (λ l less. omega (arith, less)) rest behind) in
      let old_now = none_all now (All-weaker (λ (l : Sight). unit_of l ≡ had) (λ (l : Sight). had ≤ unit_of l) (λ l e. omega (arith, e)) now here) in
      let new_front = same_all front (All-weaker (λ (l : Sight). unit_of l < had) (λ (l : Sight). unit_of l ≢ had) (λ l less e. omega (arith, less, e)) front before) in
      let left : flat_map new (front ++ (now ++ rest)) ≡ flat_map old front ++ flat_map told now =
      flat_map-append new front (now ++ rest) ∙ ap (λ xs. xs ++ flat_map new (now ++ rest)) new_front
      ∙ ap (λ xs. flat_map old front ++ xs) (flat_map-append new now rest ∙ ap (λ xs. flat_map new now ++ xs) new_rest ∙ append-nil (flat_map new now) ∙ here_all now here) in
      let right : flat_map old (front ++ (now ++ rest)) ≡ flat_map old front =
      flat_map-append old front (now ++ rest)
      ∙ ap (λ xs. flat_map old front ++ xs) (flat_map-append old now rest ∙ ap (λ xs. xs ++ flat_map old rest) old_now ∙ old_rest) ∙ append-nil (flat_map old front) in
      left ∙ ap (λ xs. xs ++ flat_map told now) (sym right)

  -- ---- what was seen

  shown_is : (view : View) (variable back : ℕ) (value : ℤ) → past_of view variable back ≡ Some value → shown view variable back ≡ value
  shown_is view variable back value at = by (slice_get view.pasts variable) refl at
    where
      by : (o : Option (List ℤ)) → slice_get view.pasts variable ≡ o → found_in o (λ values. slice_get values back) ≡ Some value → shown view variable back ≡ value
      by None e there = absurd (none-some value there)
      by (Some values) e there = ap (λ xs. get_or xs back (pos 0)) (get_or_from_slice_get view.pasts variable values [] e) ∙ get_or_from_slice_get values back value (pos 0) there

  abbrev as_told : ℕ → ℕ → ℕ → ℤ → List Said
  as_told variable back slot value = Looked (record { agent = r.agent; number = r.number; cycle = cycle; variable = variable; back = back; slot = slot; value = value }) ∷ []

  seen_past : (steps variable back : ℕ) (seen : Option Seen) → asked_of seen ≡ Some (variable, back) → IfSome seen (IsFound s sizes r)
      → flat_map told (call_looks steps (Some (Past variable back))) ≡ map Looked (seen_looks r.number cycle r.agent seen)
  seen_past steps variable back None asks found = absurd (none-some (variable, back) asks)
  seen_past steps variable back (Some x) asks found =
      let pair = same_Some (x.variable, x.back) (variable, back) asks in
      let var : variable ≡ x.variable = sym (ap (λ q. q.0) pair) in
      let bk : back ≡ x.back = sym (ap (λ q. q.1) pair) in
      ap (λ v. as_told v back (slot_of (get_or sizes.rings v 0) (count (publishing s v) r.start) back) (shown r.view v back)) var
      ∙ ap (λ b. as_told x.variable b (slot_of (get_or sizes.rings x.variable 0) (count (publishing s x.variable) r.start) b) (shown r.view x.variable b)) bk
      ∙ ap (λ n. as_told x.variable x.back n (shown r.view x.variable x.back)) (sym found.slot)
      ∙ ap (as_told x.variable x.back x.slot) (shown_is r.view x.variable x.back x.value found.value)

  seen_none : (seen : Option Seen) → asked_of seen ≡ None → [] ≡ map Looked (seen_looks r.number cycle r.agent seen)
  seen_none None asks = refl
  seen_none (Some x) asks = absurd (none-some (x.variable, x.back) (sym asks))

  seen_by : (steps : ℕ) (call : Option Call) (seen : Option Seen) → asked_of seen ≡ asked_by call → IfSome seen (IsFound s sizes r)
      → flat_map told (call_looks steps call) ≡ map Looked (seen_looks r.number cycle r.agent seen)
  seen_by steps None seen asks found = seen_none seen asks
  seen_by steps (Some (Past variable back)) seen asks found = seen_past steps variable back seen asks found
  seen_by steps (Some (Ready stream)) seen asks found = seen_none seen asks
  seen_by steps (Some (Take stream)) seen asks found = seen_none seen asks
  seen_by steps (Some (Send sent)) seen asks found = seen_none seen asks

-- ---- what an action did

acted_looks : (budget : ℕ) (carried : Carried) (run : Run) → (acted_as budget carried run).deeds.looks ≡ run_looks run
acted_looks budget carried (RanTo point t) = refl
acted_looks budget carried (TrappedBy kind t) = refl
acted_looks budget carried (Running t) = refl
acted_looks budget carried NoRun = refl

module _ (s : System) (plan : Plan) (fits : IsPlan plan) (run : IsRun s (Listed fits.ways) plan.code) (law : AllRun) (dates : ℕ) (r : Action) (before : List Action) (is : history s dates r.agent ≡ r ∷ before)
    (was : WasStarted s dates r.agent before r) where
  abbrev its : AgentCode
  its = agent_code_at plan.code r.agent

  abbrev begun : RunState
  begun = begun_by its r

  looks_are : r.deeds.looks ≡ run_looks (run_code plan.code its begun r.budget)
  looks_are =
      subst (λ (x : Action). x.deeds.looks ≡ run_looks (run_code plan.code (agent_code_at plan.code x.agent) (begun_by (agent_code_at plan.code x.agent) x) x.budget)) (sym was.made)
      (let a = action_of s (history s was.next.start) r.agent was.next in
      ap (λ (e : Executor). (e.act r.agent was.next.point was.next.carried a.view a.budget).deeds.looks) run.coded
      ∙ acted_looks a.budget was.next.carried (run_code plan.code (agent_code_at plan.code r.agent) (begun_by (agent_code_at plan.code r.agent) a) a.budget))

  its_run : Runs s (Listed fits.ways) plan.code r
  its_run = All-head (Runs s (Listed fits.ways) plan.code) r before (subst (All (Runs s (Listed fits.ways) plan.code)) is (law s (Listed fits.ways) plan.code run dates r.agent))

  runs_on : run_code plan.code its begun r.budget ≢ NoRun
  runs_on =
      let same : its ≡ its_run.its = get_or_from_slice_get plan.code.agents r.agent its_run.its _ its_run.of_code in
      subst (λ (x : AgentCode). run_code plan.code x (begun_by x r) r.budget ≢ NoRun) (sym same)
      (elim its_run.ends [
        | inl over ↦ over_stays plan.code its_run.its its_run.steps r.budget (begun_by its_run.its r) its_run.last its_run.within over
        | inr goes ↦ (λ e. absurd (stuck its_run.last (sym (subst (λ n. run_code plan.code its_run.its (begun_by its_run.its r) n ≡ Running its_run.last) goes.0 goes.1) ∙ e)))
      ])
    where
      stuck : (t : RunState) → Running t ≡ NoRun → ⊥
      stuck t e = cc

  -- The look of the next cycle of an action that is pending is the one that its list of looks has for that cycle, and the others are as before.
  module _ (turns : List (Option Turn)) (cycle : ℕ) (long : length turns ≡ cycle) (pending : is_pending turns r ≡ true) (seen : Option Seen) where
    abbrev spent : ℕ
    spent = units r.agent r.number turns

    within : spent < r.budget
    within = (let less = ltb-true (units r.agent r.number turns) (work r) pending in omega (arith, less))

    abbrev stalls : List Stall
    stalls = s.stalls r.agent

    number_is : r.number + 1 - 1 ≡ r.number
    number_is = omega arith

    abbrev paid : ℕ
    paid = (charge_after s r spent).paid

    paid_few : paid ≤ spent
    paid_few =
        let reached = charged.reached stalls (r.number + 1) r.budget spent (omega (arith, within)) in
        let same : paid ≡ reached.0 = ap (λ (c : Charged). c.paid) reached.1.is in
        omega (arith, same, reached.1.before)

    abbrev Goal : Type 0
    Goal = looks_of s plan.sizes (turn_of (Some r) ∷ turns) r ≡ looks_of s plan.sizes turns r ++ map Looked (seen_looks r.number cycle r.agent seen)

    by_paid : spent ≡ cycle_of stalls r.number paid → (state : RunState) → run_code plan.code its begun paid ≡ Running state → asked_of seen ≡ asked_by (call_of plan.code state.machine) → IfSome seen (IsFound s plan.sizes r) → Goal
    by_paid at state running asks found =
        let counted = steps_on plan.code its paid begun state running in
        let low = early plan.code its paid begun state running (All-nil (λ (l : Sight). l.number < begun.deeds.steps)) in
        let parts = split_at plan.code its paid r.budget begun state (omega (arith, paid_few, within)) running runs_on in
        let now = call_looks state.deeds.steps (call_of plan.code state.machine) in
        let all_is = looks_are ∙ parts.is in
        let unit : ℕ → ℕ = cycle_of stalls r.number in
        let front_all = All-weaker (λ (l : Sight). l.number < state.deeds.steps) (λ (l : Sight). unit l.number < spent)
        (λ l less. omega (arith, less, counted, at, more_stalled r.number (l.number + 1) (paid + 1) stalls (omega (arith, less, counted)))) state.deeds.looks low in
        let now_all = All-weaker (λ (l : Sight). l.number ≡ state.deeds.steps) (λ (l : Sight). unit l.number ≡ spent)
        (λ l e. ap unit (let same : l.number ≡ paid = omega (arith, e, counted) in same) ∙ sym at) now (at_steps state.deeds.steps (call_of plan.code state.machine)) in
        let rest_all = All-weaker (λ (l : Sight). state.deeds.steps < l.number) (λ (l : Sight). spent < unit l.number)
        (λ l less. omega (arith, less, counted, at, more_stalled r.number (paid + 1) (l.number + 1) stalls (omega (arith, less, counted)))) parts.rest parts.late in
        subst (λ ls. flat_map (new s plan.sizes r turns cycle long) ls ≡ flat_map (old s plan.sizes r turns cycle long) ls ++ map Looked (seen_looks r.number cycle r.agent seen)) (sym all_is)
        (split_looks s plan.sizes r turns cycle long state.deeds.looks now parts.rest front_all now_all rest_all
        ∙ ap (λ xs. flat_map (old s plan.sizes r turns cycle long) (state.deeds.looks ++ (now ++ parts.rest)) ++ xs) (seen_by s plan.sizes r turns cycle long state.deeds.steps (call_of plan.code state.machine) seen asks found))

    by_tick : (t : Tick) → tick_of (charge_after s r spent) ≡ t → LooksBy plan.code r paid (asked_of seen) t → IfSome seen (IsFound s plan.sizes r) → Goal
    by_tick tick.Paid e look found =
        let at = (charged.pays stalls (r.number + 1) r.budget spent paid within).0 (e, refl) in
        by_paid (at ∙ ap (λ n. cycle_of stalls n paid) number_is) look.0 look.1 look.2 found
    by_tick tick.Stalled e look found =
        let other = (charged.stalls_else stalls (r.number + 1) r.budget spent within).0 e in
        same_all s plan.sizes r turns cycle long r.deeds.looks (λ k d less same. other (get_or r.deeds.looks k d).number (sym same ∙ ap (λ n. cycle_of stalls n (get_or r.deeds.looks k d).number) (sym number_is)))
        ∙ sym (append-nil (looks_of s plan.sizes turns r)) ∙ ap (λ xs. looks_of s plan.sizes turns r ++ xs) (seen_none s plan.sizes r turns cycle long seen look)
    by_tick tick.Spent e look found = absurd (let most = (charged.spent stalls (r.number + 1) r.budget spent).0 e in omega (arith, most, within))

    pub own_looks : IsLookBy s plan turns (Some r) seen → Goal
    own_looks look = by_tick (tick_of (charge_after s r spent)) refl look.0 look.1
