-- What is known of the pending action that gets a cycle, in the run of a plan.
use Rattle.std.proofs.Common.{◌≡◌, ◌⊎◌, refl, sym, ap, ◌∙◌, subst, inl, inr, arith, add-one}
use Rattle.std.specs.Prelude.{ℕ, zero, suc, ◌+◌, ◌*◌, ◌<◌, ◌≤◌, ◌==◌, if◌then◌else◌, Bool, true, false, List, [], ◌∷◌, length, get_or, Option, Some, None, ℤ}
use Rattle.std.specs.List.{All, Contains}
use Rattle.std.proofs.lemmas.Bool.{cases_lt, both_ways, eqb-true}
use Rattle.std.proofs.lemmas.Nat.{mul-le}
use Rattle.std.proofs.lemmas.List.Elements.{All-cons, All-head, All-nil, All-tail, All-weaker}
use Rattle.psy_budget.specs.declared.charge.Stall.{Stall}
use Rattle.psy_dates.specs.declared.plan.Plan.{Plan}
use Rattle.psy_dates.specs.Plans.{IsPlan, opened_of}
use Rattle.psy_history.specs.Regular.{AreRegular, IsLawful, IsRegular, Runs, WasStarted, WereStarted, first_number}
use Rattle.psy_history.specs.Processors.{processor_at}
use Rattle.psy_history.specs.Scheduled.{IsFinished, IsSupplied, turns_by}
use Rattle.psy_meaning.specs.KnownWays.{Listed}
use Rattle.psy_history.specs.Actions.{Action, History, Next, Opening, System, charge_of, next_of, timing, verdict_of}
use Rattle.psy_tree.specs.Parts.{agent_at, no_agent, no_clock}
use Rattle.psy_history.specs.History.{action_of, history, with_start}
use Rattle.psy_history.specs.Schedule.{Turn, is_pending}
use Rattle.psy_meaning.specs.Timing.{following, point_at}
use Rattle.psy_meaning.specs.Units.{HasHead, IsBareAgent, IsBarePoint}
use Rattle.psy_tree.specs.declared.unit.AgentDecl.{AgentDecl}
use Rattle.psy_tree.specs.declared.unit.Point.{Point}
use Rattle.psy_tree.specs.declared.unit.Unit.{Unit as Whole}
use Rattle.psy_kernel.specs.Acting.{came_to}
use Rattle.psy_kernel.specs.Cycles.{AreOver, GetsCycle, MayEnd}
use Rattle.psy_history.specs.declared.told.Script.{Script}
use Rattle.psy_history.specs.Scripts.{IsScript, order_of}
use Rattle.psy_kernel.proofs.CyclesDone.{as_many, stays_over}
use Rattle.psy_kernel.proofs.OrdersInForce.{lists_order}

-- ---- the numbers of an agent's actions

numbers_below : (s : System) (dates agent : ℕ) (actions : List Action) → WereStarted s dates agent actions → All (λ (q : Action). q.number < first_number s agent + length actions) actions
numbers_below s dates agent [] h = All-nil (λ (q : Action). q.number < first_number s agent + 0)
numbers_below s dates agent (r ∷ before) h =
    All-cons (λ (q : Action). q.number < first_number s agent + length (r ∷ before)) r before (let e : r.number ≡ first_number s agent + length before = h.0.number in omega (arith, e))
    (All-weaker (λ (q : Action). q.number < first_number s agent + length before) (λ (q : Action). q.number < first_number s agent + length (r ∷ before)) (λ q less. omega (arith, less)) before (numbers_below s dates agent before h.1))

-- An agent's last action at a date starts there, or it is the last one of the dates before
started_by : (s : System) (h : History) (date agent : ℕ) (actions : List Action) (n : Option Next) (r : Action) (before : List Action) → with_start s h date agent actions n ≡ r ∷ before → (actions ≡ r ∷ before) ⊎ (r.start ≡ date)
started_by s h date agent actions None r before e = inl e
started_by s h date agent actions (Some n) r before e = by (n.start == date) refl e
  where
    by : (test : Bool) → (n.start == date) ≡ test → (if test then action_of s h agent n ∷ actions else actions) ≡ r ∷ before → (actions ≡ r ∷ before) ⊎ (r.start ≡ date)
    by true is e = inr (let same : action_of s h agent n ≡ r = cc in sym (ap (λ (q : Action). q.start) same) ∙ eqb-true n.start date is)
    by false is e = inl e

here_or_before : (s : System) (date agent : ℕ) (r : Action) (before : List Action) → history s (suc date) agent ≡ r ∷ before → (history s date agent ≡ r ∷ before) ⊎ (r.start ≡ date)
here_or_before s date agent r before e = started_by s (history s date) date agent (history s date agent) (next_of s agent (history s date agent)) r before e

-- ---- the points of an agent

points_bare : (unit : Whole) (agent : AgentDecl) (points : List Point) → HasHead agent points (IsBarePoint unit) → (point : ℕ) → 1 ≤ point → point < length points → (d : Point) → IsBarePoint unit (get_or points point d)
points_bare unit agent [] h point inner less d = absurd h
points_bare unit agent (head ∷ rest) h zero inner less d = absurd (omega (arith, inner))
points_bare unit agent (head ∷ rest) h (suc point) inner less d = h.1 point d (omega (arith, less))

-- What follows a point of an agent is a point of an `advance`.
abbrev pub PointsFollow : System → Type 0
PointsFollow s = (agent point to : ℕ) → agent < length s.unit.agents → Contains (following (timing s agent) point) to → (1 ≤ to) × (to < length (agent_at s.unit agent).points)

module _ (plan : Plan) (opening : Opening) (inputs : List (List ℤ)) (stalls : ℕ → List Stall) (is : IsPlan plan) where
  abbrev s : System
  s = opened_of plan opening inputs stalls

  bare_agent : (agent : ℕ) → agent < length plan.unit.agents → IsBareAgent plan.unit (agent_at plan.unit agent)
  bare_agent agent less = is.fits.bare.agents agent no_agent less

  -- an action that reached a point may end there
  may_end : PointsFollow s → (agent from to start : ℕ) → agent < length plan.unit.agents → Contains (following (timing s agent) from) to → start ≤ 1099511627776 → MayEnd (timing s agent) start to
  may_end law agent from to start less follows early =
      let inner = law agent from to less follows in
      let point = points_bare plan.unit (agent_at plan.unit agent) (agent_at plan.unit agent).points (bare_agent agent less).points to inner.0 inner.1 (record { count = 1; clock = 0; budget = 0 }) in
      record {
        known = inner.1;
        clock = point.clock;
        lawful = is.fits.bare.clocks (point_at (timing s agent) to).clock no_clock point.clock;
        some = point.count.0;
        few = point.count.1;
        early = early;
      }

  -- ---- the processor supplies what the agents demand

  pub supplied : (script : Script) → IsScript plan.unit script → IsLawful s → IsSupplied s (order_of plan.unit script) plan.until
  supplied script of lawful = record {
    lawful = lawful;
    quantum = is.fits.bare.quantum.0;
    orders = λ cycle agent less. (lists_order plan.unit script cycle of).each agent less;
    graphs = is.supplied.graphs;
    drawn = record { count = is.supplied.drawn.count; each = is.supplied.drawn.each };
    feasible = is.supplied.feasible;
  }

  -- ---- the action that gets the cycle

  -- what its code came to
  abbrev IsTold : Action → Type 0
  IsTold r =
      (r.deeds ≡ (came_to plan.code r).deeds) × (r.after ≡ (came_to plan.code r).carried) × (r.charge ≡ charge_of s r.agent r.number r.deeds.steps)
      × (r.verdict ≡ verdict_of (timing s r.agent) r.start r.budget r.charge (came_to plan.code r).fate)

  pub told : (dates agent : ℕ) (before : List Action) (r : Action) → WasStarted s dates agent before r → IsTold r
  told dates agent before r w = subst IsTold (sym w.made) (refl, refl, refl, refl)

  module _ (script : Script) (of : IsScript plan.unit script) (supply : IsSupplied s (order_of plan.unit script) plan.until) (date cycle : ℕ) (inside : date < plan.until) (low : date * plan.unit.quantum ≤ cycle) (high : cycle < (date + 1) * plan.unit.quantum) where
    abbrev order : ℕ → List ℕ
    order = order_of plan.unit script

    abbrev turns : ℕ → List (Option Turn)
    turns agent = turns_by s order cycle agent

    pub all_over : ((s : System) (order : ℕ → List ℕ) (until date cycles agent : ℕ) (r : Action) (before : List Action) → IsSupplied s order until → date ≤ until → date * s.unit.quantum ≤ cycles → history s (date + 1) agent ≡ r ∷ before → All (IsFinished s order cycles) before)
        → (agent : ℕ) → AreOver (turns agent) (history s (date + 1) agent)
    all_over law agent = by (history s (date + 1) agent) refl (supply.lawful.actions (date + 1) agent).each
      where
        by : (actions : List Action) → history s (date + 1) agent ≡ actions → All (IsRegular s agent) actions → AreOver (turns agent) actions
        by [] e all = tt {0}
        by (r ∷ before) e all = λ k d less.
            let q = get_or before k d in
            subst (λ a. is_pending (turns a) q ≡ false) (IsRegular.agent_is (All-tail (IsRegular s agent) r before all k d less)) (law s order plan.until date cycle agent r before supply (omega (arith, inside)) low e k d less)

    pub gets : ((s : System) (order : ℕ → List ℕ) (until date agent : ℕ) (r : Action) → IsSupplied s order until → date ≤ until → Contains (history s date agent) r → r.deadline ≤ date → IsFinished s order (date * s.unit.quantum) r)
        → PointsFollow s → ((agent : ℕ) → opening.count agent < 1125899906842624)
        → plan.until ≤ 4294967295 → (agent : ℕ) (r : Action) (before : List Action) → history s (date + 1) agent ≡ r ∷ before → All (Runs s (Listed is.ways) plan.code) (history s (date + 1) agent) → is_pending (turns agent) r ≡ true
        → GetsCycle s plan.code (turns agent) plan.until date cycle agent r before
    gets due within small most agent r before e all_run pending =
        let are : AreRegular s (date + 1) agent (r ∷ before) = subst (AreRegular s (date + 1) agent) e (supply.lawful.actions (date + 1) agent) in
        let its : IsRegular s agent r = All-head (IsRegular s agent) r before are.each in
        let w : WasStarted s (date + 1) agent before r = are.were_started.0 in
        let t = told (date + 1) agent before r w in
        let start : r.start ≡ w.next.start = ap (λ (q : Action). q.start) w.made in
        let later : date < r.deadline = due_later due agent r before e pending in
        record {
          of_code = record {
            deeds = t.0;
            after = t.1;
            charge = t.2;
            verdict = t.3;
            ways = Listed is.ways;
            runs = All-head (Runs s (Listed is.ways) plan.code) r before (subst (All (Runs s (Listed is.ways) plan.code)) e all_run);
          };
          agent_is = its.agent_is;
          pending = pending;
          numbers = All-weaker (λ (q : Action). q.number < first_number s agent + length before) (λ (q : Action). q.number < r.number) (λ q less. omega (arith, less, w.number)) before (numbers_below s (date + 1) agent before are.were_started.1);
          few = omega (arith, are.few, inside);
          counted = small agent;
          started = omega (arith, start, w.at);
          later = later;
          at = as_many s order (processor_at s.unit agent) cycle;
          within = omega (arith, high, mul-le (date + 1) plan.unit.quantum r.deadline plan.unit.quantum (omega (arith, later)) (omega arith));
          run = omega (arith, high, mul-le (date + 1) plan.unit.quantum plan.until plan.unit.quantum (omega (arith, inside)) (omega arith));
          most = most;
          quantum = is.fits.bare.quantum.1;
          ends = λ point end is. (let h = its.ends point end is in (h.1, may_end within agent r.point point r.start its.known h.0 (omega (arith, start, w.at, inside, most))));
        }
      where
        regular : (agent : ℕ) (r : Action) (before : List Action) → history s (date + 1) agent ≡ r ∷ before → IsRegular s agent r
        regular agent r before e = All-head (IsRegular s agent) r before (AreRegular.each (subst (AreRegular s (date + 1) agent) e (supply.lawful.actions (date + 1) agent)))

        due_later : ((s : System) (order : ℕ → List ℕ) (until date agent : ℕ) (r : Action) → IsSupplied s order until → date ≤ until → Contains (history s date agent) r → r.deadline ≤ date → IsFinished s order (date * s.unit.quantum) r)
            → (agent : ℕ) (r : Action) (before : List Action) → history s (date + 1) agent ≡ r ∷ before → is_pending (turns agent) r ≡ true → date < r.deadline
        due_later law agent r before e pending = elim (cases_lt date r.deadline) [
          | inl less ↦ less
          | inr past ↦ absurd (elim (here_or_before s date agent r before (sym (ap (λ n. history s n agent) (add-one date)) ∙ e)) [
            | inl earlier ↦ both_ways (is_pending (turns agent) r) (stays_over s order (processor_at s.unit agent) r (date * plan.unit.quantum) cycle low (subst (λ a. is_pending (turns_by s order (date * plan.unit.quantum) a) r ≡ false) (IsRegular.agent_is (regular agent r before e))
                (law s order plan.until date agent r supply (omega (arith, inside)) (subst (λ actions. Contains actions r) (sym earlier) (0, omega arith, refl)) past))) pending
            | inr here ↦ omega (arith, past, here, IsRegular.due (regular agent r before e))
          ])
        ]
