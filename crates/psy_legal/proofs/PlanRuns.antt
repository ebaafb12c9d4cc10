-- The run of a plan that fits is on time, and its looks find what they ask for: so its trace is legal.
use Rattle.std.proofs.Common.{◌≡◌, ◌∙◌, sym, ap, subst, ℕ, ◌+◌, ◌*◌, ◌<◌, ◌≤◌, Bool, true, false, if◌then◌else◌, nat_le, List, [], ◌∷◌, All, length, map, get_or, Option, Some, None, ℤ, arith}
use Rattle.std.specs.Prelude.{slice_get}
use Rattle.std.specs.List.{Contains, range_with_len}
use Rattle.std.proofs.lemmas.List.Elements.{All-contains, All-head, All-tail}
use Rattle.std.proofs.lemmas.List.FromFn.{get_or-range_with_len, length-range_with_len}
use Rattle.std.proofs.lemmas.Option.{none-some, same_Some, slice_get_within}
use Rattle.psy_clock.specs.Dates.{IsClock}
use Rattle.psy_code.specs.declared.code.Code.{Code}
use Rattle.psy_code.specs.Views.{found_in}
use Rattle.psy_dates.proofs.lemmas.Fits.{GoWell, goes_well, ring_size}
use Rattle.psy_dates.specs.declared.plan.Plan.{Plan}
use Rattle.psy_dates.specs.Plans.{IsPlan, system_of}
use Rattle.psy_lists.proofs.lemmas.Members.{get_or_holds}
use Rattle.psy_lists.proofs.lemmas.Places.{there}
use Rattle.psy_tree.specs.declared.unit.AgentDecl.{AgentDecl}
use Rattle.psy_tree.specs.declared.unit.Unit.{Unit as Whole}
use Rattle.psy_tree.specs.declared.unit.VarDecl.{VarDecl}
use Rattle.psy_history.specs.Actions.{Action, Next, System, first_action}
use Rattle.psy_history.specs.Compiled.{AreInputs}
use Rattle.psy_history.specs.declared.told.Order.{Order}
use Rattle.psy_history.specs.declared.told.Script.{Script}
use Rattle.psy_history.specs.History.{history}
use Rattle.psy_history.specs.Processors.{processor_at, processors}
use Rattle.psy_history.specs.Regular.{IsLawful, Runs}
use Rattle.psy_history.specs.Rings.{age_at}
use Rattle.psy_history.specs.Runs.{IsRun}
use Rattle.psy_history.specs.Scheduled.{IsFinished, IsSupplied}
use Rattle.psy_history.specs.Scripts.{IsOrder, IsScript, in_force, order_of, stalls_of}
use Rattle.psy_meaning.specs.KnownWays.{Listed, Looks, Ways}
use Rattle.psy_meaning.specs.RingSizes.{IsRingSize}
use Rattle.psy_audit.specs.Faults.{IsLegal}
use Rattle.psy_audit.specs.Judging.{judged_of}
use Rattle.psy_audit.specs.Traced.{trace_of}
use Rattle.psy_legal.proofs.ClockDates.{AreCounted}
use Rattle.psy_legal.proofs.LookLines.{IsSighted}
use Rattle.psy_legal.proofs.RunLooks.{looks_rise, may_look}
use Rattle.psy_legal.proofs.Told.{IsOnTime}
use Rattle.psy_legal.proofs.Whole.{legal}
use Rattle.psy_legal.proofs.Numbers.{agent_of}

-- ---- orders

-- Each of so many agents stands in a list.
abbrev HasEach : ℕ → List ℕ → Type 0
HasEach agents xs = (agent : ℕ) → agent < agents → Contains xs agent

declared_each : (agents : ℕ) → HasEach agents (range_with_len 0 agents)
declared_each agents agent l = (agent, omega (arith, l, length-range_with_len 0 agents), get_or-range_with_len 0 agents agent agent l ∙ omega arith)

in_force_each : (unit : Whole) (before : List ℕ) (orders : List Order) (cycle : ℕ) → HasEach (length unit.agents) before → All (IsOrder unit) orders → HasEach (length unit.agents) (in_force before orders cycle)
in_force_each unit before [] cycle each all = each
in_force_each unit before (o ∷ orders) cycle each all =
    by (nat_le o.cycle cycle) (in_force_each unit o.agents orders cycle (All-head (IsOrder unit) o orders all).agents.each (All-tail (IsOrder unit) o orders all))
  where
    by : (b : Bool) → HasEach (length unit.agents) (in_force o.agents orders cycle) → HasEach (length unit.agents) (if b then in_force o.agents orders cycle else before)
    by true rest = rest
    by false rest = each

-- ---- laws

-- What the laws of histories say of a run
pub record RunLaws : Type 0 where
  pub well : GoWell
  pub lawful : (s : System) (ways : Ways) (code : Code) → IsRun s ways code → IsLawful s
  pub runs : (s : System) (ways : Ways) (code : Code) → IsRun s ways code → (dates agent : ℕ) → All (Runs s ways code) (history s dates agent)
  pub homes : (unit : Whole) (agent : ℕ) → processor_at unit agent < processors unit
  pub counted : AreCounted
  pub due : (s : System) (order : ℕ → List ℕ) (until date agent : ℕ) (r : Action) → IsSupplied s order until → date ≤ until
      → Contains (history s date agent) r → r.deadline ≤ date → IsFinished s order (date * s.unit.quantum) r
  pub earlier : (s : System) (order : ℕ → List ℕ) (until date cycles agent : ℕ) (r : Action) (before : List Action) → IsSupplied s order until
      → date ≤ until → date * s.unit.quantum ≤ cycles → history s (date + 1) agent ≡ r ∷ before → All (IsFinished s order cycles) before
  pub look : (s : System) (ways : Ways) (order : ℕ → List ℕ) (until dates agent variable back size date : ℕ) (decl : VarDecl) (r : Action)
      → IsSupplied s order until → Contains (history s dates agent) r
      → slice_get s.unit.variables variable ≡ Some decl → Looks ways agent r.point variable → back < decl.depth
      → IsRingSize s.unit ways s.nexts variable size
      → r.start ≤ date → date < r.deadline → age_at s variable back r.start date < size

module _ (laws : RunLaws) (plan : Plan) (inputs : List (List ℤ)) (script : Script) (is : IsPlan plan) (are : AreInputs plan.unit inputs) (its : IsScript plan.unit script) where
  abbrev pub s : System
  s = system_of plan inputs (stalls_of script)

  abbrev pub order : ℕ → List ℕ
  order = order_of plan.unit script

  abbrev pub ways : Ways
  ways = Listed is.ways

  pub run : IsRun s ways plan.code
  run = goes_well plan is laws.well inputs (stalls_of script) are

  pub lawful : IsLawful s
  lawful = laws.lawful s ways plan.code run

  supplied : IsSupplied s order plan.until
  supplied = record {
    lawful = lawful;
    quantum = run.bare.quantum.0;
    orders = λ cycle. in_force_each plan.unit (range_with_len 0 (length plan.unit.agents)) script.orders cycle (declared_each (length plan.unit.agents)) its.orders;
    graphs = is.supplied.graphs;
    drawn = record { count = is.supplied.drawn.count; each = is.supplied.drawn.each };
    feasible = is.supplied.feasible;
  }

  opens : (agent : ℕ) (n : Next) → s.opening.starts agent ≡ Some n → n ≡ first_action s.unit s.nexts s.executor agent
  opens agent n e = from (slice_get plan.unit.agents agent) e
    where
      from : (o : Option AgentDecl) → found_in o (λ a. Some (first_action s.unit s.nexts s.executor agent)) ≡ Some n → n ≡ first_action s.unit s.nexts s.executor agent
      from None h = absurd (none-some n h)
      from (Some a) h = sym (same_Some (first_action s.unit s.nexts s.executor agent) n h)

  pub begins : (agent : ℕ) → agent < length plan.unit.agents → s.opening.starts agent ≡ Some (first_action s.unit s.nexts s.executor agent)
  begins agent less = ap (λ o. found_in o (λ (a : AgentDecl). Some (first_action s.unit s.nexts s.executor agent))) (there plan.unit.agents agent less).1

  every_tick : IsClock (record { period = 1; first = 0 })
  every_tick = record { first = omega arith; period = omega arith }

  pub on_time : IsOnTime s order plan.sizes plan.until
  on_time = record {
    lawful = lawful;
    quantum = run.bare.quantum.0;
    homes = laws.homes plan.unit;
    due = λ date agent r. laws.due s order plan.until date agent r supplied;
    earlier = λ date cycles agent r before. laws.earlier s order plan.until date cycles agent r before supplied;
    opens = opens;
    begins = begins;
    counted = laws.counted;
    clocks = λ variable. get_or_holds IsClock plan.unit.clocks _ (record { period = 1; first = 0 }) every_tick run.bare.clocks;
  }

  pub sighted : IsSighted s plan.sizes plan.until
  sighted = record {
    looks = λ agent r look there c.
        let runs : Runs s ways plan.code r = All-contains (Runs s ways plan.code) (history s plan.until agent) r (laws.runs s ways plan.code run plan.until agent) there in
        let (decl, declared, low, may) = may_look s ways plan.code run lawful plan.until agent r there runs look c in
        let known = slice_get_within plan.unit.variables look.variable decl declared in
        let mine : Contains (history s plan.until r.agent) r = subst (λ a. Contains (history s plan.until a) r) (sym (agent_of s plan.until agent r there)) there in (
          decl,
          declared,
          low,
          λ date late early.
              laws.look s ways order plan.until plan.until r.agent look.variable look.back (get_or plan.sizes.rings look.variable 0) date decl r supplied mine declared may low (ring_size plan is look.variable known) late early,
        );
    rise = λ agent r there.
        let runs : Runs s ways plan.code r = All-contains (Runs s ways plan.code) (history s plan.until agent) r (laws.runs s ways plan.code run plan.until agent) there in
        looks_rise s ways plan.code run lawful plan.until agent r there runs;
  }

  pub legal_run : IsLegal (judged_of plan script) (map Some (trace_of s order plan.sizes plan.until))
  legal_run = legal s order plan.sizes plan.until on_time sighted
