-- What the pending action that gets a cycle sees by the rings, and how far back it looks, in the run of a plan.
use Rattle.std.proofs.Common.{◌≡◌, refl, sym, ap, ◌∙◌, subst, arith}
use Rattle.std.specs.Prelude.{ℕ, ◌+◌, ◌*◌, ◌/◌, ◌==◌, ◌<◌, ◌≤◌, List, ◌∷◌, drop, filter, get_or, length, map, nat_le, take, Option, Some, slice_get, ℤ}
use Rattle.std.specs.List.{All, Contains, count_by}
use Rattle.std.proofs.lemmas.List.Elements.{All-contains}
use Rattle.std.proofs.lemmas.Option.{slice_get_within}
use Rattle.psy_base.specs.declared.limits.TheConstants.{QUEUE}
use Rattle.psy_base.specs.declared.message.Message.{Message}
use Rattle.psy_budget.specs.declared.charge.Stall.{Stall}
use Rattle.psy_budget.specs.Charges.{cycle_of}
use Rattle.psy_clock.specs.Dates.{IsClock}
use Rattle.psy_code.specs.declared.code.Code.{Code}
use Rattle.psy_code.specs.declared.look.Sent.{Sent}
use Rattle.psy_code.specs.Execution.{RunState, Running, call_of, run_code}
use Rattle.psy_code.specs.Views.{Past, Send, messages_of, past_of}
use Rattle.psy_dates.specs.declared.plan.Plan.{Plan}
use Rattle.psy_dates.specs.Plans.{IsPlan, opened_of}
use Rattle.psy_dates.proofs.lemmas.Fits.{outbox_size, ring_size, small_ring}
use Rattle.psy_history.specs.Queues.{queue_of}
use Rattle.psy_history.specs.Regular.{AreRegular, IsLawful, IsRegular, MayAsk, Runs, begun_by}
use Rattle.psy_history.specs.Rings.{age_at, reach_with, ring_of}
use Rattle.psy_history.specs.Runs.{IsRun}
use Rattle.psy_history.specs.Processors.{processor_at}
use Rattle.psy_history.specs.Scheduled.{IsSupplied, gone_to, turns_by}
use Rattle.psy_meaning.specs.KnownWays.{Listed, Looks, Ways}
use Rattle.psy_history.specs.Actions.{Action, Opening, System, publishing, variable_of}
use Rattle.psy_meaning.specs.CodeWays.{agent_code_at}
use Rattle.psy_tree.specs.Parts.{no_clock, no_variable}
use Rattle.psy_base.specs.Extremes.{IsGreatest}
use Rattle.psy_history.specs.History.{history}
use Rattle.psy_meaning.specs.QueueSizes.{AreQueues, HasSendsTo}
use Rattle.psy_meaning.specs.RingSizes.{IsRingSize}
use Rattle.psy_history.specs.Schedule.{Turn, turn_of, units, work}
use Rattle.psy_history.specs.Summary.{reach}
use Rattle.psy_meaning.specs.Units.{IsBare, IsBareVariable}
use Rattle.psy_tree.specs.declared.unit.StreamDecl.{StreamDecl}
use Rattle.psy_tree.specs.declared.unit.VarDecl.{VarDecl}
use Rattle.psy_kernel.specs.Acting.{IsOfCode}
use Rattle.psy_kernel.specs.Cycles.{GetsCycle, LooksBack}
use Rattle.psy_history.specs.declared.told.Script.{Script}
use Rattle.psy_history.specs.Scripts.{order_of}
use Rattle.psy_kernel.specs.Standing.{charge_after}
use Rattle.psy_kernel.proofs.CyclesDone.{as_many, tick_of_cycle}
use Rattle.psy_kernel.proofs.LooksMade.{near, reached}
use Rattle.psy_kernel.proofs.OneAgent.{early}
use Rattle.psy_kernel.proofs.PaidCycles.{paid_few}
use Rattle.psy_kernel.proofs.QueueViews.{acts}
use Rattle.psy_kernel.proofs.RingViews.{shows}
use Rattle.psy_kernel.proofs.RunsOn.{asks}
use Rattle.psy_kernel.proofs.Verdicts.{is_whole}

-- ---- what is known of all runs

pub record AreLooksLaws : Type 0 where
  pub ages : (s : System) (ways : Ways) (order : ℕ → List ℕ) (until dates agent variable back size date : ℕ) (decl : VarDecl) (r : Action) → IsSupplied s order until → Contains (history s dates agent) r
      → slice_get s.unit.variables variable ≡ Some decl → Looks ways agent r.point variable → back < decl.depth → IsRingSize s.unit ways s.nexts variable size
      → r.start ≤ date → date < r.deadline → age_at s variable back r.start date < size
  pub values : (s : System) (date agent variable back size : ℕ) (decl : VarDecl) (r : Action) → IsLawful s → IsClock (publishing s variable) → Contains (history s (date + 1) agent) r
      → slice_get s.unit.variables variable ≡ Some decl → back < decl.depth → age_at s variable back r.start date < size
      → slice_get (ring_of s (date + 1) variable size) (age_at s variable back r.start date) ≡ past_of r.view variable back
  pub stalls : (s : System) (turns : ℕ → List (Option Turn)) (dates agent variable : ℕ) (r : Action) → IsLawful s → Contains (history s dates agent) r
      → ((instr : ℕ) → units r.agent r.number (turns r.agent) ≡ cycle_of (s.stalls r.agent) r.number instr → ⊥)
      → reach s (gone_to s.unit (processor_at s.unit r.agent) (turn_of (Some r)) turns) (history s dates) variable ≡ reach s turns (history s dates) variable
  pub pays : (s : System) (ways : Ways) (code : Code) → IsRun s ways code
      → (turns : ℕ → List (Option Turn)) (dates agent variable instr : ℕ) (r : Action) (state : RunState) → Contains (history s dates agent) r
      → run_code code (agent_code_at code r.agent) (begun_by (agent_code_at code r.agent) r) instr ≡ Running state
      → units r.agent r.number (turns r.agent) ≡ cycle_of (s.stalls r.agent) r.number instr → instr < r.budget
      → reach s (gone_to s.unit (processor_at s.unit r.agent) (turn_of (Some r)) turns) (history s dates) variable ≡ reach_with s variable r.start (length (turns r.agent) / s.unit.quantum) (call_of code state.machine) (reach s turns (history s dates) variable)
  pub fronts : (s : System) (ways : Ways) (code : Code) → IsRun s ways code
      → (date stream agent : ℕ) (decl : StreamDecl) (r : Action) (before : List Action) → slice_get s.unit.streams stream ≡ Some decl → decl.receiver ≡ agent
      → history s (date + 1) agent ≡ r ∷ before → date < r.deadline
      → (filter (λ (m : Message). nat_le m.visible r.start) (queue_of s (date + 1) stream) ≡ r.seen stream) × (take (length (r.seen stream)) (queue_of s (date + 1) stream) ≡ r.seen stream)
  pub sends : (s : System) (ways : Ways) (code : Code) → IsRun s ways code
      → (queues : List ℕ) → AreQueues s.unit ways s.nexts queues → All (λ size. size ≤ QUEUE) queues
      → (dates agent size instr : ℕ) (r : Action) (state : RunState) (sent : Sent) → IsGreatest (HasSendsTo s.unit ways s.nexts agent) size → Contains (history s dates agent) r
      → run_code code (agent_code_at code agent) (begun_by (agent_code_at code agent) r) instr ≡ Running state
      → call_of code state.machine ≡ Some (Send sent) → instr < r.budget → length state.deeds.sends < size
  pub takes : (s : System) (ways : Ways) (code : Code) → IsRun s ways code
      → (dates agent stream instr : ℕ) (decl : StreamDecl) (r : Action) (state : RunState) → slice_get s.unit.streams stream ≡ Some decl → decl.receiver ≡ agent → Contains (history s dates agent) r
      → run_code code (agent_code_at code agent) (begun_by (agent_code_at code agent) r) instr ≡ Running state
      → messages_of state.view stream ≡ Some (map (λ (m : Message). m.value) (drop (count_by (λ t. t == stream) state.deeds.takes) (r.seen stream)))

-- ---- the action that gets the cycle

-- A variable's clock is one of the program's
pub clock_lawful : (plan : Plan) → IsPlan plan → (s : System) → s.unit ≡ plan.unit → (variable : ℕ) → variable < length s.unit.variables → IsClock (publishing s variable)
clock_lawful plan is s e variable less =
    let bare : IsBare s.unit = subst IsBare (sym e) is.fits.bare in
    bare.clocks (variable_of s variable).clock no_clock (IsBareVariable.clock (bare.variables variable no_variable less))

module _ (plan : Plan) (opening : Opening) (inputs : List (List ℤ)) (stalls : ℕ → List Stall) (is : IsPlan plan) (run : IsRun (opened_of plan opening inputs stalls) (Listed is.ways) plan.code) (script : Script) (date cycle : ℕ) (low : date * plan.unit.quantum ≤ cycle) (high : cycle < (date + 1) * plan.unit.quantum) where
  abbrev s : System
  s = opened_of plan opening inputs stalls

  abbrev ways : Ways
  ways = Listed is.ways

  abbrev order : ℕ → List ℕ
  order = order_of plan.unit script

  -- whatever the cycles of the other agents' processors went to
  pub looks : AreLooksLaws → IsSupplied s order plan.until → (turns : ℕ → List (Option Turn)) (agent : ℕ) → turns agent ≡ turns_by s order cycle agent → (r : Action) (before : List Action) → history s (date + 1) agent ≡ r ∷ before → Runs s ways plan.code r
      → GetsCycle s plan.code (turns agent) plan.until date cycle agent r before → LooksBack s plan.sizes plan.code turns date r
  looks laws supply turns agent same r before e runs g =
      let had : ℕ = units r.agent r.number (turns r.agent) in
      let in_agent : Contains (history s (date + 1) agent) r = subst (λ actions. Contains actions r) (sym e) (0, omega arith, refl) in
      let in_own : Contains (history s (date + 1) r.agent) r = subst (λ n. Contains (history s (date + 1) n) r) (sym g.agent_is) in_agent in
      let soon : had < work r = subst (λ a. units r.agent r.number (turns a) < work r) (sym g.agent_is) (early s plan.code (turns agent) plan.until date cycle agent r before g) in
      let paid = (charge_after s r had).paid in
      let left : paid < r.budget = (let few = paid_few (s.stalls r.agent) r.number r.budget had (omega (arith, soon)) in omega (arith, few, soon)) in
      let at_date : length (turns r.agent) / plan.unit.quantum ≡ date = ap (λ n. n / plan.unit.quantum) (ap length (subst (λ a. turns a ≡ turns_by s order cycle a) (sym g.agent_is) same) ∙ as_many s order (processor_at s.unit r.agent) cycle) ∙ tick_of_cycle s order (processor_at s.unit r.agent) date cycle low high in
      let of_code : IsOfCode s plan.code r = record { deeds = g.of_code.deeds; after = g.of_code.after; charge = g.of_code.charge; verdict = g.of_code.verdict; ways = ways; runs = runs } in
      let of_program : agent < length plan.unit.agents = IsRegular.known (All-contains (IsRegular s agent) (history s (date + 1) agent) r (AreRegular.each (supply.lawful.actions (date + 1) agent)) in_agent) in
      let known : r.agent < length plan.unit.agents = subst (λ n. n < length plan.unit.agents) (sym g.agent_is) of_program in
      let near_is : (variable back : ℕ) (may : MayAsk ways s.unit r.agent r.point (Some (Past variable back))) → age_at s variable back r.start date < get_or plan.sizes.rings variable 0 = λ variable back may.
      laws.ages s ways order plan.until (date + 1) r.agent variable back (get_or plan.sizes.rings variable 0) date may.0 r supply in_own may.1 may.3 may.2 (ring_size plan is variable (slice_get_within s.unit.variables variable may.0 may.1)) g.started g.later in
      record {
        acts = λ rings queues taken outbox ringed filled as_many size did. acts s plan.sizes plan.code r had date rings queues filled taken as_many outbox did
            (λ stream decl at own. laws.fronts s ways plan.code run date stream r.agent decl r before at own (ap (history s (date + 1)) g.agent_is ∙ e) g.later)
            (λ stream decl state at own running. laws.takes s ways plan.code run (date + 1) r.agent stream paid decl r state at own in_own running)
            (λ state sent running call. laws.sends s ways plan.code run plan.sizes.queues is.buffers.queues is.buffers.small_queues (date + 1) r.agent outbox.size paid r state sent (subst (IsGreatest (HasSendsTo plan.unit ways plan.nexts r.agent)) (sym size) (outbox_size plan is r.agent known)) in_own running call left)
            (λ messages state running variable back call. (
            let may : MayAsk ways s.unit r.agent r.point (Some (Past variable back)) = subst (MayAsk ways s.unit r.agent r.point) call (asks _ _ _ _ _ _ _ (is_whole s plan.code r of_code) paid left state running) in
            shows s plan.sizes date r rings ringed messages
            (λ variable back size decl at inner near. laws.values s date r.agent variable back size decl r supply.lawful (clock_lawful plan is s refl variable (slice_get_within s.unit.variables variable decl at)) in_own at inner near)
            variable back may.0 may.1 may.2 (near_is variable back may)));
        near = near s plan.code r of_code had soon date (λ variable back may. (
          slice_get_within s.unit.variables variable may.0 may.1,
          omega (arith, near_is variable back may, small_ring plan is variable (slice_get_within s.unit.variables variable may.0 may.1)),
        ));
        reached = λ variable. reached s plan.code r g.of_code had soon date variable (reach s turns (history s (date + 1)) variable) (reach s (gone_to s.unit (processor_at s.unit r.agent) (turn_of (Some r)) turns) (history s (date + 1)) variable)
            (laws.stalls s turns (date + 1) r.agent variable r supply.lawful in_own)
            (λ instr state running at within. laws.pays s ways plan.code run turns (date + 1) r.agent variable instr r state in_own running at within
            ∙ ap (λ n. reach_with s variable r.start n (call_of plan.code state.machine) (reach s turns (history s (date + 1)) variable)) at_date);
      }
