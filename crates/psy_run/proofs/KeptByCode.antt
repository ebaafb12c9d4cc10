-- The run of code by a plan that fits keeps its bounds.
use Rattle.std.proofs.Common.{◌≡◌, sym, subst, ℕ, ◌+◌, ◌*◌, ◌<◌, ◌≤◌, List, length, get_or, Some, ℤ}
use Rattle.std.specs.List.{Contains}
use Rattle.std.proofs.lemmas.Option.{slice_get-get_or}
use Rattle.psy_base.specs.declared.limits.TheConstants.{QUEUE}
use Rattle.psy_dates.specs.declared.plan.Plan.{Plan}
use Rattle.psy_dates.specs.Plans.{IsPlan}
use Rattle.psy_history.specs.Actions.{Action, System}
use Rattle.psy_history.specs.History.{history}
use Rattle.psy_history.specs.Regular.{IsLawful}
use Rattle.psy_history.specs.Schedule.{finish}
use Rattle.psy_history.specs.Scheduled.{IsFinished, IsSupplied, turns_by}
use Rattle.psy_history.specs.Scripts.{IsScript, order_of}
use Rattle.psy_history.specs.Summary.{most_held, reach}
use Rattle.psy_history.specs.declared.told.Script.{Script}
use Rattle.psy_meaning.specs.KnownWays.{Listed}
use Rattle.psy_meaning.specs.QueueSizes.{IsQueueSize}
use Rattle.psy_meaning.specs.RingSizes.{IsRingSize}
use Rattle.psy_run.specs.Bounds.{KeepsBounds}
use Rattle.psy_run.specs.Services.{meaning_by}
use Rattle.psy_run.proofs.KeptBounds.{started_before}
use Rattle.psy_run.proofs.KeptOrders.{order_each}

module _ (plan : Plan) (inputs : List (List ℤ)) (script : Script) (is : IsPlan plan) (its : IsScript plan.unit script) where
  -- the run
  abbrev run : System
  run = meaning_by plan.unit plan.code plan.nexts inputs script

  -- the order of ties
  abbrev ties : ℕ → List ℕ
  ties = order_of plan.unit script

  -- each processor can supply what the run demands of it
  supplied : IsLawful run → IsSupplied run ties plan.until
  supplied lawful = record {
    lawful = lawful;
    quantum = is.fits.bare.quantum.0;
    orders = order_each plan.unit script its;
    graphs = is.supplied.graphs;
    drawn = record { count = is.supplied.drawn.count; each = is.supplied.drawn.each };
    feasible = is.supplied.feasible;
  }

  -- what the laws of histories say of it
  pub record CodeLaws : Type 0 where
    pub lawful : IsLawful run
    pub finishes : (agent : ℕ) (r : Action) → IsSupplied run ties plan.until → Contains (history run plan.until agent) r → r.deadline ≤ plan.until → finish r.agent r.number (turns_by run ties (plan.until * plan.unit.quantum) r.agent) ≤ r.deadline * plan.unit.quantum
    pub worked : (agent : ℕ) (r : Action) → IsSupplied run ties plan.until → Contains (history run (plan.until + 1) agent) r → r.deadline ≤ plan.until → IsFinished run ties (r.deadline * plan.unit.quantum) r
    pub reached : (variable size n : ℕ) → IsSupplied run ties plan.until → IsRingSize plan.unit (Listed is.ways) plan.nexts variable size → reach run (turns_by run ties (plan.until * plan.unit.quantum)) (history run (plan.until + 1)) variable ≡ Some n → n < size
    pub most : (stream size : ℕ) → stream < length plan.unit.streams → IsQueueSize plan.unit (Listed is.ways) plan.nexts stream size → size ≤ QUEUE → most_held run plan.until stream ≤ size

  module _ (law : CodeLaws) where
    in_time : (agent : ℕ) (r : Action) → Contains (history run (plan.until + 1) agent) r → r.deadline ≤ plan.until → finish r.agent r.number (turns_by run ties (plan.until * plan.unit.quantum) r.agent) ≤ r.deadline * plan.unit.quantum
    in_time agent r there due = law.finishes agent r (supplied law.lawful) (started_before run law.lawful plan.until agent r there due) due

    rings : (variable n : ℕ) → variable < length plan.unit.variables → reach run (turns_by run ties (plan.until * plan.unit.quantum)) (history run (plan.until + 1)) variable ≡ Some n → n < get_or plan.sizes.rings variable 0
    rings variable n known far =
        let at = slice_get-get_or plan.sizes.rings variable 0 (subst (λ k. variable < k) (sym is.buffers.rings.count) known) in
        law.reached variable (get_or plan.sizes.rings variable 0) n (supplied law.lawful) (is.buffers.rings.each variable (get_or plan.sizes.rings variable 0) at) far

    queues : (stream : ℕ) → stream < length plan.unit.streams → most_held run plan.until stream ≤ get_or plan.sizes.queues stream 0
    queues stream known =
        let within = subst (λ k. stream < k) (sym is.buffers.queues.count) known in
        let size = get_or plan.sizes.queues stream 0 in
        law.most stream size known (is.buffers.queues.each stream size (slice_get-get_or plan.sizes.queues stream 0 within)) (is.buffers.small_queues stream 0 within)

    pub code_keeps_bounds : KeepsBounds run ties plan.sizes plan.until
    code_keeps_bounds = record { finished = λ agent r. law.worked agent r (supplied law.lawful); in_time = in_time; rings = rings; queues = queues }
