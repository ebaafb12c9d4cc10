-- What is known of the streams of a history, by the laws of a run.
use Rattle.std.proofs.Common.{◌≡◌, ℕ, ◌+◌, ◌<◌, ◌≤◌, List, ◌∷◌, All, length, get_or, Some, ap, subst, arith, length-take}
use Rattle.std.specs.Prelude.{filter, nat_le, slice_get, take, ℤ}
use Rattle.std.proofs.lemmas.List.Elements.{All-head, All-weaker}
use Rattle.psy_base.specs.declared.limits.TheConstants.{QUEUE}
use Rattle.psy_base.specs.declared.message.Message.{Message}
use Rattle.psy_base.specs.declared.sizes.Sizes.{Sizes}
use Rattle.psy_budget.specs.declared.charge.Stall.{Stall}
use Rattle.psy_code.specs.declared.code.Code.{Code}
use Rattle.psy_tree.specs.declared.unit.StreamDecl.{StreamDecl}
use Rattle.psy_history.specs.Actions.{Action, Opening, System}
use Rattle.psy_history.specs.History.{history}
use Rattle.psy_meaning.specs.Kept.{IsSentOf}
use Rattle.psy_meaning.specs.QueueSizes.{IsQueueSize}
use Rattle.psy_history.specs.Queues.{entered, entering, queue_of, settled}
use Rattle.psy_history.specs.Runs.{IsRun}
use Rattle.psy_history.specs.Ways.{IsSentBy}
use Rattle.psy_meaning.specs.KnownWays.{Listed, Ways}
use Rattle.psy_dates.specs.declared.plan.Plan.{Plan}
use Rattle.psy_dates.specs.Plans.{IsPlan, opened_of}
use Rattle.psy_dates.proofs.lemmas.Fits.{queue_size, small_queue}

-- What is known of a history's streams
pub record AreStreamLaws (s : System) (sizes : Sizes) : Type 0 where
  pub next : (date stream : ℕ) → s.opening.dates ≤ date → stream < length s.unit.streams → queue_of s (date + 1) stream ≡ entered (entering s date stream) (settled s date stream (queue_of s date stream))
  pub look : (date stream agent : ℕ) (decl : StreamDecl) (r : Action) (before : List Action) → slice_get s.unit.streams stream ≡ Some decl → decl.receiver ≡ agent → history s (date + 1) agent ≡ r ∷ before → date < r.deadline → length (r.seen stream) ≤ length (queue_of s (date + 1) stream)
  pub held : (date stream : ℕ) → stream < length s.unit.streams → length (queue_of s date stream) ≤ get_or sizes.queues stream 0 + length (s.opening.messages stream)
  pub fit : (date agent : ℕ) (r : Action) (before : List Action) → history s date agent ≡ r ∷ before → All (IsSentOf s.unit) r.deeds.sends

-- What holds of each run
abbrev OfEach : (System → Ways → Type 0) → Type 0
OfEach Holds = (s : System) (ways : Ways) (code : Code) → IsRun s ways code → Holds s ways

-- The receiver's action finds in front of a stream what it saw.
abbrev Looks : System → Type 0
Looks s = (date stream agent : ℕ) (decl : StreamDecl) (r : Action) (before : List Action) → slice_get s.unit.streams stream ≡ Some decl → decl.receiver ≡ agent → history s (date + 1) agent ≡ r ∷ before → date < r.deadline
    → (filter (λ (m : Message). nat_le m.visible r.start) (queue_of s (date + 1) stream) ≡ r.seen stream) × (take (length (r.seen stream)) (queue_of s (date + 1) stream) ≡ r.seen stream)

pub stream_laws : (plan : Plan) (is : IsPlan plan) (opening : Opening) (inputs : List (List ℤ)) (stalls : ℕ → List Stall) → IsRun (opened_of plan opening inputs stalls) (Listed is.ways) plan.code
    → OfEach (λ s ways. (dates agent : ℕ) → All (λ r. All (IsSentBy ways s.unit) r.deeds.sends) (history s dates agent))
    → OfEach (λ s ways. (date stream : ℕ) → s.opening.dates ≤ date → stream < length s.unit.streams → queue_of s (date + 1) stream ≡ entered (entering s date stream) (settled s date stream (queue_of s date stream)))
    → OfEach (λ s ways. Looks s)
    → OfEach (λ s ways. (date stream size : ℕ) → stream < length s.unit.streams → IsQueueSize s.unit ways s.nexts stream size → size ≤ QUEUE → length (queue_of s date stream) ≤ size + length (s.opening.messages stream))
    → AreStreamLaws (opened_of plan opening inputs stalls) plan.sizes
stream_laws plan its opening inputs stalls run sends next look held =
    let s = opened_of plan opening inputs stalls in
    let ways = Listed its.ways in
    record {
      next = next s ways plan.code run;
      look = λ date stream agent decl r before at is there early.
          (let first = (look s ways plan.code run date stream agent decl r before at is there early).1 in omega (arith, ap length first, length-take (length (r.seen stream)) (queue_of s (date + 1) stream)));
      held = λ date stream less. held s ways plan.code run date stream (get_or plan.sizes.queues stream 0) less (queue_size plan its stream less) (small_queue plan its stream less);
      fit = λ date agent r before is.
          All-weaker (IsSentBy ways plan.unit) (IsSentOf plan.unit) (λ sent by. by.fits) r.deeds.sends
          (All-head (λ (x : Action). All (IsSentBy ways plan.unit) x.deeds.sends) r before (subst (All (λ (x : Action). All (IsSentBy ways plan.unit) x.deeds.sends)) is (sends s ways plan.code run date agent)));
    }
