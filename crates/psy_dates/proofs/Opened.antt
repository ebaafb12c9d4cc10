-- What the agents share before date 0 stands for the empty history.
use Rattle.std.proofs.Common.{◌≡◌, ℕ, ◌+◌, ◌-◌, ◌<◌, ◌≤◌, false, List, [], All, length, get_or, Option, Some, None, refl, sym, ap, subst, ◌∙◌, arith}
use Rattle.std.specs.Prelude.{map, replicate, slice_get, ℤ, pos}
use Rattle.std.proofs.lemmas.List.{get_or-map, length-map, length-replicate}
use Rattle.std.proofs.lemmas.List.Elements.{All-get_or}
use Rattle.std.proofs.lemmas.Option.{get_or_from_slice_get, same_Some, slice_get-get_or, slice_get_within}
use Rattle.psy_base.specs.declared.limits.TheConstants.{RING}
use Rattle.psy_base.specs.declared.sizes.Sizes.{Sizes}
use Rattle.psy_budget.specs.declared.charge.Stall.{Stall}
use Rattle.psy_tree.specs.declared.unit.VarDecl.{VarDecl}
use Rattle.psy_history.specs.Actions.{System, timing, variable_of}
use Rattle.psy_history.specs.History.{history}
use Rattle.psy_meaning.specs.KnownWays.{Ways}
use Rattle.psy_meaning.specs.Units.{IsBare}
use Rattle.psy_dates.specs.Calendars.{CalendarStands}
use Rattle.psy_dates.specs.declared.plan.Plan.{Plan}
use Rattle.psy_dates.specs.declared.seat.Phase.TheVariants as phase
use Rattle.psy_dates.specs.declared.movers.Movers.{Movers}
use Rattle.psy_dates.specs.declared.seat.Seat.{Seat}
use Rattle.psy_dates.specs.declared.shared.Shared.{Shared}
use Rattle.psy_dates.specs.Messages.{nowhere}
use Rattle.psy_dates.specs.Movers.{IsBefore, NamesAll, falls_by, falls_in, of_seat}
use Rattle.psy_meaning.specs.Timing.{first_date}
use Rattle.psy_meaning.specs.BufferSizes.{AreSizes}
use Rattle.psy_dates.specs.Plans.{system_of}
use Rattle.psy_dates.specs.Standing.{MoversStand, OutboxStands, QueueStands, RingStands, SharedStands, committed_by, dates_done}

first_value : (s : System) (variable : ℕ) (owner : Option ℕ) → s.opening.committed variable ≡ committed_by s (history s 0) variable (0 - 1) owner
first_value s variable None = refl
first_value s variable (Some owner) = refl

-- The ring of a variable, filled with its first value
first_ring : (s : System) (sizes : Sizes) (variable : ℕ) (value : ℤ) → value ≡ (variable_of s variable).init → RingStands s sizes 0 variable (replicate (get_or sizes.rings variable 0) value)
first_ring s sizes variable value is =
    let size = get_or sizes.rings variable 0 in
    let long = length-replicate size value in
    record {
      size = long;
      values = ap (replicate size) is ∙ ap (λ n. replicate n (variable_of s variable).init) (sym long);
    }

-- A ring has a place at least, since a variable has a depth
pub ring_places : (plan : Plan) (ways : Ways) → IsBare plan.unit → AreSizes plan.unit ways plan.nexts plan.sizes → All (λ size. (1 ≤ size) × (size ≤ RING)) plan.sizes.rings
ring_places plan ways bare sizes variable d l =
    let its = sizes.rings.each variable (get_or plan.sizes.rings variable d) (slice_get-get_or plan.sizes.rings variable d l) in
    let depth = (bare.variables variable its.decl (omega (arith, l, sizes.rings.count))).depth in
    let same : get_or plan.unit.variables variable its.decl ≡ its.decl = get_or_from_slice_get plan.unit.variables variable its.decl its.decl its.declared in
    let some : 1 ≤ its.decl.depth = subst (λ v. 1 ≤ v.depth) same depth.0 in
    (omega (arith, its.sum, some), sizes.small_rings variable d l)

-- While all wait, nobody has moved, and none was stopped.
first_movers : (s : System) (seats : List Seat) (movers : Movers) → ((agent : ℕ) (seat : Seat) → slice_get seats agent ≡ Some seat → seat.phase ≡ phase.Waiting)
    → movers ≡ record { moved = record { size = length s.unit.agents; agents = [] }; least = 0; stopped = false } → MoversStand s 0 seats movers
first_movers s seats movers wait is = record {
  room = omega (arith, ap (λ (m : Movers). m.moved.size) is);
  before = λ agent seat at. subst (λ (n : ℕ). IsBefore n (first_date (timing s agent)) seat seat.phase) (sym (ap (λ (m : Movers). m.least) is)) (subst (IsBefore 0 (first_date (timing s agent)) seat) (sym (wait agent seat at)) (omega arith));
  stopped = λ e agent seat at. (λ p. (let no : phase.Waiting ≡ phase.Stopped = sym (wait agent seat at) ∙ p in absurd cc), λ p. (let no : phase.Waiting ≡ phase.Silent = sym (wait agent seat at) ∙ p in absurd cc));
  fallen = subst (NamesAll (falls_in 0 seats) (length seats) 0) (sym (ap (λ (m : Movers). m.moved.agents) is)) (λ agent low high.
      (let at = slice_get-get_or seats agent nowhere high in
      ap (of_seat (λ seat. falls_by 0 seat seat.phase)) at ∙ ap (falls_by 0 (get_or seats agent nowhere)) (wait agent (get_or seats agent nowhere) at)));
}

-- What is shared before date 0
pub record IsFirst (plan : Plan) (shared : Shared) : Type 0 where
  pub date : shared.date ≡ None
  pub seated : length shared.seats.items ≡ length plan.unit.agents
  pub waiting : All (λ seat. seat.phase ≡ phase.Waiting) shared.seats.items
  pub committed : shared.committed.items ≡ map (λ v. v.init) plan.unit.variables
  pub ended : shared.ended.items ≡ map (λ v. v.init) plan.unit.variables
  pub ringed : length shared.rings.items ≡ length plan.unit.variables
  pub rings : (variable : ℕ) → variable < length plan.unit.variables → slice_get shared.rings.items variable ≡ Some (replicate (get_or plan.sizes.rings variable 0) (get_or (map (λ v. v.init) plan.unit.variables) variable (pos 0)))
  pub queued : length shared.queues.items ≡ length plan.sizes.queues
  pub queues : (stream : ℕ) → stream < length plan.sizes.queues → slice_get shared.queues.items stream ≡ Some (record { size = get_or plan.sizes.queues stream 0; messages = [] })
  pub boxed : length shared.outboxes.items ≡ length plan.sizes.outboxes
  pub outboxes : (agent : ℕ) → agent < length plan.sizes.outboxes → slice_get shared.outboxes.items agent ≡ Some (record { size = get_or plan.sizes.outboxes agent 0; sends = [] })
  pub taking : length shared.taken.items ≡ length plan.unit.streams
  pub taken : All (λ n. n ≡ 0) shared.taken.items
  pub calendar : CalendarStands plan.unit.clocks 0 shared.calendar
  pub movers : shared.movers ≡ record { moved = record { size = length plan.unit.agents; agents = [] }; least = 0; stopped = false }

pub first_stands : (plan : Plan) (inputs : List (List ℤ)) (stalls : ℕ → List Stall) (shared : Shared) (ways : Ways) → AreSizes plan.unit ways plan.nexts plan.sizes → IsFirst plan shared → SharedStands (system_of plan inputs stalls) plan.sizes (λ agent. []) 0 shared
first_stands plan inputs stalls shared ways sizes is =
    let s = system_of plan inputs stalls in
    let count : length shared.committed.items ≡ length plan.unit.variables = ap length is.committed ∙ length-map plan.unit.variables (λ v. v.init) in
    let init : VarDecl → ℤ = λ v. v.init in
    record {
      date = ap dates_done is.date;
      seated = is.seated;
      seats = λ agent seat at. subst (λ x. x.phase ≡ phase.Waiting) (get_or_from_slice_get shared.seats.items agent seat seat at) (All-get_or (λ x. x.phase ≡ phase.Waiting) shared.seats.items agent seat (slice_get_within shared.seats.items agent seat at) is.waiting);
      valued = count;
      committed = λ variable value at. (let within : variable < length plan.unit.variables = omega (arith, slice_get_within shared.committed.items variable value at, count) in
          sym (get_or_from_slice_get shared.committed.items variable value (pos 0) at) ∙ ap (λ xs. get_or xs variable (pos 0)) is.committed ∙ get_or-map init plan.unit.variables variable _ (pos 0) within ∙ first_value s variable (variable_of s variable).owner);
      kept = ap length is.ended ∙ length-map plan.unit.variables (λ v. v.init);
      ended = λ variable owner value at owned. tt {0};
      ringed = is.ringed;
      rings = λ variable ring at. (let within : variable < length plan.unit.variables = omega (arith, slice_get_within shared.rings.items variable ring at, is.ringed) in
          subst (RingStands s plan.sizes 0 variable) (same_Some _ _ (sym (is.rings variable within) ∙ at)) (first_ring s plan.sizes variable _ (get_or-map init plan.unit.variables variable _ (pos 0) within)));
      queued = is.queued ∙ sizes.queues.count;
      queues = λ stream queue at. (let within : stream < length plan.sizes.queues = omega (arith, slice_get_within shared.queues.items stream queue at, is.queued) in
          let size = get_or plan.sizes.queues stream 0 in
          let first : QueueStands s plan.sizes 0 stream (record { size = size; messages = [] }) = record {
            room = (let same : size ≡ size + 0 = omega arith in same);
            messages = refl;
          } in
          subst (QueueStands s plan.sizes 0 stream) (same_Some _ _ (sym (is.queues stream within) ∙ at)) first);
      boxed = is.boxed ∙ sizes.outboxes.count;
      outboxes = λ agent outbox at. (let within : agent < length plan.sizes.outboxes = omega (arith, slice_get_within shared.outboxes.items agent outbox at, is.boxed) in
          let size = get_or plan.sizes.outboxes agent 0 in
          let first : OutboxStands plan.sizes (0 - 1) [] agent [] (record { size = size; sends = [] }) = record {
            size = refl;
            sends = refl;
          } in
          subst (OutboxStands plan.sizes (0 - 1) [] agent []) (same_Some _ _ (sym (is.outboxes agent within) ∙ at)) first);
      taking = is.taking;
      taken = λ stream n at. sym (get_or_from_slice_get shared.taken.items stream n n at) ∙ is.taken stream n (slice_get_within shared.taken.items stream n at);
      calendar = is.calendar;
      movers = first_movers s shared.seats.items shared.movers (λ agent seat at. subst (λ x. x.phase ≡ phase.Waiting) (get_or_from_slice_get shared.seats.items agent seat seat at) (All-get_or (λ x. x.phase ≡ phase.Waiting) shared.seats.items agent seat (slice_get_within shared.seats.items agent seat at) is.waiting)) is.movers;
    }
