-- What is left of the proof of `shared::Shared::behind`.
use Rattle.std.proofs.Common.{◌≡◌, ℕ, suc, ◌+◌, ◌<◌, ◌≤◌, true, [], All, length, get_or, Some, refl, sym, ap, subst, ◌∙◌, arith}
use Rattle.std.specs.Prelude.{map, slice_get, ◌≢◌}
use Rattle.std.specs.List.{AllPairs}
use Rattle.std.proofs.lemmas.List.{length-map}
use Rattle.std.proofs.lemmas.Option.{same_Some, slice_get_within}
use Rattle.psy_base.specs.declared.limits.TheConstants.{QUEUE, RING}
use Rattle.psy_meaning.specs.KnownWays.{Listed}
use Rattle.psy_queue.specs.Order.{comes_before}
use Rattle.psy_tree.specs.declared.unit.VarDecl.{VarDecl}
use Rattle.psy_dates.specs.Beginnings.{behind}
use Rattle.psy_dates.specs.Calendars.{AreNext}
use Rattle.psy_dates.specs.declared.opening.StreamOpening.{StreamOpening}
use Rattle.psy_dates.specs.declared.opening.VarOpening.{VarOpening}
use Rattle.psy_dates.specs.declared.seat.Phase.TheVariants as phase
use Rattle.psy_dates.specs.declared.seat.Seat.{Seat}
use Rattle.psy_dates.specs.Movers.{NamesAll}
use Rattle.psy_dates.specs.Outboxes.{Outboxed}
use Rattle.psy_dates.specs.Plans.{opened_of}
use Rattle.psy_dates.proofs.lemmas.Fits.{goes_well_from, ring_size}
use Rattle.psy_dates.proofs.Resumed.{behind_stands, queues_few, queues_rise, rings_fit}
use Rattle.psy_dates.proofs.shared.Shared.behind.Goals as goal

pub rings_of-requires : goal.rings_of-requires
rings_of-requires c =
    let (stalls, sound) = c.requires.sound in
    subst (All (λ (v : VarOpening). (1 ≤ length v.values) × (length v.values ≤ RING))) (sym c.as_slice-3.ensures)
    (rings_fit c.args.plan.now c.requires.plan c.args.opening.now (record { agents = c.requires.agents; variables = c.requires.variables; streams = c.requires.streams }) c.args.inputs.lists stalls sound)

pub queues_of-requires-clause-few : goal.queues_of-requires-clause-few
queues_of-requires-clause-few c =
    let (stalls, sound) = c.requires.sound in
    subst (All (λ (m : StreamOpening). length m.messages ≤ QUEUE)) (sym c.as_slice-5.ensures)
    (queues_few c.args.plan.now c.requires.plan c.args.opening.now (record { agents = c.requires.agents; variables = c.requires.variables; streams = c.requires.streams }) c.args.inputs.lists stalls sound)

pub queues_of-requires-clause-rise : goal.queues_of-requires-clause-rise
queues_of-requires-clause-rise c =
    let (stalls, sound) = c.requires.sound in
    subst (All (λ (s : StreamOpening). AllPairs (λ m n. comes_before m n ≡ true) s.messages)) (sym c.as_slice-5.ensures)
    (queues_rise c.args.plan.now c.requires.plan c.args.opening.now (record { agents = c.requires.agents; variables = c.requires.variables; streams = c.requires.streams }) c.args.inputs.lists stalls sound)

pub returns-clause-stands : goal.returns-clause-stands
returns-clause-stands c stalls turns sound idle =
    let plan = c.args.plan.now in
    let is = c.requires.plan in
    let opening = c.args.opening.now in
    let inputs = c.args.inputs.lists in
    let s = opened_of plan (behind plan opening) inputs stalls in
    let ways = Listed is.ways in
    let run = goes_well_from plan is c.fitting.ensures c.openings.ensures.run (behind plan opening) inputs stalls c.requires.inputs sound in
    behind_stands plan is opening (record { agents = c.requires.agents; variables = c.requires.variables; streams = c.requires.streams }) inputs stalls sound (record {
      lawful = c.regular.ensures.lawful s ways plan.code run;
      none = λ agent. c.openings.ensures.none s ways plan.code run opening.date agent (omega arith);
      silent = λ agent quiet. c.openings.ensures.silent s ways plan.code run (suc opening.date) agent quiet;
      rings = λ variable less. c.openings.ensures.rings s ways plan.code run variable (get_or plan.sizes.rings variable 0) (omega arith) less (ring_size plan is variable less);
      queues = λ stream less. c.openings.ensures.queues s ways plan.code run stream less;
    }) turns idle _ (record {
      date = refl;
      seated = c.in_ok-seats.ensures.count ∙ ap length c.as_slice-2.ensures ∙ c.requires.agents;
      seats = λ agent known at. c.in_ok-seats.ensures.seats agent known (ap (λ xs. slice_get xs agent) c.as_slice-2.ensures ∙ at);
      valued = c.in_ok-values_of.ensures.count;
      committed = c.in_ok-values_of.ensures.committed;
      kept = ap length (c.in_ok-first_values.ensures ∙ ap (map (λ (v : VarDecl). v.init)) c.as_slice-7.ensures) ∙ length-map plan.unit.variables (λ (v : VarDecl). v.init);
      ringed = c.in_ok-rings_of.ensures.count ∙ ap length c.as_slice-3.ensures ∙ c.requires.variables;
      rings = λ variable known at. c.in_ok-rings_of.ensures.values variable known (ap (λ xs. slice_get xs variable) c.as_slice-3.ensures ∙ at);
      queued = c.in_ok-queues_of.ensures.count ∙ ap length c.as_slice-5.ensures ∙ c.requires.streams;
      queues = λ stream known at.
          c.in_ok-queues_of.ensures.messages stream known (ap (λ xs. slice_get xs stream) c.as_slice-5.ensures ∙ at)
          ∙ ap (λ xs. Some (record { size = get_or xs stream 0 + length known.messages; messages = known.messages })) c.as_slice-4.ensures;
      boxed = c.in_ok-first_outboxes.ensures.count ∙ ap length c.as_slice-6.ensures;
      outboxes = λ agent l. c.in_ok-first_outboxes.ensures.empty agent (subst (λ xs. agent < length xs) (sym c.as_slice-6.ensures) l) ∙ ap (λ xs. Some (record { size = get_or xs agent 0; sends = [] })) c.as_slice-6.ensures;
      taking = c.in_ok-first_takes.ensures.0 ∙ c.len.ensures;
      taken = c.in_ok-first_takes.ensures.1;
      calendar = record {
        count = c.in_ok-calendar.ensures.count ∙ ap length c.as_slice.ensures;
        nexts = subst (λ clocks. AreNext clocks (opening.date + 1) c.in_ok-calendar.calendar) c.as_slice.ensures c.in_ok-calendar.ensures.nexts;
      };
      room = c.in_ok-movers.ensures.room ∙ ap length c.deref.ensures.value;
      names = λ test. subst (λ seats. NamesAll test (length seats) 0 c.in_ok-movers.movers.moved.agents) c.deref.ensures.value (c.in_ok-movers.ensures.names test);
      least = c.in_ok-movers.ensures.least;
      stopped = λ e. subst (λ seats. (agent : ℕ) (seat : Seat) → slice_get seats agent ≡ Some seat → seat.phase ≢ phase.Silent) c.deref.ensures.value (c.in_ok-movers.ensures.stopped e);
    })

pub returns-clause-unsent : goal.returns-clause-unsent
returns-clause-unsent c agent outbox at =
    let within : agent < length c.as_slice-6.result.now = omega (arith, slice_get_within c.in_ok-first_outboxes.field-0.items agent outbox at, c.in_ok-first_outboxes.ensures.count) in
    ap (λ (box : Outboxed). box.sends) (same_Some _ _ (sym at ∙ c.in_ok-first_outboxes.ensures.empty agent within))
