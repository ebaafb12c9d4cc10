-- What is left of the proof of `engine::freeze::streams_left`.
use Rattle.std.proofs.Common.{◌≡◌, [], ap, sym, ◌∙◌, get_or}
use Rattle.psy_dates.specs.declared.opening.StreamOpening.{StreamOpening}
use Rattle.psy_queue.specs.Order.{Queued}
use Rattle.psy_kernel.specs.Freezing.{stream_left}
use Rattle.psy_kernel.proofs.Pushed.{made_next, read_any}
use Rattle.psy_kernel.proofs.engine.freeze.streams_left.Goals as goal

pub streams-preserved : goal.streams-preserved
streams-preserved c =
    let n = c.streams.stream in
    let queues = c.args.queues.now in
    let none : Queued = record { size = 0; messages = [] } in
    let held = get_or c.args.helds.now n 0 in
    let item : StreamOpening = record { held = held; messages = c.in_ok-messages_left.field-0 } in
    let queue = read_any queues n c.index-queues-stream.result none c.streams-test.true c.index-queues-stream.is in
    let is : item ≡ stream_left queues c.args.helds.now n =
    ap (λ messages. record { held = held; messages = messages }) (c.in_ok-messages_left.ensures ∙ ap (λ (q : Queued). q.messages) (sym queue)) in
    made_next (stream_left queues c.args.helds.now) c.streams.streams c.push.new.self n item c.in_ok-push.ensures.ok c.streams.invariant is
