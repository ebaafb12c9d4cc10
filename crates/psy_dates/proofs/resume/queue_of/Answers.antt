-- What is left of the proof of `resume::queue_of`.
use Rattle.std.proofs.Common.{◌≡◌, get_or, ap, ◌∙◌}
use Rattle.std.specs.Prelude.{pos}
use Rattle.psy_base.specs.declared.message.Message.{Message}
use Rattle.psy_queue.specs.Order.{Queued, put_in_order}
use Rattle.psy_dates.proofs.Filled.{put_next}
use Rattle.psy_dates.proofs.resume.queue_of.Goals as goal

abbrev none : Message
none = record { visible = 0; entry = 0; sender = 0; number = 0; expiry = 0; value = pos 0 }

pub messages-preserved : goal.messages-preserved
messages-preserved c =
    let m = get_or c.args.messages.now c.messages.place none in
    let made : c.enter.new.self ≡ record c.messages.queue { messages = put_in_order m c.messages.queue.messages } = c.enter.ensures in
    record {
      size = ap (λ (q : Queued). q.size) made ∙ c.messages.invariant.size;
      holds = ap (λ (q : Queued). q.messages) made ∙ ap (put_in_order m) c.messages.invariant.holds ∙ put_next c.args.messages.now c.messages.place none c.requires.rise c.messages-test.true;
    }
