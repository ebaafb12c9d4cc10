-- What is left of the proof of `engine::freeze::messages_left`.
use Rattle.psy_kernel.proofs.Pushed.{taken_next}
use Rattle.psy_kernel.proofs.engine.freeze.messages_left.Goals as goal

pub messages-preserved : goal.messages-preserved
messages-preserved c =
    taken_next c.args.queue.now.messages c.messages.messages c.push.new.self c.messages.place c.message.result c.in_ok-push.ensures.ok c.messages.invariant c.message.ensures
