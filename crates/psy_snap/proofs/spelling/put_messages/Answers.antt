-- What is left of the proof of `spelling::put_messages`.
use Rattle.psy_base.specs.declared.limits.TheConstants.{FILE_BYTES}
use Rattle.psy_snap.specs.Bytes.{message_bytes}
use Rattle.psy_snap.proofs.Written.{flat_passes_at}
use Rattle.psy_snap.proofs.spelling.put_messages.Goals as goal

pub returns-in-Err-clause-large : goal.returns-in-Err-clause-large
returns-in-Err-clause-large c = λ e. flat_passes_at message_bytes c.args.messages.now c.messages.message-index _ c.args.out.now c.messages.out FILE_BYTES c.messages-test.true c.messages.invariant (c.in-Err.ensures.large e)
