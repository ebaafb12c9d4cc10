-- What is left of the proof of `spelling::put_streams`.
use Rattle.psy_base.specs.declared.limits.TheConstants.{FILE_BYTES}
use Rattle.psy_snap.specs.Bytes.{stream_bytes}
use Rattle.psy_snap.proofs.Written.{flat_passes}
use Rattle.psy_snap.proofs.spelling.put_streams.Goals as goal

pub returns-in-Err-clause-large : goal.returns-in-Err-clause-large
returns-in-Err-clause-large c = λ e.
    flat_passes stream_bytes c.args.streams.now c.streams.stream-index c.stream-item.result c.args.out.now c.streams.out FILE_BYTES c.streams-test.true (c.stream-item.is) c.streams.invariant (c.in-Err.ensures.large e)
