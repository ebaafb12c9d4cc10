-- What is left of the proof of `encoding::put_streams`.
use Rattle.psy_image.specs.Bytes.{stream_bytes}
use Rattle.psy_image.proofs.Written.{flat_more}
use Rattle.psy_image.proofs.encoding.put_streams.Goals as goal

pub streams-preserved : goal.streams-preserved
streams-preserved c = flat_more stream_bytes c.args.streams.now c.streams.stream-index c.stream-item.result _ _ _ c.streams-test.true c.stream-item.is c.in_ok-put_stream.ensures c.streams.invariant
