-- What is left of the proof of `asked::asked_streams`.
use Rattle.std.proofs.Common.{map}
use Rattle.std.specs.Prelude.{string_bytes}
use Rattle.psy_draw.specs.Gathering.{asks_stream}
use Rattle.psy_draw.proofs.SummaryNames.{lists_more}
use Rattle.psy_draw.proofs.asked.asked_streams.Goals as goal

pub loop-note-preserved : goal.loop-note-preserved
loop-note-preserved c =
    lists_more (asks_stream (map string_bytes c.args.names.now)) c.args.summary.now c.loop-note.note-index _ c.loop-note.streams c.add_stream.new.streams c.loop-note-test.true
    c.loop-note.invariant c.in_ok-add_stream.ensures
