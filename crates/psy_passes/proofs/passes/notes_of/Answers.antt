-- What is left of the proof of `passes::notes_of`.
use Rattle.std.proofs.Common.{ap, Err}
use Rattle.psy_passes.proofs.Twice.{ends_as, tail_in_form}
use Rattle.psy_passes.proofs.passes.notes_of.Goals as goal

pub unreachable-requires : goal.unreachable-requires
unreachable-requires c =
    tail_in_form c.one_reading.ensures.not_both c.args.tail.now c.in-Err-Line.field-0-0 c.requires
    (c.in-Err-Line.ensures.line c.in-Err-Line.field-0-0 (ap Err c.in-Err-Line.field-0-is))

pub returns-in-Ok : goal.returns-in-Ok
returns-in-Ok c = ends_as c.one_front.ensures c.args.tail.now c.in-Ok.notes.items c.in-Ok.ensures.notes
