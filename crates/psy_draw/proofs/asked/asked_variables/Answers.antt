-- What is left of the proof of `asked::asked_variables`.
use Rattle.std.proofs.Common.{map}
use Rattle.std.specs.Prelude.{string_bytes}
use Rattle.psy_draw.specs.Gathering.{asks_variable}
use Rattle.psy_draw.proofs.SummaryNames.{lists_more}
use Rattle.psy_draw.proofs.asked.asked_variables.Goals as goal

pub loop-note-preserved : goal.loop-note-preserved
loop-note-preserved c =
    lists_more (asks_variable (map string_bytes c.args.names.now)) c.args.summary.now c.loop-note.note-index _ c.loop-note.variables c.add_variable.new.variables c.loop-note-test.true
    c.loop-note.invariant c.in_ok-add_variable.ensures
