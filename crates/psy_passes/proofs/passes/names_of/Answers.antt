-- What is left of the proof of `passes::names_of`.
use Rattle.psy_passes.proofs.Twice.{names_found_in}
use Rattle.psy_passes.proofs.passes.names_of.Goals as goal

pub returns : goal.returns
returns c =
    names_found_in c.args.tail.now c.in_ok-notes.notes.items c.as_slice.result.now c.of.result c.in_ok-notes.ensures c.as_slice.ensures.value
    c.of.ensures.agents c.of.ensures.variables c.of.ensures.streams
