-- What is left of the proof of `agents::agent_of`.
use Rattle.std.proofs.Common.{refl}
use Rattle.psy_gen.proofs.Small.{cells_small}
use Rattle.psy_gen.proofs.Wholes.{cells_is}
use Rattle.psy_gen.proofs.agents.agent_of.Goals as goal

pub returns-clause-entry : goal.returns-clause-entry
returns-clause-entry c =
    let a = c.args.agent.now in
    let stack = c.limits_of-limits.ensures.stack a c.requires.own in
    let frames = c.limits_of-limits.ensures.frames a c.requires.own in
    rw (c.in_ok-body.ensures.places, c.in_ok-body.ensures.loops, c.in_ok-first_cells.ensures, c.as_slice.ensures, cells_is, c.in_ok-copies_of.ensures, c.as_slice-2.ensures, stack, frames) refl

pub emit_agent-requires-clause-cells : goal.emit_agent-requires-clause-cells
emit_agent-requires-clause-cells c = cells_small c.args.unit.now c.args.number c.args.agent.now c.requires.text c.requires.own
