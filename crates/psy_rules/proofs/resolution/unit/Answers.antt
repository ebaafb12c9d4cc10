-- What is left of the proof of `resolution::unit`.
use Rattle.psy_rules.proofs.Wholes.{unit_of-parts}
use Rattle.psy_rules.proofs.resolution.unit.Goals as goal

pub returns : goal.returns
returns c =
    unit_of-parts c.args.raw.now c.args.program.now.items.now c.args.known.now _ _ _ _ _ _
    c.requires.items c.requires.clocks c.in_ok-clocks.ensures c.in_ok-clock_names.ensures c.in_ok-variables.ensures c.in_ok-streams.ensures c.in_ok-functions.ensures c.in_ok-agents.ensures
