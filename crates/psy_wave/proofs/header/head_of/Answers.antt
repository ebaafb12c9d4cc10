-- What is left of the proof of `header::head_of`.
use Rattle.std.proofs.Common.{[]}
use Rattle.psy_wave.specs.Heads.{definitions, first_values}
use Rattle.psy_wave.proofs.Pieces.{two}
use Rattle.psy_wave.proofs.header.head_of.Goals as goal

pub returns : goal.returns
returns c =
    let listed = c.args.listed.now in
    two [] c.add_definitions.new.out.items c.add_first_values.new.out.items (definitions listed.variables listed.streams listed.agents)
    (first_values listed.variables listed.streams listed.agents) (rw c.new-text.ensures.items at c.in_ok-add_definitions.ensures) c.in_ok-add_first_values.ensures
