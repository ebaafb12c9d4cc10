-- What is left of the proof of `building::build`.
use Rattle.psy_build.proofs.Built.{is_large}
use Rattle.psy_build.proofs.building.build.Goals as goal

pub generate-requires : goal.generate-requires
generate-requires c = let (bytes, few, program) = c.requires.program in record { text = c.programs.ensures bytes c.args.unit.now few program }

pub returns-clause-large : goal.returns-clause-large
returns-clause-large c =
    let (bytes, few, program) = c.requires.program in
    is_large c.args.unit.now c.in_ok-code.code c.encode.result c.in_ok-code.ensures.code (c.ranges-2.ensures bytes c.args.unit.now few program) c.encode.ensures.exact
