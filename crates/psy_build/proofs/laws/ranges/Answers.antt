-- What is left of the proof of `laws::ranges`.
use Rattle.psy_build.proofs.Programs.{ranges}
use Rattle.psy_build.proofs.laws.ranges.Goals as goal

pub returns : goal.returns
returns c = ranges c.programs.ensures c.sound.ensures.unit c.of_text.ensures.size c.alike.ensures c.names.ensures
