-- What is left of the proof of `laws::formats`.
use Rattle.psy_image.proofs.Both.{read_bad, read_is}
use Rattle.psy_image.proofs.laws.formats.Goals as goal

pub returns-clause-read : goal.returns-clause-read
returns-clause-read g c = read_is

pub returns-clause-bad : goal.returns-clause-bad
returns-clause-bad g c = read_bad
