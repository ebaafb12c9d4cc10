-- What is left of the proof of `laws::lasting`.
use Rattle.psy_code.proofs.Homes.{ended}
use Rattle.psy_code.proofs.Lasting.{lasted}
use Rattle.psy_code.proofs.laws.lasting.Goals as goal

pub returns-clause-lasted : goal.returns-clause-lasted
returns-clause-lasted c code agent s t n = lasted code agent n s t

pub returns-clause-ended : goal.returns-clause-ended
returns-clause-ended c code agent s t n point = ended code agent n point s t
