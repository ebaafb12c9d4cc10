-- What is left of the proof of `laws::found_unlisted`.
use Rattle.psy_passes.proofs.SummaryNames.{unlisted_found}
use Rattle.psy_passes.proofs.laws.found_unlisted.Goals as goal

pub returns : goal.returns
returns c = unlisted_found
