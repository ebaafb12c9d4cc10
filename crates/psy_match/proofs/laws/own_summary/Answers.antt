-- What is left of the proof of `laws::own_summary`.
use Rattle.psy_match.proofs.Summaries.{by_summary}
use Rattle.psy_match.proofs.laws.own_summary.Goals as goal

pub returns : goal.returns
returns c = by_summary
