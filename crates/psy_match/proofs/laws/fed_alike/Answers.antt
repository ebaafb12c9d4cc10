-- What is left of the proof of `laws::fed_alike`.
use Rattle.psy_match.specs.Feeding.{variable_names}
use Rattle.psy_match.proofs.FedNotes.{all_known, same_last, same_unasked, same_undated, same_unlisted}
use Rattle.psy_match.proofs.laws.fed_alike.Goals as goal

pub returns-clause-summary : goal.returns-clause-summary
returns-clause-summary c = λ unit lists notes more fed. same_undated (variable_names unit) notes more fed.alone

pub returns-clause-last : goal.returns-clause-last
returns-clause-last c = same_last

pub returns-clause-unlisted : goal.returns-clause-unlisted
returns-clause-unlisted c = λ unit lists notes more own fed. same_unlisted unit notes more own fed.alone

pub returns-clause-unasked : goal.returns-clause-unasked
returns-clause-unasked c = λ unit lists notes more names fed. same_unasked (variable_names unit) notes more fed.alone names

pub returns-clause-known : goal.returns-clause-known
returns-clause-known c = λ unit lists notes more agents fed. all_known (variable_names unit) agents more fed.alone
