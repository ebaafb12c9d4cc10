-- What is left of the proof of `laws::greatest`.
use Rattle.psy_window.specs.Windows.{Fits}
use Rattle.psy_window.proofs.Existence.{greatest_some, greatest_one}
use Rattle.psy_window.proofs.laws.greatest.Goals as goal

pub returns-clause-some : goal.returns-clause-some
returns-clause-some c = greatest_some

pub returns-clause-one : goal.returns-clause-one
returns-clause-one c graph span within n m is is' = greatest_one graph (Fits span within) n m is is'
