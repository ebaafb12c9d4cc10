-- What is left of the proof of `laws::worked`.
use Rattle.psy_verify.proofs.Worked.{agrees, beyond, counts, differs, ends_at_head, ends_nowhere, grows, idles, leaves, returns, shares, too_far, weighs}
use Rattle.psy_verify.proofs.laws.worked.Goals as goal

pub returns-clause-counting : goal.returns-clause-counting
returns-clause-counting c = counts

pub returns-clause-leaving : goal.returns-clause-leaving
returns-clause-leaving c = leaves

pub returns-clause-shared : goal.returns-clause-shared
returns-clause-shared c = shares

pub returns-clause-heavy : goal.returns-clause-heavy
returns-clause-heavy c = weighs

pub returns-clause-uneven : goal.returns-clause-uneven
returns-clause-uneven c = differs

pub returns-clause-even : goal.returns-clause-even
returns-clause-even c = agrees

pub returns-clause-growing : goal.returns-clause-growing
returns-clause-growing c = grows

pub returns-clause-beyond : goal.returns-clause-beyond
returns-clause-beyond c = beyond

pub returns-clause-too_far : goal.returns-clause-too_far
returns-clause-too_far c = too_far

pub returns-clause-head : goal.returns-clause-head
returns-clause-head c = ends_at_head

pub returns-clause-nowhere : goal.returns-clause-nowhere
returns-clause-nowhere c = ends_nowhere

pub returns-clause-idle : goal.returns-clause-idle
returns-clause-idle c = idles

pub returns-clause-returning : goal.returns-clause-returning
returns-clause-returning c = returns
