-- What is left of the proof of `laws::one_reading`.
use Rattle.psy_token.proofs.Texts.{TokensOf-once, FirstFault-once, not_both}
use Rattle.psy_token.proofs.Total.{tokens_or_fault}
use Rattle.psy_token.proofs.laws.one_reading.Goals as goal

pub returns-clause-tokens : goal.returns-clause-tokens
returns-clause-tokens c = TokensOf-once

pub returns-clause-fault : goal.returns-clause-fault
returns-clause-fault c = FirstFault-once

pub returns-clause-not_both : goal.returns-clause-not_both
returns-clause-not_both c = not_both

pub returns-clause-either : goal.returns-clause-either
returns-clause-either c = tokens_or_fault
