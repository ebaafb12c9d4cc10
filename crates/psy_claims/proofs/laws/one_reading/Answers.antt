-- What is left of the proof of `laws::one_reading`.
use Rattle.std.proofs.Common.{sym, ◌∙◌}
use Rattle.psy_claims.specs.Grammar.{date_words}
use Rattle.psy_claims.proofs.OneClaim.{one_claim}
use Rattle.psy_claims.proofs.laws.one_reading.Goals as goal

pub returns : goal.returns
returns c words a b is also = one_claim a.claim b.claim (date_words a.span) (date_words b.span) (sym is.are ∙ also.are)
