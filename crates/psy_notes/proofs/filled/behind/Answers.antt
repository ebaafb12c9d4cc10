-- What is left of the proof of `filled::behind`.
use Rattle.std.proofs.Common.{rules}
use Rattle.std.proofs.lemmas.Slice.Eq.{strip_prefix_is}
use Rattle.std.proofs.lemmas.Bool.Decides.{Decides-eqb}
use Rattle.psy_notes.proofs.filled.behind.Goals as goal

pub returns : goal.returns
returns c = let h = c.strip_prefix.ensures in search (rules, strip_prefix_is Decides-eqb)
