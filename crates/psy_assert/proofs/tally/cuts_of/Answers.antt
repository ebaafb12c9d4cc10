-- What is left of the proof of `tally::cuts_of`.
use Rattle.psy_assert.specs.contracts.cut.CutOrd.TheImpl.Laws.{matches_eq-law}
use Rattle.psy_assert.proofs.Ranks.{deduped}
use Rattle.psy_assert.proofs.tally.cuts_of.Goals as goal

pub returns : goal.returns
returns c = deduped _ matches_eq-law c.sort_unstable.new.self.items c.dedup.new.self.items c.sort_unstable.ensures.sorted c.dedup.ensures.filtered
