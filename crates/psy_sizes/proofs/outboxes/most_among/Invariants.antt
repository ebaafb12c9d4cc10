-- What each loop of `outboxes::most_among` keeps.
use Rattle.std.proofs.Common.{take}
use Rattle.psy_base.specs.Extremes.{IsMost}
use Rattle.psy_meaning.specs.KnownWays.{Listed}
use Rattle.psy_sizes.specs.Sending.{HasSendsAmong}
use Rattle.psy_sizes.proofs.outboxes.most_among.Given as goal

abbrev pub invariant-nexts : goal.invariant-nexts
invariant-nexts l = IsMost (HasSendsAmong (Listed l.ways) l.agent l.streams l.from (take l.to-index l.nexts)) l.greatest
