-- What each loop of `outboxes::outbox` keeps.
use Rattle.std.proofs.Common.{[], get_or}
use Rattle.psy_base.specs.Extremes.{IsMost}
use Rattle.psy_meaning.specs.KnownWays.{Listed}
use Rattle.psy_sizes.specs.Sending.{HasSendsBefore}
use Rattle.psy_sizes.proofs.outboxes.outbox.Given as goal

abbrev pub invariant-points : goal.invariant-points
invariant-points l = IsMost (HasSendsBefore (Listed l.ways) l.agent l.streams (get_or l.ways.nexts l.agent []) l.point) l.greatest
