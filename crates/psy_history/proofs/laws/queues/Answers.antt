-- What is left of the proof of `laws::queues`.
use Rattle.psy_code.specs.declared.code.Code.{Code}
use Rattle.psy_history.specs.Actions.{System}
use Rattle.psy_history.specs.Runs.{IsRun}
use Rattle.psy_meaning.specs.KnownWays.{Ways}
use Rattle.psy_history.proofs.QueueLooks.{ended_is, look_is, shows_is}
use Rattle.psy_history.proofs.QueueSteps.{next_is}
use Rattle.psy_history.proofs.RunStreams.{has_streams}
use Rattle.psy_history.proofs.SentMessages.{AreClockLaws, HasStreams}
use Rattle.psy_history.proofs.laws.queues.Goals as goal

of_clocks : (c : goal.After-regular) → AreClockLaws
of_clocks c = record { late = c.distances.ensures.late; from_late = c.distances.ensures.from_late }

streams_of : (c : goal.After-regular) (s : System) (ways : Ways) (code : Code) → IsRun s ways code → HasStreams s
streams_of c s ways code run = has_streams s ways code run (c.regular.ensures.lawful s ways code run)

pub returns-clause-next : goal.returns-clause-next
returns-clause-next c s ways code run date stream later less = next_is s (streams_of c s ways code run) (of_clocks c) stream date later

pub returns-clause-look : goal.returns-clause-look
returns-clause-look c s ways code run = look_is s (streams_of c s ways code run) (of_clocks c)

pub returns-clause-ended : goal.returns-clause-ended
returns-clause-ended c s ways code run = ended_is s (streams_of c s ways code run) (of_clocks c)

pub returns-clause-shows : goal.returns-clause-shows
returns-clause-shows c s ways code run date stream less = shows_is s (streams_of c s ways code run) (of_clocks c) date stream
