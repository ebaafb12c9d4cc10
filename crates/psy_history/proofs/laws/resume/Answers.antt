-- What is left of the proof of `laws::resume`.
use Rattle.std.proofs.Common.{◌≡◌, ℕ, List, [], arith}
use Rattle.psy_code.specs.declared.code.Code.{Code}
use Rattle.psy_meaning.specs.KnownWays.{Ways}
use Rattle.psy_history.specs.Actions.{System}
use Rattle.psy_history.specs.History.{history}
use Rattle.psy_history.specs.Resuming.{MayResume, resumed_at}
use Rattle.psy_history.specs.Runs.{IsRun}
use Rattle.psy_history.proofs.ClockDates.{AreCounted}
use Rattle.psy_history.proofs.OldActions.{old_due, old_ended}
use Rattle.psy_history.proofs.ResumedFigures.{counts_on, reaches_on, slacks_on}
use Rattle.psy_history.proofs.ResumedHistories.{actions_on}
use Rattle.psy_history.proofs.ResumedLines.{events_resumed}
use Rattle.psy_history.proofs.ResumedQueues.{most_resumed, queue_resumed}
use Rattle.psy_history.proofs.RunStreams.{has_streams}
use Rattle.psy_history.proofs.SentMessages.{AreClockLaws, HasStreams}
use Rattle.psy_history.proofs.laws.resume.Goals as goal

counted : (c : goal.After-given) → AreCounted
counted c = record { upto = c.dates.ensures.count; below = c.dates.ensures.below }

of_clocks : (c : goal.After-given) → AreClockLaws
of_clocks c = record { late = c.distances.ensures.late; from_late = c.distances.ensures.from_late }

streams_of : (c : goal.After-given) (s : System) (ways : Ways) (code : Code) → IsRun s ways code → HasStreams s
streams_of c s ways code run = has_streams s ways code run (c.regular.ensures.lawful s ways code run)

-- The history that is taken up again is one of a run too,
resumed_run : (c : goal.After-given) (s : System) (ways : Ways) (code : Code) (sizes : List ℕ) (order : ℕ → List ℕ) (date : ℕ) → MayResume s ways code sizes order date
    → IsRun (resumed_at s sizes order date) ways code
resumed_run c s ways code sizes order date may = c.openings.ensures.run s (resumed_at s sizes order date).opening ways code may.run may.sound

-- so it has what is asked of streams,
resumed_streams : (c : goal.After-given) (s : System) (ways : Ways) (code : Code) (sizes : List ℕ) (order : ℕ → List ℕ) (date : ℕ) → MayResume s ways code sizes order date
    → HasStreams (resumed_at s sizes order date)
resumed_streams c s ways code sizes order date may = streams_of c (resumed_at s sizes order date) ways code (resumed_run c s ways code sizes order date may)

-- and none of its actions starts before the date.
none_before : (c : goal.After-given) (s : System) (ways : Ways) (code : Code) (sizes : List ℕ) (order : ℕ → List ℕ) (date : ℕ) → MayResume s ways code sizes order date
    → (agent : ℕ) → history (resumed_at s sizes order date) date agent ≡ []
none_before c s ways code sizes order date may agent =
    c.openings.ensures.none (resumed_at s sizes order date) ways code (resumed_run c s ways code sizes order date may) date agent (omega arith)

pub returns-clause-actions : goal.returns-clause-actions
returns-clause-actions c s ways code sizes order date may later agent late =
    let streams = streams_of c s ways code may.run in
    actions_on s streams (of_clocks c) (counted c) ways sizes order date may.rings may.behind (old_ended s streams.lawful date may.quiet)
    (resumed_streams c s ways code sizes order date may) (none_before c s ways code sizes order date may) later late agent

pub returns-clause-lines : goal.returns-clause-lines
returns-clause-lines c s ways code sizes order date may at late =
    let streams = streams_of c s ways code may.run in
    events_resumed s streams (of_clocks c) sizes order date may.behind (old_due s streams.lawful date may.quiet) (old_ended s streams.lawful date may.quiet)
    (resumed_streams c s ways code sizes order date may) (returns-clause-actions c s ways code sizes order date may) at late

pub returns-clause-queues : goal.returns-clause-queues
returns-clause-queues c s ways code sizes order date may at stream late =
    let streams = streams_of c s ways code may.run in
    queue_resumed s streams (of_clocks c) sizes order date may.behind (old_due s streams.lawful date may.quiet) (old_ended s streams.lawful date may.quiet)
    (resumed_streams c s ways code sizes order date may) (returns-clause-actions c s ways code sizes order date may) stream at late

pub returns-clause-helds : goal.returns-clause-helds
returns-clause-helds c s ways code sizes order date may until stream late =
    let streams = streams_of c s ways code may.run in
    most_resumed s streams (of_clocks c) sizes order date may.behind (old_due s streams.lawful date may.quiet) (old_ended s streams.lawful date may.quiet)
    (resumed_streams c s ways code sizes order date may) (returns-clause-actions c s ways code sizes order date may) stream until late

pub returns-clause-counts : goal.returns-clause-counts
returns-clause-counts c s ways code sizes order date may later until agent since late =
    let lawful = c.regular.ensures.lawful s ways code may.run in
    counts_on s lawful sizes order date may.quantum may.finished (old_due s lawful date may.quiet) (returns-clause-actions c s ways code sizes order date may)
    (none_before c s ways code sizes order date may) later until agent since late

pub returns-clause-slacks : goal.returns-clause-slacks
returns-clause-slacks c s ways code sizes order date may later until cycles agent since late far =
    let lawful = c.regular.ensures.lawful s ways code may.run in
    slacks_on s lawful sizes order date may.quantum may.finished (old_due s lawful date may.quiet) (returns-clause-actions c s ways code sizes order date may)
    (none_before c s ways code sizes order date may) cycles far later until agent since late

pub returns-clause-reaches : goal.returns-clause-reaches
returns-clause-reaches c s ways code sizes order date may later cycles variable since far =
    let lawful = c.regular.ensures.lawful s ways code may.run in
    reaches_on s lawful sizes order date may.quantum may.finished (old_due s lawful date may.quiet) (returns-clause-actions c s ways code sizes order date may)
    (none_before c s ways code sizes order date may) cycles far later variable since
