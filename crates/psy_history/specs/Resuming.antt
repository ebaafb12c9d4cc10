-- A run that is saved at a date at which no action is under way, and taken up again behind it (OASIS: all that an action depends on is visible at its
-- start date).
use Rattle.std.specs.Prelude.{◌≡◌, ℕ, suc, ◌*◌, ◌<◌, ◌≤◌, ◌^◌, Bool, false, not, ◌&&◌, nat_lt, List, [], ◌∷◌, get_or, length, Option, Some, None, ℤ}
use Rattle.std.specs.List.{All}
use Rattle.psy_base.specs.declared.limits.TheConstants.{QUEUE, UNTIL}
use Rattle.psy_code.specs.declared.code.Code.{Code}
use Rattle.psy_history.specs.Actions.{Action, Opening, System, is_silent, next_of, plain, rests, variable_of}
use Rattle.psy_history.specs.Executors.{copy_in}
use Rattle.psy_history.specs.History.{history}
use Rattle.psy_history.specs.Openings.{IsSound}
use Rattle.psy_history.specs.Queues.{queue_of}
use Rattle.psy_history.specs.Rings.{ring_of}
use Rattle.psy_history.specs.Runs.{IsRun}
use Rattle.psy_history.specs.Schedule.{Turn}
use Rattle.psy_history.specs.Scheduled.{IsFinished, IsSupplied, turns_by}
use Rattle.psy_history.specs.Summary.{due_by, due_count, least_slack, most_held, reach}
use Rattle.psy_history.specs.Visible.{committed_in}
use Rattle.psy_meaning.specs.KnownWays.{Ways}
use Rattle.psy_meaning.specs.QueueSizes.{IsQueueSize}
use Rattle.psy_meaning.specs.RingSizes.{AreRings}

-- ---- quiet dates

-- The last of an agent's actions is under way at a date: it began before it, and the agent isn't silent.
abbrev pub is_busy : ℕ → List Action → Bool
is_busy date [] = false
is_busy date (r ∷ before) = nat_lt r.start date && not (is_silent date (r ∷ before))

-- Each agent that isn't silent at a date starts an action at it, or hasn't begun.
abbrev pub IsQuiet : System → ℕ → Type 0
IsQuiet s date = (agent : ℕ) → is_busy date (history s (suc date) agent) ≡ false

-- ---- what a run leaves

-- The value of a variable that was committed last by a date: an input keeps its first one.
abbrev pub committed_at : System → ℕ → ℕ → Option ℕ → ℤ
committed_at s date variable None = s.opening.committed variable
committed_at s date variable (Some owner) = committed_in s variable date (history s date owner)

-- The opening of a history at a date, where its rings have these sizes, and by agent the cycles before the date went to these turns. Agents are told by
-- the actions that started before the date: so one that starts there begins again with that action.
abbrev pub opening_at : System → List ℕ → (ℕ → List (Option Turn)) → ℕ → Opening
opening_at s sizes turns date = record {
  dates = suc date;
  starts = λ agent. next_of s agent (history s date agent);
  silent = λ agent. rests (s.opening.silent agent) date (history s date agent);
  committed = λ variable. committed_at s date variable (variable_of s variable).owner;
  published = λ variable. ring_of s (suc date) variable (get_or sizes variable 0);
  messages = λ stream. queue_of s (suc date) stream;
  count = λ agent. due_count s agent (due_by date (history s date agent));
  slack = λ agent. least_slack s (turns agent) agent (due_by date (history s date agent));
  reach = λ variable. reach s turns (history s date) variable;
  most = λ stream. most_held s date stream;
}

-- The history that begins with that opening
abbrev pub resumed_at : System → List ℕ → (ℕ → List ℕ) → ℕ → System
resumed_at s sizes order date = record s { opening = opening_at s sizes (turns_by s order (date * s.unit.quantum)) date }

-- ---- when a run may be taken up again

-- The date is quiet, all actions that started before it are finished at it, and what the history leaves there is sound.
pub record MayResume (s : System) (ways : Ways) (code : Code) (sizes : List ℕ) (order : ℕ → List ℕ) (date : ℕ) : Type 0 where
  pub run : IsRun s ways code
  pub rings : AreRings s.unit ways s.nexts sizes
  pub quantum : 1 ≤ s.unit.quantum
  pub behind : s.opening.dates ≤ suc date
  pub quiet : IsQuiet s date
  pub finished : (agent : ℕ) → All (IsFinished s order (date * s.unit.quantum)) (history s date agent)
  pub sound : IsSound (resumed_at s sizes order date) ways code

-- A whole run whose processors can supply the demand up to a date, whose code begins with the first values of the variables, and whose queues have
-- sizes, with no more places than they may
pub record MaySave (s : System) (ways : Ways) (code : Code) (sizes : List ℕ) (order : ℕ → List ℕ) (date : ℕ) : Type 0 where
  pub run : IsRun s ways code
  pub whole : s.opening ≡ plain s.unit s.nexts s.executor
  pub supplied : IsSupplied s order date
  pub rings : AreRings s.unit ways s.nexts sizes
  pub queues : (stream : ℕ) → stream < length s.unit.streams → (size : ℕ) × IsQueueSize s.unit ways s.nexts stream size × (size ≤ QUEUE)
  pub copies : (agent variable : ℕ) → (variable_of s variable).owner ≡ Some agent
      → copy_in (s.executor.first agent) variable ≡ (variable_of s variable).init
  pub near : date ≤ UNTIL
  pub cycles : date * s.unit.quantum < 2 ^ 50
