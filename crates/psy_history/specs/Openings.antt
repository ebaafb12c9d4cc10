-- What an opening keeps: a state that a run of this program's code may go on from.
use Rattle.std.specs.Prelude.{◌≡◌, ◌⊎◌, ℕ, suc, ◌<◌, ◌≤◌, ◌^◌, true, false, List, length, map, Option, Some, None, slice_get, FitsSigned, ℤ}
use Rattle.std.specs.Int.{w32}
use Rattle.std.specs.List.{All, AllPairs}
use Rattle.psy_base.specs.declared.limits.TheConstants.{QUEUE, UNTIL}
use Rattle.psy_base.specs.declared.message.Message.{Message}
use Rattle.psy_clock.specs.Dates.{count}
use Rattle.psy_code.specs.declared.code.Code.{Code}
use Rattle.psy_queue.specs.Order.{comes_before}
use Rattle.psy_tree.specs.declared.unit.AgentDecl.{AgentDecl}
use Rattle.psy_tree.specs.declared.unit.Unit.{Unit as Whole}
use Rattle.psy_tree.specs.Parts.{agent_at}
use Rattle.psy_history.specs.Actions.{Next, System, first_action, publishing, stream_of, timing, variable_of}
use Rattle.psy_meaning.specs.CodeWays.{agent_code_at}
use Rattle.psy_history.specs.Executors.{Carried, copy_in, cut}
use Rattle.psy_meaning.specs.Alike.{AllFit, FitSlots, first_copies}
use Rattle.psy_meaning.specs.Timing.{first_date}
use Rattle.psy_history.specs.Regular.{MayStartAlike}
use Rattle.psy_meaning.specs.KnownWays.{Ways}
use Rattle.psy_meaning.specs.QueueSizes.{IsQueueSize}
use Rattle.psy_meaning.specs.RingSizes.{IsRingSize}

-- Where the program has a slot for a cell, the cell has the range of the slot's type.
abbrev pub FitCells : AgentDecl → List ℤ → Type 0
FitCells agent cells = FitSlots (map (λ s. s.width) agent.slots) (cut (map (λ s. s.cells) agent.slots) cells)

-- What an agent may carry: as many cells as its code has, with values of their slots' types, and copies of the variables that it
-- owns, with values of 32 bits
pub record MayCarry (unit : Whole) (code : Code) (agent : ℕ) (carried : Carried) : Type 0 where
  pub cells : length carried.cells ≡ length (agent_code_at code agent).cells
  pub values : FitCells (agent_at unit agent) carried.cells
  pub variables : map (λ c. c.variable) carried.copies ≡ map (λ c. c.variable) (first_copies unit agent)
  pub copies : All (λ c. FitsSigned w32 c.value) carried.copies

-- ---- agents

-- The agent has begun: it is silent, or starts at a date that was done.
abbrev pub HasBegun : System → ℕ → Type 0
HasBegun s agent = (n : Next) → s.opening.starts agent ≡ Some n → n.start < s.opening.dates

-- It starts an action at the last date that was done, and has committed the copies that it carries.
pub record IsBegun (s : System) (agent : ℕ) (n : Next) : Type 0 where
  pub last : suc n.start ≡ s.opening.dates
  pub first : first_date (timing s agent) ≤ n.start
  pub number : n.number ≤ UNTIL
  pub committed : (variable : ℕ) → (variable_of s variable).owner ≡ Some agent → s.opening.committed variable ≡ copy_in n.carried variable

-- It hasn't begun: its first date lies behind those that were done, and its variables have their first values.
pub record IsWaiting (s : System) (agent : ℕ) (n : Next) : Type 0 where
  pub first : n ≡ first_action s.unit s.nexts s.executor agent
  pub ahead : s.opening.dates ≤ n.start
  pub committed : (variable : ℕ) → (variable_of s variable).owner ≡ Some agent → s.opening.committed variable ≡ (variable_of s variable).init

-- ---- streams

-- A message that a stream holds entered at a date that was done, can be seen no earlier, and expires behind that; and it hasn't expired, where
-- the stream's receiver has begun.
pub record IsHeldBefore (s : System) (stream : ℕ) (m : Message) : Type 0 where
  pub entered : m.entry < s.opening.dates
  pub visible : m.entry ≤ m.visible
  pub late : m.visible < m.expiry
  pub fresh : HasBegun s (stream_of s stream).receiver → s.opening.dates ≤ m.expiry
  pub sender : m.sender < length s.unit.agents
  pub near : m.expiry < 2 ^ 40
  pub value : FitsSigned w32 m.value

-- The messages that a stream holds, in order, no two of them the same
pub record AreHeldBefore (s : System) (stream : ℕ) (messages : List Message) : Type 0 where
  pub each : All (IsHeldBefore s stream) messages
  pub rise : AllPairs (λ m n. comes_before m n ≡ true) messages
  pub few : length messages ≤ QUEUE

-- ---- variables

-- The values in a variable's ring when this date was the last one done: as many as it has places, the first value behind those that were
-- published
pub record AreInRing (s : System) (ways : Ways) (last variable : ℕ) (values : List ℤ) : Type 0 where
  pub size : (size : ℕ) → IsRingSize s.unit ways s.nexts variable size → length values ≡ size
  pub first : (back : ℕ) (value : ℤ) → slice_get values back ≡ Some value → count (publishing s variable) last ≤ back
      → value ≡ (variable_of s variable).init

-- ---- figures

-- Actions were counted exactly where they have a least slack.
abbrev pub HasFigure : ℕ → Option ℕ → Type 0
HasFigure count None = count ≡ 0
HasFigure count (Some slack) = (1 ≤ count) × (slack < 2 ^ 50)

-- ---- all of it

-- An opening is sound: a state that a run of this code, by these ways, may go on from.
pub record IsSound (s : System) (ways : Ways) (code : Code) : Type 0 where
  -- an agent that there is starts an action, or is silent
  pub begins : (agent : ℕ) → agent < length s.unit.agents → s.opening.silent agent ≡ false → (n : Next) × (s.opening.starts agent ≡ Some n)
  pub known : (agent : ℕ) (n : Next) → s.opening.starts agent ≡ Some n → (agent < length s.unit.agents) × (s.opening.silent agent ≡ false)
  -- it has begun or hasn't; it may start there, with what it may carry
  pub places : (agent : ℕ) (n : Next) → s.opening.starts agent ≡ Some n → IsBegun s agent n ⊎ IsWaiting s agent n
  pub starts : (agent : ℕ) (n : Next) → s.opening.starts agent ≡ Some n → MayStartAlike (timing s agent) n.point n.start
  pub carries : (agent : ℕ) (n : Next) → s.opening.starts agent ≡ Some n → MayCarry s.unit code agent n.carried
  -- values are of 32 bits; inputs commit their first ones
  pub committed : (variable : ℕ) → FitsSigned w32 (s.opening.committed variable)
  pub inputs : (variable : ℕ) → (variable_of s variable).owner ≡ None → s.opening.committed variable ≡ (variable_of s variable).init
  pub published : (variable : ℕ) → AllFit (s.opening.published variable)
  pub rings : (last variable : ℕ) → s.opening.dates ≡ suc last → variable < length s.unit.variables
      → AreInRing s ways last variable (s.opening.published variable)
  pub messages : (stream : ℕ) → AreHeldBefore s stream (s.opening.messages stream)
  -- figures are what they may be
  pub counts : (agent : ℕ) → s.opening.count agent < 2 ^ 50
  pub slacks : (agent : ℕ) → HasFigure (s.opening.count agent) (s.opening.slack agent)
  pub reaches : (variable size n : ℕ) → IsRingSize s.unit ways s.nexts variable size → s.opening.reach variable ≡ Some n → n < size
  pub most : (stream size : ℕ) → IsQueueSize s.unit ways s.nexts stream size → s.opening.most stream ≤ size
