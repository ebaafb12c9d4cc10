-- The range of each number of a state, by the bytes that it takes.
use Rattle.std.specs.Prelude.{ℕ, ◌<◌, ◌^◌, Option, Some, None, FitsSigned, ⊤}
use Rattle.std.specs.Int.{w32, w64}
use Rattle.std.specs.List.{All}
use Rattle.psy_base.specs.declared.message.Message.{Message}
use Rattle.psy_dates.specs.declared.opening.AgentOpening.{AgentOpening}
use Rattle.psy_dates.specs.declared.opening.Begun.{Begun}
use Rattle.psy_dates.specs.declared.opening.NextAction.{NextAction}
use Rattle.psy_dates.specs.declared.opening.Opening.{Opening}
use Rattle.psy_dates.specs.declared.opening.StreamOpening.{StreamOpening}
use Rattle.psy_dates.specs.declared.opening.VarOpening.{VarOpening}

-- A number of four bytes, and one of eight
abbrev pub IsShort : ℕ → Type 0
IsShort n = n < 2 ^ 32

abbrev pub IsLong : ℕ → Type 0
IsLong n = n < 2 ^ 64

-- One that there is
abbrev pub IfThere : (ℕ → Type 0) → Option ℕ → Type 0
IfThere Is None = ⊤
IfThere Is (Some n) = Is n

-- ---- agents

pub record FitsAction (action : NextAction) : Type 0 where
  pub number : IsLong action.number
  pub point : IsShort action.point
  pub cells : All (FitsSigned w64) action.cells

abbrev pub FitsStart : Option NextAction → Type 0
FitsStart None = ⊤
FitsStart (Some action) = FitsAction action

pub record FitsCopies (begun : Begun) : Type 0 where
  pub copies : All (FitsSigned w32) begun.copies
  pub start : FitsStart begun.action

abbrev pub FitsBegun : Option Begun → Type 0
FitsBegun None = ⊤
FitsBegun (Some begun) = FitsCopies begun

pub record FitsAgent (agent : AgentOpening) : Type 0 where
  pub begun : FitsBegun agent.begun
  pub count : IsLong agent.count
  pub slack : IfThere IsLong agent.slack

-- ---- variables and streams

pub record FitsVariable (variable : VarOpening) : Type 0 where
  pub values : All (FitsSigned w32) variable.values
  pub reach : IfThere IsShort variable.reach

pub record FitsMessage (message : Message) : Type 0 where
  pub visible : IsLong message.visible
  pub entry : IsLong message.entry
  pub sender : IsShort message.sender
  pub number : IsShort message.number
  pub expiry : IsLong message.expiry
  pub value : FitsSigned w32 message.value

pub record FitsStream (stream : StreamOpening) : Type 0 where
  pub held : IsShort stream.held
  pub messages : All FitsMessage stream.messages

-- ---- all of it

-- A state whose numbers are in their ranges
pub record FitsState (opening : Opening) : Type 0 where
  pub date : IsShort opening.date
  pub agents : All FitsAgent opening.agents
  pub variables : All FitsVariable opening.variables
  pub streams : All FitsStream opening.streams
