-- The bytes of a state, part by part. A number has four bytes, the lowest first, and a long one eight.
use Rattle.std.specs.Prelude.{ℕ, ℤ, List, [], ◌∷◌, ◌++◌, length, Option, Some, None}
use Rattle.std.specs.Int.{w32, w64, cast_unsigned, to_le_bytes}
use Rattle.std.specs.List.{flat_map}
use Rattle.psy_base.specs.declared.message.Message.{Message}
use Rattle.psy_dates.specs.declared.opening.AgentOpening.{AgentOpening}
use Rattle.psy_dates.specs.declared.opening.Begun.{Begun}
use Rattle.psy_dates.specs.declared.opening.NextAction.{NextAction}
use Rattle.psy_dates.specs.declared.opening.Opening.{Opening}
use Rattle.psy_dates.specs.declared.opening.StreamOpening.{StreamOpening}
use Rattle.psy_dates.specs.declared.opening.VarOpening.{VarOpening}

-- A number
unfoldable pub number_bytes : ℕ → List ℕ
number_bytes n = to_le_bytes w32 n

-- A long number
unfoldable pub long_bytes : ℕ → List ℕ
long_bytes n = to_le_bytes w64 n

-- A number with its sign
abbrev pub value_bytes : ℤ → List ℕ
value_bytes z = number_bytes (cast_unsigned w32 z)

-- A long number with its sign
abbrev pub cell_bytes : ℤ → List ℕ
cell_bytes z = long_bytes (cast_unsigned w64 z)

-- The five bytes with which a state begins
abbrev pub mark : List ℕ
mark = 80 ∷ 83 ∷ 89 ∷ 83 ∷ 1 ∷ []

-- ---- agents

-- Which kind an agent is of: it hasn't begun, it starts an action at the date, or it is silent.
abbrev pub kind_of_action : Option NextAction → ℕ
kind_of_action None = 2
kind_of_action (Some action) = 1

abbrev pub kind_of : Option Begun → ℕ
kind_of None = 0
kind_of (Some begun) = kind_of_action begun.action

-- The action that it starts
abbrev pub action_bytes : Option NextAction → List ℕ
action_bytes None = []
action_bytes (Some action) = long_bytes action.number ++ (number_bytes action.point ++ flat_map cell_bytes action.cells)

-- What it has once it has begun
abbrev pub begun_bytes : Option Begun → List ℕ
begun_bytes None = []
begun_bytes (Some begun) = action_bytes begun.action ++ flat_map value_bytes begun.copies

-- A 0, or a 1 and the number that there is
abbrev pub slack_bytes : Option ℕ → List ℕ
slack_bytes None = number_bytes 0
slack_bytes (Some slack) = number_bytes 1 ++ long_bytes slack

abbrev pub reach_bytes : Option ℕ → List ℕ
reach_bytes None = number_bytes 0
reach_bytes (Some reach) = number_bytes 1 ++ number_bytes reach

-- An agent
abbrev pub agent_bytes : AgentOpening → List ℕ
agent_bytes a = number_bytes (kind_of a.begun) ++ (begun_bytes a.begun ++ (long_bytes a.count ++ slack_bytes a.slack))

-- ---- variables and streams

-- A variable
abbrev pub variable_bytes : VarOpening → List ℕ
variable_bytes v = flat_map value_bytes v.values ++ reach_bytes v.reach

-- The numbers of a message by which messages are ordered
abbrev pub key_bytes : Message → List ℕ
key_bytes m = long_bytes m.visible ++ (long_bytes m.entry ++ (number_bytes m.sender ++ number_bytes m.number))

-- A message
abbrev pub message_bytes : Message → List ℕ
message_bytes m = key_bytes m ++ (long_bytes m.expiry ++ value_bytes m.value)

-- A stream
abbrev pub stream_bytes : StreamOpening → List ℕ
stream_bytes s = number_bytes s.held ++ (number_bytes (length s.messages) ++ flat_map message_bytes s.messages)

-- ---- all of it

-- A state
unfoldable pub spelling : Opening → List ℕ
spelling opening = mark ++ (number_bytes opening.date ++ (flat_map agent_bytes opening.agents
    ++ (flat_map variable_bytes opening.variables ++ flat_map stream_bytes opening.streams)))
