-- Who feeds whom in a program, as arrows, each once: from the owner of a variable, or from an input, to each agent whose text looks at it, and from each
-- agent whose text sends to a stream to the stream's receiver.
use Rattle.std.specs.Prelude.{ℕ, ◌==◌, Bool, if◌then◌else◌, List, [], ◌∷◌, ◌++◌, flat_map, length, Option, None, Some}
use Rattle.std.specs.List.{list_any, range_with_len}
use Rattle.psy_tree.specs.declared.unit.Unit.{Unit as Whole}
use Rattle.psy_tree.specs.Parts.{agent_at, stream_at, variable_at}
use Rattle.psy_meaning.specs.Sendings.{sendings_in}
use Rattle.psy_meaning.specs.Ways.{Sending}
use Rattle.psy_history.specs.Feeding.{pasts_in}
use Rattle.psy_feed.specs.declared.text.Carried.{Carried}
use Rattle.psy_feed.specs.declared.text.Carried.TheVariants.{Variable, Stream}

-- Where an arrow begins: at an agent, or at an input, by its number among the variables
pub data Source : Type 0 where
  Agent : (agent : ℕ) → Source
  Input : (variable : ℕ) → Source

-- An arrow to an agent
pub record Arrow : Type 0 where
  pub from : Source
  pub to : ℕ
  pub carries : Carried

-- Whether a variable is among those at which a text looks
abbrev pub looks : ℕ → List ℕ → Bool
looks variable pasts = list_any (λ past. past == variable) pasts

-- Whether a send to a stream is among those of a text
abbrev pub sends : ℕ → List Sending → Bool
sends stream sendings = list_any (λ (s : Sending). s.stream == stream) sendings

-- A variable comes from its owner, and an input from itself.
abbrev pub source_by : ℕ → Option ℕ → Source
source_by variable None = Input variable
source_by variable (Some owner) = Agent owner

-- The arrow of a variable to an agent
abbrev pub look : Whole → ℕ → ℕ → Arrow
look unit variable agent = record { from = source_by variable (variable_at unit variable).owner; to = agent; carries = Variable variable }

-- It is there where the agent looks at the variable.
abbrev pub look_arrow : Whole → ℕ → ℕ → List Arrow
look_arrow unit variable agent = if looks variable (pasts_in (agent_at unit agent).stmts) then look unit variable agent ∷ [] else []

-- The arrows of a variable, by the numbers of the agents
abbrev pub look_arrows : Whole → ℕ → List Arrow
look_arrows unit variable = flat_map (look_arrow unit variable) (range_with_len 0 (length unit.agents))

-- The arrow of a stream from an agent
abbrev pub send : Whole → ℕ → ℕ → Arrow
send unit stream agent = record { from = Agent agent; to = (stream_at unit stream).receiver; carries = Stream stream }

-- It is there where the agent sends to the stream.
abbrev pub send_arrow : Whole → ℕ → ℕ → List Arrow
send_arrow unit stream agent = if sends stream (sendings_in (agent_at unit agent).stmts) then send unit stream agent ∷ [] else []

-- The arrows of a stream, by the numbers of the agents
abbrev pub send_arrows : Whole → ℕ → List Arrow
send_arrows unit stream = flat_map (send_arrow unit stream) (range_with_len 0 (length unit.agents))

-- The same of what goes along an arrow
abbrev pub arrow_at : Whole → Carried → ℕ → List Arrow
arrow_at unit (Variable variable) agent = look_arrow unit variable agent
arrow_at unit (Stream stream) agent = send_arrow unit stream agent

abbrev pub arrows_of : Whole → Carried → List Arrow
arrows_of unit carried = flat_map (arrow_at unit carried) (range_with_len 0 (length unit.agents))

-- The arrows of all variables, in the order of the text
abbrev pub looks_of : Whole → List Arrow
looks_of unit = flat_map (look_arrows unit) (range_with_len 0 (length unit.variables))

-- The arrows of all streams, in the order of the text
abbrev pub sends_of : Whole → List Arrow
sends_of unit = flat_map (send_arrows unit) (range_with_len 0 (length unit.streams))

-- All arrows of a program
abbrev pub arrows : Whole → List Arrow
arrows unit = looks_of unit ++ sends_of unit
