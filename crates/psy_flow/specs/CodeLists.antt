-- What is listed of the ways through a program's code, by agent and point, and by stream.
use Rattle.std.specs.Prelude.{◌≡◌, ◌⊎◌, ◌↔◌, ℕ, ◌<◌, ◌≤◌, Bool, false, nat_eq, List, map, get_or, length, Option, None, Some, slice_get}
use Rattle.std.specs.List.{Contains}
use Rattle.psy_base.specs.Extremes.{most_of}
use Rattle.psy_code.specs.declared.code.Code.{Code}
use Rattle.psy_code.specs.declared.instr.Instr.{Instr}
use Rattle.psy_tree.specs.declared.unit.Unit.{Unit as Whole}
use Rattle.psy_tree.specs.Parts.{agent_at}
use Rattle.psy_meaning.specs.CodeWays.{AreCodeDelays, AreCodeLooks, AreCodeNexts, IsCodeWay, IsMostCodeSends, agent_code_at, budget_of, place_of}
use Rattle.psy_meaning.specs.Flow.{Rises}
use Rattle.psy_meaning.specs.ListedWays.{AreByPoint, points_of}
use Rattle.psy_meaning.specs.Sendings.{delay_of}
use Rattle.psy_flow.specs.declared.kinds.Sought.{Sought}
use Rattle.psy_flow.specs.declared.paths.Paths.{Paths}
use Rattle.psy_flow.specs.declared.parts.Part.{Part}
use Rattle.psy_flow.specs.declared.parts.Part.TheVariants as part
use Rattle.psy_flow.specs.Bits.{HasBitAt, HasNumber, IsFoundFrom}
use Rattle.psy_flow.specs.Listed.{AreNumbers}
use Rattle.psy_flow.specs.Quests.{part_of}

-- ---- streams

-- It sends to the stream.
abbrev pub sends_at : Part → ℕ → Bool
sends_at (part.Sent own after clock) stream = nat_eq own stream
sends_at _ stream = false

-- There is an instruction, and it does.
abbrev pub send_of : Option Instr → ℕ → Bool
send_of None stream = false
send_of (Some i) stream = sends_at (part_of i) stream

-- The instruction at the place does.
abbrev pub sends_there : List Instr → ℕ → ℕ → Bool
sends_there instrs stream place = send_of (slice_get instrs place) stream

-- ---- sends

-- On the ways from a place to a point there is a most for each of the first so many streams.
abbrev pub HaveMostsTo : List Instr → ℕ → ℕ → ℕ → ℕ → Type 0
HaveMostsTo instrs from budget streams to = (stream : ℕ) → stream < streams → (most : ℕ) × IsMostCodeSends instrs from to stream budget most

-- To each point where a way from the place ends
abbrev pub HaveMostsFrom : List Instr → ℕ → ℕ → ℕ → Type 0
HaveMostsFrom instrs from budget streams = (to : ℕ) (places : List ℕ) → IsCodeWay instrs to from places → HaveMostsTo instrs from budget streams to

-- From each point of an agent
abbrev pub HaveMostsOf : Whole → Code → ℕ → Type 0
HaveMostsOf unit code agent = (point : ℕ) → point < length (agent_at unit agent).points
    → HaveMostsFrom code.instrs (place_of code agent point) (budget_of unit agent point) (length unit.streams)

-- ---- delays

-- It sends to the stream with this delay.
abbrev pub HasPartDelay : Whole → Part → ℕ → ℕ → Type 0
HasPartDelay unit (part.Sent own after clock) stream delay = (own ≡ stream) × (delay ≡ delay_of unit (record { stream = own; after = after; clock = clock }))
HasPartDelay unit _ stream delay = ⊥

-- The instruction at the place does, and a way from there ends.
abbrev pub HasDelayThere : Whole → List Instr → List ℕ → ℕ → ℕ → ℕ → Type 0
HasDelayThere unit instrs endings place stream delay = (i : Instr) × (slice_get instrs place ≡ Some i)
    × HasBitAt endings place 0 × HasPartDelay unit (part_of i) stream delay

-- The instruction at one of the places does.
abbrev pub HasDelayAmong : Whole → List Instr → List ℕ → List ℕ → ℕ → ℕ → Type 0
HasDelayAmong unit instrs endings places stream delay = (place : ℕ) × Contains places place × HasDelayThere unit instrs endings place stream delay

-- By stream, the greater of what was there and of what these have
pub record IsRaisedTo (Has : ℕ → ℕ → Type 0) (before after : List ℕ) : Type 0 where
  pub count : length after ≡ length before
  pub kept : (stream : ℕ) → get_or before stream 0 ≤ get_or after stream 0
  pub most : (stream n : ℕ) → stream < length before → Has stream n → n ≤ get_or after stream 0
  pub one : (stream : ℕ) → (get_or after stream 0 ≡ get_or before stream 0) ⊎ Has stream (get_or after stream 0)

-- ---- numbers by agent and point

-- By point of an agent, the numbers that rows have at its place
pub record AreAgentNumbers (rows : List (List ℕ)) (code : Code) (agent : ℕ) (lists : List (List ℕ)) : Type 0 where
  pub count : length lists ≡ length (agent_code_at code agent).points
  pub each : (point : ℕ) (numbers : List ℕ) → slice_get lists point ≡ Some numbers → AreNumbers (HasNumber rows (place_of code agent point)) numbers

-- The same by agent
pub record AreAllNumbers (rows : List (List ℕ)) (code : Code) (lists : List (List (List ℕ))) : Type 0 where
  pub count : length lists ≡ length code.agents
  pub each : (agent : ℕ) (own : List (List ℕ)) → slice_get lists agent ≡ Some own → AreAgentNumbers rows code agent own

-- By point of an agent, the numbers below a bound that are found on the ways from there
pub record AreAgentFound (code : Code) (sought : Sought) (count agent : ℕ) (lists : List (List ℕ)) : Type 0 where
  pub points : length lists ≡ length (agent_code_at code agent).points
  pub each : (point : ℕ) (numbers : List ℕ) → slice_get lists point ≡ Some numbers → Rises numbers
      × ((number : ℕ) → Contains numbers number → IsFoundFrom code.instrs sought (place_of code agent point) number)
      × ((number : ℕ) → number < count → IsFoundFrom code.instrs sought (place_of code agent point) number → Contains numbers number)

-- The same by agent
pub record AreFoundLists (code : Code) (sought : Sought) (count : ℕ) (lists : List (List (List ℕ))) : Type 0 where
  pub agents : length lists ≡ length code.agents
  pub each : (agent : ℕ) (own : List (List ℕ)) → slice_get lists agent ≡ Some own → AreAgentFound code sought count agent own

-- How many points the agent with the most of them has
abbrev pub most_points : Whole → ℕ
most_points unit = most_of (map (λ a. length a.points) unit.agents)

-- ---- where ways begin

-- The place is that of a point of an agent.
abbrev pub IsPointPlace : Code → ℕ → ℕ → Type 0
IsPointPlace code agent place = (point : ℕ) × (point < length (agent_code_at code agent).points) × (place ≡ place_of code agent point)

-- The places of all points of the first so many agents, and of the first so many of the next one
abbrev pub AreStartsUpTo : Code → ℕ → ℕ → List ℕ → Type 0
AreStartsUpTo code agents points starts = (place : ℕ) → Contains starts place
    ↔ (((agent : ℕ) × (agent < agents) × IsPointPlace code agent place) ⊎ ((point : ℕ) × (point < points) × (place ≡ place_of code agents point)))

-- The places of all points of all agents
abbrev pub AreStarts : Code → List ℕ → Type 0
AreStarts code starts = (place : ℕ) → Contains starts place ↔ ((agent : ℕ) × (agent < length code.agents) × IsPointPlace code agent place)

-- ---- of a program

-- The ways of a program's code without what they send
pub record AreCodePaths (unit : Whole) (code : Code) (paths : Paths) : Type 0 where
  pub nexts : AreByPoint (points_of unit) (λ agent point. AreCodeNexts code.instrs (place_of code agent point)) paths.nexts
  pub looks : AreByPoint (points_of unit) (λ agent point. AreCodeLooks code.instrs (place_of code agent point)) paths.looks
  pub delays : AreCodeDelays unit code paths.delays
