-- The ways of a program's actions as its code goes them, whatever the values: each test with a jump goes on or jumps.
use Rattle.std.specs.Prelude.{◌≡◌, ◌⊎◌, ℕ, ◌+◌, ◌<◌, ◌≤◌, min, Bool, false, ◌==◌, List, [], ◌∷◌, length, get_or, Option, Some, slice_get, ◌↔◌, ⊤}
use Rattle.std.specs.List.{AllPairs, Contains, count_by}
use Rattle.psy_base.specs.declared.limits.TheConstants.{SENDS}
use Rattle.psy_base.specs.declared.ways.SendWay.{SendWay}
use Rattle.psy_base.specs.declared.ways.Ways.{Ways}
use Rattle.psy_base.specs.Extremes.{IsMost}
use Rattle.psy_code.specs.declared.code.AgentCode.{AgentCode}
use Rattle.psy_code.specs.declared.code.Code.{Code}
use Rattle.psy_code.specs.declared.instr.Instr.{Instr}
use Rattle.psy_code.specs.declared.instr.Instr.TheVariants as instr
use Rattle.psy_tree.specs.declared.unit.AgentDecl.{AgentDecl}
use Rattle.psy_tree.specs.declared.unit.Unit.{Unit as Whole}
use Rattle.psy_tree.specs.Parts.{agent_at}
use Rattle.psy_meaning.specs.Flow.{IsCut, Rises}
use Rattle.psy_meaning.specs.ListedWays.{AreByPoint, IsWayBefore, points_of}
use Rattle.psy_meaning.specs.Sendings.{delay_of}

-- ---- ways through code

-- After the instruction at a place the way may go on at this one: the next, or that of a jump. A call is passed over, its function being
-- no part of the way; a `Return` and an `Advance` have none.
abbrev pub GoesOn : Instr → ℕ → ℕ → Type 0
GoesOn (instr.Jump to) place next = next ≡ to
GoesOn (instr.JumpZero to) place next = (next ≡ place + 1) ⊎ (next ≡ to)
GoesOn (instr.AndTest to) place next = (next ≡ place + 1) ⊎ (next ≡ to)
GoesOn (instr.OrTest to) place next = (next ≡ place + 1) ⊎ (next ≡ to)
GoesOn instr.Return place next = ⊥
GoesOn (instr.Advance point) place next = ⊥
GoesOn _ place next = next ≡ place + 1

-- The places of a way from the first of them to the first `Advance`, which ends the action at this point
pub data IsCodeWay (instrs : List Instr) (point : ℕ) : ℕ → List ℕ → Type 0 where
  ends : (place : ℕ) → slice_get instrs place ≡ Some (instr.Advance point) → IsCodeWay instrs point place (place ∷ [])
  goes : (place next : ℕ) (i : Instr) (places : List ℕ) → slice_get instrs place ≡ Some i → GoesOn i place next → IsCodeWay instrs point next places
      → IsCodeWay instrs point place (place ∷ places)

-- A way from this place, whether it ends or not, comes to that one.
pub data IsPassed (instrs : List Instr) (from : ℕ) : ℕ → Type 0 where
  first : IsPassed instrs from from
  later : (place next : ℕ) (i : Instr) → IsPassed instrs from place → slice_get instrs place ≡ Some i → GoesOn i place next
      → IsPassed instrs from next

-- The instruction stands on a way from this place to an `Advance`.
abbrev pub IsOnWay : List Instr → ℕ → Instr → Type 0
IsOnWay instrs from i = (point place : ℕ) × (places : List ℕ) × IsCodeWay instrs point from places × Contains places place
    × (slice_get instrs place ≡ Some i)

-- ---- where a point stands

-- The code of an agent: one without points where there is none
abbrev pub agent_code_at : Code → ℕ → AgentCode
agent_code_at code agent = get_or code.agents agent (record { points = []; cells = []; counters = 0; copies = []; stack = 0; frames = 0 })

-- The place of a point of an agent
abbrev pub place_of : Code → ℕ → ℕ → ℕ
place_of code agent point = get_or (agent_code_at code agent).points point 0

-- ---- next points, looks, sends

-- All points where a way from this place ends, rising
pub record AreCodeNexts (instrs : List Instr) (from : ℕ) (points : List ℕ) : Type 0 where
  pub rise : Rises points
  pub each : (to : ℕ) → Contains points to ↔ ((places : List ℕ) × IsCodeWay instrs to from places)

-- All variables at which a way from this place looks, rising
pub record AreCodeLooks (instrs : List Instr) (from : ℕ) (variables : List ℕ) : Type 0 where
  pub rise : Rises variables
  pub each : (variable : ℕ) → Contains variables variable ↔ ((back : ℕ) × IsOnWay instrs from (instr.Past variable back))

-- The instruction is a send to the stream.
abbrev pub is_send_to : ℕ → Option Instr → Bool
is_send_to stream (Some (instr.Send target after clock)) = target == stream
is_send_to stream _ = false

-- How many of the places hold sends to a stream
abbrev pub sends_at : List Instr → ℕ → List ℕ → ℕ
sends_at instrs stream places = count_by (λ place. is_send_to stream (slice_get instrs place)) places

-- A way from a place to a point has so many sends to a stream.
abbrev pub HasCodeSends : List Instr → ℕ → ℕ → ℕ → ℕ → Type 0
HasCodeSends instrs from to stream sends = (places : List ℕ) × IsCodeWay instrs to from places × (sends_at instrs stream places ≡ sends)

-- There is always one that is greater.
abbrev pub IsUnbounded : (ℕ → Type 0) → Type 0
IsUnbounded Has = (m : ℕ) → (n : ℕ) × Has n × (m < n)

-- The greatest number of sends on the ways to a point; where there is no greatest, as in a loop, the budget; both cut at 65,537
abbrev pub IsMostCodeSends : List Instr → ℕ → ℕ → ℕ → ℕ → ℕ → Type 0
IsMostCodeSends instrs from to stream budget most =
    IsCut (HasCodeSends instrs from to stream) SENDS most ⊎ (IsUnbounded (HasCodeSends instrs from to stream) × (most ≡ min budget SENDS))

-- All sends of the ways from a place, in order, where actions from there have this budget
pub record AreCodeSends (instrs : List Instr) (from budget : ℕ) (sends : List SendWay) : Type 0 where
  pub rise : AllPairs IsWayBefore sends
  pub each : (way : SendWay) → Contains sends way ↔ (IsMostCodeSends instrs from way.to way.stream budget way.most × (1 ≤ way.most))

-- On the ways from a place to each of these points there is a most for each of the first so many streams.
abbrev pub HaveMosts : List Instr → ℕ → ℕ → ℕ → List ℕ → Type 0
HaveMosts instrs from budget streams points = (to stream : ℕ) → Contains points to → stream < streams
    → (most : ℕ) × IsMostCodeSends instrs from to stream budget most

-- ---- of a program

-- The budget of a point of an agent
abbrev pub budget_of : Whole → ℕ → ℕ → ℕ
budget_of unit agent point = (get_or (agent_at unit agent).points point (record { count = 1; clock = 0; budget = 0 })).budget

-- A send on a way from a point of some agent has this delay.
abbrev pub HasCodeDelay : Whole → Code → ℕ → ℕ → Type 0
HasCodeDelay unit code stream delay = (agent point after clock : ℕ) × (agent < length unit.agents) × (point < length (agent_at unit agent).points)
    × IsOnWay code.instrs (place_of code agent point) (instr.Send stream after clock)
    × (delay ≡ delay_of unit (record { stream = stream; after = after; clock = clock }))

-- By stream, the greatest delay of the sends to it
pub record AreCodeDelays (unit : Whole) (code : Code) (delays : List ℕ) : Type 0 where
  pub count : length delays ≡ length unit.streams
  pub each : (stream delay : ℕ) → slice_get delays stream ≡ Some delay → IsMost (HasCodeDelay unit code stream) delay

-- The ways of the code of a program
pub record AreCodeWays (unit : Whole) (code : Code) (ways : Ways) : Type 0 where
  pub nexts : AreByPoint (points_of unit) (λ agent point. AreCodeNexts code.instrs (place_of code agent point)) ways.nexts
  pub looks : AreByPoint (points_of unit) (λ agent point. AreCodeLooks code.instrs (place_of code agent point)) ways.looks
  pub sends : AreByPoint (points_of unit) (λ agent point. AreCodeSends code.instrs (place_of code agent point) (budget_of unit agent point)) ways.sends
  pub delays : AreCodeDelays unit code ways.delays

-- From each point of each agent there is a most to each of these next points for each stream.
abbrev pub HaveAllMosts : Whole → Code → List (List (List ℕ)) → Type 0
HaveAllMosts unit code nexts =
    AreByPoint (points_of unit) (λ agent point. HaveMosts code.instrs (place_of code agent point) (budget_of unit agent point) (length unit.streams)) nexts

-- ---- what can be walked

-- The variable, the stream, the clock or the point that an instruction of an agent names is there.
abbrev pub NamesThere : Whole → AgentDecl → Instr → Type 0
NamesThere unit agent (instr.LoadCopy variable) = variable < length unit.variables
NamesThere unit agent (instr.StoreCopy variable) = variable < length unit.variables
NamesThere unit agent (instr.Past variable back) = variable < length unit.variables
NamesThere unit agent (instr.Ready stream) = stream < length unit.streams
NamesThere unit agent (instr.Take stream) = stream < length unit.streams
NamesThere unit agent (instr.Send stream after clock) = (stream < length unit.streams) × (clock < length unit.clocks)
NamesThere unit agent (instr.Advance point) = point < length agent.points
NamesThere unit agent _ = ⊤

-- The code has the agents of a program with their points, each place on a way from a point lies in it, and what the instructions there
-- name is there.
pub record CanWalk (unit : Whole) (code : Code) : Type 0 where
  pub agents : length code.agents ≡ length unit.agents
  pub points : (number : ℕ) (agent : AgentDecl) (its : AgentCode) → slice_get unit.agents number ≡ Some agent
      → slice_get code.agents number ≡ Some its → length its.points ≡ length agent.points
  pub inside : (number point place : ℕ) (agent : AgentDecl) → slice_get unit.agents number ≡ Some agent → point < length agent.points
      → IsPassed code.instrs (place_of code number point) place → place < length code.instrs
  pub named : (number point place : ℕ) (agent : AgentDecl) (i : Instr) → slice_get unit.agents number ≡ Some agent → point < length agent.points
      → IsPassed code.instrs (place_of code number point) place → slice_get code.instrs place ≡ Some i → NamesThere unit agent i
