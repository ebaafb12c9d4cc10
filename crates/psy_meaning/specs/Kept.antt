-- What an action keeps: its agent's store, and the ranges of all that it asks of the world.
use Rattle.std.specs.Prelude.{◌≡◌, ℕ, ◌<◌, ◌≤◌, ◌==◌, true, map, length, Some, slice_get, FitsSigned}
use Rattle.std.specs.Int.{w32}
use Rattle.std.specs.List.{All}
use Rattle.psy_base.specs.declared.limits.TheConstants.{AFTER}
use Rattle.psy_code.specs.declared.look.Sent.{Sent}
use Rattle.psy_code.specs.Views.{Deeds, Looked}
use Rattle.psy_tree.specs.declared.unit.Unit.{Unit as Whole}
use Rattle.psy_tree.specs.declared.unit.AgentDecl.{AgentDecl}
use Rattle.psy_meaning.specs.Alike.{IsStoreOf}
use Rattle.psy_meaning.specs.States.{Final, Ended, Trapped}

-- A look at a variable that there is, back by less than its depth
abbrev pub IsLookOf : Whole → Looked → Type 0
IsLookOf unit look = (depth : ℕ) × (slice_get (map (λ v. v.depth) unit.variables) look.variable ≡ Some depth) × (look.back < depth)

-- A stream that the agent receives
abbrev pub Receives : Whole → ℕ → ℕ → Type 0
Receives unit number stream = slice_get (map (λ s. s.receiver == number) unit.streams) stream ≡ Some true

-- A message of 32 bits, to a stream and by a clock that there are, not delayed too long
pub record IsSentOf (unit : Whole) (sent : Sent) : Type 0 where
  pub stream : sent.stream < length unit.streams
  pub clock : sent.clock < length unit.clocks
  pub after : sent.after ≤ AFTER
  pub value : FitsSigned w32 sent.value

-- What an action of the agent may do
pub record AreDeedsOf (unit : Whole) (number : ℕ) (deeds : Deeds) : Type 0 where
  pub looks : All (IsLookOf unit) deeds.looks
  pub takes : All (Receives unit number) deeds.takes
  pub sends : All (IsSentOf unit) deeds.sends

-- A point of an `advance` of the agent: any but the head of its body
abbrev pub IsAdvanceOf : AgentDecl → ℕ → Type 0
IsAdvanceOf agent point = (1 ≤ point) × (point < length agent.points)

-- An action that ended or trapped kept the agent's store and did what the agent may do; one that ended did at a point of
-- an `advance`.
abbrev pub IsKept : Whole → ℕ → AgentDecl → Final → Type 0
IsKept unit number agent (Ended point s) = IsAdvanceOf agent point × IsStoreOf unit number agent s.store × AreDeedsOf unit number s.deeds
IsKept unit number agent (Trapped kind s) = IsStoreOf unit number agent s.store × AreDeedsOf unit number s.deeds
