-- The size of a variable's ring: its depth, and the dates of it that may pass while an action that looks at it runs.
use Rattle.std.specs.Prelude.{◌≡◌, ◌⊎◌, ℕ, ◌+◌, ◌-◌, ◌%◌, ◌<◌, ◌≤◌, List, [], length, get_or, Some, slice_get}
use Rattle.psy_base.specs.declared.limits.TheConstants.{RING}
use Rattle.psy_clock.specs.declared.clock.Clock.{Clock}
use Rattle.psy_clock.specs.Dates.{count}
use Rattle.psy_tree.specs.declared.unit.Unit.{Unit as Whole}
use Rattle.psy_tree.specs.declared.unit.VarDecl.{VarDecl}
use Rattle.psy_tree.specs.Parts.{agent_at}
use Rattle.psy_meaning.specs.Graph.{IsCycle}
use Rattle.psy_meaning.specs.KnownWays.{Looks, Ways}
use Rattle.psy_meaning.specs.Timing.{Timing, MayStart, clock_at, deadline, timing_of}

-- How many dates of a clock stand behind one date and up to another
abbrev pub dates_between : Clock → ℕ → ℕ → ℕ
dates_between clock behind upto = count clock upto - count clock behind

-- The timing of the agent of a number, where these points may follow each point of each agent
abbrev pub agent_timing : Whole → List (List (List ℕ)) → ℕ → Timing
agent_timing unit nexts agent = timing_of unit (agent_at unit agent) (get_or nexts agent [])

-- An action from a point that would start at this date is due so many ticks later: one that may start in the same phase of the
-- agent's cycle is.
abbrev pub IsDueIn : Timing → ℕ → ℕ → ℕ → Type 0
IsDueIn timing point date due =
    (cycle start : ℕ) × IsCycle timing cycle × MayStart timing point start × (date % cycle ≡ start % cycle) × (start + due ≡ deadline timing point start)

-- So many dates of a variable stand behind the start and before the deadline of an action that may look at it.
abbrev pub MayPass : Whole → Ways → List (List (List ℕ)) → ℕ → ℕ → Type 0
MayPass unit ways nexts variable dates =
    (agent point date due : ℕ) × (decl : VarDecl)
    × (agent < length unit.agents)
    × Looks ways agent point variable
    × IsDueIn (agent_timing unit nexts agent) point date due
    × (slice_get unit.variables variable ≡ Some decl)
    × (dates ≡ dates_between (clock_at (agent_timing unit nexts agent) decl.clock) date (date + due - 1))

-- The size of a variable's ring: its depth, and the most of its dates that may pass; no more where none may.
pub record IsRingSize (unit : Whole) (ways : Ways) (nexts : List (List (List ℕ))) (variable size : ℕ) : Type 0 where
  pub most : ℕ
  pub one : (most ≡ 0) ⊎ MayPass unit ways nexts variable most
  pub all : (dates : ℕ) → MayPass unit ways nexts variable dates → dates ≤ most
  pub decl : VarDecl
  pub declared : slice_get unit.variables variable ≡ Some decl
  pub sum : size ≡ decl.depth + most

-- By variable, the sizes of the rings
pub record AreRings (unit : Whole) (ways : Ways) (nexts : List (List (List ℕ))) (sizes : List ℕ) : Type 0 where
  pub count : length sizes ≡ length unit.variables
  pub each : (variable size : ℕ) → slice_get sizes variable ≡ Some size → IsRingSize unit ways nexts variable size

-- The first variable whose ring would have more places than a ring may
pub record IsLargeRing (unit : Whole) (ways : Ways) (nexts : List (List (List ℕ))) (variable : ℕ) : Type 0 where
  pub size : ℕ
  pub is_size : IsRingSize unit ways nexts variable size
  pub passes : RING < size
  pub earlier : (before size : ℕ) → before < variable → IsRingSize unit ways nexts before size → size ≤ RING
