-- The length over which the least of a supply is left by a demand, or over which the most is missing. Numbers are natural, so what would be subtracted
-- stands on the other side. A demand is told by its length.
use Rattle.std.specs.Prelude.{◌≡◌, ℕ, ◌+◌, ◌*◌, ◌==◌, ◌<◌, ◌≤◌, ◌^◌, if◌then◌else◌, List, [], get_or, length, slice_index}
use Rattle.std.specs.List.{All, range_with_len, sum_by}
use Rattle.psy_base.specs.declared.limits.TheConstants.{AGENTS}
use Rattle.psy_history.specs.Processors.{processors}
use Rattle.psy_tree.specs.declared.unit.Unit.{Unit as Whole}
use Rattle.psy_tree.specs.Parts.{homes}

-- No more is left over this length than over that one, where a tick has so many cycles.
abbrev pub IsNoLooser : ℕ → (ℕ → ℕ) → ℕ → ℕ → Type 0
IsNoLooser quantum demand length other = quantum * length + demand other ≤ quantum * other + demand length

-- Less is left over it.
abbrev pub IsTighter : ℕ → (ℕ → ℕ) → ℕ → ℕ → Type 0
IsTighter quantum demand length other = quantum * length + demand other < quantum * other + demand length

-- The least length, of those from 1 up to the greatest, over which the least is left
pub record IsTightest (quantum : ℕ) (demand : ℕ → ℕ) (top length : ℕ) : Type 0 where
  pub some : 1 ≤ length
  pub within : length ≤ top
  pub most : (other : ℕ) → 1 ≤ other → other ≤ top → IsNoLooser quantum demand length other
  pub first : (less : ℕ) → 1 ≤ less → less < length → IsTighter quantum demand length less

-- The lists of a program's agents by length: one for each, of numbers of some size
pub record AreListed (unit : Whole) (lists : List (List ℕ)) : Type 0 where
  pub few : length unit.agents ≤ AGENTS
  pub count : length lists ≡ length unit.agents
  pub small : All (All (λ part. part < 2 ^ 50)) lists

-- What the list of an agent has at a length, where the agent is of this processor
abbrev pub demand_of : List (List ℕ) → List ℕ → ℕ → ℕ → ℕ → ℕ
demand_of lists homes processor within agent = if get_or homes agent 0 == processor then slice_index (get_or lists agent []) within else 0

-- The demand on a processor of a program: the sum of what the lists of its own agents have at a length
abbrev pub demand_on : Whole → List (List ℕ) → ℕ → ℕ → ℕ
demand_on unit lists processor within = sum_by (demand_of lists (homes unit) processor within) (range_with_len 0 (length lists))

-- By processor of a program, the tightest length for the demand of its own agents; none where there is no length
pub record AreTightest (unit : Whole) (lists : List (List ℕ)) (top : ℕ) (lengths : List ℕ) : Type 0 where
  pub count : length lengths ≡ (if top == 0 then 0 else processors unit)
  pub each : (processor : ℕ) → processor < length lengths → IsTightest unit.quantum (demand_on unit lists processor) top (get_or lengths processor 0)
