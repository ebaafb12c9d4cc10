-- The processor demand criterion for one processor: where the earliest deadline goes first, each deadline is met if the work released and due
-- within each length fits into it.
use Rattle.std.specs.Prelude.{◌≡◌, ℕ, ◌*◌, ◌<◌, ◌≤◌, List, slice_index}
use Rattle.std.specs.List.{sum_by}
use Rattle.psy_demand.specs.declared.demand.Verdict.{Verdict}
use Rattle.psy_demand.specs.declared.demand.Verdict.TheVariants.{Yes, No}

-- The demand at a length: the sum of what the lists have there
abbrev pub demand : List (List ℕ) → ℕ → ℕ
demand lists within = sum_by (λ list. slice_index list within) lists

-- At each length from 1 up to `top`, the demand fits: it is at most so many cycles a tick.
abbrev pub DemandFits : List (List ℕ) → ℕ → ℕ → Type 0
DemandFits lists quantum top = (within : ℕ) → 1 ≤ within → within ≤ top → demand lists within ≤ quantum * within

-- What a verdict says: it fits at each; or this is the least length at which the demand doesn't, with that demand.
abbrev pub IsVerdict : List (List ℕ) → ℕ → ℕ → Verdict → Type 0
IsVerdict lists quantum top Yes = DemandFits lists quantum top
IsVerdict lists quantum top (No within passed) =
    (1 ≤ within) × (within ≤ top) × (passed ≡ demand lists within) × (quantum * within < passed)
    × ((less : ℕ) → 1 ≤ less → less < within → demand lists less ≤ quantum * less)
