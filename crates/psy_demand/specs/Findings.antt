-- What is found of several processors by the action graphs of their agents: on one, and on the first of them.
use Rattle.std.specs.Prelude.{ℕ, ◌<◌, ◌≤◌, if◌then◌else◌, List, nat_lt}
use Rattle.psy_base.specs.declared.edge.Edge.{Edge}
use Rattle.psy_meaning.specs.Demand.{IsFeasible, IsOverload, Suffices, edges_on}
use Rattle.psy_demand.specs.declared.demand.Verdict.{Verdict}
use Rattle.psy_demand.specs.declared.demand.Verdict.TheVariants.{Yes, No}
use Rattle.psy_demand.specs.declared.finding.Finding.{Finding}
use Rattle.psy_demand.specs.declared.finding.Finding.TheVariants.{Feasible, Overload}

-- What a verdict says of agents with these graphs
abbrev pub IsVerdictOn : List (List Edge) → ℕ → ℕ → Verdict → Type 0
IsVerdictOn graphs quantum top Yes = IsFeasible graphs quantum top
IsVerdictOn graphs quantum top (No within demand) = IsOverload graphs quantum top within demand

-- The one of two overloads that comes sooner: this one, where its length is less
abbrev pub sooner : Finding → ℕ → ℕ → ℕ → Finding
sooner Feasible within processor demand = Overload within processor demand
sooner (Overload least first passed) within processor demand = if nat_lt within least then Overload within processor demand else Overload least first passed

-- What is found of some processors, together with the verdict on another
abbrev pub joined : Finding → ℕ → Verdict → Finding
joined found processor Yes = found
joined found processor (No within demand) = sooner found within processor demand

-- The first processors, of which there are so many, can supply what their agents may demand; or this is the least length over which one of them
-- can't, and the least such processor.
abbrev pub IsFoundOf : List ℕ → List (List Edge) → ℕ → ℕ → ℕ → Finding → Type 0
IsFoundOf homes graphs quantum top count Feasible = (processor : ℕ) → processor < count → IsFeasible (edges_on homes processor graphs) quantum top
IsFoundOf homes graphs quantum top count (Overload within processor demand) =
    (processor < count) × IsOverload (edges_on homes processor graphs) quantum top within demand
    × ((less other : ℕ) → 1 ≤ less → less < within → other < count → Suffices (edges_on homes other graphs) quantum less)
    × ((other : ℕ) → other < processor → Suffices (edges_on homes other graphs) quantum within)
