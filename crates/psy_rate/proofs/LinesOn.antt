-- The lines of a processor's agents are those of their graphs.
use Rattle.std.proofs.Common.{◌≡◌, ℕ, zero, suc, ◌+◌, ◌*◌, ◌≤◌, ◌==◌, List, [], ◌∷◌, Bool, true, false, length, map, get_or, if◌then◌else◌, refl, ap, sym, subst, arith}
use Rattle.std.specs.List.{range_with_len}
use Rattle.psy_base.specs.declared.edge.Edge.{Edge}
use Rattle.psy_base.specs.Paths.{IsPath, weight_of}
use Rattle.psy_meaning.specs.Demand.{edges_on}
use Rattle.psy_rate.specs.Lines.{IsClosed, IsRateOf, AreRates, due_of, lines_on, no_line}
use Rattle.psy_rate.specs.declared.line.Rate.{Rate}
use Rattle.psy_rate.specs.declared.line.TheConstants.{SCALE}

-- A graph without edges has no path but the empty one.
no_path : (path : List Edge) → IsPath [] path → path ≡ []
no_path [] is = refl
no_path (e ∷ path) is = absurd (omega (arith, is.1.0.1))

no_closed : (path : List Edge) → IsClosed [] path → ⊥
no_closed [] is = is
no_closed (e ∷ path) is = omega (arith, is.0.0.1)

-- So its line is that of an agent that asks for nothing.
pub line_none : IsRateOf [] no_line
line_none = (
  record { allows = λ path is. absurd (no_closed path is); least = λ less allows. omega arith },
  record {
    most = λ path is. subst (λ p. SCALE * weight_of p ≤ 0 * due_of p + 0) (sym (no_path path is)) (omega arith);
    one = ([], (0, tt), omega arith);
  },
)

-- Each agent has its line, also one that isn't there.
line_at : (graphs : List (List Edge)) (lines : List Rate) → AreRates graphs lines → (agent : ℕ) → IsRateOf (get_or graphs agent []) (get_or lines agent no_line)
line_at [] [] are agent = line_none
line_at [] (line ∷ lines) are agent = absurd are
line_at (graph ∷ graphs) [] are agent = absurd are
line_at (graph ∷ graphs) (line ∷ lines) are zero = are.0
line_at (graph ∷ graphs) (line ∷ lines) are (suc agent) = line_at graphs lines are.1 agent

-- There are as many lines as graphs.
pub as_many : (graphs : List (List Edge)) (lines : List Rate) → AreRates graphs lines → length graphs ≡ length lines
as_many [] [] are = refl
as_many [] (line ∷ lines) are = absurd are
as_many (graph ∷ graphs) [] are = absurd are
as_many (graph ∷ graphs) (line ∷ lines) are = ap suc (as_many graphs lines are.1)

-- Lines of graphs that are given by agent
rates_by : (graph_of : ℕ → List Edge) (line_of : ℕ → Rate) → ((agent : ℕ) → IsRateOf (graph_of agent) (line_of agent)) → (agents : List ℕ) → AreRates (map graph_of agents) (map line_of agents)
rates_by graph_of line_of each [] = tt
rates_by graph_of line_of each (agent ∷ agents) = (each agent, rates_by graph_of line_of each agents)

-- An agent that is another processor's asks for nothing here.
rate_where : (here : Bool) (graph : List Edge) (line : Rate) → IsRateOf graph line → IsRateOf (if here then graph else []) (if here then line else no_line)
rate_where true graph line is = is
rate_where false graph line is = line_none

pub rates_on : (homes : List ℕ) (processor : ℕ) (graphs : List (List Edge)) (lines : List Rate) → AreRates graphs lines → AreRates (edges_on homes processor graphs) (lines_on homes processor lines)
rates_on homes processor graphs lines are =
    let line_of : ℕ → Rate = λ agent. if get_or homes agent 0 == processor then get_or lines agent no_line else no_line in
    subst (λ n. AreRates (edges_on homes processor graphs) (map line_of (range_with_len 0 n))) (as_many graphs lines are)
    (rates_by (λ agent. if get_or homes agent 0 == processor then get_or graphs agent [] else []) line_of
    (λ agent. rate_where (get_or homes agent 0 == processor) (get_or graphs agent []) (get_or lines agent no_line) (line_at graphs lines are agent))
    (range_with_len 0 (length graphs)))
