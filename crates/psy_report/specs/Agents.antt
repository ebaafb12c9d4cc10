-- What is told of each agent, and of the agents of a processor.
use Rattle.std.specs.Prelude.{ℕ, ◌*◌, ◌/◌, ◌%◌, ◌==◌, List, [], ◌∷◌, Option, None, Some, decimal, get_or, length, slice_get}
use Rattle.std.specs.Int.{div_ceil}
use Rattle.std.specs.List.{position_or_len, range_with_len}
use Rattle.psy_base.specs.Extremes.{most_of}
use Rattle.psy_history.specs.Processors.{served}
use Rattle.psy_page.specs.Spelling.{labelled}
use Rattle.psy_page.specs.Templates.{fill}
use Rattle.psy_plan.specs.Lines.{told_processor}
use Rattle.psy_report.specs.declared.agents.TheConstants.{AGENT, ON, WHOLE}
use Rattle.psy_report.specs.declared.measures.Measures.{Measures}
use Rattle.psy_rate.specs.declared.line.Rate.{Rate}
use Rattle.psy_rate.specs.declared.line.TheConstants.{SCALE}
use Rattle.psy_tree.specs.declared.unit.AgentDecl.{AgentDecl}
use Rattle.psy_tree.specs.declared.unit.Point.{Point}
use Rattle.psy_tree.specs.declared.unit.Unit.{Unit as Whole}
use Rattle.psy_tree.specs.Parts.{agent_at}

-- A point without a budget, and a line of nothing: what stands where there is none
abbrev pub no_point : Point
no_point = record { count = 0; clock = 0; budget = 0 }

abbrev pub no_rate : Rate
no_rate = record { rate = 0; intercept = 0 }

-- The first point from which an action costs most
abbrev pub worst_point : List ℕ → ℕ
worst_point costs = position_or_len (λ cost. cost == most_of costs) costs

-- The budget of an agent's actions from a point
abbrev pub budget_at : AgentDecl → ℕ → ℕ
budget_at agent point = (get_or agent.points point no_point).budget

-- The share of a processor of so many cycles a tick that a rate asks for, in hundredths of a percent, rounded up. A rate counts parts of a cycle.
abbrev pub share_of : ℕ → ℕ → ℕ
share_of rate quantum = div_ceil (rate * WHOLE) (SCALE * quantum)

-- How the line of a processor ends: with its number, but for processor 0
abbrev pub on : ℕ → List ℕ
on processor = labelled ON.now (told_processor processor)

-- An agent with these costs by point, of which this share of its processor is asked for: its budget, its greatest cost and the budget there, the share as a
-- percentage with two decimals, and which processor that is
abbrev pub agent_line : AgentDecl → List ℕ → ℕ → List ℕ
agent_line agent costs share =
    fill AGENT.now (agent.name ∷ decimal agent.budget ∷ decimal (most_of costs) ∷ decimal (budget_at agent (worst_point costs))
    ∷ decimal (share / 100) ∷ decimal (share / 10 % 10) ∷ decimal (share % 10) ∷ on agent.processor ∷ [])

-- The agent of a number, where there is one, with its share in the long run
abbrev pub agent_by : Whole → Measures → ℕ → Option AgentDecl → List ℕ
agent_by unit measures number None = []
agent_by unit measures number (Some agent) =
    agent_line agent (get_or measures.costs number []) (share_of (get_or measures.lines number no_rate).rate unit.quantum)

abbrev pub agent_text : Whole → Measures → ℕ → List ℕ
agent_text unit measures number = agent_by unit measures number (slice_get unit.agents number)

-- The agents of a processor, in the order of declaration
abbrev pub agents_on : Whole → ℕ → List ℕ
agents_on unit processor = served unit processor (range_with_len 0 (length unit.agents))

-- An agent's part of the demand on its processor over a length, told in this form
abbrev pub part_text : List ℕ → Whole → Measures → ℕ → ℕ → List ℕ
part_text form unit measures length number = fill form ((agent_at unit number).name ∷ decimal (get_or (get_or measures.lists number []) length 0) ∷ [])
