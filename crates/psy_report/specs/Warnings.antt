-- What looks like a slip: an action that may cost more than its budget, a depth that no look asks for, a stream to which nobody sends, an input
-- at which nobody looks.
use Rattle.std.specs.Prelude.{ℕ, nat_le, Bool, if◌then◌else◌, List, [], ◌∷◌, Option, Some, None, decimal, flat_map, get_or, length, slice_get}
use Rattle.std.specs.List.{list_any, range_with_len}
use Rattle.psy_feed.specs.Arrows.{looks, sends}
use Rattle.psy_feed.specs.Backs.{backs_in}
use Rattle.psy_history.specs.Feeding.{pasts_in}
use Rattle.psy_meaning.specs.Sendings.{sendings_in}
use Rattle.psy_page.specs.Templates.{fill}
use Rattle.psy_report.specs.declared.measures.Measures.{Measures}
use Rattle.psy_report.specs.declared.warnings.TheConstants.{DEEP, OVER, UNLOOKED, UNSENT}
use Rattle.psy_tree.specs.declared.unit.AgentDecl.{AgentDecl}
use Rattle.psy_tree.specs.declared.unit.Unit.{Unit as Whole}
use Rattle.psy_tree.specs.Parts.{stream_at, variable_at}
use Rattle.psy_report.specs.Agents.{budget_at}

-- The line of a point, where the cost of an action from it passes its budget
abbrev pub cost_text : AgentDecl → List ℕ → ℕ → List ℕ
cost_text agent costs point =
    let cost = get_or costs point 0 in
    let budget = budget_at agent point in
    if nat_le cost budget then [] else fill OVER.now (agent.name ∷ decimal point ∷ decimal cost ∷ decimal budget ∷ [])

-- The lines of an agent's points
abbrev pub costs_by : List ℕ → Option AgentDecl → List ℕ
costs_by costs None = []
costs_by costs (Some agent) = flat_map (cost_text agent costs) (range_with_len 0 (length costs))

abbrev pub costs_text : Whole → Measures → ℕ → List ℕ
costs_text unit measures number = costs_by (get_or measures.costs number []) (slice_get unit.agents number)

-- Whether the text of an agent sends to a stream
abbrev pub is_sent_to : Whole → ℕ → Bool
is_sent_to unit stream = list_any (λ (agent : AgentDecl). sends stream (sendings_in agent.stmts)) unit.agents

-- The line of a stream, where none does
abbrev pub stream_text : Whole → ℕ → List ℕ
stream_text unit stream = if is_sent_to unit stream then [] else fill UNSENT.now ((stream_at unit stream).name ∷ [])

-- Whether the text of an agent looks at a variable
abbrev pub is_looked_at : Whole → ℕ → Bool
is_looked_at unit variable = list_any (λ (agent : AgentDecl). looks variable (pasts_in agent.stmts)) unit.agents

-- The line of a variable without an owner, which is an input, where none does
abbrev pub input_by : Whole → ℕ → Option ℕ → List ℕ
input_by unit variable (Some owner) = []
input_by unit variable None = if is_looked_at unit variable then [] else fill UNLOOKED.now ((variable_at unit variable).name ∷ [])

abbrev pub input_text : Whole → ℕ → List ℕ
input_text unit variable = input_by unit variable (variable_at unit variable).owner

-- Whether the text of an agent looks back at a variable, behind its last value
abbrev pub is_looked_back_at : Whole → ℕ → Bool
is_looked_back_at unit variable = list_any (λ (agent : AgentDecl). looks variable (backs_in 1 agent.stmts)) unit.agents

-- The line of a variable or an input of a depth above 1, where none does
abbrev pub depth_text : Whole → ℕ → List ℕ
depth_text unit variable =
    let decl = variable_at unit variable in
    if nat_le decl.depth 1 then [] else (if is_looked_back_at unit variable then [] else fill DEEP.now (decl.name ∷ decimal decl.depth ∷ []))
