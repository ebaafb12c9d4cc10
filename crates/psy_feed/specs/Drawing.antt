-- The arrows of a program in the language DOT of Graphviz.
use Rattle.std.specs.Prelude.{ℕ, List, [], ◌∷◌, ◌++◌, flat_map, None, Some, Option}
use Rattle.psy_tree.specs.declared.unit.AgentDecl.{AgentDecl}
use Rattle.psy_tree.specs.declared.unit.Unit.{Unit as Whole}
use Rattle.psy_tree.specs.declared.unit.VarDecl.{VarDecl}
use Rattle.psy_tree.specs.Parts.{agent_at, stream_at, variable_at}
use Rattle.psy_page.specs.Templates.{fill}
use Rattle.psy_feed.specs.declared.text.Carried.{Carried}
use Rattle.psy_feed.specs.declared.text.Carried.TheVariants.{Variable, Stream}
use Rattle.psy_feed.specs.declared.text.TheConstants.{AGENT, END, HEAD, INPUT, LOOK, SEND}
use Rattle.psy_feed.specs.Arrows.{Arrow, Source, Agent, Input, arrows}

-- The node of an agent
abbrev pub agent_text : AgentDecl → List ℕ
agent_text agent = fill AGENT.now (agent.name ∷ [])

-- The node of a variable without an owner; one with an owner is no node.
abbrev pub node_by : List ℕ → Option ℕ → List ℕ
node_by name None = fill INPUT.now (name ∷ [])
node_by name (Some owner) = []

abbrev pub input_text : VarDecl → List ℕ
input_text variable = node_by variable.name variable.owner

-- The name of the node where an arrow begins
abbrev pub name_at : Whole → Source → List ℕ
name_at unit (Agent agent) = (agent_at unit agent).name
name_at unit (Input variable) = (variable_at unit variable).name

-- The arrow between two nodes of these names, with what goes along it as its label
abbrev pub carried_line : Whole → List ℕ → List ℕ → Carried → List ℕ
carried_line unit from to (Variable variable) = fill LOOK.now (from ∷ to ∷ (variable_at unit variable).name ∷ [])
carried_line unit from to (Stream stream) = fill SEND.now (from ∷ to ∷ (stream_at unit stream).name ∷ [])

abbrev pub arrow_text : Whole → Arrow → List ℕ
arrow_text unit arrow = carried_line unit (name_at unit arrow.from) (agent_at unit arrow.to).name arrow.carries

-- The whole text: the agents, the inputs, and the arrows
abbrev pub flow_of : Whole → List ℕ
flow_of unit = HEAD.now ++ flat_map agent_text unit.agents ++ flat_map input_text unit.variables ++ flat_map (arrow_text unit) (arrows unit) ++ END.now
