-- Where what a note says alone leads.
use Rattle.std.proofs.Common.{◌≡◌, ℕ, List, [], ◌∷◌, Option, None, Some, refl, sym, ap, ◌∙◌, arith}
use Rattle.std.specs.Prelude.{Contains}
use Rattle.psy_log.specs.declared.form.Form.{Form}
use Rattle.psy_log.specs.declared.form.Form.TheVariants as form
use Rattle.psy_log.specs.declared.note.Note.{Note}
use Rattle.psy_log.specs.declared.note.Note.TheVariants as note
use Rattle.psy_log.specs.Forms.{says}
use Rattle.psy_log.specs.Table.{Said, short, long}
use Rattle.psy_notes.specs.declared.forms.TheConstants.{RUN, GRAPH}
use Rattle.psy_notes.specs.declared.stand.Stand.{Stand}
use Rattle.psy_notes.specs.declared.stand.Stand.TheVariants as stand
use Rattle.psy_notes.specs.Stands.{where_so, may_be_dated, behind_dated, next_stream, next_variable, behind_agents, behind_variables, behind_streams, behind_graph, next_stand}
use Rattle.psy_notes.specs.Reading.{forms_at}

-- Behind dated lines
abbrev by_date : ℕ → Form → List Said → Option Stand
by_date last form.StopOverrun (long date ∷ said) = where_so (may_be_dated last date) (stand.Dated date)
by_date last form.StopTrap (long date ∷ said) = where_so (may_be_dated last date) (stand.Dated date)
by_date last form.Value (long date ∷ said) = where_so (may_be_dated last date) (stand.Dated date)
by_date last form.Message (long date ∷ said) = where_so (may_be_dated last date) (stand.Dated date)
by_date last form.End (long until ∷ said) = where_so (may_be_dated last until) (stand.Agents 0)
by_date last _ said = None

-- Behind graphs
abbrev by_graph : ℕ → ℕ → ℕ → ℕ → Form → List Said → Option Stand
by_graph agents nodes told edges form.AgentGraph (agent ∷ short more_nodes ∷ short more_edges ∷ said) =
    behind_graph agents nodes told edges (note.AgentGraph (record { ref_ptr = (0, 0); now = [] }) more_nodes more_edges)
by_graph agents nodes told edges form.Node (short number ∷ said) = behind_graph agents nodes told edges (note.Node number 0 0 0 0 0)
by_graph agents nodes told edges form.EdgeOf (short from ∷ short to ∷ said) = behind_graph agents nodes told edges (note.EdgeOf from to 0)
by_graph agents nodes told edges _ said = None

-- Behind a run's end
abbrev by_agents : ℕ → Form → Option Stand
by_agents agents form.AgentEnd = behind_agents agents (note.AgentEnd (record { ref_ptr = (0, 0); now = [] }) 0 None)
by_agents agents form.VariableEnd = next_variable 0
by_agents agents form.StreamEnd = next_stream 0
by_agents agents _ = None

abbrev by_variables : ℕ → Form → Option Stand
by_variables variables form.VariableEnd = next_variable variables
by_variables variables form.StreamEnd = next_stream 0
by_variables variables _ = None

abbrev by_streams : ℕ → Form → Option Stand
by_streams streams form.StreamEnd = next_stream streams
by_streams streams _ = None

abbrev next_by : Stand → Form × List Said → Option Stand
next_by (stand.Dated last) saying = by_date last saying.0 saying.1
next_by (stand.Agents agents) saying = by_agents agents saying.0
next_by (stand.Variables variables) saying = by_variables variables saying.0
next_by (stand.Streams streams) saying = by_streams streams saying.0
next_by (stand.Graphs agents nodes told edges) saying = by_graph agents nodes told edges saying.0 saying.1

dated_is : (last : ℕ) (n : Note) → behind_dated last n ≡ by_date last (says n).0 (says n).1
dated_is last (note.Infeasible len demand supply None) = refl
dated_is last (note.Infeasible len demand supply (Some processor)) = refl
dated_is last (note.Refused what number None) = refl
dated_is last (note.Refused what number (Some at)) = refl
dated_is last _ = refl

agents_is : (agents : ℕ) (n : Note) → behind_agents agents n ≡ by_agents agents (says n).0
agents_is agents (note.Infeasible len demand supply None) = refl
agents_is agents (note.Infeasible len demand supply (Some processor)) = refl
agents_is agents (note.Refused what number None) = refl
agents_is agents (note.Refused what number (Some at)) = refl
agents_is agents _ = refl

variables_is : (variables : ℕ) (n : Note) → behind_variables variables n ≡ by_variables variables (says n).0
variables_is variables (note.Infeasible len demand supply None) = refl
variables_is variables (note.Infeasible len demand supply (Some processor)) = refl
variables_is variables (note.Refused what number None) = refl
variables_is variables (note.Refused what number (Some at)) = refl
variables_is variables _ = refl

streams_is : (streams : ℕ) (n : Note) → behind_streams streams n ≡ by_streams streams (says n).0
streams_is streams (note.Infeasible len demand supply None) = refl
streams_is streams (note.Infeasible len demand supply (Some processor)) = refl
streams_is streams (note.Refused what number None) = refl
streams_is streams (note.Refused what number (Some at)) = refl
streams_is streams _ = refl

graph_is : (agents nodes told edges : ℕ) (n : Note) → behind_graph agents nodes told edges n ≡ by_graph agents nodes told edges (says n).0 (says n).1
graph_is agents nodes told edges (note.Infeasible len demand supply None) = refl
graph_is agents nodes told edges (note.Infeasible len demand supply (Some processor)) = refl
graph_is agents nodes told edges (note.Refused what number None) = refl
graph_is agents nodes told edges (note.Refused what number (Some at)) = refl
graph_is agents nodes told edges _ = refl

next_is : (from : Stand) (n : Note) → next_stand from n ≡ next_by from (says n)
next_is (stand.Dated last) n = dated_is last n
next_is (stand.Agents agents) n = agents_is agents n
next_is (stand.Variables variables) n = variables_is variables n
next_is (stand.Streams streams) n = streams_is streams n
next_is (stand.Graphs agents nodes told edges) n = graph_is agents nodes told edges n

-- Notes that say the same lead to the same stand
pub alike : (from : Stand) (some other : Note) → says some ≡ says other → next_stand from some ≡ next_stand from other
alike from some other same = next_is from some ∙ ap (next_by from) same ∙ sym (next_is from other)

-- ---- a note behind which a stand follows is read there

dated_by : (last : ℕ) (n : Note) (to : Stand) → behind_dated last n ≡ Some to → Contains RUN (says n).0
dated_by last (note.Value date variable number) to is = (0, omega arith, refl)
dated_by last (note.Message date stream number) to is = (1, omega arith, refl)
dated_by last (note.StopOverrun date agent) to is = (2, omega arith, refl)
dated_by last (note.StopTrap date agent trap) to is = (3, omega arith, refl)
dated_by last (note.End until) to is = (4, omega arith, refl)
dated_by last _ to is = cc

agents_by : (agents : ℕ) (n : Note) (to : Stand) → behind_agents agents n ≡ Some to → Contains RUN (says n).0
agents_by agents (note.AgentEnd agent count slack) to is = (5, omega arith, refl)
agents_by agents (note.VariableEnd variable size reach) to is = (6, omega arith, refl)
agents_by agents (note.StreamEnd stream size held) to is = (7, omega arith, refl)
agents_by agents _ to is = cc

variables_by : (variables : ℕ) (n : Note) (to : Stand) → behind_variables variables n ≡ Some to → Contains RUN (says n).0
variables_by variables (note.VariableEnd variable size reach) to is = (6, omega arith, refl)
variables_by variables (note.StreamEnd stream size held) to is = (7, omega arith, refl)
variables_by variables _ to is = cc

streams_by : (streams : ℕ) (n : Note) (to : Stand) → behind_streams streams n ≡ Some to → Contains RUN (says n).0
streams_by streams (note.StreamEnd stream size held) to is = (7, omega arith, refl)
streams_by streams _ to is = cc

graph_by : (agents nodes told edges : ℕ) (n : Note) (to : Stand) → behind_graph agents nodes told edges n ≡ Some to → Contains GRAPH (says n).0
graph_by agents nodes told edges (note.EdgeOf start end len) to is = (0, omega arith, refl)
graph_by agents nodes told edges (note.Node number point phase budget worst due) to is = (1, omega arith, refl)
graph_by agents nodes told edges (note.AgentGraph agent more_nodes more_edges) to is = (2, omega arith, refl)
graph_by agents nodes told edges _ to is = cc

pub forms_by : (from : Stand) (n : Note) (to : Stand) → next_stand from n ≡ Some to → Contains (forms_at from) (says n).0
forms_by (stand.Dated last) n to is = dated_by last n to is
forms_by (stand.Agents agents) n to is = agents_by agents n to is
forms_by (stand.Variables variables) n to is = variables_by variables n to is
forms_by (stand.Streams streams) n to is = streams_by streams n to is
forms_by (stand.Graphs agents nodes told edges) n to is = graph_by agents nodes told edges n to is
