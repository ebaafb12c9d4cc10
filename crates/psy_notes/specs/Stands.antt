-- Which line may follow which, in what `psyc run` and `psyc graph` write.
use Rattle.std.specs.Prelude.{ℕ, ◌+◌, ◌-◌, ◌==◌, ◌&&◌, Bool, true, false, nat_le, nat_lt, if◌then◌else◌, Option, None, Some}
use Rattle.psy_base.specs.declared.limits.TheConstants.{UNTIL, AGENTS, VARIABLES, STREAMS, NODES, EDGES}
use Rattle.psy_log.specs.declared.note.Note.{Note}
use Rattle.psy_log.specs.declared.note.Note.TheVariants as note
use Rattle.psy_notes.specs.declared.stand.Stand.{Stand}
use Rattle.psy_notes.specs.declared.stand.Stand.TheVariants as stand

-- This stand, where that holds
abbrev pub where_so : Bool → Stand → Option Stand
where_so holds next = if holds then Some next else None

-- A line of this date may follow: dates don't fall, and none lies beyond the last one that psyc runs to
abbrev pub may_be_dated : ℕ → ℕ → Bool
may_be_dated last date = nat_le last date && nat_le date UNTIL

-- Behind dated lines, the last of them of that date: another one, or the end
abbrev pub behind_dated : ℕ → Note → Option Stand
behind_dated last (note.StopOverrun date agent) = where_so (may_be_dated last date) (stand.Dated date)
behind_dated last (note.StopTrap date agent kind) = where_so (may_be_dated last date) (stand.Dated date)
behind_dated last (note.Value date variable value) = where_so (may_be_dated last date) (stand.Dated date)
behind_dated last (note.Message date stream value) = where_so (may_be_dated last date) (stand.Dated date)
behind_dated last (note.End until) = where_so (may_be_dated last until) (stand.Agents 0)
behind_dated last _ = None

-- One stream more
abbrev pub next_stream : ℕ → Option Stand
next_stream streams = where_so (nat_lt streams STREAMS) (stand.Streams (streams + 1))

-- One variable more
abbrev pub next_variable : ℕ → Option Stand
next_variable variables = where_so (nat_lt variables VARIABLES) (stand.Variables (variables + 1))

-- Behind the end and so many agents' lines: those of agents, of variables, of streams, in this order
abbrev pub behind_agents : ℕ → Note → Option Stand
behind_agents agents (note.AgentEnd agent count slack) = where_so (nat_lt agents AGENTS) (stand.Agents (agents + 1))
behind_agents agents (note.VariableEnd variable size reach) = next_variable 0
behind_agents agents (note.StreamEnd stream size held) = next_stream 0
behind_agents agents _ = None

-- Behind so many variables' lines
abbrev pub behind_variables : ℕ → Note → Option Stand
behind_variables variables (note.VariableEnd variable size reach) = next_variable variables
behind_variables variables (note.StreamEnd stream size held) = next_stream 0
behind_variables variables _ = None

-- Behind so many streams' lines
abbrev pub behind_streams : ℕ → Note → Option Stand
behind_streams streams (note.StreamEnd stream size held) = next_stream streams
behind_streams streams _ = None

-- Behind so many agents' graphs, of the last of which so many nodes were told, and so many edges weren't: its next node, its next edge behind
-- all nodes, or the next agent behind all edges
abbrev pub behind_graph : ℕ → ℕ → ℕ → ℕ → Note → Option Stand
behind_graph agents nodes told edges (note.AgentGraph agent more_nodes more_edges) =
    where_so ((told == nodes && edges == 0) && (nat_lt agents AGENTS && (nat_le more_nodes NODES && nat_le more_edges EDGES)))
    (stand.Graphs (agents + 1) more_nodes 0 more_edges)
behind_graph agents nodes told edges (note.Node number point phase budget worst due) = where_so (number == told && nat_lt told nodes)
    (stand.Graphs agents nodes (told + 1) edges)
behind_graph agents nodes told edges (note.EdgeOf from to len) =
    where_so ((told == nodes && nat_lt 0 edges) && (nat_lt from nodes && nat_lt to nodes)) (stand.Graphs agents nodes told (edges - 1))
behind_graph agents nodes told edges _ = None

-- Where the text stands behind a note's line, where that line may follow
abbrev pub next_stand : Stand → Note → Option Stand
next_stand (stand.Dated date) next = behind_dated date next
next_stand (stand.Agents agents) next = behind_agents agents next
next_stand (stand.Variables variables) next = behind_variables variables next
next_stand (stand.Streams streams) next = behind_streams streams next
next_stand (stand.Graphs agents nodes told edges) next = behind_graph agents nodes told edges next

-- The text may end here: behind the end of a run, or behind whole graphs
abbrev pub may_end : Stand → Bool
may_end (stand.Dated date) = false
may_end (stand.Agents agents) = true
may_end (stand.Variables variables) = true
may_end (stand.Streams streams) = true
may_end (stand.Graphs agents nodes told edges) = told == nodes && edges == 0

-- The beginning of what `psyc run` writes
abbrev pub run_begins : Stand
run_begins = stand.Dated 0

-- The beginning of what `psyc graph` writes
abbrev pub graph_begins : Stand
graph_begins = stand.Graphs 0 0 0 0
