-- The line of each form, by what is said in it; the note that a line says.
use Rattle.std.specs.Prelude.{ℕ, ℤ, List, [], ◌∷◌, ◌++◌, codes, decimal, Option, None, Some}
use Rattle.psy_arith.specs.declared.operators.Trap.{Trap}
use Rattle.psy_log.specs.declared.form.Form.{Form}
use Rattle.psy_log.specs.declared.form.Form.TheVariants as form
use Rattle.psy_log.specs.declared.note.Note.{Note}
use Rattle.psy_log.specs.declared.note.Note.TheVariants as note
use Rattle.psy_log.specs.Table.{Said, short, long, value, name, short_or_none, long_or_none, kind, line}
pub use Rattle.psy_log.specs.Table.{trap_name, number_or_dash}

-- ` at PLACE`, or nothing where there is no place
abbrev pub at_place : Option ℕ → List ℕ
at_place None = []
at_place (Some place) = codes " at " ++ decimal place

-- ` on PROCESSOR`, or nothing where there is no processor
abbrev pub on_processor : Option ℕ → List ℕ
on_processor None = []
on_processor (Some processor) = codes " on " ++ decimal processor

-- `DATE stop AGENT overrun`
abbrev pub stop_overrun_line : ℕ → List ℕ → List ℕ
stop_overrun_line date agent = line form.StopOverrun (long date ∷ name agent ∷ [])

-- `DATE stop AGENT trap KIND`
abbrev pub stop_trap_line : ℕ → List ℕ → Trap → List ℕ
stop_trap_line date agent trap = line form.StopTrap (long date ∷ name agent ∷ kind trap ∷ [])

-- `DATE VARIABLE VALUE`
abbrev pub value_line : ℕ → List ℕ → ℤ → List ℕ
value_line date variable number = line form.Value (long date ∷ name variable ∷ value number ∷ [])

-- `DATE STREAM msg VALUE`
abbrev pub message_line : ℕ → List ℕ → ℤ → List ℕ
message_line date stream number = line form.Message (long date ∷ name stream ∷ value number ∷ [])

-- `end UNTIL`
abbrev pub end_line : ℕ → List ℕ
end_line until = line form.End (long until ∷ [])

-- `agent AGENT COUNT SLACK`, the slack being `-` where there is none
abbrev pub agent_line : List ℕ → ℕ → Option ℕ → List ℕ
agent_line agent count slack = line form.AgentEnd (name agent ∷ long count ∷ long_or_none slack ∷ [])

-- `variable VARIABLE SIZE REACH`, the reach being `-` where there is none
abbrev pub variable_line : List ℕ → ℕ → Option ℕ → List ℕ
variable_line variable size reach = line form.VariableEnd (name variable ∷ short size ∷ short_or_none reach ∷ [])

-- `stream STREAM SIZE HELD`
abbrev pub stream_line : List ℕ → ℕ → ℕ → List ℕ
stream_line stream size held = line form.StreamEnd (name stream ∷ short size ∷ short held ∷ [])

-- `variable VARIABLE SIZE`
abbrev pub variable_size_line : List ℕ → ℕ → List ℕ
variable_size_line variable size = line form.VariableSize (name variable ∷ short size ∷ [])

-- `stream STREAM SIZE`
abbrev pub stream_size_line : List ℕ → ℕ → List ℕ
stream_size_line stream size = line form.StreamSize (name stream ∷ short size ∷ [])

-- `rate AGENT RATE INTERCEPT`
abbrev pub rate_line : List ℕ → ℕ → ℕ → List ℕ
rate_line agent rate intercept = line form.Rate (name agent ∷ long rate ∷ long intercept ∷ [])

-- `feasible always`
abbrev pub always_line : List ℕ
always_line = line form.Always []

-- `feasible UNTIL`
abbrev pub feasible_line : ℕ → List ℕ
feasible_line until = line form.Feasible (long until ∷ [])

-- `infeasible LENGTH DEMAND SUPPLY`, with ` on PROCESSOR` where there is one
abbrev pub infeasible_line : ℕ → ℕ → ℕ → Option ℕ → List ℕ
infeasible_line length demand supply None = line form.Infeasible (long length ∷ long demand ∷ long supply ∷ [])
infeasible_line length demand supply (Some processor) = line form.InfeasibleOn (long length ∷ long demand ∷ long supply ∷ short processor ∷ [])

-- `agent AGENT NODES EDGES`
abbrev pub agent_graph_line : List ℕ → ℕ → ℕ → List ℕ
agent_graph_line agent nodes edges = line form.AgentGraph (name agent ∷ short nodes ∷ short edges ∷ [])

-- `node NUMBER POINT PHASE BUDGET WORST DUE`
abbrev pub node_line : ℕ → ℕ → ℕ → ℕ → ℕ → ℕ → List ℕ
node_line number point phase budget worst due = line form.Node (short number ∷ short point ∷ long phase ∷ short budget ∷ long worst ∷ long due ∷ [])

-- `edge FROM TO LEN`
abbrev pub edge_line : ℕ → ℕ → ℕ → List ℕ
edge_line from to len = line form.EdgeOf (short from ∷ short to ∷ long len ∷ [])

-- `words`
abbrev pub words_line : List ℕ
words_line = line form.Words []

-- `read FILE`
abbrev pub read_line : List ℕ → List ℕ
read_line file = line form.Read (name file ∷ [])

-- `limit NAME NUMBER`
abbrev pub limit_line : List ℕ → ℕ → List ℕ
limit_line what number = line form.Limit (name what ∷ long number ∷ [])

-- `refused WHAT NUMBER`, with ` at PLACE` where there is one
abbrev pub refused_line : List ℕ → ℕ → Option ℕ → List ℕ
refused_line what number None = line form.Refused (name what ∷ short number ∷ [])
refused_line what number (Some at) = line form.RefusedAt (name what ∷ short number ∷ short at ∷ [])

-- `refused image PLACE`
abbrev pub refused_image_line : ℕ → List ℕ
refused_image_line place = line form.RefusedImage (short place ∷ [])

-- `busy AGENT`
abbrev pub busy_line : List ℕ → List ℕ
busy_line agent = line form.Busy (name agent ∷ [])

-- `legal ACTS LOOKS`
abbrev pub legal_line : ℕ → ℕ → List ℕ
legal_line acts looks = line form.Legal (short acts ∷ short looks ∷ [])

-- The form of the line that says a note, and what is said in it
abbrev pub says : Note → Form × List Said
says (note.StopOverrun date agent) = (form.StopOverrun, long date ∷ name agent.now ∷ [])
says (note.StopTrap date agent trap) = (form.StopTrap, long date ∷ name agent.now ∷ kind trap ∷ [])
says (note.Value date variable number) = (form.Value, long date ∷ name variable.now ∷ value number ∷ [])
says (note.Message date stream number) = (form.Message, long date ∷ name stream.now ∷ value number ∷ [])
says (note.End until) = (form.End, long until ∷ [])
says (note.AgentEnd agent count slack) = (form.AgentEnd, name agent.now ∷ long count ∷ long_or_none slack ∷ [])
says (note.VariableEnd variable size reach) = (form.VariableEnd, name variable.now ∷ short size ∷ short_or_none reach ∷ [])
says (note.StreamEnd stream size held) = (form.StreamEnd, name stream.now ∷ short size ∷ short held ∷ [])
says (note.VariableSize variable size) = (form.VariableSize, name variable.now ∷ short size ∷ [])
says (note.StreamSize stream size) = (form.StreamSize, name stream.now ∷ short size ∷ [])
says (note.Rate agent rate intercept) = (form.Rate, name agent.now ∷ long rate ∷ long intercept ∷ [])
says note.Always = (form.Always, [])
says (note.Feasible until) = (form.Feasible, long until ∷ [])
says (note.Infeasible length demand supply None) = (form.Infeasible, long length ∷ long demand ∷ long supply ∷ [])
says (note.Infeasible length demand supply (Some processor)) = (form.InfeasibleOn, long length ∷ long demand ∷ long supply ∷ short processor ∷ [])
says (note.AgentGraph agent nodes edges) = (form.AgentGraph, name agent.now ∷ short nodes ∷ short edges ∷ [])
says (note.Node number point phase budget worst due) =
    (form.Node, short number ∷ short point ∷ long phase ∷ short budget ∷ long worst ∷ long due ∷ [])
says (note.EdgeOf from to len) = (form.EdgeOf, short from ∷ short to ∷ long len ∷ [])
says note.Words = (form.Words, [])
says (note.Read file) = (form.Read, name file.now ∷ [])
says (note.Limit what number) = (form.Limit, name what.now ∷ long number ∷ [])
says (note.Refused what number None) = (form.Refused, name what.now ∷ short number ∷ [])
says (note.Refused what number (Some at)) = (form.RefusedAt, name what.now ∷ short number ∷ short at ∷ [])
says (note.RefusedImage place) = (form.RefusedImage, short place ∷ [])
says (note.Busy agent) = (form.Busy, name agent.now ∷ [])
says (note.Legal acts looks) = (form.Legal, short acts ∷ short looks ∷ [])

-- The line that says a note
abbrev pub line_of : Note → List ℕ
line_of note = line (says note).0 (says note).1

-- The name in a note, with no bytes where it has none
abbrev pub name_of : Note → List ℕ
name_of (note.StopOverrun date agent) = agent.now
name_of (note.StopTrap date agent trap) = agent.now
name_of (note.Value date variable number) = variable.now
name_of (note.Message date stream number) = stream.now
name_of (note.AgentEnd agent count slack) = agent.now
name_of (note.VariableEnd variable size reach) = variable.now
name_of (note.StreamEnd stream size held) = stream.now
name_of (note.VariableSize variable size) = variable.now
name_of (note.StreamSize stream size) = stream.now
name_of (note.Rate agent rate intercept) = agent.now
name_of (note.AgentGraph agent nodes edges) = agent.now
name_of (note.Read file) = file.now
name_of (note.Limit what number) = what.now
name_of (note.Refused what number at) = what.now
name_of (note.Busy agent) = agent.now
name_of _ = []
