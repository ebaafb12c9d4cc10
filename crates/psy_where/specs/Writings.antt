-- The lines that psyc writes and that refuse nothing, and what each means.
use Rattle.std.specs.Prelude.{◌≡◌, List, ℕ, ◌++◌, codes, Option, None, Some}
use Rattle.psy_arith.specs.declared.operators.Trap.{Trap}
use Rattle.psy_arith.specs.declared.operators.Trap.TheVariants as trap
use Rattle.psy_log.specs.declared.form.Form.{Form}
use Rattle.psy_log.specs.declared.form.Form.TheVariants as form
use Rattle.psy_log.specs.declared.note.Note.{Note}
use Rattle.psy_log.specs.Forms.{says}
use Rattle.psy_log.specs.Table.{Said}
use Rattle.psy_notes.specs.Reading.{kind_at}
use Rattle.psy_where.specs.declared.written.Written.{Written}
use Rattle.psy_where.specs.declared.written.Written.TheVariants.{Value, Message, Overrun, Divide, Index, Loop, Take, End, Feasible, VariableSize, StreamSize}
use Rattle.psy_where.specs.declared.written.Written.TheVariants.{Agent, Variable, Stream, Rate, Edge, Node, Legal}
use Rattle.psy_where.specs.Notes.{IsNoteOf}

-- What a stop says, by its trap
abbrev pub trapped : Trap → Written
trapped trap.Divide = Divide
trapped trap.Index = Index
trapped trap.Loop = Loop
trapped trap.Take = Take

-- What is said in a line of this form, where it refuses nothing
abbrev pub written_in : Form → List Said → Option Written
written_in form.StopTrap said = Some (trapped (kind_at said 2))
written_in form.StopOverrun said = Some Overrun
written_in form.Value said = Some Value
written_in form.Message said = Some Message
written_in form.End said = Some End
written_in form.AgentEnd said = Some Agent
written_in form.VariableEnd said = Some Variable
written_in form.StreamEnd said = Some Stream
written_in form.VariableSize said = Some VariableSize
written_in form.StreamSize said = Some StreamSize
written_in form.Rate said = Some Rate
written_in form.Always said = Some Feasible
written_in form.Feasible said = Some Feasible
written_in form.AgentGraph said = Some Agent
written_in form.Node said = Some Node
written_in form.EdgeOf said = Some Edge
written_in form.Legal said = Some Legal
written_in _ said = None

-- The line says this.
abbrev pub IsWritten : List ℕ → Written → Type 0
IsWritten line written = (note : Note) × IsNoteOf line note × (written_in (says note).0 (says note).1 ≡ Some written)

-- What it means
abbrev pub written_words : Written → List ℕ
written_words Value = codes "it is the value of a temporal variable at a date"
written_words Message = codes "it is a message, which can be seen from a date on"
written_words Overrun =
    codes "an action that was due at this date overran its budget, and its agent is silent from then on: `psyc graph` tells WORST, which is enough"
written_words Divide =
    codes "an action that was due at this date trapped at a division by 0, and its agent is silent from then on: test the divisor before `/` and `%`"
written_words Index =
    codes "an action that was due at this date trapped at an index outside its array, and its agent is silent from then on: test the index before"
written_words Loop =
    codes "an action that was due at this date trapped behind the last turn of a loop, and its agent is silent from then on: a greater `max` helps"
written_words Take =
    codes "an action that was due at this date trapped at a `take` without a message, and its agent is silent from then on: ask `ready` before"
written_words End = codes "the run came to its end at this date"
written_words Feasible = codes "over each length, up to this date or without an end, the demand is supplied"
written_words VariableSize = codes "so many values of a variable are kept"
written_words StreamSize = codes "for so many messages of a stream there is room"
written_words Agent =
    codes "of a run it tells how many actions of an agent were due, and the least slack of one; of a graph its nodes and its edges"
written_words Variable = codes "so many values of a variable are kept, and behind that stands the greatest age of a look at it"
written_words Stream = codes "for so many messages of a stream there is room, and behind that stands how many it held at most"
written_words Rate = codes "it is the line above an agent's demand: its rate and its intercept, in parts of a cycle"
written_words Edge = codes "it is an edge of an agent's graph: from which node to which, and how many ticks long"
written_words Legal = codes "the trace is legal, and tells of so many actions and so many looks"
written_words Node = codes "it is a node of an agent's graph: its number, its point, its phase, BUDGET, WORST and DUE"

-- That it refuses nothing, and what it means
abbrev pub written_sentence : Written → List ℕ
written_sentence written = codes "this line refuses nothing: " ++ written_words written
