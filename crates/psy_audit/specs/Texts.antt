-- How a text is cut into the lines of a trace.
use Rattle.std.specs.Prelude.{ℕ, ◌==◌, if◌then◌else◌, List, [], ◌∷◌, map, Option, Some, None, option_and_then, option_map, bytes_eq, codes, ℤ}
use Rattle.std.specs.List.{position_or_len}
use Rattle.psy_tree.specs.declared.unit.AgentDecl.{AgentDecl}
use Rattle.psy_tree.specs.declared.unit.Unit.{Unit as Whole}
use Rattle.psy_tree.specs.declared.unit.VarDecl.{VarDecl}
use Rattle.psy_text.specs.Lines.{lines_of}
use Rattle.psy_text.specs.Words.{number_of, value_of, words_of}
use Rattle.psy_audit.specs.declared.said.Ending.{Ending}
use Rattle.psy_audit.specs.declared.said.Ending.TheVariants.{At, Stopped, Unfinished}
use Rattle.psy_audit.specs.declared.said.Said.{Said}
use Rattle.psy_audit.specs.declared.said.Said.TheVariants.{Acted, Published, Served, Looked, Ended}
use Rattle.psy_audit.specs.Traces.{Lines}

-- The number of the agent with a name, and the count of the agents where none has it
abbrev pub agent_named : Whole → List ℕ → ℕ
agent_named unit name = position_or_len (λ (a : AgentDecl). bytes_eq name a.name) unit.agents

-- The number of the variable with a name, and the count of the variables where none has it
abbrev pub variable_named : Whole → List ℕ → ℕ
variable_named unit name = position_or_len (λ (v : VarDecl). bytes_eq name v.name) unit.variables

-- How an action ended: `stop`, `-`, or a date
abbrev pub ending_of : List ℕ → Option Ending
ending_of word = if bytes_eq word (codes "stop") then Some Stopped else if bytes_eq word (codes "-") then Some Unfinished else option_map At (number_of word)

-- An action, with what its words are as numbers
abbrev pub act_with : ℕ → Option ℕ → Option ℕ → Option ℕ → Option ℕ → Option ℕ → Option Ending → Option Said
act_with agent (Some number) (Some point) (Some start) (Some due) (Some work) (Some ending) =
    Some (Acted (record { agent = agent; number = number; point = point; start = start; due = due; work = work; ending = ending }))
act_with agent _ _ _ _ _ _ = None

-- A publication, with what its words are as numbers
abbrev pub publication_with : ℕ → Option ℕ → Option ℕ → Option ℤ → Option Said
publication_with variable (Some date) (Some slot) (Some value) = Some (Published (record { variable = variable; date = date; slot = slot; value = value }))
publication_with variable _ _ _ = None

-- A stretch of cycles, with what its words are as numbers
abbrev pub segment_with : Option ℕ → Option ℕ → Option ℕ → ℕ → Option ℕ → Option Said
segment_with (Some processor) (Some first) (Some past) agent (Some number) =
    Some (Served (record { processor = processor; first = first; past = past; agent = agent; number = number }))
segment_with _ _ _ agent _ = None

-- A look, with what its words are as numbers
abbrev pub look_with : ℕ → Option ℕ → Option ℕ → ℕ → Option ℕ → Option ℕ → Option ℤ → Option Said
look_with agent (Some number) (Some cycle) variable (Some back) (Some slot) (Some value) =
    Some (Looked (record { agent = agent; number = number; cycle = cycle; variable = variable; back = back; slot = slot; value = value }))
look_with agent _ _ variable _ _ _ = None

-- `AGENT ACTION POINT START DEADLINE WORK END`
abbrev pub act_of : Whole → List (List ℕ) → Option Said
act_of unit (agent ∷ number ∷ point ∷ start ∷ due ∷ work ∷ ending ∷ []) =
    act_with (agent_named unit agent) (number_of number) (number_of point) (number_of start) (number_of due) (number_of work) (ending_of ending)
act_of unit _ = None

-- `VARIABLE DATE SLOT VALUE`
abbrev pub publication_of : Whole → List (List ℕ) → Option Said
publication_of unit (variable ∷ date ∷ slot ∷ value ∷ []) =
    publication_with (variable_named unit variable) (number_of date) (number_of slot) (value_of value)
publication_of unit _ = None

-- `PROCESSOR FIRST PAST AGENT ACTION`
abbrev pub segment_of : Whole → List (List ℕ) → Option Said
segment_of unit (processor ∷ first ∷ past ∷ agent ∷ number ∷ []) =
    segment_with (number_of processor) (number_of first) (number_of past) (agent_named unit agent) (number_of number)
segment_of unit _ = None

-- `AGENT ACTION CYCLE VARIABLE BACK SLOT VALUE`
abbrev pub look_of : Whole → List (List ℕ) → Option Said
look_of unit (agent ∷ number ∷ cycle ∷ variable ∷ back ∷ slot ∷ value ∷ []) =
    look_with (agent_named unit agent) (number_of number) (number_of cycle) (variable_named unit variable) (number_of back) (number_of slot) (value_of value)
look_of unit _ = None

-- The last date: another number ends no trace.
abbrev pub end_at : ℕ → ℕ → Option Said
end_at until n = if n == until then Some Ended else None

-- `UNTIL`
abbrev pub end_of : ℕ → List (List ℕ) → Option Said
end_of until (n ∷ []) = option_and_then (end_at until) (number_of n)
end_of until _ = None

-- What the words of a line say, of a program and with a last date: by the first of them what the others are
abbrev pub said_in : Whole → ℕ → List (List ℕ) → Option Said
said_in unit until [] = None
said_in unit until (word ∷ words) =
    if bytes_eq word (codes "act") then act_of unit words
    else if bytes_eq word (codes "pub") then publication_of unit words
    else if bytes_eq word (codes "seg") then segment_of unit words
    else if bytes_eq word (codes "look") then look_of unit words
    else if bytes_eq word (codes "end") then end_of until words
    else None

-- The lines of a text. A line without words, and one that begins with `#`, says nothing that is listed.
abbrev pub lines_in : Whole → ℕ → List ℕ → Lines
lines_in unit until text = map (λ line. said_in unit until (words_of line)) (lines_of text)
