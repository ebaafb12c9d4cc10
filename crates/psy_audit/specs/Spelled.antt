-- How the lines of a trace are written.
use Rattle.std.specs.Prelude.{ℕ, List, [], ◌∷◌, codes, decimal}
use Rattle.std.specs.Fmt.{signed_decimal}
use Rattle.std.specs.List.{flat_map}
use Rattle.psy_base.specs.declared.sizes.Sizes.{Sizes}
use Rattle.psy_history.specs.Actions.{System}
use Rattle.psy_log.specs.Table.{spell}
use Rattle.psy_tree.specs.Parts.{agent_at, variable_at}
use Rattle.psy_tree.specs.declared.unit.Unit.{Unit as Whole}
use Rattle.psy_audit.specs.Traced.{trace_of}
use Rattle.psy_audit.specs.declared.said.Ending.{Ending}
use Rattle.psy_audit.specs.declared.said.Ending.TheVariants.{At, Stopped, Unfinished}
use Rattle.psy_audit.specs.declared.said.Said.{Said}
use Rattle.psy_audit.specs.declared.said.Said.TheVariants.{Acted, Published, Served, Looked, Ended}

-- The word for how an action ended: its date, `stop`, or `-` where it wasn't finished
abbrev pub ending_word : Ending → List ℕ
ending_word (At date) = decimal date
ending_word Stopped = codes "stop"
ending_word Unfinished = codes "-"

-- The words of a line of a trace of a program up to a date
abbrev pub words_told : Whole → ℕ → Said → List (List ℕ)
words_told unit until (Acted a) =
    codes "act" ∷ (agent_at unit a.agent).name ∷ decimal a.number ∷ decimal a.point ∷ decimal a.start ∷ decimal a.due ∷ decimal a.work
    ∷ ending_word a.ending ∷ []
words_told unit until (Published p) = codes "pub" ∷ (variable_at unit p.variable).name ∷ decimal p.date ∷ decimal p.slot ∷ signed_decimal p.value ∷ []
words_told unit until (Served s) =
    codes "seg" ∷ decimal s.processor ∷ decimal s.first ∷ decimal s.past ∷ (agent_at unit s.agent).name ∷ decimal s.number ∷ []
words_told unit until (Looked l) =
    codes "look" ∷ (agent_at unit l.agent).name ∷ decimal l.number ∷ decimal l.cycle ∷ (variable_at unit l.variable).name ∷ decimal l.back ∷ decimal l.slot
    ∷ signed_decimal l.value ∷ []
words_told unit until Ended = codes "end" ∷ decimal until ∷ []

-- The line: its words with a blank between two, and a line feed
abbrev pub line_told : Whole → ℕ → Said → List ℕ
line_told unit until said = spell (words_told unit until said) []

-- The text of a trace
abbrev pub trace_text : System → (ℕ → List ℕ) → Sizes → ℕ → List ℕ
trace_text s order sizes until = flat_map (line_told s.unit until) (trace_of s order sizes until)
