-- A demand that can't be supplied, and what it means.
use Rattle.std.specs.Prelude.{◌≡◌, ℕ, List, ◌++◌, codes, decimal, Option, None, Some}
use Rattle.psy_log.specs.declared.form.Form.{Form}
use Rattle.psy_log.specs.declared.form.Form.TheVariants as form
use Rattle.psy_log.specs.declared.note.Note.{Note}
use Rattle.psy_log.specs.Forms.{says}
use Rattle.psy_log.specs.Table.{Said}
use Rattle.psy_notes.specs.Reading.{long_at, short_at}
use Rattle.psy_where.specs.declared.lack.Lack.{Lack}
use Rattle.psy_where.specs.Notes.{IsNoteOf}

-- The three numbers that are said, of that processor
abbrev pub lack_on : List Said → ℕ → Lack
lack_on said processor = record { length = long_at said 0; demand = long_at said 1; supply = long_at said 2; processor = processor }

-- What is said in a line of this form, where it tells of such a demand: of processor 0, where none is named
abbrev pub lack_in : Form → List Said → Option Lack
lack_in form.Infeasible said = Some (lack_on said 0)
lack_in form.InfeasibleOn said = Some (lack_on said (short_at said 3))
lack_in _ said = None

-- The line says this.
abbrev pub IsLack : List ℕ → Lack → Type 0
IsLack line lack = (note : Note) × IsNoteOf line note × (lack_in (says note).0 (says note).1 ≡ Some lack)

-- What it means
abbrev pub lack_sentence : Lack → List ℕ
lack_sentence lack =
    codes "over " ++ decimal lack.length ++ codes " ticks, the least such length, the agents of processor " ++ decimal lack.processor ++ codes " may ask for "
    ++ decimal lack.demand ++ codes " cycles, and it has " ++ decimal lack.supply
    ++ codes ": lower a budget, slow a clock down, or give the tick more cycles"
