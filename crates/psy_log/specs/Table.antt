-- The table of the forms of lines: what stands in a line of each form, place by place.
use Rattle.std.specs.Prelude.{ℕ, ℤ, List, [], ◌∷◌, ◌++◌, codes, decimal, Option, None, Some}
use Rattle.std.specs.Fmt.{signed_decimal}
use Rattle.psy_arith.specs.declared.operators.Trap.{Trap}
use Rattle.psy_arith.specs.declared.operators.Trap.TheVariants as trap
use Rattle.psy_log.specs.declared.form.Field.{Field}
use Rattle.psy_log.specs.declared.form.Field.TheVariants as field
use Rattle.psy_log.specs.declared.form.Form.{Form}
use Rattle.psy_log.specs.declared.form.Form.TheVariants as form
use Rattle.psy_log.specs.declared.form.Sort.{Sort}
use Rattle.psy_log.specs.declared.form.Sort.TheVariants.{Short, Long, Value, Name, ShortOrDash, LongOrDash, Kind}

-- A place of a line: for this word, or for anything of a sort
pub data Place : Type 0 where
  Word : List ℕ → Place
  Any : Sort → Place

-- The place that a field is
abbrev pub place_of : Field → Place
place_of (field.Word word) = Word word.now
place_of (field.Any sort) = Any sort

-- The table
abbrev pub fields_of : Form → List Place
fields_of form.StopOverrun = Any Long ∷ Word (codes "stop") ∷ Any Name ∷ Word (codes "overrun") ∷ []
fields_of form.StopTrap = Any Long ∷ Word (codes "stop") ∷ Any Name ∷ Word (codes "trap") ∷ Any Kind ∷ []
fields_of form.Value = Any Long ∷ Any Name ∷ Any Value ∷ []
fields_of form.Message = Any Long ∷ Any Name ∷ Word (codes "msg") ∷ Any Value ∷ []
fields_of form.End = Word (codes "end") ∷ Any Long ∷ []
fields_of form.AgentEnd = Word (codes "agent") ∷ Any Name ∷ Any Long ∷ Any LongOrDash ∷ []
fields_of form.VariableEnd = Word (codes "variable") ∷ Any Name ∷ Any Short ∷ Any ShortOrDash ∷ []
fields_of form.StreamEnd = Word (codes "stream") ∷ Any Name ∷ Any Short ∷ Any Short ∷ []
fields_of form.VariableSize = Word (codes "variable") ∷ Any Name ∷ Any Short ∷ []
fields_of form.StreamSize = Word (codes "stream") ∷ Any Name ∷ Any Short ∷ []
fields_of form.Rate = Word (codes "rate") ∷ Any Name ∷ Any Long ∷ Any Long ∷ []
fields_of form.Always = Word (codes "feasible") ∷ Word (codes "always") ∷ []
fields_of form.Feasible = Word (codes "feasible") ∷ Any Long ∷ []
fields_of form.Infeasible = Word (codes "infeasible") ∷ Any Long ∷ Any Long ∷ Any Long ∷ []
fields_of form.InfeasibleOn = Word (codes "infeasible") ∷ Any Long ∷ Any Long ∷ Any Long ∷ Word (codes "on") ∷ Any Short ∷ []
fields_of form.AgentGraph = Word (codes "agent") ∷ Any Name ∷ Any Short ∷ Any Short ∷ []
fields_of form.Node = Word (codes "node") ∷ Any Short ∷ Any Short ∷ Any Long ∷ Any Short ∷ Any Long ∷ Any Long ∷ []
fields_of form.EdgeOf = Word (codes "edge") ∷ Any Short ∷ Any Short ∷ Any Long ∷ []
fields_of form.Words = Word (codes "words") ∷ []
fields_of form.Read = Word (codes "read") ∷ Any Name ∷ []
fields_of form.Limit = Word (codes "limit") ∷ Any Name ∷ Any Long ∷ []
fields_of form.Refused = Word (codes "refused") ∷ Any Name ∷ Any Short ∷ []
fields_of form.RefusedAt = Word (codes "refused") ∷ Any Name ∷ Any Short ∷ Word (codes "at") ∷ Any Short ∷ []
fields_of form.RefusedImage = Word (codes "refused") ∷ Word (codes "image") ∷ Any Short ∷ []
fields_of form.Busy = Word (codes "busy") ∷ Any Name ∷ []
fields_of form.Legal = Word (codes "legal") ∷ Any Short ∷ Any Short ∷ []

-- What is said at a place for a sort
pub data Said : Type 0 where
  short : ℕ → Said
  long : ℕ → Said
  value : ℤ → Said
  name : List ℕ → Said
  short_or_none : Option ℕ → Said
  long_or_none : Option ℕ → Said
  kind : Trap → Said

-- The name of each kind of trap
abbrev pub trap_name : Trap → List ℕ
trap_name trap.Divide = codes "divide"
trap_name trap.Index = codes "index"
trap_name trap.Loop = codes "loop"
trap_name trap.Take = codes "take"

-- A number, or `-` where there is none
abbrev pub number_or_dash : Option ℕ → List ℕ
number_or_dash None = codes "-"
number_or_dash (Some number) = decimal number

-- How it is written: names as they are, numbers by their decimal digits
abbrev pub written : Said → List ℕ
written (short number) = decimal number
written (long number) = decimal number
written (value number) = signed_decimal number
written (name bytes) = bytes
written (short_or_none number) = number_or_dash number
written (long_or_none number) = number_or_dash number
written (kind trap) = trap_name trap

-- The words of a line: at each place its own word, or the next of what is said
abbrev pub words : List Place → List Said → List (List ℕ)
words [] said = []
words (Word word ∷ places) said = word ∷ words places said
words (Any _ ∷ places) [] = []
words (Any _ ∷ places) (next ∷ said) = written next ∷ words places said

-- What stands behind a word: a blank where another one follows, and else a line feed
abbrev pub end_before : List (List ℕ) → ℕ
end_before [] = 10
end_before (word ∷ words) = 32

-- The words, each with its end, and what follows the line
abbrev pub spell : List (List ℕ) → List ℕ → List ℕ
spell [] more = more
spell (word ∷ words) more = word ++ end_before words ∷ spell words more

-- The line of this form that says this
abbrev pub line : Form → List Said → List ℕ
line form said = spell (words (fields_of form) said) []
