-- How a line is read: word by word, at the places of its form.
use Rattle.std.specs.Prelude.{◌≡◌, ℕ, ℤ, pos, ◌==◌, ◌||◌, not, Bool, List, [], ◌∷◌, ◌++◌, Option, None, Some, slice_get}
use Rattle.std.specs.List.{AllByRecursion}
use Rattle.psy_arith.specs.declared.operators.Trap.{Trap}
use Rattle.psy_arith.specs.declared.operators.Trap.TheVariants.{Take}
use Rattle.psy_tree.specs.Lexemes.{Each}
use Rattle.psy_log.specs.declared.form.Form.{Form}
use Rattle.psy_log.specs.Table.{Place, Word, Any, Said, short, long, value, name, short_or_none, long_or_none, kind, written}
use Rattle.psy_notes.specs.declared.content.Content.{Content}
use Rattle.psy_notes.specs.declared.content.Content.TheVariants as content
use Rattle.psy_notes.specs.declared.forms.TheConstants.{RUN, GRAPH}
use Rattle.psy_notes.specs.declared.stand.Stand.{Stand}
use Rattle.psy_notes.specs.declared.stand.Stand.TheVariants as stand
use Rattle.psy_notes.specs.Notes.{Fits}

-- Neither a blank nor a line feed
abbrev pub is_plain : ℕ → Bool
is_plain b = not (b == 32 || b == 10)

-- Words of places have neither
abbrev pub IsPlain : Place → Type 0
IsPlain (Word word) = Each is_plain word
IsPlain (Any what) = Unit {0}

abbrev pub ArePlain : List Place → Type 0
ArePlain places = AllByRecursion IsPlain places

-- What stands behind the word of a place: a blank before another place, and else a line feed
abbrev pub end_of : List Place → ℕ
end_of [] = 10
end_of (place ∷ places) = 32

-- What was read of a word, its name as bytes
abbrev pub said_of : Content → Said
said_of (content.Short number) = short number
said_of (content.Long number) = long number
said_of (content.Value number) = value number
said_of (content.Name bytes) = name bytes.now
said_of (content.ShortOrNone number) = short_or_none number
said_of (content.LongOrNone number) = long_or_none number
said_of (content.Kind trap) = kind trap

-- The word is that of the place, and nothing more is said; or something that fits is written so, and is said behind what was said before.
abbrev pub FillsOne : Place → List ℕ → List Said → List Said → Type 0
FillsOne (Word own) word old new = (word ≡ own) × (new ≡ old)
FillsOne (Any what) word old new = (said : Said) × Fits what said × (word ≡ written said) × (new ≡ old ++ said ∷ [])

-- ---- what is said at a place

abbrev long_in : Option Said → ℕ
long_in (Some (long number)) = number
long_in _ = 0

abbrev pub long_at : List Said → ℕ → ℕ
long_at said place = long_in (slice_get said place)

abbrev short_in : Option Said → ℕ
short_in (Some (short number)) = number
short_in _ = 0

abbrev pub short_at : List Said → ℕ → ℕ
short_at said place = short_in (slice_get said place)

abbrev value_in : Option Said → ℤ
value_in (Some (value number)) = number
value_in _ = pos 0

abbrev pub value_at : List Said → ℕ → ℤ
value_at said place = value_in (slice_get said place)

abbrev name_in : Option Said → List ℕ
name_in (Some (name bytes)) = bytes
name_in _ = []

abbrev pub name_at : List Said → ℕ → List ℕ
name_at said place = name_in (slice_get said place)

abbrev long_or_none_in : Option Said → Option ℕ
long_or_none_in (Some (long_or_none number)) = number
long_or_none_in _ = None

abbrev pub long_or_none_at : List Said → ℕ → Option ℕ
long_or_none_at said place = long_or_none_in (slice_get said place)

abbrev short_or_none_in : Option Said → Option ℕ
short_or_none_in (Some (short_or_none number)) = number
short_or_none_in _ = None

abbrev pub short_or_none_at : List Said → ℕ → Option ℕ
short_or_none_at said place = short_or_none_in (slice_get said place)

abbrev kind_in : Option Said → Trap
kind_in (Some (kind trap)) = trap
kind_in _ = Take

abbrev pub kind_at : List Said → ℕ → Trap
kind_at said place = kind_in (slice_get said place)

-- ---- where which forms are read

-- The forms of the lines that are read at this stand
abbrev pub forms_at : Stand → List Form
forms_at (stand.Dated date) = RUN
forms_at (stand.Agents agents) = RUN
forms_at (stand.Variables variables) = RUN
forms_at (stand.Streams streams) = RUN
forms_at (stand.Graphs agents nodes told edges) = GRAPH
