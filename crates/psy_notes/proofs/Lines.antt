-- The bytes of a line tell its words, and what follows it.
use Rattle.std.proofs.Common.{◌≡◌, ℕ, ◌<◌, ◌≤◌, false, List, [], ◌∷◌, ◌++◌, length, get_or, refl, ap, ◌∙◌, arith, append_assoc, length-append, drop}
use Rattle.std.specs.List.{AllByRecursion}
use Rattle.psy_tree.specs.Lexemes.{Each}
use Rattle.psy_text.proofs.lemmas.Runs.{Cuts-once}
use Rattle.psy_log.specs.declared.form.Form.{Form}
use Rattle.psy_log.specs.declared.form.Form.TheVariants as form
use Rattle.psy_log.specs.declared.note.Note.{Note}
use Rattle.psy_log.specs.Forms.{says, line_of}
use Rattle.psy_log.specs.Table.{Place, Word, Any, fields_of, Said, end_before, spell, words, written}
use Rattle.psy_notes.specs.Notes.{Fits, Fills, IsTold}
use Rattle.psy_notes.specs.Reading.{is_plain}

-- One word stands before an end
pub one_word : (word other : List ℕ) (end stop : ℕ) (rest more : List ℕ) → Each is_plain word → Each is_plain other → is_plain end ≡ false → is_plain stop ≡ false
    → word ++ end ∷ rest ≡ other ++ stop ∷ more → (word ≡ other) × (end ≡ stop) × (rest ≡ more)
one_word word other end stop rest more plain simple ends stops is =
    let once = Cuts-once is_plain (word ++ end ∷ rest) word other (end ∷ rest) (stop ∷ more) plain simple (refl, ends) (is, stops) in
    (once.0, ap (λ bytes. get_or bytes 0 0) once.1, ap (drop 1) once.1)

-- One line stands at the front of a text
one_line : (word other : List ℕ) (words others : List (List ℕ)) (rest more : List ℕ) → AllByRecursion (Each is_plain) (word ∷ words)
    → AllByRecursion (Each is_plain) (other ∷ others) → spell (word ∷ words) rest ≡ spell (other ∷ others) more → ((word ∷ words) ≡ (other ∷ others)) × (rest ≡ more)
one_line word other [] [] rest more plain simple is =
    let one = one_word word other 10 10 rest more plain.0 simple.0 refl refl is in
    (ap (λ w. w ∷ []) one.0, one.2)
one_line word other [] (next ∷ others) rest more plain simple is =
    let one = one_word word other 10 32 rest (spell (next ∷ others) more) plain.0 simple.0 refl refl is in
    absurd (omega (arith, one.1))
one_line word other (next ∷ words) [] rest more plain simple is =
    let one = one_word word other 32 10 (spell (next ∷ words) rest) more plain.0 simple.0 refl refl is in
    absurd (omega (arith, one.1))
one_line word other (next ∷ words) (after ∷ others) rest more plain simple is =
    let one = one_word word other 32 32 (spell (next ∷ words) rest) (spell (after ∷ others) more) plain.0 simple.0 refl refl is in
    let same = one_line next after words others rest more plain.1 simple.1 one.2 in
    ((λ i. one.0 i ∷ same.0 i), same.1)

-- What follows a line may stand in it
pub spell-append : (words : List (List ℕ)) (more : List ℕ) → spell words [] ++ more ≡ spell words more
spell-append [] more = refl
spell-append (word ∷ words) more = append_assoc word (end_before words ∷ spell words []) more ∙ ap (λ rest. word ++ end_before words ∷ rest) (spell-append words more)

pub line_of-spell : (note : Note) (more : List ℕ) → line_of note ++ more ≡ spell (words (fields_of (says note).0) (says note).1) more
line_of-spell note more = spell-append (words (fields_of (says note).0) (says note).1) more

-- ---- the first word

-- A word stands at a place: its own, or what is written of something that fits
abbrev pub StandsAt : Place → List ℕ → Type 0
StandsAt (Word own) word = word ≡ own
StandsAt (Any what) word = (said : Said) × Fits what said × (word ≡ written said)

-- What fills places says this word at the first of them
pub record Opens (place : Place) (places : List Place) (said : List Said) : Type 0 where
  pub word : List ℕ
  pub left : List Said
  pub is : words (place ∷ places) said ≡ word ∷ words places left
  pub stands : StandsAt place word
  pub fills : Fills places left

pub opens : (place : Place) (places : List Place) (said : List Said) → Fills (place ∷ places) said → Opens place places said
opens (Word word) places said fills = record { word = word; left = said; is = refl; stands = refl; fills = fills }
opens (Any what) places [] fills = absurd fills
opens (Any what) places (next ∷ said) fills = record { word = written next; left = said; is = refl; stands = (next, fills.0, refl); fills = fills.1 }

-- Each form has a place
pub record Begins (places : List Place) : Type 0 where
  pub place : Place
  pub left : List Place
  pub is : places ≡ place ∷ left

begins_by : (place : Place) (left : List Place) → Begins (place ∷ left)
begins_by place left = record { place = place; left = left; is = refl }

pub begins : (form : Form) → Begins (fields_of form)
begins form.Words = begins_by _ _
begins _ = begins_by _ _

-- A line has a word
pub record HasWord (words : List (List ℕ)) : Type 0 where
  pub word : List ℕ
  pub others : List (List ℕ)
  pub is : words ≡ word ∷ others

has_by : (places : List Place) (said : List Said) (starts : Begins places) → Fills places said → HasWord (words places said)
has_by [] said starts fills = absurd (omega (arith, ap length starts.is))
has_by (place ∷ places) said starts fills = let front = opens place places said fills in record { word = front.word; others = words places front.left; is = front.is }

pub has_word : (form : Form) (said : List Said) → Fills (fields_of form) said → HasWord (words (fields_of form) said)
has_word form said fills = has_by (fields_of form) said (begins form) fills

pub one_line_by : (words others : List (List ℕ)) (rest more : List ℕ) (has : HasWord words) (holds : HasWord others) → AllByRecursion (Each is_plain) words
    → AllByRecursion (Each is_plain) others → spell words rest ≡ spell others more → (words ≡ others) × (rest ≡ more)
one_line_by [] others rest more has holds plain simple is = absurd (omega (arith, ap length has.is))
one_line_by (word ∷ words) [] rest more has holds plain simple is = absurd (omega (arith, ap length holds.is))
one_line_by (word ∷ words) (other ∷ others) rest more has holds plain simple is = one_line word other words others rest more plain simple is

-- ---- its length

length_spell-within : (words : List (List ℕ)) (more : List ℕ) → length more ≤ length (spell words more)
length_spell-within [] more = omega arith
length_spell-within (word ∷ words) more = omega (arith, length-append word (end_before words ∷ spell words more), length_spell-within words more)

length_spell-some : (words : List (List ℕ)) (more : List ℕ) → HasWord words → length more < length (spell words more)
length_spell-some [] more has = absurd (omega (arith, ap length has.is))
length_spell-some (word ∷ words) more has = omega (arith, length-append word (end_before words ∷ spell words more), length_spell-within words more)

-- A note's line has bytes
pub length-line : (note : Note) (more : List ℕ) → IsTold note → length more < length (line_of note ++ more)
length-line note more told =
    omega (arith, length_spell-some (words (fields_of (says note).0) (says note).1) more (has_word (says note).0 (says note).1 told), ap length (line_of-spell note more))
