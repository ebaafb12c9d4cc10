-- A note's line ends with its only line feed, and isn't long.
use Rattle.std.proofs.Common.{◌≡◌, ◌≢◌, ◌∙◌, ℕ, ℤ, pos, negsuc, suc, ◌+◌, ◌<◌, ◌≤◌, ◌==◌, ◌&&◌, ◌||◌, Bool, true, false, not, List, [], ◌∷◌, ◌++◌, length, None, Some, refl, sym, ap, append_assoc, length-append, arith}
use Rattle.std.specs.Prelude.{FitsSigned, decimal, nat_lt}
use Rattle.std.specs.Fmt.{signed_decimal}
use Rattle.std.specs.Int.{w32}
use Rattle.std.specs.List.{AllByRecursion, list_any}
use Rattle.std.proofs.lemmas.Bool.{false≢true}
use Rattle.std.proofs.lemmas.Bool.Decides.{nat_tests}
use Rattle.std.proofs.lemmas.Fmt.{length-decimal-le}
use Rattle.psy_arith.specs.declared.operators.Trap.{Trap}
use Rattle.psy_arith.specs.declared.operators.Trap.TheVariants as trap
use Rattle.psy_tree.specs.Lexemes.{Each}
use Rattle.psy_log.specs.declared.form.Form.{Form}
use Rattle.psy_log.specs.declared.form.Form.TheVariants as form
use Rattle.psy_log.specs.declared.form.Sort.{Sort}
use Rattle.psy_log.specs.declared.form.Sort.TheVariants.{Short, Long, Value, Name, ShortOrDash, LongOrDash, Kind}
use Rattle.psy_log.specs.declared.note.Note.{Note}
use Rattle.psy_log.specs.Forms.{line_of, says}
use Rattle.psy_log.specs.Table.{Place, Word, Any, fields_of, Said, short, long, value, name, short_or_none, long_or_none, kind, spell, trap_name, words, written}
use Rattle.psy_notes.specs.declared.stand.Stand.{Stand}
use Rattle.psy_notes.specs.Fronts.{NoLine, is_part}
use Rattle.psy_notes.specs.Notes.{Fills, Fits, IsLong, IsShort, IsTold}
use Rattle.psy_notes.specs.Reading.{is_plain}
use Rattle.psy_notes.proofs.Lines.{HasWord, has_word, line_of-spell}
use Rattle.psy_notes.proofs.Plain.{plain_table, plain_words}

-- Without line feeds
abbrev Feedless : List ℕ → Type 0
Feedless [] = Unit {0}
Feedless (b ∷ bytes) = ((b == 10) ≡ false) × Feedless bytes

second_fails : (a b : Bool) → not (a || b) ≡ true → b ≡ false
second_fails true b is = absurd (false≢true is)
second_fails false true is = absurd (false≢true is)
second_fails false false is = refl

feedless_plain : (bytes : List ℕ) → Each is_plain bytes → Feedless bytes
feedless_plain [] plain = tt
feedless_plain (b ∷ bytes) plain = (second_fails (b == 32) (b == 10) plain.0, feedless_plain bytes plain.1)

feedless_behind : (a b : List ℕ) → Feedless a → Feedless b → Feedless (a ++ 32 ∷ b)
feedless_behind [] b first second = (refl, second)
feedless_behind (c ∷ a) b first second = (first.0, feedless_behind a b first.1 second)

-- The bytes of a line before its line feed
abbrev inside : List ℕ → List (List ℕ) → List ℕ
inside word [] = word
inside word (next ∷ words) = word ++ 32 ∷ inside next words

spell-inside : (word : List ℕ) (words : List (List ℕ)) (more : List ℕ) → spell (word ∷ words) more ≡ inside word words ++ 10 ∷ more
spell-inside word [] more = refl
spell-inside word (next ∷ words) more = ap (λ t. word ++ 32 ∷ t) (spell-inside next words more) ∙ sym (append_assoc word (32 ∷ inside next words) (10 ∷ more))

Feedless-inside : (word : List ℕ) (words : List (List ℕ)) → AllByRecursion (Each is_plain) (word ∷ words) → Feedless (inside word words)
Feedless-inside word [] plain = feedless_plain word plain.0
Feedless-inside word (next ∷ words) plain = feedless_behind word (inside next words) (feedless_plain word plain.0) (Feedless-inside next words plain.1)

-- So many bytes, and one blank or line feed behind each word
abbrev spread : List (List ℕ) → ℕ
spread [] = 0
spread (word ∷ words) = length word + 1 + spread words

length-inside : (word : List ℕ) (words : List (List ℕ)) → length (inside word words) + 1 ≡ spread (word ∷ words)
length-inside word [] = omega arith
length-inside word (next ∷ words) = omega (arith, length-append word (32 ∷ inside next words), length-inside next words)

-- The most bytes that are written for a sort
abbrev most_of : Sort → ℕ
most_of Short = 10
most_of Long = 20
most_of Value = 11
most_of Name = 32
most_of ShortOrDash = 10
most_of LongOrDash = 20
most_of Kind = 6

long_within : (n : ℕ) → IsLong n → length (decimal n) ≤ 20
long_within n fits = length-decimal-le 20 n (omega arith) (omega (arith, fits)) fits

short_within : (n : ℕ) → IsShort n → length (decimal n) ≤ 10
short_within n fits = length-decimal-le 10 n (omega arith) (omega (arith, fits)) (omega (arith, fits))

value_within : (number : ℤ) → FitsSigned w32 number → length (signed_decimal number) ≤ 11
value_within (pos n) fits = let h : length (decimal n) ≤ 10 = short_within n (omega (arith, fits.sfits)) in omega (arith, h)
value_within (negsuc n) fits = let h : length (decimal (suc n)) ≤ 10 = short_within (suc n) (omega (arith, fits.sfits)) in omega (arith, h)

trap_within : (kind : Trap) → length (trap_name kind) ≤ 6
trap_within trap.Divide = omega arith
trap_within trap.Index = omega arith
trap_within trap.Loop = omega arith
trap_within trap.Take = omega arith

written_within : (sort : Sort) (said : Said) → Fits sort said → length (written said) ≤ most_of sort
written_within Short (short n) fits = short_within n fits
written_within Long (long n) fits = long_within n fits
written_within Value (value number) fits = value_within number fits
written_within Name (name bytes) fits = fits.1
written_within ShortOrDash (short_or_none None) fits = omega arith
written_within ShortOrDash (short_or_none (Some n)) fits = short_within n fits
written_within LongOrDash (long_or_none None) fits = omega arith
written_within LongOrDash (long_or_none (Some n)) fits = long_within n fits
written_within Kind (kind trap) fits = trap_within trap
written_within _ _ fits = absurd fits

-- The most bytes that words at these places have, each with what stands behind it
abbrev most_at : List Place → ℕ
most_at [] = 0
most_at (Word word ∷ places) = length word + 1 + most_at places
most_at (Any what ∷ places) = most_of what + 1 + most_at places

spread_within : (places : List Place) (said : List Said) → Fills places said → spread (words places said) ≤ most_at places
spread_within [] said fills = omega arith
spread_within (Word word ∷ places) said fills = omega (arith, spread_within places said fills)
spread_within (Any what ∷ places) [] fills = absurd fills
spread_within (Any what ∷ places) (next ∷ said) fills = omega (arith, written_within what next fills.0, spread_within places said fills.1)

-- No form has a long line.
short_form : (form : Form) → most_at (fields_of form) ≤ 128
short_form form.Words = omega arith
short_form _ = omega arith

-- The line of a note that can be told: its bytes before its only line feed
record Shape (note : Note) : Type 0 where
  pub bytes : List ℕ
  pub feedless : Feedless bytes
  pub short_enough : length bytes < 128
  pub spelled : (more : List ℕ) → line_of note ++ more ≡ bytes ++ 10 ∷ more

shape_by : (note : Note) (all : List (List ℕ)) (has : HasWord all) → AllByRecursion (Each is_plain) all → spread all ≤ 128
    → ((more : List ℕ) → line_of note ++ more ≡ spell all more) → Shape note
shape_by note [] has plain few is = absurd (omega (arith, ap length has.is))
shape_by note (word ∷ others) has plain few is =
    record {
      bytes = inside word others;
      feedless = Feedless-inside word others plain;
      short_enough = omega (arith, length-inside word others, few);
      spelled = λ more. is more ∙ spell-inside word others more;
    }

shape : (note : Note) → IsTold note → Shape note
shape note told =
    let form = (says note).0 in
    let said = (says note).1 in
    shape_by note (words (fields_of form) said) (has_word form said told) (plain_words (fields_of form) said (plain_table form) told)
    (omega (arith, spread_within (fields_of form) said told, short_form form)) (line_of-spell note)

-- Bytes with a line feed whose text begins with a line have that line.
whole_line : (line bytes more rest : List ℕ) → Feedless line → list_any (λ b. b == 10) bytes ≡ true → bytes ++ more ≡ line ++ 10 ∷ rest → (left : List ℕ) × (bytes ≡ line ++ 10 ∷ left)
whole_line line [] more rest feedless has is = absurd (false≢true has)
whole_line [] (b ∷ bytes) more rest feedless has is = let first : b ≡ 10 = cc is in (bytes, ap (λ c. c ∷ bytes) first)
whole_line (c ∷ line) (b ∷ bytes) more rest feedless has is =
    let first : b ≡ c = cc is in
    let none : (b == 10) ≡ false = ap (λ x. x == 10) first ∙ feedless.0 in
    let more_has : list_any (λ b. b == 10) bytes ≡ true = ap (λ t. t || list_any (λ b. b == 10) bytes) (sym none) ∙ has in
    let behind : bytes ++ more ≡ line ++ 10 ∷ rest = cc is in
    let found = whole_line line bytes more rest feedless.1 more_has behind in
    (found.0, ap (λ x. x ∷ bytes) first ∙ ap (λ t. c ∷ t) found.1)

-- Bytes without one are no longer than the line.
within_line : (line bytes more rest : List ℕ) → list_any (λ b. b == 10) bytes ≡ false → bytes ++ more ≡ line ++ 10 ∷ rest → length bytes ≤ length line
within_line line [] more rest none is = omega arith
within_line [] (b ∷ bytes) more rest none is = let first : b ≡ 10 = cc is in absurd (false≢true (sym none ∙ ap (λ x. (x == 10) || list_any (λ b. b == 10) bytes) first))
within_line (c ∷ line) (b ∷ bytes) more rest none is =
    let behind : bytes ++ more ≡ line ++ 10 ∷ rest = cc is in
    let rest_none : list_any (λ b. b == 10) bytes ≡ false = or_right (b == 10) (list_any (λ b. b == 10) bytes) none in
    omega (arith, within_line line bytes more rest rest_none behind)
  where
    or_right : (a d : Bool) → (a || d) ≡ false → d ≡ false
    or_right true d e = absurd (false≢true (sym e))
    or_right false d e = e

and_true : (a : Bool) → (a && true) ≡ a
and_true true = refl
and_true false = refl

left_fails : (a d : Bool) → d ≡ false → (a && not d) ≡ false → a ≡ false
left_fails a d none both = sym (and_true a) ∙ ap (λ x. a && not x) (sym none) ∙ both

-- Where no line stands at the front and the bytes aren't a part of one, none stands there, whatever comes.
pub none_comes : (stand : Stand) (bytes : List ℕ) → NoLine stand bytes → is_part bytes ≡ false → (more : List ℕ) → NoLine stand (bytes ++ more)
none_comes stand bytes none whole more note to rest steps is = by (shape note steps.0) (list_any (λ b. b == 10) bytes) refl
  where
    by : (s : Shape note) (t : Bool) → list_any (λ b. b == 10) bytes ≡ t → ⊥
    by s true has =
        let found = whole_line s.bytes bytes more rest s.feedless has (is ∙ s.spelled rest) in
        none note to found.0 steps (found.1 ∙ sym (s.spelled found.0))
    by s false has =
        let within = within_line s.bytes bytes more rest has (is ∙ s.spelled rest) in
        let long : nat_lt (length bytes) 128 ≡ false = left_fails (nat_lt (length bytes) 128) (list_any (λ b. b == 10) bytes) has whole in
        let many : 128 ≤ length bytes = grind (arith, nat_tests, long) in
        omega (arith, within, many, s.short_enough)

-- What is no part isn't empty.
pub some_bytes : (bytes : List ℕ) → is_part bytes ≡ false → bytes ≢ []
some_bytes bytes whole is = false≢true (sym whole ∙ ap is_part is)
