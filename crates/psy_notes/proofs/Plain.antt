-- Words without blanks and line feeds: those of a form, and what is written of something that fits.
use Rattle.std.proofs.Common.{◌≡◌, ℕ, ◌^◌, ◌<◌, ℤ, pos, negsuc, suc, Bool, true, false, eqb, ◌&&◌, List, [], ◌∷◌, None, Some, refl, ap, arith, rules}
use Rattle.std.specs.Prelude.{FitsSigned, decimal}
use Rattle.std.specs.Char.{is_ascii_digit}
use Rattle.std.specs.Fmt.{signed_decimal}
use Rattle.std.specs.Int.{w32}
use Rattle.std.specs.List.{AllByRecursion}
use Rattle.std.proofs.lemmas.Bool.{ne_eqb}
use Rattle.psy_arith.specs.declared.operators.Trap.{Trap}
use Rattle.psy_arith.specs.declared.operators.Trap.TheVariants as trap
use Rattle.psy_tree.specs.Lexemes.{Each, is_in_word}
use Rattle.psy_text.proofs.lemmas.Names.{Each-word}
use Rattle.psy_text.proofs.lemmas.Numerals.{Each-decimal}
use Rattle.psy_log.specs.declared.form.Form.{Form}
use Rattle.psy_log.specs.declared.form.Form.TheVariants as form
use Rattle.psy_log.specs.declared.form.Sort.{Sort}
use Rattle.psy_log.specs.declared.form.Sort.TheVariants.{Short, Long, Value, Name, ShortOrDash, LongOrDash, Kind}
use Rattle.psy_log.specs.Table.{Place, Word, Any, fields_of, Said, short, long, value, name, short_or_none, long_or_none, kind, trap_name, words, written}
use Rattle.psy_notes.specs.Notes.{Fits, Fills}
use Rattle.psy_notes.specs.Reading.{is_plain, ArePlain}

-- Where both hold, each does
pub both_first : (a b : Bool) → a && b ≡ true → a ≡ true
both_first true b is = refl
both_first false b is = cc

pub both_second : (a b : Bool) → a && b ≡ true → b ≡ true
both_second true b is = is
both_second false b is = cc

-- Bytes of a sort that has no blank and no line feed are plain
plain_each : (sort : ℕ → Bool) → sort 10 ≡ false → sort 32 ≡ false → (bytes : List ℕ) → Each sort bytes → Each is_plain bytes
plain_each sort feed blank [] each = tt
plain_each sort feed blank (b ∷ bytes) each =
    let no_feed : eqb b 10 ≡ false = ne_eqb b 10 (λ e. let is : sort b ≡ sort 10 = ap sort e in cc (is, each.0, feed)) in
    let no_blank : eqb b 32 ≡ false = ne_eqb b 32 (λ e. let is : sort b ≡ sort 32 = ap sort e in cc (is, each.0, blank)) in
    (rw (no_blank, no_feed) refl, plain_each sort feed blank bytes each.1)

plain_decimal : (n : ℕ) → n < 2 ^ 64 → Each is_plain (decimal n)
plain_decimal n small = plain_each is_ascii_digit refl refl (decimal n) (Each-decimal n small)

plain_value : (number : ℤ) → FitsSigned w32 number → Each is_plain (signed_decimal number)
plain_value (pos n) fits = plain_decimal n (omega (arith, fits.sfits))
plain_value (negsuc n) fits = (refl, plain_decimal (suc n) (omega (arith, fits.sfits)))

plain_trap : (kind : Trap) → Each is_plain (trap_name kind)
plain_trap trap.Divide = search rules
plain_trap trap.Index = search rules
plain_trap trap.Loop = search rules
plain_trap trap.Take = search rules

pub plain_written : (sort : Sort) (said : Said) → Fits sort said → Each is_plain (written said)
plain_written Short (short n) fits = plain_decimal n (omega (arith, fits))
plain_written Long (long n) fits = plain_decimal n fits
plain_written Value (value number) fits = plain_value number fits
plain_written Name (name bytes) fits = plain_each is_in_word refl refl bytes (Each-word bytes fits.0)
plain_written ShortOrDash (short_or_none None) fits = (refl, tt)
plain_written ShortOrDash (short_or_none (Some n)) fits = plain_decimal n (omega (arith, fits))
plain_written LongOrDash (long_or_none None) fits = (refl, tt)
plain_written LongOrDash (long_or_none (Some n)) fits = plain_decimal n fits
plain_written Kind (kind trap) fits = plain_trap trap
plain_written _ _ fits = absurd fits

-- So are all words of what fills plain places
pub plain_words : (places : List Place) (said : List Said) → ArePlain places → Fills places said → AllByRecursion (Each is_plain) (words places said)
plain_words [] said plain fills = tt
plain_words (Word word ∷ places) said plain fills = (plain.0, plain_words places said plain.1 fills)
plain_words (Any what ∷ places) [] plain fills = tt
plain_words (Any what ∷ places) (next ∷ said) plain fills = (plain_written what next fills.0, plain_words places said plain.1 fills.1)

-- ---- the table

-- Its words, tried
abbrev each_plain : List ℕ → Bool
each_plain [] = true
each_plain (b ∷ bytes) = is_plain b && each_plain bytes

abbrev are_plain : List Place → Bool
are_plain [] = true
are_plain (Word word ∷ places) = each_plain word && are_plain places
are_plain (Any what ∷ places) = are_plain places

each_by : (bytes : List ℕ) → each_plain bytes ≡ true → Each is_plain bytes
each_by [] is = tt
each_by (b ∷ bytes) is = (both_first (is_plain b) (each_plain bytes) is, each_by bytes (both_second (is_plain b) (each_plain bytes) is))

are_by : (places : List Place) → are_plain places ≡ true → ArePlain places
are_by [] is = tt
are_by (Word word ∷ places) is = (each_by word (both_first (each_plain word) (are_plain places) is), are_by places (both_second (each_plain word) (are_plain places) is))
are_by (Any what ∷ places) is = (tt, are_by places is)

table_tried : (form : Form) → are_plain (fields_of form) ≡ true
table_tried form.Words = refl
table_tried _ = refl

pub plain_table : (form : Form) → ArePlain (fields_of form)
plain_table form = are_by (fields_of form) (table_tried form)
