-- No two forms of a run, and no two of a graph, write the same line.
use Rattle.std.proofs.Common.{◌≡◌, ◌⊎◌, inl, inr, ⊎_elim, ℕ, zero, suc, ◌<◌, ◌^◌, ℤ, pos, negsuc, Bool, true, false, not, ◌&&◌, ◌||◌, List, [], ◌∷◌, ◌++◌, length, drop, get_or, Option, None, Some, refl, sym, ap, subst, ◌∙◌, append-nil, arith}
use Rattle.std.specs.Prelude.{Contains, FitsSigned, bytes_eq, decimal, nat_lt, slice_index_or}
use Rattle.std.specs.Char.{is_ascii_digit}
use Rattle.std.specs.Fmt.{signed_decimal}
use Rattle.std.specs.Int.{w32}
use Rattle.std.proofs.lemmas.Bool.{not-true}
use Rattle.std.proofs.lemmas.Slice.Eq.{bytes_eq-Decides}
use Rattle.std.proofs.lemmas.Fmt.{decimal_injective}
use Rattle.psy_arith.specs.declared.operators.Trap.{Trap}
use Rattle.psy_arith.specs.declared.operators.Trap.TheVariants as trap
use Rattle.psy_text.proofs.lemmas.Numerals.{decimal_first}
use Rattle.psy_log.specs.declared.form.Form.{Form}
use Rattle.psy_log.specs.declared.form.Sort.{Sort}
use Rattle.psy_log.specs.declared.form.Sort.TheVariants.{Short, Long, Value, Name, ShortOrDash, LongOrDash, Kind}
use Rattle.psy_log.specs.declared.note.Note.{Note}
use Rattle.psy_log.specs.Forms.{says, line_of}
use Rattle.psy_log.specs.Table.{Place, Word, Any, fields_of, Said, short, long, value, name, short_or_none, long_or_none, kind, number_or_dash, trap_name, words, written}
use Rattle.psy_notes.specs.declared.stand.Stand.{Stand}
use Rattle.psy_notes.specs.declared.stand.Stand.TheVariants as stand
use Rattle.psy_notes.specs.Notes.{Fits, Fills, IsLong, IsShort, IsTold, OrNone}
use Rattle.psy_notes.specs.Reading.{forms_at}
use Rattle.psy_notes.proofs.Lines.{StandsAt, has_word, line_of-spell, one_line_by, opens}
use Rattle.psy_notes.proofs.Plain.{both_first, both_second, plain_table, plain_words}

-- ---- places where one word cannot stand for both

-- A word that begins with a letter
abbrev is_lettered : List ℕ → Bool
is_lettered [] = false
is_lettered (b ∷ bytes) = not (is_ascii_digit b) && nat_lt 45 b

-- A word that nothing of the sort is written as, by its first byte
abbrev refuses : Sort → List ℕ → Bool
refuses Name word = false
refuses Kind word = false
refuses _ word = is_lettered word

abbrev parts : Place → Place → Bool
parts (Word word) (Word other) = not (bytes_eq word other)
parts (Word word) (Any what) = refuses what word
parts (Any what) (Word word) = refuses what word
parts (Any what) (Any other) = false

-- Places of which some part, or of which there are more than of the others
abbrev are_apart : List Place → List Place → Bool
are_apart [] [] = false
are_apart [] (place ∷ places) = true
are_apart (place ∷ places) [] = true
are_apart (place ∷ places) (other ∷ others) = parts place other || are_apart places others

-- ---- no word stands for both

no_number : (n b : ℕ) (bytes : List ℕ) → n < 2 ^ 64 → not (is_ascii_digit b) && nat_lt 45 b ≡ true → decimal n ≡ b ∷ bytes → ⊥
no_number n b bytes small far is =
    decimal_first n [] bytes b small (not-true (is_ascii_digit b) (both_first (not (is_ascii_digit b)) (nat_lt 45 b) far)) (append-nil (decimal n) ∙ is)

no_minus : (b : ℕ) (bytes more : List ℕ) → not (is_ascii_digit b) && nat_lt 45 b ≡ true → 45 ∷ more ≡ b ∷ bytes → ⊥
no_minus b bytes more far is =
    let above = both_second (not (is_ascii_digit b)) (nat_lt 45 b) far in
    let same : b ≡ 45 = sym (ap (λ bs. get_or bs 0 0) is) in
    let no : nat_lt 45 45 ≡ false = refl in
    cc (ap (nat_lt 45) same, above, no)

no_value : (number : ℤ) (b : ℕ) (bytes : List ℕ) → FitsSigned w32 number → not (is_ascii_digit b) && nat_lt 45 b ≡ true → signed_decimal number ≡ b ∷ bytes → ⊥
no_value (pos n) b bytes fits far is = no_number n b bytes (omega (arith, fits.sfits)) far is
no_value (negsuc n) b bytes fits far is = no_minus b bytes (decimal (suc n)) far is

refused : (sort : Sort) (said : Said) (word : List ℕ) → refuses sort word ≡ true → Fits sort said → written said ≡ word → ⊥
refused sort said [] far fits is = never sort said far fits is
  where
    never : (sort : Sort) (said : Said) → refuses sort [] ≡ true → Fits sort said → written said ≡ [] → ⊥
    never Name said far fits is = cc
    never _ said far fits is = cc
refused Short (short n) (b ∷ bytes) far fits is = no_number n b bytes (omega (arith, fits)) far is
refused Long (long n) (b ∷ bytes) far fits is = no_number n b bytes fits far is
refused Value (value number) (b ∷ bytes) far fits is = no_value number b bytes fits far is
refused Name said (b ∷ bytes) far fits is = cc
refused Kind said (b ∷ bytes) far fits is = cc
refused ShortOrDash (short_or_none None) (b ∷ bytes) far fits is = no_minus b bytes [] far is
refused ShortOrDash (short_or_none (Some n)) (b ∷ bytes) far fits is = no_number n b bytes (omega (arith, fits)) far is
refused LongOrDash (long_or_none None) (b ∷ bytes) far fits is = no_minus b bytes [] far is
refused LongOrDash (long_or_none (Some n)) (b ∷ bytes) far fits is = no_number n b bytes fits far is
refused _ _ (b ∷ bytes) far fits is = absurd fits

-- ---- places that are apart

parted : (place other : Place) (word : List ℕ) → parts place other ≡ true → StandsAt place word → StandsAt other word → ⊥
parted (Word own) (Word other) word far stands is =
    let same : bytes_eq own other ≡ true = subst (λ w. bytes_eq own w ≡ true) (sym stands ∙ is) ((bytes_eq-Decides own own).1 refl) in
    let no : bytes_eq own other ≡ false = not-true (bytes_eq own other) far in
    cc (same, no)
parted (Word own) (Any what) word far stands is = refused what is.0 own far is.1 (sym is.2 ∙ stands)
parted (Any what) (Word own) word far stands is = refused what stands.0 own far stands.1 (sym stands.2 ∙ is)
parted (Any what) (Any other) word far stands is = cc

one_of : (a b : Bool) → a || b ≡ true → (a ≡ true) ⊎ (b ≡ true)
one_of true b is = inl refl
one_of false b is = inr is

head_same : (word other : List ℕ) (words others : List (List ℕ)) → word ∷ words ≡ other ∷ others → (word ≡ other) × (words ≡ others)
head_same word other words others is = (ap (λ ws. get_or ws 0 []) is, ap (λ ws. behind ws) is)
  where
    behind : List (List ℕ) → List (List ℕ)
    behind [] = []
    behind (word ∷ words) = words

-- Places that are apart have no words in common
apart_words : (places others : List Place) (said more : List Said) → are_apart places others ≡ true → Fills places said → Fills others more → words places said ≡ words others more → ⊥
apart_words [] [] said more far fills is same = cc
apart_words [] (other ∷ others) said more far fills is same = let front = opens other others more is in omega (arith, ap length (same ∙ front.is))
apart_words (place ∷ places) [] said more far fills is same = let front = opens place places said fills in omega (arith, ap length (sym front.is ∙ same))
apart_words (place ∷ places) (other ∷ others) said more far fills is same =
    let front = opens place places said fills in
    let back = opens other others more is in
    let one = head_same front.word back.word (words places front.left) (words others back.left) (sym front.is ∙ same ∙ back.is) in
    ⊎_elim (λ here. parted place other back.word here (subst (StandsAt place) one.0 front.stands) back.stands)
    (λ later. apart_words places others front.left back.left later front.fills back.fills one.1) (one_of (parts place other) (are_apart places others) far)

-- ---- what is written tells what is said

trap_once : (some other : Trap) → trap_name some ≡ trap_name other → some ≡ other
trap_once trap.Divide trap.Divide is = refl
trap_once trap.Index trap.Index is = refl
trap_once trap.Loop trap.Loop is = refl
trap_once trap.Take trap.Take is = refl
trap_once _ _ is = absurd (omega (arith, ap (λ bytes. get_or bytes 0 0) is))

no_dash : (n : ℕ) → n < 2 ^ 64 → 45 ∷ [] ≡ decimal n → ⊥
no_dash n small is = decimal_first n [] [] 45 small refl (append-nil (decimal n) ∙ sym is)

value_once : (y z : ℤ) → FitsSigned w32 y → FitsSigned w32 z → signed_decimal y ≡ signed_decimal z → y ≡ z
value_once (pos m) (pos n) fits suits is = ap pos (decimal_injective m n (omega (arith, fits.sfits)) (omega (arith, suits.sfits)) is)
value_once (pos m) (negsuc n) fits suits is = absurd (decimal_first m [] (decimal (suc n)) 45 (omega (arith, fits.sfits)) refl (append-nil (decimal m) ∙ is))
value_once (negsuc m) (pos n) fits suits is = absurd (decimal_first n [] (decimal (suc m)) 45 (omega (arith, suits.sfits)) refl (append-nil (decimal n) ∙ sym is))
value_once (negsuc m) (negsuc n) fits suits is =
    let one = decimal_injective (suc m) (suc n) (omega (arith, fits.sfits)) (omega (arith, suits.sfits)) (ap (drop 1) is) in
    ap negsuc (omega (arith, one))

or_dash_once : (m n : Option ℕ) → OrNone IsLong m → OrNone IsLong n → number_or_dash m ≡ number_or_dash n → m ≡ n
or_dash_once None None fits suits is = refl
or_dash_once None (Some n) fits suits is = absurd (no_dash n suits is)
or_dash_once (Some m) None fits suits is = absurd (no_dash m fits (sym is))
or_dash_once (Some m) (Some n) fits suits is = ap Some (decimal_injective m n fits suits is)

short_long : (number : Option ℕ) → OrNone IsShort number → OrNone IsLong number
short_long None fits = tt
short_long (Some n) fits = omega (arith, fits)

written_once : (sort : Sort) (some other : Said) → Fits sort some → Fits sort other → written some ≡ written other → some ≡ other
written_once Short (short m) (short n) fits suits is = ap short (decimal_injective m n (omega (arith, fits)) (omega (arith, suits)) is)
written_once Short (short m) _ fits suits is = absurd suits
written_once Long (long m) (long n) fits suits is = ap long (decimal_injective m n fits suits is)
written_once Long (long m) _ fits suits is = absurd suits
written_once Value (value m) (value n) fits suits is = ap value (value_once m n fits suits is)
written_once Value (value m) _ fits suits is = absurd suits
written_once Name (name some) (name other) fits suits is = ap name is
written_once Name (name some) _ fits suits is = absurd suits
written_once ShortOrDash (short_or_none m) (short_or_none n) fits suits is = ap short_or_none (or_dash_once m n (short_long m fits) (short_long n suits) is)
written_once ShortOrDash (short_or_none m) _ fits suits is = absurd suits
written_once LongOrDash (long_or_none m) (long_or_none n) fits suits is = ap long_or_none (or_dash_once m n fits suits is)
written_once LongOrDash (long_or_none m) _ fits suits is = absurd suits
written_once Kind (kind some) (kind other) fits suits is = ap kind (trap_once some other is)
written_once Kind (kind some) _ fits suits is = absurd suits
written_once _ _ other fits suits is = absurd fits

-- What fills the same places with the same words is the same
said_once : (places : List Place) (said more : List Said) → Fills places said → Fills places more → words places said ≡ words places more → said ≡ more
said_once [] [] [] fills is same = refl
said_once (Word word ∷ places) said more fills is same = said_once places said more fills is (head_same word word (words places said) (words places more) same).1
said_once (Any what ∷ places) (some ∷ said) (other ∷ more) fills is same =
    let one = head_same (written some) (written other) (words places said) (words places more) same in
    let first = written_once what some other fills.0 is.0 one.0 in
    let rest = said_once places said more fills.1 is.1 one.1 in
    (λ i. first i ∷ rest i)
said_once [] (some ∷ said) more fills is same = absurd fills
said_once [] [] (other ∷ more) fills is same = absurd is
said_once (Any what ∷ places) [] more fills is same = absurd fills
said_once (Any what ∷ places) (some ∷ said) [] fills is same = absurd is

-- ---- forms that are apart

abbrev from_all : Form → List Form → Bool
from_all form [] = true
from_all form (other ∷ others) = are_apart (fields_of form) (fields_of other) && from_all form others

abbrev all_apart : List Form → Bool
all_apart [] = true
all_apart (form ∷ forms) = from_all form forms && all_apart forms

from_each : (form other : Form) (forms : List Form) → from_all form forms ≡ true → (k : ℕ) → k < length forms → slice_index_or forms k other ≡ other → are_apart (fields_of form) (fields_of other) ≡ true
from_each form other [] far k within is = absurd (omega (arith, within))
from_each form other (first ∷ forms) far zero within is =
    subst (λ f. are_apart (fields_of form) (fields_of f) ≡ true) is (both_first (are_apart (fields_of form) (fields_of first)) (from_all form forms) far)
from_each form other (first ∷ forms) far (suc k) within is =
    from_each form other forms (both_second (are_apart (fields_of form) (fields_of first)) (from_all form forms) far) k (omega (arith, within)) is

module _ (some other : Form) (said more : List Said) (fills : Fills (fields_of some) said) (filled : Fills (fields_of other) more) (same : words (fields_of some) said ≡ words (fields_of other) more) where
  one_form_at : (forms : List Form) → all_apart forms ≡ true → (k j : ℕ) → k < length forms → slice_index_or forms k some ≡ some → j < length forms → slice_index_or forms j other ≡ other → some ≡ other
  one_form_at [] far k j within is inside also = absurd (omega (arith, within))
  one_form_at (first ∷ forms) far zero zero within is inside also = sym is ∙ also
  one_form_at (first ∷ forms) far zero (suc j) within is inside also =
      let apart = from_each first other forms (both_first (from_all first forms) (all_apart forms) far) j (omega (arith, inside)) also in
      absurd (apart_words (fields_of some) (fields_of other) said more (subst (λ f. are_apart (fields_of f) (fields_of other) ≡ true) is apart) fills filled same)
  one_form_at (first ∷ forms) far (suc k) zero within is inside also =
      let apart = from_each first some forms (both_first (from_all first forms) (all_apart forms) far) k (omega (arith, within)) is in
      absurd (apart_words (fields_of other) (fields_of some) more said (subst (λ f. are_apart (fields_of f) (fields_of some) ≡ true) also apart) filled fills (sym same))
  one_form_at (first ∷ forms) far (suc k) (suc j) within is inside also =
      one_form_at forms (both_second (from_all first forms) (all_apart forms) far) k j (omega (arith, within)) is (omega (arith, inside)) also

  -- A line is of one form
  one_form : (forms : List Form) → all_apart forms ≡ true → Contains forms some → Contains forms other → some ≡ other
  one_form forms far has holds = one_form_at forms far has.0 holds.0 has.1 has.2 holds.1 holds.2

pair_same : (form : Form) (said more : List Said) → said ≡ more → ◌≡◌ {A = Form × List Said} (form, said) (form, more)
pair_same form said more is = λ i. (form, is i)

halves : (saying : Form × List Said) → ◌≡◌ {A = Form × List Said} (saying.0, saying.1) saying
halves (form, said) = refl

one_saying : (some other : Form) (said more : List Said) → some ≡ other → Fills (fields_of some) said → Fills (fields_of other) more
    → words (fields_of some) said ≡ words (fields_of other) more → ◌≡◌ {A = Form × List Said} (some, said) (other, more)
one_saying some other said more is fills filled same =
    subst (λ f. (more : List Said) → Fills (fields_of f) more → words (fields_of some) said ≡ words (fields_of f) more → ◌≡◌ {A = Form × List Said} (some, said) (f, more)) is
    (λ more filled same. pair_same some said more (said_once (fields_of some) said more fills filled same)) more filled same

-- At most one note of forms that are apart has its line at the front of a text
pub one_note : (forms : List Form) → all_apart forms ≡ true → (some other : Note) (rest more : List ℕ) → IsTold some → IsTold other → Contains forms (says some).0 → Contains forms (says other).0
    → line_of some ++ rest ≡ line_of other ++ more → (says some ≡ says other) × (rest ≡ more)
one_note forms far some other rest more told tells has holds is =
    let f = (says some).0 in
    let g = (says other).0 in
    let said = (says some).1 in
    let and_more = (says other).1 in
    let first = has_word f said told in
    let second = has_word g and_more tells in
    let spelled = sym (line_of-spell some rest) ∙ is ∙ line_of-spell other more in
    let plain = plain_words (fields_of f) said (plain_table f) told in
    let simple = plain_words (fields_of g) and_more (plain_table g) tells in
    let line = one_line_by (words (fields_of f) said) (words (fields_of g) and_more) rest more first second plain simple spelled in
    let same = one_saying f g said and_more (one_form f g said and_more told tells line.0 forms far has holds) told tells line.0 in
    (sym (halves (says some)) ∙ same ∙ halves (says other), line.1)

-- The forms that are read at a stand are
pub all_apart-at : (from : Stand) → all_apart (forms_at from) ≡ true
all_apart-at (stand.Dated date) = refl
all_apart-at (stand.Agents agents) = refl
all_apart-at (stand.Variables variables) = refl
all_apart-at (stand.Streams streams) = refl
all_apart-at (stand.Graphs agents nodes told edges) = refl
