-- What the front is, the text has.
use Rattle.std.proofs.Common.{◌≡◌, ℕ, suc, ◌+◌, ◌<◌, ◌≤◌, ◌==◌, List, [], ◌∷◌, ◌++◌, length, take, drop, refl, ap, sym, subst, ◌∙◌, Bool, true, false, cond, ◌⊎◌, inl, inr, Option, Some, None, arith, codes}
use Rattle.std.specs.Prelude.{nat_le, nat_eq}
use Rattle.std.specs.List.{prefix_len, starts_with}
use Rattle.std.specs.Char.{is_ascii_digit}
use Rattle.std.proofs.lemmas.Bool.{leb-true, leb-false, eqb-true}
use Rattle.std.proofs.lemmas.List.{take-append-drop, take_at, length-append}
use Rattle.std.proofs.lemmas.List.Folds.{length-prefix_len}
use Rattle.psy_base.specs.declared.limits.TheConstants.{WORD_BYTES, LITERAL}
use Rattle.psy_tree.specs.declared.token.Kind.TheVariants as kinds
use Rattle.psy_tree.specs.declared.token.Word.{Word}
use Rattle.psy_tree.specs.declared.token.Sign.{Sign}
use Rattle.psy_tree.specs.Lexemes.{is_blank, begins_word, is_in_word, is_in_line, Each, EndsBefore, IsWord, IsNumber, decimal_value, sign_spelling, OpensComment}
use Rattle.psy_tree.specs.Tokens.{Separator, Lexeme, bytes_of, IsPiece}
use Rattle.psy_tree.specs.declared.faults.LexKind.TheVariants.{BadByte, LongName, BigLiteral}
use Rattle.psy_tree.specs.Faults.{IsAtFault}
use Rattle.psy_token.specs.Reading.{Front, End, Whole, Faulty, front_of, word_front, number_front, block_front, line_front, sign_front, mark_front, kind_by, reserved, number_len, number_of_len, goes_on, close_len, block_by, sign_by, sign_at}
use Rattle.psy_text.proofs.lemmas.Runs.{longest}
use Rattle.psy_token.proofs.Bytes.{in_word-begins, in_word-none, goes_on-none}
use Rattle.psy_token.proofs.Booleans.{or_second}
use Rattle.psy_token.proofs.Comments.{Closes, close_len-some, close_len-none}
use Rattle.psy_token.proofs.Spellings.{reserved-some, reserved-none, sign_at-some, sign_at-none, sign_at-longest, starts_with-true, starts_with-front, first_sign, first_sign-spelling}

-- The bytes end, or begin with the piece, or with a piece at fault
abbrev pub Has : List ℕ → Front → Type 0
Has bytes End = bytes ≡ []
Has bytes (Whole piece) = (rest : List ℕ) × (bytes ≡ bytes_of piece ++ rest) × IsPiece piece rest
Has bytes (Faulty fault behind) = IsAtFault fault bytes behind

-- Words

word_at : (b : ℕ) (more : List ℕ) (len : ℕ) → begins_word b ≡ true → len ≡ suc (prefix_len is_in_word more) → Each is_in_word (take len (b ∷ more)) → IsWord (take len (b ∷ more))
word_at b more len begins is = subst (λ n. Each is_in_word (take n (b ∷ more)) → IsWord (take n (b ∷ more))) (sym is) (λ each. (begins, each.1))

word_is : (b : ℕ) (more : List ℕ) → begins_word b ≡ true → IsWord (take (prefix_len is_in_word (b ∷ more)) (b ∷ more))
word_is b more begins =
    let e : prefix_len is_in_word (b ∷ more) ≡ suc (prefix_len is_in_word more) = ap (λ t. cond t (1 + prefix_len is_in_word more) 0) (in_word-begins b begins) ∙ omega arith in
    word_at b more (prefix_len is_in_word (b ∷ more)) begins e (longest is_in_word (b ∷ more)).each

named : (name rest : List ℕ) → IsWord name → EndsBefore is_in_word rest → length name ≤ WORD_BYTES → (found : Option Word) → reserved name ≡ found → IsPiece (Lexeme (kind_by found name) name) rest
named name rest word ends short (Some w) is = (reserved-some name w is, ends)
named name rest word ends short None is = ((refl, word, short, reserved-none name is), ends)

word_by : (b : ℕ) (more : List ℕ) → begins_word b ≡ true → (t : Bool) → nat_le (prefix_len is_in_word (b ∷ more)) WORD_BYTES ≡ t
    → Has (b ∷ more) (cond t (Whole (Lexeme (kind_by (reserved (take (prefix_len is_in_word (b ∷ more)) (b ∷ more))) (take (prefix_len is_in_word (b ∷ more)) (b ∷ more))) (take (prefix_len is_in_word (b ∷ more)) (b ∷ more)))) (Faulty LongName 0))
word_by b more begins true short =
    let len = prefix_len is_in_word (b ∷ more) in
    let name = take len (b ∷ more) in
    let fits : length name ≤ WORD_BYTES = omega (arith, length-prefix_len is_in_word (b ∷ more), leb-true _ _ short) in
    (drop len (b ∷ more), sym (take-append-drop len (b ∷ more)), named name (drop len (b ∷ more)) (word_is b more begins) (longest is_in_word (b ∷ more)).ends fits (reserved name) refl)
word_by b more begins false long =
    let len = prefix_len is_in_word (b ∷ more) in
    let name = take len (b ∷ more) in
    let over : WORD_BYTES < length name = omega (arith, length-prefix_len is_in_word (b ∷ more), leb-false _ _ long) in
    (name, drop len (b ∷ more), sym (take-append-drop len (b ∷ more)), word_is b more begins, (longest is_in_word (b ∷ more)).ends, over, refl)

pub word_has : (b : ℕ) (more : List ℕ) → begins_word b ≡ true → Has (b ∷ more) (word_front (b ∷ more))
unfolding word_front
word_has b more begins = word_by b more begins (nat_le (prefix_len is_in_word (b ∷ more)) WORD_BYTES) refl

-- Numbers

record NumberAt (bytes : List ℕ) (len : ℕ) : Type 0 where
  pub number : IsNumber (take len bytes)
  pub ends : EndsBefore is_ascii_digit (drop len bytes) ⊎ (take len bytes ≡ codes "0")
  pub len_is : length (take len bytes) ≡ len

digits_at : (b : ℕ) (more : List ℕ) (len : ℕ) → (b ≡ 48 → ⊥) → is_ascii_digit b ≡ true → len ≡ suc (prefix_len is_ascii_digit more) → Each is_ascii_digit (take len (b ∷ more)) → IsNumber (take len (b ∷ more))
digits_at b more len other digit is = subst (λ n. Each is_ascii_digit (take n (b ∷ more)) → IsNumber (take n (b ∷ more))) (sym is) (λ each. (digit, each.1, λ zero_first. absurd (other zero_first)))

number_by : (b : ℕ) (more : List ℕ) → is_ascii_digit b ≡ true → (t : Bool) → (b == 48) ≡ t → NumberAt (b ∷ more) (cond t 1 (prefix_len is_ascii_digit (b ∷ more)))
number_by b more digit true zero_first =
    let is : b ≡ 48 = eqb-true b 48 zero_first in
    record { number = (digit, tt, λ _. refl); ends = inr (ap (λ x. x ∷ []) is); len_is = refl }
number_by b more digit false other =
    let len = prefix_len is_ascii_digit (b ∷ more) in
    let e : len ≡ suc (prefix_len is_ascii_digit more) = ap (λ t. cond t (1 + prefix_len is_ascii_digit more) 0) digit ∙ omega arith in
    record {
      number = digits_at b more len (λ is. let f : (b == 48) ≡ true = ap (λ x. x == 48) is in cc) digit e (longest is_ascii_digit (b ∷ more)).each;
      ends = inl (longest is_ascii_digit (b ∷ more)).ends;
      len_is = length-prefix_len is_ascii_digit (b ∷ more);
    }

joined_by : (digits : List ℕ) (b : ℕ) (rest : List ℕ) → IsNumber digits → EndsBefore is_ascii_digit (b ∷ rest) ⊎ (digits ≡ codes "0") → decimal_value digits ≤ LITERAL → is_in_word b ≡ true → (t : Bool) → begins_word b ≡ t → IsAtFault BadByte (digits ++ b ∷ rest) (length digits)
joined_by digits b rest number ends small goes true begins = inr (digits, b, rest, refl, number, small, inl begins, refl)
joined_by digits b rest number (inl ends) small goes false other = let digit = or_second (begins_word b) (is_ascii_digit b) goes other in cc
joined_by digits b rest number (inr zero_alone) small goes false other = inr (digits, b, rest, refl, number, small, inr (or_second (begins_word b) (is_ascii_digit b) goes other, zero_alone), refl)

joined : (digits rest : List ℕ) → IsNumber digits → EndsBefore is_ascii_digit rest ⊎ (digits ≡ codes "0") → decimal_value digits ≤ LITERAL → goes_on rest ≡ true → IsAtFault BadByte (digits ++ rest) (length digits)
joined digits [] number ends small goes = cc
joined digits (b ∷ rest) number ends small goes = joined_by digits b rest number ends small goes (begins_word b) refl

ended_by : (digits rest : List ℕ) (len : ℕ) → IsNumber digits → EndsBefore is_ascii_digit rest ⊎ (digits ≡ codes "0") → length digits ≡ len → decimal_value digits ≤ LITERAL → (t : Bool) → goes_on rest ≡ t → Has (digits ++ rest) (cond t (Faulty BadByte len) (Whole (Lexeme (kinds.Number (decimal_value digits)) digits)))
ended_by digits rest len number ends len_is small true goes = subst (IsAtFault BadByte (digits ++ rest)) len_is (joined digits rest number ends small goes)
ended_by digits rest len number ends len_is small false stops = (rest, refl, ((number, refl, small), goes_on-none rest stops))

big : (digits rest : List ℕ) → IsNumber digits → EndsBefore is_ascii_digit rest ⊎ (digits ≡ codes "0") → LITERAL < decimal_value digits → IsAtFault BigLiteral (digits ++ rest) 0
big digits rest number (inl ends) over = (digits, rest, refl, number, ends, over, refl)
big digits rest number (inr zero_alone) over = let e : decimal_value digits ≡ 0 = ap decimal_value zero_alone in absurd (omega arith)

sized_by : (digits rest : List ℕ) (len : ℕ) → IsNumber digits → EndsBefore is_ascii_digit rest ⊎ (digits ≡ codes "0") → length digits ≡ len → (t : Bool) → nat_le (decimal_value digits) LITERAL ≡ t
    → Has (digits ++ rest) (cond t (cond (goes_on rest) (Faulty BadByte len) (Whole (Lexeme (kinds.Number (decimal_value digits)) digits))) (Faulty BigLiteral 0))
sized_by digits rest len number ends len_is true small = ended_by digits rest len number ends len_is (leb-true _ _ small) (goes_on rest) refl
sized_by digits rest len number ends len_is false over = big digits rest number ends (leb-false _ _ over)

measured : (bytes : List ℕ) (len : ℕ) → NumberAt bytes len → Has bytes (number_of_len len bytes)
measured bytes len at =
    subst (λ all. Has all (number_of_len len bytes)) (take-append-drop len bytes)
    (sized_by (take len bytes) (drop len bytes) len at.number at.ends at.len_is (nat_le (decimal_value (take len bytes)) LITERAL) refl)

pub number_has : (b : ℕ) (more : List ℕ) → is_ascii_digit b ≡ true → Has (b ∷ more) (number_front (b ∷ more))
unfolding number_front
number_has b more digit = measured (b ∷ more) (number_len (b ∷ more)) (number_by b more digit (b == 48) refl)

-- Comments

line_at : (more : List ℕ) (len : ℕ) → len ≡ suc (suc (prefix_len is_in_line more)) → Has (47 ∷ 47 ∷ more) (Whole (Separator (take len (47 ∷ 47 ∷ more))))
line_at more len is =
    subst (λ n. Has (47 ∷ 47 ∷ more) (Whole (Separator (take n (47 ∷ 47 ∷ more))))) (sym is) (
      drop (prefix_len is_in_line more) more,
      ap (λ l. 47 ∷ 47 ∷ l) (sym (take-append-drop (prefix_len is_in_line more) more)),
      inr (inr (take (prefix_len is_in_line more) more, refl, (longest is_in_line more).each, (longest is_in_line more).ends)),
    )

line_of : (more : List ℕ) → Has (codes "//" ++ more) (line_front (codes "//" ++ more))
unfolding line_front
line_of more = line_at more (prefix_len is_in_line more + 2) (omega arith)

pub line_has : (bytes : List ℕ) → starts_with nat_eq bytes (codes "//") ≡ true → Has bytes (line_front bytes)
line_has bytes opens = subst (λ all. Has all (line_front all)) (sym (starts_with-true bytes (codes "//") opens)) (line_of (drop 2 bytes))

closed : (more : List ℕ) (len : ℕ) → Closes more len → Has (codes "/*" ++ more) (Whole (Separator (take (len + 2) (codes "/*" ++ more))))
closed more len at =
    let comment = codes "/*" ++ at.inside ++ codes "*/" in
    let all : codes "/*" ++ more ≡ comment ++ at.rest = ap (λ l. codes "/*" ++ l) at.whole in
    let size : length comment ≡ len + 2 = ap (λ n. suc (suc n)) (length-append at.inside (codes "*/")) ∙ omega (arith, at.len_is) in
    let piece : take (len + 2) (codes "/*" ++ more) ≡ comment = ap (take (len + 2)) all ∙ take_at comment at.rest (len + 2) size in
    subst (λ p. Has (codes "/*" ++ more) (Whole (Separator p))) (sym piece) (at.rest, all, inr (inl (at.inside, refl, at.first)))

block_by_has : (more : List ℕ) (found : Option ℕ) → close_len more ≡ found → Has (codes "/*" ++ more) (block_by found (codes "/*" ++ more))
block_by_has more None is = (more, refl, close_len-none more is, refl)
block_by_has more (Some len) is = closed more len (close_len-some more len is)

block_of : (more : List ℕ) → Has (codes "/*" ++ more) (block_front (codes "/*" ++ more))
unfolding block_front
block_of more = block_by_has more (close_len more) refl

pub block_has : (bytes : List ℕ) → starts_with nat_eq bytes (codes "/*") ≡ true → Has bytes (block_front bytes)
block_has bytes opens = subst (λ all. Has all (block_front all)) (sym (starts_with-true bytes (codes "/*") opens)) (block_of (drop 2 bytes))

-- Signs

pub no_comment : (bytes : List ℕ) → starts_with nat_eq bytes (codes "//") ≡ false → starts_with nat_eq bytes (codes "/*") ≡ false → OpensComment bytes → ⊥
no_comment bytes line block (inl (more, is)) = let e : starts_with nat_eq bytes (codes "//") ≡ true = ap (λ l. starts_with nat_eq l (codes "//")) is ∙ starts_with-front (codes "//") more in cc
no_comment bytes line block (inr (more, is)) = let e : starts_with nat_eq bytes (codes "/*") ≡ true = ap (λ l. starts_with nat_eq l (codes "/*")) is ∙ starts_with-front (codes "/*") more in cc

first_begins : (b : ℕ) (rest more : List ℕ) (sign : Sign) → sign_spelling sign ≡ b ∷ more → b ∷ rest ≡ sign_spelling (first_sign sign) ++ rest
first_begins b rest more sign is = sym (ap (λ l. l ++ rest) (first_sign-spelling sign ∙ ap (take 1) is))

sign_by_has : (b : ℕ) (more : List ℕ) → is_blank b ≡ false → is_in_word b ≡ false → (OpensComment (b ∷ more) → ⊥) → (found : Option Sign) → sign_at (b ∷ more) ≡ found → Has (b ∷ more) (sign_by found (b ∷ more))
sign_by_has b more blank word comment None none =
    inl (b, more, refl, (blank, word, λ sign rest is. sign_at-none (b ∷ more) none (first_sign sign) more (first_begins b more rest sign is)), refl)
sign_by_has b more blank word comment (Some sign) found =
    let bytes = b ∷ more in
    let size = length (sign_spelling sign) in
    let all : bytes ≡ sign_spelling sign ++ drop size bytes = sign_at-some bytes sign found in
    let piece : take size bytes ≡ sign_spelling sign = ap (take size) all ∙ take_at (sign_spelling sign) (drop size bytes) size refl in
    (drop size bytes, sym (take-append-drop size bytes), (piece, ((λ other rest is. sign_at-longest bytes sign found other rest (all ∙ is)), λ opens. comment (subst OpensComment (sym all) opens))))

pub sign_has : (b : ℕ) (more : List ℕ) → is_blank b ≡ false → is_in_word b ≡ false → (OpensComment (b ∷ more) → ⊥) → Has (b ∷ more) (sign_front (b ∷ more))
unfolding sign_front
sign_has b more blank word comment = sign_by_has b more blank word comment (sign_at (b ∷ more)) refl

-- The front

mark_by : (b : ℕ) (more : List ℕ) → is_blank b ≡ false → is_in_word b ≡ false → (s t : Bool) → starts_with nat_eq (b ∷ more) (codes "//") ≡ s → starts_with nat_eq (b ∷ more) (codes "/*") ≡ t → Has (b ∷ more) (cond s (line_front (b ∷ more)) (cond t (block_front (b ∷ more)) (sign_front (b ∷ more))))
mark_by b more blank word true t line block = line_has (b ∷ more) line
mark_by b more blank word false true line block = block_has (b ∷ more) block
mark_by b more blank word false false line block = sign_has b more blank word (no_comment (b ∷ more) line block)

front_by : (b : ℕ) (more : List ℕ) (s t u : Bool) → is_blank b ≡ s → begins_word b ≡ t → is_ascii_digit b ≡ u
    → Has (b ∷ more) (cond s (Whole (Separator (b ∷ []))) (cond t (word_front (b ∷ more)) (cond u (number_front (b ∷ more)) (mark_front (b ∷ more)))))
front_by b more true t u blank letter digit = (more, refl, inl (b, blank, refl))
front_by b more false true u blank letter digit = word_has b more letter
front_by b more false false true blank letter digit = number_has b more digit
front_by b more false false false blank letter digit = mark_by b more blank (in_word-none b letter digit) (starts_with nat_eq (b ∷ more) (codes "//")) (starts_with nat_eq (b ∷ more) (codes "/*")) refl refl

-- The front of the bytes is what they have
pub front_has : (bytes : List ℕ) → Has bytes (front_of bytes)
unfolding front_of
front_has [] = refl
front_has (b ∷ more) = front_by b more (is_blank b) (begins_word b) (is_ascii_digit b) refl refl refl
