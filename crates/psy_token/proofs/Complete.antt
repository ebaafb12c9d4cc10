-- What the text has is the front: there is one piece or fault at most.
use Rattle.std.proofs.Common.{◌≡◌, ℕ, suc, ◌+◌, ◌<◌, ◌≤◌, ◌==◌, List, [], ◌∷◌, ◌++◌, length, take, drop, refl, ap, sym, subst, ◌∙◌, Bool, true, false, cond, ◌⊎◌, inl, inr, Option, Some, None, arith, codes}
use Rattle.std.specs.Prelude.{nat_le, nat_eq}
use Rattle.std.specs.List.{prefix_len, starts_with}
use Rattle.std.specs.Char.{is_ascii_digit}
use Rattle.std.proofs.lemmas.Bool.{cond-true, cond-false, le-leb, lt-leb, eqb-true}
use Rattle.std.proofs.lemmas.List.{take_at, drop_at, length-append}
use Rattle.psy_base.specs.declared.limits.TheConstants.{WORD_BYTES, LITERAL}
use Rattle.psy_tree.specs.declared.token.Kind.{Kind}
use Rattle.psy_tree.specs.declared.token.Kind.TheVariants as kinds
use Rattle.psy_tree.specs.declared.token.Sign.{Sign}
use Rattle.psy_tree.specs.declared.token.Sign.TheVariants.{Semicolon, OpenBrace, CloseBrace, OpenRound, CloseRound, OpenSquare, CloseSquare, Comma, Assign, Plus, Minus, Star, Slash, Percent, ShiftLeft, ShiftRight, Less, LessEqual, Greater, GreaterEqual, Equal, NotEqual, Amp, Caret, Bar, AmpAmp, BarBar, Tilde, Bang}
use Rattle.psy_tree.specs.Lexemes.{is_blank, begins_word, is_in_word, is_in_line, Each, EndsBefore, IsWord, IsNumber, decimal_value, word_spelling, sign_spelling, OpensComment, HasClose, IsLongestSign}
use Rattle.psy_tree.specs.Tokens.{Piece, Separator, Lexeme, bytes_of, IsPiece}
use Rattle.psy_tree.specs.declared.faults.LexKind.{LexKind}
use Rattle.psy_tree.specs.declared.faults.LexKind.TheVariants.{BadByte, LongName, BigLiteral, OpenComment}
use Rattle.psy_tree.specs.Faults.{IsAtFault, BeginsNothing, MayNotFollow}
use Rattle.psy_token.specs.Reading.{Whole, Faulty, front_of, word_front, number_front, block_front, line_front, sign_front, mark_front, kind_by, word_kind, number_len, number_of_len, goes_on, block_by, sign_by, sign_at}
use Rattle.psy_text.proofs.lemmas.Runs.{prefix_len-run}
use Rattle.psy_token.proofs.Bytes.{in_word-begins, in_word-digit, in_word-neither, begins-not_blank, digit-not_blank, digit-not_begins, goes_on-ends, EndsBefore-digits}
use Rattle.psy_token.proofs.Comments.{close_len-closes, close_len-open}
use Rattle.psy_token.proofs.Spellings.{reserved-spelling, reserved-other, sign_at-some, sign_at-spelling, starts_with-true, IsWord-spelling, length-spelling}

-- By its first byte

front_word : (b : ℕ) (more : List ℕ) → begins_word b ≡ true → front_of (b ∷ more) ≡ word_front (b ∷ more)
unfolding front_of
front_word b more begins = cond-false _ _ _ (begins-not_blank b begins) ∙ cond-true _ _ _ begins

front_number : (b : ℕ) (more : List ℕ) → is_ascii_digit b ≡ true → front_of (b ∷ more) ≡ number_front (b ∷ more)
unfolding front_of
front_number b more digit = cond-false _ _ _ (digit-not_blank b digit) ∙ cond-false _ _ _ (digit-not_begins b digit) ∙ cond-true _ _ _ digit

front_blank : (b : ℕ) (more : List ℕ) → is_blank b ≡ true → front_of (b ∷ more) ≡ Whole (Separator (b ∷ []))
unfolding front_of
front_blank b more blank = cond-true _ _ _ blank

front_other : (b : ℕ) (more : List ℕ) → is_blank b ≡ false → is_in_word b ≡ false → front_of (b ∷ more) ≡ mark_front (b ∷ more)
unfolding front_of
front_other b more blank word = cond-false _ _ _ blank ∙ cond-false _ _ _ (in_word-neither b word).0 ∙ cond-false _ _ _ (in_word-neither b word).1

-- Words

word_len : (word rest : List ℕ) → IsWord word → EndsBefore is_in_word rest → prefix_len is_in_word (word ++ rest) ≡ length word
word_len [] rest is ends = absurd is
word_len (b ∷ more) rest is ends = prefix_len-run is_in_word (b ∷ more) rest (in_word-begins b is.0, is.1) ends

front_is_word : (word rest : List ℕ) → IsWord word → front_of (word ++ rest) ≡ word_front (word ++ rest)
front_is_word [] rest is = absurd is
front_is_word (b ∷ more) rest is = front_word b (more ++ rest) is.0

word_short : (all : List ℕ) (len : ℕ) (word : List ℕ) → prefix_len is_in_word all ≡ len → take len all ≡ word → len ≤ WORD_BYTES → word_front all ≡ Whole (Lexeme (word_kind word) word)
unfolding word_front
word_short all len word is piece short =
    let name : take (prefix_len is_in_word all) all ≡ word = ap (λ n. take n all) is ∙ piece in
    let test : nat_le (prefix_len is_in_word all) WORD_BYTES ≡ true = ap (λ n. nat_le n WORD_BYTES) is ∙ le-leb _ _ short in
    cond-true _ _ _ test ∙ ap (λ w. Whole (Lexeme (word_kind w) w)) name

word_long : (all : List ℕ) (len : ℕ) → prefix_len is_in_word all ≡ len → WORD_BYTES < len → word_front all ≡ Faulty LongName 0
unfolding word_front
word_long all len is over =
    let test : nat_le (prefix_len is_in_word all) WORD_BYTES ≡ false = ap (λ n. nat_le n WORD_BYTES) is ∙ lt-leb _ _ over in
    cond-false _ _ _ test

short_word : (word rest : List ℕ) → IsWord word → EndsBefore is_in_word rest → length word ≤ WORD_BYTES → front_of (word ++ rest) ≡ Whole (Lexeme (word_kind word) word)
short_word word rest is ends short = front_is_word word rest is ∙ word_short (word ++ rest) (length word) word (word_len word rest is ends) (take_at word rest (length word) refl) short

-- Numbers

len_by : (b : ℕ) (more rest : List ℕ) → IsNumber (b ∷ more) → EndsBefore is_ascii_digit rest ⊎ (b ∷ more ≡ codes "0") → (t : Bool) → (b == 48) ≡ t → cond t 1 (prefix_len is_ascii_digit (b ∷ (more ++ rest))) ≡ suc (length more)
len_by b more rest number ends true zero_first = let e : more ≡ [] = number.2 (eqb-true b 48 zero_first) in ap (λ l. suc (length l)) (sym e)
len_by b more rest number (inl ends) false other = prefix_len-run is_ascii_digit (b ∷ more) rest (number.0, number.1) ends
len_by b more rest number (inr zero_alone) false other = let e : b ≡ 48 = cc in let f : (b == 48) ≡ true = ap (λ x. x == 48) e in cc

number_len_is : (digits rest : List ℕ) → IsNumber digits → EndsBefore is_ascii_digit rest ⊎ (digits ≡ codes "0") → number_len (digits ++ rest) ≡ length digits
number_len_is [] rest number ends = absurd number
number_len_is (b ∷ more) rest number ends = len_by b more rest number ends (b == 48) refl

front_is_number : (digits rest : List ℕ) → IsNumber digits → EndsBefore is_ascii_digit rest ⊎ (digits ≡ codes "0") → front_of (digits ++ rest) ≡ number_of_len (length digits) (digits ++ rest)
unfolding number_front
front_is_number [] rest number ends = absurd number
front_is_number (b ∷ more) rest number ends = front_number b (more ++ rest) number.0 ∙ ap (λ n. number_of_len n (b ∷ (more ++ rest))) (number_len_is (b ∷ more) rest number ends)

number_parts : (digits rest : List ℕ) → number_of_len (length digits) (digits ++ rest) ≡ cond (nat_le (decimal_value digits) LITERAL) (cond (goes_on rest) (Faulty BadByte (length digits)) (Whole (Lexeme (kinds.Number (decimal_value digits)) digits))) (Faulty BigLiteral 0)
number_parts digits rest =
    let front : take (length digits) (digits ++ rest) ≡ digits = take_at digits rest (length digits) refl in
    let back : drop (length digits) (digits ++ rest) ≡ rest = drop_at digits rest (length digits) refl in
    λ i. cond (nat_le (decimal_value (front i)) LITERAL) (cond (goes_on (back i)) (Faulty BadByte (length digits)) (Whole (Lexeme (kinds.Number (decimal_value (front i))) (front i)))) (Faulty BigLiteral 0)

whole_number : (digits rest : List ℕ) → IsNumber digits → EndsBefore is_in_word rest → decimal_value digits ≤ LITERAL → front_of (digits ++ rest) ≡ Whole (Lexeme (kinds.Number (decimal_value digits)) digits)
whole_number digits rest number ends small =
    front_is_number digits rest number (inl (EndsBefore-digits rest ends)) ∙ number_parts digits rest
    ∙ cond-true _ _ _ (le-leb _ _ small) ∙ cond-false _ _ _ (goes_on-ends rest ends)

big_number : (digits rest : List ℕ) → IsNumber digits → EndsBefore is_ascii_digit rest → LITERAL < decimal_value digits → front_of (digits ++ rest) ≡ Faulty BigLiteral 0
big_number digits rest number ends over = front_is_number digits rest number (inl ends) ∙ number_parts digits rest ∙ cond-false _ _ _ (lt-leb _ _ over)

joined_number : (digits : List ℕ) (b : ℕ) (rest : List ℕ) → IsNumber digits → decimal_value digits ≤ LITERAL → EndsBefore is_ascii_digit (b ∷ rest) ⊎ (digits ≡ codes "0") → is_in_word b ≡ true → front_of (digits ++ b ∷ rest) ≡ Faulty BadByte (length digits)
joined_number digits b rest number small ends goes =
    front_is_number digits (b ∷ rest) number ends ∙ number_parts digits (b ∷ rest)
    ∙ cond-true _ _ _ (le-leb _ _ small) ∙ cond-true _ _ _ goes

letter_ends : (b : ℕ) (t : Bool) → is_ascii_digit b ≡ t → begins_word b ≡ true → is_ascii_digit b ≡ false
letter_ends b true digit letter = let e = digit-not_begins b digit in cc
letter_ends b false digit letter = digit

joined : (digits : List ℕ) (b : ℕ) (rest : List ℕ) → IsNumber digits → decimal_value digits ≤ LITERAL → MayNotFollow digits b → front_of (digits ++ b ∷ rest) ≡ Faulty BadByte (length digits)
joined digits b rest number small (inl letter) = joined_number digits b rest number small (inl (letter_ends b (is_ascii_digit b) refl letter)) (in_word-begins b letter)
joined digits b rest number small (inr (digit, zero_alone)) = joined_number digits b rest number small (inr zero_alone) (in_word-digit b digit)

-- Comments

front_line : (more : List ℕ) → front_of (47 ∷ 47 ∷ more) ≡ line_front (47 ∷ 47 ∷ more)
unfolding front_of
front_line more = refl

front_block : (more : List ℕ) → front_of (47 ∷ 42 ∷ more) ≡ block_front (47 ∷ 42 ∷ more)
unfolding front_of
front_block more = refl

line_whole : (inside rest : List ℕ) → Each is_in_line inside → EndsBefore is_in_line rest → line_front (47 ∷ 47 ∷ (inside ++ rest)) ≡ Whole (Separator (47 ∷ 47 ∷ inside))
unfolding line_front
line_whole inside rest each ends =
    let size : length (47 ∷ 47 ∷ inside) ≡ prefix_len is_in_line (inside ++ rest) + 2 = omega (arith, prefix_len-run is_in_line inside rest each ends) in
    ap (λ p. Whole (Separator p)) (take_at (47 ∷ 47 ∷ inside) rest (prefix_len is_in_line (inside ++ rest) + 2) size)

block_whole : (inside rest : List ℕ) → (HasClose (inside ++ codes "*") → ⊥) → block_front (47 ∷ 42 ∷ (inside ++ codes "*/" ++ rest)) ≡ Whole (Separator (47 ∷ 42 ∷ (inside ++ codes "*/")))
unfolding block_front
block_whole inside rest first =
    let size : length (47 ∷ 42 ∷ (inside ++ codes "*/")) ≡ length inside + 2 + 2 = omega (arith, length-append inside (codes "*/")) in
    ap (λ f. block_by f (47 ∷ 42 ∷ (inside ++ codes "*/" ++ rest))) (close_len-closes inside rest first)
    ∙ ap (λ p. Whole (Separator p)) (take_at (47 ∷ 42 ∷ (inside ++ codes "*/")) rest (length inside + 2 + 2) size)

block_open : (inside : List ℕ) → (HasClose inside → ⊥) → block_front (47 ∷ 42 ∷ inside) ≡ Faulty OpenComment 0
unfolding block_front
block_open inside never = ap (λ f. block_by f (47 ∷ 42 ∷ inside)) (close_len-open inside never)

-- Signs

front_sign : (sign : Sign) (rest : List ℕ) → front_of (sign_spelling sign ++ rest) ≡ mark_front (sign_spelling sign ++ rest)
unfolding front_of
front_sign Semicolon rest = refl
front_sign OpenBrace rest = refl
front_sign CloseBrace rest = refl
front_sign OpenRound rest = refl
front_sign CloseRound rest = refl
front_sign OpenSquare rest = refl
front_sign CloseSquare rest = refl
front_sign Comma rest = refl
front_sign Assign rest = refl
front_sign Plus rest = refl
front_sign Minus rest = refl
front_sign Star rest = refl
front_sign Slash rest = refl
front_sign Percent rest = refl
front_sign ShiftLeft rest = refl
front_sign ShiftRight rest = refl
front_sign Less rest = refl
front_sign LessEqual rest = refl
front_sign Greater rest = refl
front_sign GreaterEqual rest = refl
front_sign Equal rest = refl
front_sign NotEqual rest = refl
front_sign Amp rest = refl
front_sign Caret rest = refl
front_sign Bar rest = refl
front_sign AmpAmp rest = refl
front_sign BarBar rest = refl
front_sign Tilde rest = refl
front_sign Bang rest = refl

unopened : (bytes needle : List ℕ) → ((more : List ℕ) → bytes ≡ needle ++ more → ⊥) → (t : Bool) → starts_with nat_eq bytes needle ≡ t → t ≡ false
unopened bytes needle never true opens = absurd (never (drop (length needle) bytes) (starts_with-true bytes needle opens))
unopened bytes needle never false opens = refl

mark_is_sign : (bytes : List ℕ) → (OpensComment bytes → ⊥) → mark_front bytes ≡ sign_front bytes
mark_is_sign bytes comment =
    cond-false _ _ _ (unopened bytes (codes "//") (λ more is. comment (inl (more, is))) (starts_with nat_eq bytes (codes "//")) refl)
    ∙ cond-false _ _ _ (unopened bytes (codes "/*") (λ more is. comment (inr (more, is))) (starts_with nat_eq bytes (codes "/*")) refl)

sign_whole : (sign : Sign) (rest : List ℕ) → IsLongestSign sign rest → sign_front (sign_spelling sign ++ rest) ≡ Whole (Lexeme (kinds.Sign sign) (sign_spelling sign))
unfolding sign_front
sign_whole sign rest longest =
    ap (λ f. sign_by f (sign_spelling sign ++ rest)) (sign_at-spelling sign rest longest)
    ∙ ap (λ p. Whole (Lexeme (kinds.Sign sign) p)) (take_at (sign_spelling sign) rest (length (sign_spelling sign)) refl)

pub head_of : (sign : Sign) → (b : ℕ) × (more : List ℕ) × (sign_spelling sign ≡ b ∷ more)
head_of Semicolon = (_, _, refl)
head_of OpenBrace = (_, _, refl)
head_of CloseBrace = (_, _, refl)
head_of OpenRound = (_, _, refl)
head_of CloseRound = (_, _, refl)
head_of OpenSquare = (_, _, refl)
head_of CloseSquare = (_, _, refl)
head_of Comma = (_, _, refl)
head_of Assign = (_, _, refl)
head_of Plus = (_, _, refl)
head_of Minus = (_, _, refl)
head_of Star = (_, _, refl)
head_of Slash = (_, _, refl)
head_of Percent = (_, _, refl)
head_of ShiftLeft = (_, _, refl)
head_of ShiftRight = (_, _, refl)
head_of Less = (_, _, refl)
head_of LessEqual = (_, _, refl)
head_of Greater = (_, _, refl)
head_of GreaterEqual = (_, _, refl)
head_of Equal = (_, _, refl)
head_of NotEqual = (_, _, refl)
head_of Amp = (_, _, refl)
head_of Caret = (_, _, refl)
head_of Bar = (_, _, refl)
head_of AmpAmp = (_, _, refl)
head_of BarBar = (_, _, refl)
head_of Tilde = (_, _, refl)
head_of Bang = (_, _, refl)

nothing_by : (b : ℕ) (rest : List ℕ) → BeginsNothing b → (found : Option Sign) → sign_at (b ∷ rest) ≡ found → found ≡ None
nothing_by b rest nothing None is = refl
nothing_by b rest nothing (Some sign) is =
    let first = head_of sign in
    let all : b ∷ rest ≡ first.0 ∷ (first.1 ++ drop (length (sign_spelling sign)) (b ∷ rest)) = sign_at-some (b ∷ rest) sign is ∙ ap (λ l. l ++ drop (length (sign_spelling sign)) (b ∷ rest)) first.2 in
    let e : first.0 ≡ b = cc in
    absurd (nothing.2 sign first.1 (first.2 ∙ ap (λ x. x ∷ first.1) e))

opens_nothing : (b : ℕ) (rest : List ℕ) → BeginsNothing b → OpensComment (b ∷ rest) → ⊥
opens_nothing b rest nothing (inl (more, is)) = let e : 47 ≡ b = cc in nothing.2 Slash [] (ap (λ x. x ∷ []) e)
opens_nothing b rest nothing (inr (more, is)) = let e : 47 ≡ b = cc in nothing.2 Slash [] (ap (λ x. x ∷ []) e)

sign_none : (bytes : List ℕ) → sign_at bytes ≡ None → sign_front bytes ≡ Faulty BadByte 0
unfolding sign_front
sign_none bytes none = ap (λ f. sign_by f bytes) none

unknown : (b : ℕ) (rest : List ℕ) → BeginsNothing b → front_of (b ∷ rest) ≡ Faulty BadByte 0
unknown b rest nothing =
    front_other b rest nothing.0 nothing.1 ∙ mark_is_sign (b ∷ rest) (opens_nothing b rest nothing)
    ∙ sign_none (b ∷ rest) (nothing_by b rest nothing (sign_at (b ∷ rest)) refl)

-- What stands at the front

separator : (bytes rest : List ℕ) → IsPiece (Separator bytes) rest → front_of (bytes ++ rest) ≡ Whole (Separator bytes)
separator bytes rest (inl (b, blank, is)) = subst (λ p. front_of (p ++ rest) ≡ Whole (Separator p)) (sym is) (front_blank b rest blank)
separator bytes rest (inr (inl (inside, is, first))) =
    subst (λ p. front_of (p ++ rest) ≡ Whole (Separator p)) (sym is)
    (front_block (inside ++ codes "*/" ++ rest) ∙ block_whole inside rest first)
separator bytes rest (inr (inr (inside, is, each, ends))) =
    subst (λ p. front_of (p ++ rest) ≡ Whole (Separator p)) (sym is)
    (front_line (inside ++ rest) ∙ line_whole inside rest each ends)

lexeme : (kind : Kind) (bytes rest : List ℕ) → IsPiece (Lexeme kind bytes) rest → front_of (bytes ++ rest) ≡ Whole (Lexeme kind bytes)
lexeme (kinds.Word word) bytes rest (is, ends) =
    subst (λ p. front_of (p ++ rest) ≡ Whole (Lexeme (kinds.Word word) p)) (sym is)
    (short_word (word_spelling word) rest (IsWord-spelling word) ends (length-spelling word)
    ∙ ap (λ f. Whole (Lexeme (kind_by f (word_spelling word)) (word_spelling word))) (reserved-spelling word))
lexeme (kinds.Name name) bytes rest ((is, word, short, other), ends) =
    subst (λ p. front_of (p ++ rest) ≡ Whole (Lexeme (kinds.Name name) p)) (sym is)
    (short_word name rest word ends short ∙ ap (λ f. Whole (Lexeme (kind_by f name) name)) (reserved-other name other))
lexeme (kinds.Number number) bytes rest ((digits, is, small), ends) =
    let fits : decimal_value bytes ≤ LITERAL = omega (arith, small) in
    whole_number bytes rest digits ends fits ∙ ap (λ n. Whole (Lexeme (kinds.Number n) bytes)) (sym is)
lexeme (kinds.Sign sign) bytes rest (is, (longest, comment)) =
    subst (λ p. front_of (p ++ rest) ≡ Whole (Lexeme (kinds.Sign sign) p)) (sym is)
    (front_sign sign rest ∙ mark_is_sign (sign_spelling sign ++ rest) comment ∙ sign_whole sign rest longest)

-- The piece that stands before the rest is the front
pub front_stands : (piece : Piece) (rest : List ℕ) → IsPiece piece rest → front_of (bytes_of piece ++ rest) ≡ Whole piece
front_stands (Separator bytes) rest stands = separator bytes rest stands
front_stands (Lexeme kind bytes) rest stands = lexeme kind bytes rest stands

-- The fault is the front
pub front_faulty : (fault : LexKind) (bytes : List ℕ) (behind : ℕ) → IsAtFault fault bytes behind → front_of bytes ≡ Faulty fault behind
front_faulty BadByte bytes behind (inl (b, rest, is, nothing, at)) = ap front_of is ∙ unknown b rest nothing ∙ ap (Faulty BadByte) (sym at)
front_faulty BadByte bytes behind (inr (digits, b, rest, is, number, small, follows, at)) = ap front_of is ∙ joined digits b rest number small follows ∙ ap (Faulty BadByte) (sym at)
front_faulty LongName bytes behind (word, rest, is, named, ends, over, at) =
    ap front_of is ∙ front_is_word word rest named ∙ word_long (word ++ rest) (length word) (word_len word rest named ends) over ∙ ap (Faulty LongName) (sym at)
front_faulty BigLiteral bytes behind (digits, rest, is, number, ends, over, at) = ap front_of is ∙ big_number digits rest number ends over ∙ ap (Faulty BigLiteral) (sym at)
front_faulty OpenComment bytes behind (inside, is, never, at) = ap front_of is ∙ front_block inside ∙ block_open inside never ∙ ap (Faulty OpenComment) (sym at)
