-- A field that is read is the one that is spelled, and what is spelled is read.
use Rattle.std.proofs.Common.{◌≡◌, ℕ, ℤ, suc, ◌+◌, ◌^◌, ◌<◌, ◌≤◌, ◌⊎◌, ◌&&◌, Bool, true, false, not, cond, ltb, List, [], ◌∷◌, ◌++◌, length, take, drop, Result, Ok, Err, refl, sym, ap, subst, ◌∙◌, append_assoc, inl, inr, arith}
use Rattle.std.specs.Prelude.{FitsSigned, nat_le, nat_eq, bytes_eq, is_none, is_some, ⊤}
use Rattle.std.specs.Int.{w32, from_le_bytes, to_le_bytes, cast_signed, cast_unsigned}
use Rattle.std.specs.List.{list_any, starts_with}
use Rattle.std.proofs.Math.Facts.{Fits-lt-pow, Fits-of_lt, Fits-of_z, sfits_to_z}
use Rattle.std.proofs.lemmas.Bool.{cases_lt, ltb-false, le-ltb, leb-true, le-leb}
use Rattle.std.proofs.lemmas.Int.{to_z-of_z, of_z-to_z}
use Rattle.std.proofs.lemmas.List.{take_at, drop_at, take-append-drop, length-append, length-take, get_or-drop, get_or-take, get_or_past}
use Rattle.std.proofs.lemmas.Nat.{le_bytes_4, from_le_bytes-to_le_bytes_4}
use Rattle.std.proofs.lemmas.Bool.Decides.{Decides-eqb}
use Rattle.std.proofs.lemmas.Slice.Eq.{starts_is}
use Rattle.psy_lists.proofs.lemmas.Tests.{both, each_of_both, is_off}
use Rattle.psy_arith.specs.Tables.{row_of}
use Rattle.psy_code.specs.Rows.{rows}
use Rattle.psy_image.specs.Fields.{AreBytes, Field, Number, Signed, Name, Opcode, These, End, Value, Fits, Takes}
use Rattle.psy_image.specs.Names.{is_name, is_word}
use Rattle.psy_token.specs.Reading.{reserved}
use Rattle.psy_image.specs.Reading.{go_on, word_at, where_good, number_at, signed_at, text_at, name_at, opcode_at, these_at, end_at, field_at}

-- ---- bytes

bytes_drop : (n : ℕ) (bytes : List ℕ) → AreBytes bytes → AreBytes (drop n bytes)
bytes_drop n bytes h i = rw get_or-drop (h (n + i))

bytes_take : (n : ℕ) (bytes : List ℕ) → AreBytes bytes → AreBytes (take n bytes)
bytes_take n bytes h i =
    elim (cases_lt i n) [
      | inl lt ↦ rw (get_or-take n bytes i 0 lt) (h i)
      | inr le ↦ rw (get_or_past (take n bytes) i 0 (omega (arith, length-take n bytes))) (omega arith)
    ]

bytes_rest : (b : ℕ) (bytes : List ℕ) → AreBytes (b ∷ bytes) → AreBytes bytes
bytes_rest b bytes h i = h (suc i)

-- ---- steps that went well, and steps that didn't

pub go_on_ok : {A B : Type 0} (r : Result (A × List ℕ) ℕ) (next : A → List ℕ → Result (B × List ℕ) ℕ) (y : B × List ℕ) → go_on r next ≡ Ok y
    → (x : A × List ℕ) × (r ≡ Ok x) × (next x.0 x.1 ≡ Ok y)
go_on_ok (Ok x) next y e = (x, refl, e)
go_on_ok (Err left) next y e = absurd cc

pub go_on_err : {A B : Type 0} (r : Result (A × List ℕ) ℕ) (next : A → List ℕ → Result (B × List ℕ) ℕ) (left : ℕ) → go_on r next ≡ Err left
    → (r ≡ Err left) ⊎ ((x : A × List ℕ) × (r ≡ Ok x) × (next x.0 x.1 ≡ Err left))
go_on_err (Ok x) next left e = inr (x, refl, e)
go_on_err (Err other) next left e = let same : other ≡ left = cc in inl (ap Err same)

abbrev done : {A : Type 0} → A → Result A ℕ
done x = Ok x

pub ok_is : {A : Type 0} (x y : A) → done x ≡ done y → x ≡ y
ok_is x y e = cc

good_ok : {A : Type 0} (b : Bool) (x y : A) (left : ℕ) → where_good b x left ≡ Ok y → (b ≡ true) × (x ≡ y)
good_ok true x y left e = (refl, cc)
good_ok false x y left e = absurd cc

good_err : {A : Type 0} (b : Bool) (x : A) (left other : ℕ) → where_good b x left ≡ Err other → other ≡ left
good_err true x left other e = absurd cc
good_err false x left other e = cc

-- ---- four bytes

word_ok : (bytes : List ℕ) (n : ℕ) (rest : List ℕ) → AreBytes bytes → word_at bytes ≡ Ok (n, rest)
    → (bytes ≡ to_le_bytes w32 n ++ rest) × (n < 2 ^ 32) × AreBytes rest
word_ok bytes n rest fits e =
    let g = short_ok (ltb (length bytes) 4) (length bytes) (from_le_bytes w32 (take 4 bytes), drop 4 bytes) (n, rest) e in
    let long : 4 ≤ length bytes = ltb-false _ _ g.0 in
    let n-is : from_le_bytes w32 (take 4 bytes) ≡ n = ap (λ (p : ℕ × List ℕ). p.0) g.1 in
    let rest-is : drop 4 bytes ≡ rest = ap (λ (p : ℕ × List ℕ). p.1) g.1 in
    let front : to_le_bytes w32 n ≡ take 4 bytes = le_bytes_4 (take 4 bytes) n (omega (arith, length-take 4 bytes)) (bytes_take 4 bytes fits) (sym n-is) in
    let below : from_le_bytes w32 (take 4 bytes) < 2 ^ 32 = small (take 4 bytes) (bytes_take 4 bytes fits) in
    (sym (take-append-drop 4 bytes) ∙ ap (λ xs. xs ++ drop 4 bytes) (sym front) ∙ ap (λ xs. to_le_bytes w32 n ++ xs) rest-is, rw (← n-is) below, rw (← rest-is) (bytes_drop 4 bytes fits))
  where
    short_ok : (b : Bool) (left : ℕ) (x y : ℕ × List ℕ) → cond b (Err left) (Ok x) ≡ Ok y → (b ≡ false) × (x ≡ y)
    short_ok true left x y e = absurd cc
    short_ok false left x y e = (refl, cc)

    small : (xs : List ℕ) → AreBytes xs → from_le_bytes w32 xs < 2 ^ 32
    small xs fits = omega (arith, fits 0, fits 1, fits 2, fits 3)

word_err : (bytes : List ℕ) (left : ℕ) → word_at bytes ≡ Err left → left ≡ length bytes
word_err bytes left e = by (ltb (length bytes) 4) e
  where
    by : (b : Bool) → cond {A = Result (ℕ × List ℕ) ℕ} b (Err (length bytes)) (Ok (from_le_bytes w32 (take 4 bytes), drop 4 bytes)) ≡ Err left → left ≡ length bytes
    by true e = cc
    by false e = absurd cc

word_again : (n : ℕ) (rest : List ℕ) → n < 2 ^ 32 → word_at (to_le_bytes w32 n ++ rest) ≡ Ok (n, rest)
word_again n rest lt = four (to_le_bytes w32 n) refl (from_le_bytes-to_le_bytes_4 n lt)
  where
    four : (xs : List ℕ) → length xs ≡ 4 → from_le_bytes w32 xs ≡ n → word_at (xs ++ rest) ≡ Ok (n, rest)
    four xs len is =
        let long : ltb (length (xs ++ rest)) 4 ≡ false = le-ltb _ _ (omega (arith, length-append xs rest, len)) in
        rw (long, take_at xs rest 4 len, drop_at xs rest 4 len, is) refl

-- ---- numbers

number_ok : (least most : ℕ) (bytes : List ℕ) (n : ℕ) (rest : List ℕ) → AreBytes bytes → number_at least most bytes ≡ Ok (n, rest)
    → (bytes ≡ to_le_bytes w32 n ++ rest) × Fits (Number least most) n × AreBytes rest
unfolding number_at
number_ok least most bytes n rest fits e =
    let (x, at, good) = go_on_ok (word_at bytes) (λ n rest. where_good (nat_le least n && nat_le n most) (n, rest) (length bytes)) (n, rest) e in
    let (test, is) = good_ok (nat_le least x.0 && nat_le x.0 most) (x.0, x.1) (n, rest) (length bytes) good in
    let (low, high) = each_of_both _ _ test in
    let (whole, small, more) = word_ok bytes x.0 x.1 fits at in
    subst (λ (p : ℕ × List ℕ). (bytes ≡ to_le_bytes w32 p.0 ++ p.1) × Fits (Number least most) p.0 × AreBytes p.1) is
    (whole, (leb-true _ _ low, leb-true _ _ high, small), more)

number_err : (least most : ℕ) (bytes : List ℕ) (left : ℕ) → number_at least most bytes ≡ Err left → left ≡ length bytes
unfolding number_at
number_err least most bytes left e =
    elim (go_on_err (word_at bytes) (λ n rest. where_good (nat_le least n && nat_le n most) (n, rest) (length bytes)) left e) [
      | inl cut ↦ word_err bytes left cut
      | inr bad ↦ good_err (nat_le least bad.0.0 && nat_le bad.0.0 most) (bad.0.0, bad.0.1) (length bytes) left bad.2
    ]

number_again : (least most n : ℕ) (rest : List ℕ) → Fits (Number least most) n → number_at least most (to_le_bytes w32 n ++ rest) ≡ Ok (n, rest)
unfolding number_at
number_again least most n rest (low, high, small) =
    ap (λ r. go_on r (λ n more. where_good (nat_le least n && nat_le n most) (n, more) (length (to_le_bytes w32 n ++ rest)))) (word_again n rest small)
    ∙ ap (λ b. where_good b (n, rest) (length (to_le_bytes w32 n ++ rest))) (both (nat_le least n) (nat_le n most) (le-leb least n low) (le-leb n most high))

-- ---- numbers with a sign

signed_ok : (bytes : List ℕ) (z : ℤ) (rest : List ℕ) → AreBytes bytes → signed_at bytes ≡ Ok (z, rest)
    → (bytes ≡ to_le_bytes w32 (cast_unsigned w32 z) ++ rest) × FitsSigned w32 z × AreBytes rest
signed_ok bytes z rest fits e =
    let (x, at, is) = go_on_ok (word_at bytes) (λ n rest. Ok (cast_signed w32 n, rest)) (z, rest) e in
    let (whole, small, more) = word_ok bytes x.0 x.1 fits at in
    let back : cast_unsigned w32 (cast_signed w32 x.0) ≡ x.0 = of_z-to_z w32 x.0 small in
    subst (λ (p : ℤ × List ℕ). (bytes ≡ to_le_bytes w32 (cast_unsigned w32 p.0) ++ p.1) × FitsSigned w32 p.0 × AreBytes p.1) (ok_is (cast_signed w32 x.0, x.1) (z, rest) is)
    (whole ∙ ap (λ n. to_le_bytes w32 n ++ x.1) (sym back), sfits_to_z (Fits-of_lt {w = w32} {n = x.0} small), more)

signed_err : (bytes : List ℕ) (left : ℕ) → signed_at bytes ≡ Err left → left ≡ length bytes
signed_err bytes left e =
    elim (go_on_err (word_at bytes) (λ n rest. Ok (cast_signed w32 n, rest)) left e) [
      | inl cut ↦ word_err bytes left cut
      | inr bad ↦ absurd (let no = bad.2 in cc)
    ]

signed_again : (z : ℤ) (rest : List ℕ) → FitsSigned w32 z → signed_at (to_le_bytes w32 (cast_unsigned w32 z) ++ rest) ≡ Ok (z, rest)
signed_again z rest fits =
    ap (λ r. go_on r (λ n more. Ok (cast_signed w32 n, more))) (word_again (cast_unsigned w32 z) rest (Fits-lt-pow (Fits-of_z fits)))
    ∙ ap (λ y. Ok (y, rest)) (to_z-of_z w32 z fits)

-- ---- names

text_ok : (left len : ℕ) (bytes text rest : List ℕ) → AreBytes bytes → text_at left len bytes ≡ Ok (text, rest) → (bytes ≡ text ++ rest) × (length text ≡ len) × AreBytes rest
text_ok left len bytes text rest fits e =
    let (b, is) = short_ok (ltb (length bytes) len) (take len bytes, drop len bytes) (text, rest) e in
    let long : len ≤ length bytes = ltb-false _ _ b in
    subst (λ (p : List ℕ × List ℕ). (bytes ≡ p.0 ++ p.1) × (length p.0 ≡ len) × AreBytes p.1) is
    (sym (take-append-drop len bytes), omega (arith, length-take len bytes, long), bytes_drop len bytes fits)
  where
    short_ok : (b : Bool) (x y : List ℕ × List ℕ) → cond b (Err left) (Ok x) ≡ Ok y → (b ≡ false) × (x ≡ y)
    short_ok true x y e = absurd cc
    short_ok false x y e = (refl, cc)

text_err : (at len : ℕ) (bytes : List ℕ) (left : ℕ) → text_at at len bytes ≡ Err left → left ≡ at
text_err at len bytes left e = by (ltb (length bytes) len) e
  where
    by : (b : Bool) → cond {A = Result (List ℕ × List ℕ) ℕ} b (Err at) (Ok (take len bytes, drop len bytes)) ≡ Err left → left ≡ at
    by true e = cc
    by false e = absurd cc

text_again : (left : ℕ) (text rest : List ℕ) → text_at left (length text) (text ++ rest) ≡ Ok (text, rest)
text_again left text rest =
    let long : ltb (length (text ++ rest)) (length text) ≡ false = le-ltb _ _ (omega (arith, length-append text rest)) in
    rw (long, take_at text rest (length text) refl, drop_at text rest (length text) refl) refl

abbrev name_test : List (List ℕ) → List ℕ → Bool
name_test earlier name = is_name name && not (list_any (bytes_eq name) earlier)

name_ok : (earlier : List (List ℕ)) (bytes name rest : List ℕ) → AreBytes bytes → name_at earlier bytes ≡ Ok (name, rest)
    → (bytes ≡ (to_le_bytes w32 (length name) ++ name) ++ rest) × Fits (Name earlier) name × AreBytes rest
unfolding name_at
name_ok earlier bytes name rest fits e =
    let (x, at, e1) = go_on_ok (word_at bytes) (λ len more. go_on (text_at (length bytes) len more) (λ name after. where_good (name_test earlier name) (name, after) (length bytes))) (name, rest) e in
    let (y, text, e2) = go_on_ok (text_at (length bytes) x.0 x.1) (λ name after. where_good (name_test earlier name) (name, after) (length bytes)) (name, rest) e1 in
    let (test, is) = good_ok (name_test earlier y.0) (y.0, y.1) (name, rest) (length bytes) e2 in
    let (good, other) = each_of_both _ _ test in
    let (whole, small, fits1) = word_ok bytes x.0 x.1 fits at in
    let (parts, len, fits2) = text_ok (length bytes) x.0 x.1 y.0 y.1 fits1 text in
    let all : bytes ≡ (to_le_bytes w32 (length y.0) ++ y.0) ++ y.1 = whole ∙ regroup x.0 (length y.0) x.1 y.0 y.1 (sym len) parts in
    subst (λ (p : List ℕ × List ℕ). (bytes ≡ (to_le_bytes w32 (length p.0) ++ p.0) ++ p.1) × Fits (Name earlier) p.0 × AreBytes p.1) is
    (all, (good, is_off _ other), fits2)
  where
    regroup : (n m : ℕ) (a b c : List ℕ) → n ≡ m → a ≡ b ++ c → to_le_bytes w32 n ++ a ≡ (to_le_bytes w32 m ++ b) ++ c
    regroup n m a b c same is = ap (λ k. to_le_bytes w32 k ++ a) same ∙ ap (λ xs. to_le_bytes w32 m ++ xs) is ∙ sym (append_assoc (to_le_bytes w32 m) b c)

name_err : (earlier : List (List ℕ)) (bytes : List ℕ) (left : ℕ) → name_at earlier bytes ≡ Err left → left ≡ length bytes
unfolding name_at
name_err earlier bytes left e =
    elim (go_on_err (word_at bytes) (λ len more. go_on (text_at (length bytes) len more) (λ name after. where_good (name_test earlier name) (name, after) (length bytes))) left e) [
      | inl cut ↦ word_err bytes left cut
      | inr x ↦ elim (go_on_err (text_at (length bytes) x.0.0 x.0.1) (λ name after. where_good (name_test earlier name) (name, after) (length bytes)) left x.2) [
        | inl cut ↦ text_err (length bytes) x.0.0 x.0.1 left cut
        | inr y ↦ good_err (name_test earlier y.0.0) (y.0.0, y.0.1) (length bytes) left y.2
      ]
    ]

name_again : (earlier : List (List ℕ)) (name rest : List ℕ) → length name < 2 ^ 32 → Fits (Name earlier) name
    → name_at earlier ((to_le_bytes w32 (length name) ++ name) ++ rest) ≡ Ok (name, rest)
unfolding name_at
name_again earlier name rest small (good, other) =
    ap (name_at earlier) (append_assoc (to_le_bytes w32 (length name)) name rest) ∙ apart (to_le_bytes w32 (length name) ++ (name ++ rest)) (word_again (length name) (name ++ rest) small)
  where
    apart : (all : List ℕ) → word_at all ≡ Ok (length name, name ++ rest) → name_at earlier all ≡ Ok (name, rest)
    apart all is =
        ap (λ r. go_on r (λ len more. go_on (text_at (length all) len more) (λ name after. where_good (name_test earlier name) (name, after) (length all)))) is
        ∙ ap (λ r. go_on r (λ name after. where_good (name_test earlier name) (name, after) (length all))) (text_again (length all) name rest)
        ∙ ap (λ b. where_good b (name, rest) (length all)) (both (is_name name) (not (list_any (bytes_eq name) earlier)) good (ap not other))

-- ---- all fields

these_ok : (expected bytes : List ℕ) (v : ⊤) (rest : List ℕ) → AreBytes bytes → these_at expected bytes ≡ Ok (v, rest) → (bytes ≡ expected ++ rest) × AreBytes rest
these_ok expected bytes v rest fits e =
    let (test, is) = good_ok (starts_with nat_eq bytes expected) (tt, drop (length expected) bytes) (v, rest) (length bytes) e in
    let whole : bytes ≡ expected ++ drop (length expected) bytes = (starts_is Decides-eqb bytes expected (starts_with nat_eq bytes expected) refl).0 test in
    let same : drop (length expected) bytes ≡ rest = ap (λ (p : ⊤ × List ℕ). p.1) is in
    (whole ∙ ap (λ xs. expected ++ xs) same, subst AreBytes same (bytes_drop (length expected) bytes fits))

these_again : (expected rest : List ℕ) → these_at expected (expected ++ rest) ≡ Ok (tt, rest)
these_again expected rest =
    ap (λ b. where_good b (tt, drop (length expected) (expected ++ rest)) (length (expected ++ rest)))
    ((starts_is Decides-eqb (expected ++ rest) expected (starts_with nat_eq (expected ++ rest) expected) refl).1 rest refl)
    ∙ ap (λ xs. Ok (tt, xs)) (drop_at expected rest (length expected) refl)

-- A name has few bytes.
name_small : (name : List ℕ) → is_name name ≡ true → length name < 2 ^ 32
name_small name good =
    let few : length name ≤ 32 = leb-true _ _ (each_of_both (nat_le (length name) 32) (is_word name && is_none (reserved name)) good).0 in
    omega (arith, few)

pub field_ok : (f : Field) (bytes : List ℕ) (v : Value f) (rest : List ℕ) → AreBytes bytes → field_at f bytes ≡ Ok (v, rest) → Takes f v bytes rest × AreBytes rest
field_ok (Number least most) bytes v rest fits e = let (whole, good, more) = number_ok least most bytes v rest fits e in ((whole, good), more)
field_ok Signed bytes v rest fits e = let (whole, good, more) = signed_ok bytes v rest fits e in ((whole, good), more)
field_ok (Name earlier) bytes v rest fits e = let (whole, good, more) = name_ok earlier bytes v rest fits e in ((whole, good), more)
field_ok Opcode [] v rest fits e = absurd cc
field_ok Opcode (b ∷ bytes) v rest fits e =
    let (test, is) = good_ok (is_some (row_of b rows)) (b, bytes) (v, rest) (length (b ∷ bytes)) e in
    subst (λ (p : ℕ × List ℕ). Takes Opcode p.0 (b ∷ bytes) p.1 × AreBytes p.1) is ((refl, test), bytes_rest b bytes fits)
field_ok (These expected) bytes v rest fits e = let (whole, more) = these_ok expected bytes v rest fits e in ((whole, tt), more)
field_ok End [] v rest fits e = let same : [] ≡ rest = ap (λ (p : ⊤ × List ℕ). p.1) (ok_is (tt, []) (v, rest) e) in ((refl, sym same), subst AreBytes same fits)
field_ok End (b ∷ bytes) v rest fits e = absurd cc

pub field_err : (f : Field) (bytes : List ℕ) (left : ℕ) → field_at f bytes ≡ Err left → left ≡ length bytes
field_err (Number least most) bytes left e = number_err least most bytes left e
field_err Signed bytes left e = signed_err bytes left e
field_err (Name earlier) bytes left e = name_err earlier bytes left e
field_err Opcode [] left e = cc
field_err Opcode (b ∷ bytes) left e = good_err (is_some (row_of b rows)) (b, bytes) (length (b ∷ bytes)) left e
field_err (These expected) bytes left e = good_err (starts_with nat_eq bytes expected) (tt, drop (length expected) bytes) (length bytes) left e
field_err End [] left e = absurd cc
field_err End (b ∷ bytes) left e = cc

-- What is spelled is read.
pub field_again : (f : Field) (v : Value f) (bytes rest : List ℕ) → Takes f v bytes rest → field_at f bytes ≡ Ok (v, rest)
field_again (Number least most) v bytes rest (whole, good) = ap (number_at least most) whole ∙ number_again least most v rest good
field_again Signed v bytes rest (whole, good) = ap signed_at whole ∙ signed_again v rest good
field_again (Name earlier) v bytes rest (whole, good) = ap (name_at earlier) whole ∙ name_again earlier v rest (name_small v good.0) good
field_again Opcode v bytes rest (whole, good) = ap opcode_at whole ∙ ap (λ b. where_good b (v, rest) (length (v ∷ rest))) good
field_again (These expected) v bytes rest (whole, good) = ap (these_at expected) whole ∙ these_again expected rest
field_again End v bytes rest (nothing, none) = ap end_at nothing ∙ ap (λ xs. Ok (tt, xs)) (sym none)
