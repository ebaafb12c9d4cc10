-- Reading the bytes that spell a part gives that part, where reading goes well, and what is asked of it holds.
use Rattle.std.proofs.Common.{◌≡◌, ◌∙◌, ℕ, ◌+◌, ◌^◌, ◌<◌, Bool, true, false, cond, ltb, List, [], ◌∷◌, ◌++◌, append-nil, append_assoc, length, drop, Some, None, Result, Ok, refl, sym, ap, subst, arith}
use Rattle.std.specs.Prelude.{⊤}
use Rattle.std.specs.List.{flat_map}
use Rattle.std.proofs.lemmas.Bool.{le-ltb}
use Rattle.std.proofs.lemmas.List.{drop_at, length-append, take_at}
use Rattle.std.proofs.lemmas.List.Concat.{flat_map-cons}
use Rattle.std.proofs.lemmas.Nat.{from_le_bytes-to_le_bytes_4, from_le_bytes-to_le_bytes_8}
use Rattle.std.specs.Int.{w32, w64, from_le_bytes}
use Rattle.psy_snap.specs.declared.fault.ReadError.{ReadError}
use Rattle.psy_snap.specs.Bytes.{long_bytes, number_bytes}
use Rattle.psy_snap.specs.Cuts.{Ask, number_in, width_of}
use Rattle.psy_snap.specs.Reading.{each_at, field_at, found_at, go_on}
use Rattle.psy_snap.proofs.Parts.{field_by}
use Rattle.psy_snap.proofs.Spelled.{Pairs, bytes_as, most_as}
use Rattle.psy_snap.proofs.Steps.{go_on_ok, ok_is, said_ok}
use Rattle.psy_snap.proofs.Wholes.{behind_field, good_true, in_range}

-- What was read, and what is behind it, are these, and this holds.
pub record IsFound {A : Type 0} (a x : A) (rest last : List ℕ) (Holds : Type 0) : Type 0 where
  pub is : x ≡ a
  pub behind : last ≡ rest
  pub holds : Holds

pub record Finds {A : Type 0} (read : List ℕ → Result (A × List ℕ) ReadError) (front : List ℕ) (a : A) (Holds : List ℕ → Type 0) : Type 0 where
  pub found : (rest : List ℕ) (x : A) (last : List ℕ) → read (front ++ rest) ≡ Ok (x, last) → IsFound a x rest last (Holds rest)

-- Two things hold.
pub record Both (First Second : Type 0) : Type 0 where
  pub first : First
  pub second : Second

-- ---- one behind another

pub finds_then : {A B : Type 0} {First Second : List ℕ → Type 0} (read : List ℕ → Result (A × List ℕ) ReadError) (next : A → List ℕ → Result (B × List ℕ) ReadError)
    (front more : List ℕ) (a : A) (b : B) → Finds read front a First → Finds (next a) more b Second
    → Finds (λ bytes. go_on (read bytes) next) (front ++ more) b (λ rest. Both (First (more ++ rest)) (Second rest))
finds_then read next front more a b first second = record {
  found = λ rest x last e.
      let (y, mid, e1, e2) = go_on_ok (read ((front ++ more) ++ rest)) next x last e in
      let it = first.found (more ++ rest) y mid (ap read (sym (append_assoc front more rest)) ∙ e1) in
      let on = second.found rest x last (ap (λ bs. next a bs) (sym it.behind) ∙ ap (λ z. next z mid) (sym it.is) ∙ e2) in
      record { is = on.is; behind = on.behind; holds = record { first = it.holds; second = on.holds } };
}

pub finds_said : {A B : Type 0} {Holds : List ℕ → Type 0} (read : List ℕ → Result (A × List ℕ) ReadError) (say : A → B) (front : List ℕ) (a : A) → Finds read front a Holds
    → Finds (λ bytes. go_on (read bytes) (λ x more. Ok (say x, more))) front (say a) Holds
finds_said read say front a first = record {
  found = λ rest x last e.
      let (y, e1, said) = said_ok (read (front ++ rest)) say x last e in
      let it = first.found rest y last e1 in
      record { is = sym said ∙ ap say it.is; behind = it.behind; holds = it.holds };
}

pub finds_none : {A : Type 0} (a : A) → Finds (λ bytes. Ok (a, bytes)) [] a (λ rest. ⊤)
finds_none a = record {
  found = λ rest x last e.
      let same = ok_is (a, rest) (x, last) e in
      record { is = sym (ap (λ p. p.0) same); behind = sym (ap (λ p. p.1) same); holds = tt };
}

pub finds_weaker : {A : Type 0} {First Second : List ℕ → Type 0} (read : List ℕ → Result (A × List ℕ) ReadError) (front : List ℕ) (a : A)
    → ((rest : List ℕ) → First rest → Second rest) → Finds read front a First → Finds read front a Second
finds_weaker read front a weaker first = record {
  found = λ rest x last e.
      let it = first.found rest x last e in
      record { is = it.is; behind = it.behind; holds = weaker rest it.holds };
}

-- ---- a field

eight : (n : ℕ) → length (long_bytes n) ≡ 8
unfolding long_bytes
eight n = refl

four : (n : ℕ) → length (number_bytes n) ≡ 4
unfolding number_bytes
four n = refl

read_long : (n : ℕ) → n < 2 ^ 64 → from_le_bytes w64 (long_bytes n) ≡ n
unfolding long_bytes
read_long n small = from_le_bytes-to_le_bytes_8 n small

read_number : (n : ℕ) → n < 2 ^ 32 → from_le_bytes w32 (number_bytes n) ≡ n
unfolding number_bytes
read_number n small = from_le_bytes-to_le_bytes_4 n small

pub as_width : (long : Bool) (n : ℕ) → length (bytes_as long n) ≡ width_of long
as_width true n = eight n
as_width false n = four n

pub number_of : (long : Bool) (n : ℕ) (rest : List ℕ) → n < most_as long → number_in long (bytes_as long n ++ rest) ≡ n
number_of true n rest small = ap (from_le_bytes w64) (take_at (long_bytes n) rest 8 (eight n)) ∙ read_long n small
number_of false n rest small = ap (from_le_bytes w32) (take_at (number_bytes n) rest 4 (four n)) ∙ read_number n small

-- The number that is read is that which the bytes begin with.
number_by : (short : Bool) (ask : Ask) (bytes : List ℕ) (n : ℕ) (rest : List ℕ) → field_by short ask bytes ≡ Ok (n, rest) → n ≡ number_in ask.long bytes
number_by true ask bytes n rest e = absurd cc
number_by false ask bytes n rest e =
    let (good, is) = good_true (ask.range (number_in ask.long bytes)) _ _ (length bytes) e in
    sym (ap (λ (p : ℕ × List ℕ). p.0) is)

number_is : (ask : Ask) (bytes : List ℕ) (n : ℕ) (rest : List ℕ) → field_at ask bytes ≡ Ok (n, rest) → n ≡ number_in ask.long bytes
unfolding field_at
number_is ask bytes n rest e = number_by (ltb (length bytes) (width_of ask.long)) ask bytes n rest e

pub finds_field : (ask : Ask) (n : ℕ) → n < most_as ask.long → Finds (field_at ask) (bytes_as ask.long n) n (λ rest. ask.range n ≡ true)
finds_field ask n small = record {
  found = λ rest x last e.
      let is : x ≡ n = number_is ask (bytes_as ask.long n ++ rest) x last e ∙ number_of ask.long n rest small in
      record {
        is = is;
        behind = (behind_field ask (bytes_as ask.long n ++ rest) x last e).0 ∙ drop_at (bytes_as ask.long n) rest (width_of ask.long) (as_width ask.long n);
        holds = ap ask.range (sym is) ∙ in_range ask (bytes_as ask.long n ++ rest) x last e;
      };
}

-- A number that stands behind so many bytes
pub found_behind : (long : Bool) (front : List ℕ) (n : ℕ) (rest : List ℕ) (place : ℕ) → length front ≡ place → n < most_as long
    → found_at long place (front ++ (bytes_as long n ++ rest)) ≡ Some n
found_behind long front n rest place is small =
    let there : ltb (length (front ++ (bytes_as long n ++ rest))) (place + width_of long) ≡ false =
    le-ltb _ _ (omega (arith, is, as_width long n, length-append front (bytes_as long n ++ rest), length-append (bytes_as long n) rest)) in
    ap (λ b. cond b None (Some (number_in long (drop place (front ++ (bytes_as long n ++ rest)))))) there
    ∙ ap (λ bs. Some (number_in long bs)) (drop_at front (bytes_as long n ++ rest) place is) ∙ ap Some (number_of long n rest small)

-- ---- lists of parts

-- This holds of each part of a list, by its form and the parts before it.
abbrev pub Rights : {F X : Type 0} → (F → List X → X → Type 0) → List F → List X → List X → Type 0
Rights Right [] before xs = ⊤
Rights Right (form ∷ forms) before [] = ⊤
Rights Right (form ∷ forms) before (x ∷ xs) = Both (Right form before x) (Rights Right forms (before ++ x ∷ []) xs)

each_none : {F X : Type 0} (step : F → List X → List ℕ → Result (List X × List ℕ) ReadError) (before : List X) → Finds (each_at step [] before) [] (before ++ []) (λ rest. ⊤)
unfolding each_at
each_none step before = subst (λ xs. Finds (λ bytes. Ok (before, bytes)) [] xs (λ rest. ⊤)) (sym (append-nil before)) (finds_none before)

each_more : {F X : Type 0} {Holds : List ℕ → Type 0} (step : F → List X → List ℕ → Result (List X × List ℕ) ReadError) (form : F) (forms : List F) (before : List X) (front : List ℕ) (xs : List X)
    → Finds (λ bytes. go_on (step form before bytes) (λ t more. each_at step forms t more)) front xs Holds → Finds (each_at step (form ∷ forms) before) front xs Holds
unfolding each_at
each_more step form forms before front xs first = first

pub finds_each : {F X : Type 0} (spell : X → List ℕ) (step : F → List X → List ℕ → Result (List X × List ℕ) ReadError) (Good : F → X → Type 0) (Right : F → List X → X → Type 0)
    → ((form : F) (before : List X) (x : X) → Good form x → Finds (step form before) (spell x) (before ++ x ∷ []) (λ rest. Right form before x))
    → (forms : List F) (before xs : List X) → Pairs Good forms xs → Finds (each_at step forms before) (flat_map spell xs) (before ++ xs) (λ rest. Rights Right forms before xs)
finds_each spell step Good Right one [] before [] good = each_none step before
finds_each spell step Good Right one [] before (x ∷ xs) good = absurd good
finds_each spell step Good Right one (form ∷ forms) before [] good = absurd good
finds_each spell step Good Right one (form ∷ forms) before (x ∷ xs) good =
    let all : Finds (λ bytes. go_on (step form before bytes) (λ t more. each_at step forms t more)) (spell x ++ flat_map spell xs) ((before ++ x ∷ []) ++ xs)
    (λ rest. Both (Right form before x) (Rights Right forms (before ++ x ∷ []) xs)) =
    finds_then (step form before) (λ t more. each_at step forms t more) (spell x) (flat_map spell xs) (before ++ x ∷ []) ((before ++ x ∷ []) ++ xs) (one form before x good.0)
    (finds_each spell step Good Right one forms (before ++ x ∷ []) xs good.1) in
    each_more step form forms before (flat_map spell (x ∷ xs)) (before ++ x ∷ xs)
    (subst (λ bs. Finds (λ bytes. go_on (step form before bytes) (λ t more. each_at step forms t more)) bs (before ++ x ∷ xs) (λ rest. Both (Right form before x) (Rights Right forms (before ++ x ∷ []) xs)))
    (sym (flat_map-cons spell x xs))
    (subst (λ ys. Finds (λ bytes. go_on (step form before bytes) (λ t more. each_at step forms t more)) (spell x ++ flat_map spell xs) ys
    (λ rest. Both (Right form before x) (Rights Right forms (before ++ x ∷ []) xs))) (append_assoc before (x ∷ []) xs) all))

-- Where the parts before don't matter
pub rights_pairs : {F X : Type 0} (Right : F → X → Type 0) (forms : List F) (before xs : List X) → length xs ≡ length forms → Rights (λ form before x. Right form x) forms before xs → Pairs Right forms xs
rights_pairs Right [] before [] same right = tt
rights_pairs Right [] before (x ∷ xs) same right = absurd (omega (arith, same))
rights_pairs Right (form ∷ forms) before [] same right = absurd (omega (arith, same))
rights_pairs Right (form ∷ forms) before (x ∷ xs) same right = (right.first, rights_pairs Right forms (before ++ x ∷ []) xs (omega (arith, same)) right.second)
