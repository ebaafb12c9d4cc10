-- Reading the bytes that spell a part goes well where what is asked of it holds.
use Rattle.std.proofs.Common.{◌≡◌, ◌∙◌, ℕ, ◌<◌, Bool, true, false, ltb, List, [], ◌∷◌, ◌++◌, append-nil, append_assoc, length, drop, Result, Ok, refl, sym, ap, subst, arith}
use Rattle.std.specs.Prelude.{⊤}
use Rattle.std.specs.List.{flat_map}
use Rattle.std.proofs.lemmas.Bool.{le-ltb}
use Rattle.std.proofs.lemmas.List.{drop_at, length-append}
use Rattle.std.proofs.lemmas.List.Concat.{flat_map-cons}
use Rattle.psy_snap.specs.declared.fault.ReadError.{ReadError}
use Rattle.psy_snap.specs.Cuts.{Ask, width_of}
use Rattle.psy_snap.specs.Reading.{each_at, field_at, go_on, unless_wrong, where_good}
use Rattle.psy_snap.proofs.Finds.{Both, Rights, as_width, number_of}
use Rattle.psy_snap.proofs.Parts.{field_by}
use Rattle.psy_snap.proofs.Spelled.{Pairs, bytes_as, most_as}

-- This is read of these bytes, where that holds of those behind them.
pub record Goes {A : Type 0} (read : List ℕ → Result (A × List ℕ) ReadError) (front : List ℕ) (a : A) (When : List ℕ → Type 0) : Type 0 where
  pub goes : (rest : List ℕ) → When rest → read (front ++ rest) ≡ Ok (a, rest)

-- ---- one behind another

pub goes_then : {A B : Type 0} {First Second : List ℕ → Type 0} (read : List ℕ → Result (A × List ℕ) ReadError) (next : A → List ℕ → Result (B × List ℕ) ReadError)
    (front more : List ℕ) (a : A) (b : B) → Goes read front a First → Goes (next a) more b Second
    → Goes (λ bytes. go_on (read bytes) next) (front ++ more) b (λ rest. Both (First (more ++ rest)) (Second rest))
goes_then read next front more a b first second = record {
  goes = λ rest when.
      ap (λ bytes. go_on (read bytes) next) (append_assoc front more rest) ∙ ap (λ r. go_on r next) (first.goes (more ++ rest) when.first) ∙ second.goes rest when.second;
}

pub goes_said : {A B : Type 0} {When : List ℕ → Type 0} (read : List ℕ → Result (A × List ℕ) ReadError) (say : A → B) (front : List ℕ) (a : A) → Goes read front a When
    → Goes (λ bytes. go_on (read bytes) (λ x more. Ok (say x, more))) front (say a) When
goes_said read say front a first = record { goes = λ rest when. ap (λ r. go_on r (λ x more. Ok (say x, more))) (first.goes rest when) }

pub goes_none : {A : Type 0} (a : A) → Goes (λ bytes. Ok (a, bytes)) [] a (λ rest. ⊤)
goes_none a = record { goes = λ rest when. refl }

pub goes_where : {A : Type 0} {First Second : List ℕ → Type 0} (read : List ℕ → Result (A × List ℕ) ReadError) (front : List ℕ) (a : A)
    → ((rest : List ℕ) → Second rest → First rest) → Goes read front a First → Goes read front a Second
goes_where read front a stronger first = record { goes = λ rest when. first.goes rest (stronger rest when) }

-- ---- a field

good_goes : (good : Bool) (x : ℕ × List ℕ) (left : ℕ) → good ≡ true → where_good good x left ≡ Ok x
good_goes true x left is = refl
good_goes false x left is = absurd cc

field_goes : (ask : Ask) (n : ℕ) (rest : List ℕ) → n < most_as ask.long → ask.range n ≡ true → field_at ask (bytes_as ask.long n ++ rest) ≡ Ok (n, rest)
unfolding field_at
field_goes ask n rest small passes =
    let bytes = bytes_as ask.long n ++ rest in
    let there : ltb (length bytes) (width_of ask.long) ≡ false = le-ltb _ _ (omega (arith, as_width ask.long n, length-append (bytes_as ask.long n) rest)) in
    ap (λ b. field_by b ask bytes) there
    ∙ ap (λ m. where_good {A = ℕ × List ℕ} (ask.range m) (m, drop (width_of ask.long) bytes) (length bytes)) (number_of ask.long n rest small)
    ∙ ap (λ bs. where_good {A = ℕ × List ℕ} (ask.range n) (n, bs) (length bytes)) (drop_at (bytes_as ask.long n) rest (width_of ask.long) (as_width ask.long n))
    ∙ good_goes (ask.range n) (n, rest) (length bytes) passes

pub goes_field : (ask : Ask) (n : ℕ) → n < most_as ask.long → Goes (field_at ask) (bytes_as ask.long n) n (λ rest. ask.range n ≡ true)
goes_field ask n small = record { goes = λ rest passes. field_goes ask n rest small passes }

-- A number that begins a part
pub goes_unless : (ask : Ask) (wrong : ℕ → List ℕ → Bool) (number n : ℕ) → n < most_as ask.long
    → Goes (λ bytes. go_on (field_at ask bytes) (λ m more. unless_wrong (wrong m bytes) number m more (length bytes))) (bytes_as ask.long n) n
    (λ rest. Both (ask.range n ≡ true) (wrong n (bytes_as ask.long n ++ rest) ≡ false))
goes_unless ask wrong number n small = record {
  goes = λ rest when.
      let bytes = bytes_as ask.long n ++ rest in
      ap (λ r. go_on r (λ m more. unless_wrong (wrong m bytes) number m more (length bytes))) (field_goes ask n rest small when.first)
      ∙ ap (λ b. unless_wrong b number n rest (length bytes)) when.second;
}

-- ---- lists of parts

each_none : {F X : Type 0} (step : F → List X → List ℕ → Result (List X × List ℕ) ReadError) (before : List X) → Goes (each_at step [] before) [] (before ++ []) (λ rest. ⊤)
unfolding each_at
each_none step before = subst (λ xs. Goes (λ bytes. Ok (before, bytes)) [] xs (λ rest. ⊤)) (sym (append-nil before)) (goes_none before)

each_more : {F X : Type 0} {When : List ℕ → Type 0} (step : F → List X → List ℕ → Result (List X × List ℕ) ReadError) (form : F) (forms : List F) (before : List X) (front : List ℕ) (xs : List X)
    → Goes (λ bytes. go_on (step form before bytes) (λ t more. each_at step forms t more)) front xs When → Goes (each_at step (form ∷ forms) before) front xs When
unfolding each_at
each_more step form forms before front xs first = first

pub goes_each : {F X : Type 0} (spell : X → List ℕ) (step : F → List X → List ℕ → Result (List X × List ℕ) ReadError) (Good : F → X → Type 0) (Right : F → List X → X → Type 0)
    → ((form : F) (before : List X) (x : X) → Good form x → Goes (step form before) (spell x) (before ++ x ∷ []) (λ rest. Right form before x))
    → (forms : List F) (before xs : List X) → Pairs Good forms xs → Goes (each_at step forms before) (flat_map spell xs) (before ++ xs) (λ rest. Rights Right forms before xs)
goes_each spell step Good Right one [] before [] good = each_none step before
goes_each spell step Good Right one [] before (x ∷ xs) good = absurd good
goes_each spell step Good Right one (form ∷ forms) before [] good = absurd good
goes_each spell step Good Right one (form ∷ forms) before (x ∷ xs) good =
    let all : Goes (λ bytes. go_on (step form before bytes) (λ t more. each_at step forms t more)) (spell x ++ flat_map spell xs) ((before ++ x ∷ []) ++ xs)
    (λ rest. Both (Right form before x) (Rights Right forms (before ++ x ∷ []) xs)) =
    goes_then (step form before) (λ t more. each_at step forms t more) (spell x) (flat_map spell xs) (before ++ x ∷ []) ((before ++ x ∷ []) ++ xs) (one form before x good.0)
    (goes_each spell step Good Right one forms (before ++ x ∷ []) xs good.1) in
    each_more step form forms before (flat_map spell (x ∷ xs)) (before ++ x ∷ xs)
    (subst (λ bs. Goes (λ bytes. go_on (step form before bytes) (λ t more. each_at step forms t more)) bs (before ++ x ∷ xs) (λ rest. Both (Right form before x) (Rights Right forms (before ++ x ∷ []) xs)))
    (sym (flat_map-cons spell x xs))
    (subst (λ ys. Goes (λ bytes. go_on (step form before bytes) (λ t more. each_at step forms t more)) (spell x ++ flat_map spell xs) ys
    (λ rest. Both (Right form before x) (Rights Right forms (before ++ x ∷ []) xs))) (append_assoc before (x ∷ []) xs) all))

-- Where the parts before don't matter
pub pairs_rights : {F X : Type 0} (Right : F → X → Type 0) (forms : List F) (before xs : List X) → Pairs Right forms xs → Rights (λ form before x. Right form x) forms before xs
pairs_rights Right [] before xs right = tt
pairs_rights Right (form ∷ forms) before [] right = tt
pairs_rights Right (form ∷ forms) before (x ∷ xs) right = record { first = right.0; second = pairs_rights Right forms (before ++ x ∷ []) xs right.1 }
