-- Reading steps that went well, and steps in another grouping.
use Rattle.std.proofs.Common.{◌≡◌, ℕ, List, Result, Ok, Err, refl, ap}
use Rattle.psy_snap.specs.declared.fault.ReadError.{ReadError}
use Rattle.psy_snap.specs.Reading.{go_on}

abbrev done : {A : Type 0} → A → Result A ReadError
done x = Ok x

pub ok_is : {A : Type 0} (x y : A) → done x ≡ done y → x ≡ y
ok_is x y e = cc

pub go_on_ok : {A B : Type 0} (r : Result (A × List ℕ) ReadError) (next : A → List ℕ → Result (B × List ℕ) ReadError) (b : B) (rest : List ℕ) → go_on r next ≡ Ok (b, rest)
    → (a : A) × (mid : List ℕ) × (r ≡ Ok (a, mid)) × (next a mid ≡ Ok (b, rest))
go_on_ok (Ok x) next b rest e = (x.0, x.1, refl, e)
go_on_ok (Err error) next b rest e = absurd cc

-- What is said of a part that was read
pub said_ok : {A B : Type 0} (r : Result (A × List ℕ) ReadError) (say : A → B) (b : B) (rest : List ℕ) → go_on r (λ a more. Ok (say a, more)) ≡ Ok (b, rest)
    → (a : A) × (r ≡ Ok (a, rest)) × (say a ≡ b)
said_ok (Ok x) say b rest e =
    let same = ok_is (say x.0, x.1) (b, rest) e in
    (x.0, ap (λ more. Ok (x.0, more)) (ap (λ p. p.1) same), ap (λ p. p.0) same)
said_ok (Err error) say b rest e = absurd cc

pub go_on_same : {A B : Type 0} (r : Result (A × List ℕ) ReadError) (f g : A → List ℕ → Result (B × List ℕ) ReadError) → ((a : A) (rest : List ℕ) → f a rest ≡ g a rest)
    → go_on r f ≡ go_on r g
go_on_same (Ok x) f g same = same x.0 x.1
go_on_same (Err error) f g same = refl

pub go_on_then : {A B C : Type 0} (r : Result (A × List ℕ) ReadError) (f : A → List ℕ → Result (B × List ℕ) ReadError) (g : B → List ℕ → Result (C × List ℕ) ReadError)
    → go_on (go_on r f) g ≡ go_on r (λ a rest. go_on (f a rest) g)
go_on_then (Ok x) f g = refl
go_on_then (Err error) f g = refl
