-- Results: what went well and what didn't.
use Rattle.std.proofs.Common.{◌≡◌, Result, Ok, Err, IfOk}

-- Faults that are the same as errors are the same.
pub err_is : {A E : Type 0} (some other : E) → ◌≡◌ {A = Result A E} (Err some) (Err other) → some ≡ other
err_is some other is = cc

-- What went well didn't fail.
pub ok_err : {A E : Type 0} (r : Result A E) (a : A) (e : E) → r ≡ Ok a → r ≡ Err e → ⊥
ok_err r a e ok err = cc (ok, err)

-- Both hold of a value that is there.
pub if_both : {T E : Type 0} (r : Result T E) (P Q : T → Type 0) → IfOk r P → IfOk r Q → IfOk r (λ y. P y × Q y)
if_both (Ok y) P Q p q = (p, q)
if_both (Err e) P Q p q = tt
