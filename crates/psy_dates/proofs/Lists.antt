-- Items of lists by number.
use Rattle.std.proofs.Common.{◌≡◌, ℕ, zero, suc, ◌+◌, ◌<◌, ◌≤◌, List, ◌++◌, None, length, get_or, refl, ap, subst, ◌∙◌, arith}
use Rattle.std.specs.List.{flat_map, range_with_len, slice_get}
use Rattle.std.specs.Option.{unwrap_or}
use Rattle.std.proofs.lemmas.List.{get_or_default}
use Rattle.std.proofs.lemmas.Option.{unwrap_or-slice_get}

pub get_or_none : {X : Type 0} (xs : List X) (i : ℕ) (d : X) → None ≡ slice_get xs i → d ≡ get_or xs i d
get_or_none xs i d e = ap (λ o. unwrap_or o d) e ∙ unwrap_or-slice_get xs i d

-- What an item holds, where it doesn't hold so many
pub part_none : {X Y : Type 0} (parts : X → List Y) (xs ys : List X) (i k : ℕ) (x d : X) (e : Y) → ys ≡ xs → i < length xs → None ≡ slice_get (parts (get_or ys i x)) k → e ≡ get_or (parts (get_or xs i d)) k e
part_none parts xs ys i k x d e same l none =
    let is : get_or ys i x ≡ get_or xs i d = ap (λ zs. get_or zs i x) same ∙ get_or_default xs i x d l in
    subst (λ z. e ≡ get_or (parts z) k e) is (get_or_none (parts (get_or ys i x)) k e none)

-- Lists by number, one behind the other, that are the same for each number below a limit
pub same_joined : {X : Type 0} (f g : ℕ → List X) (limit : ℕ) → ((k : ℕ) → k < limit → f k ≡ g k) → (from n : ℕ) → from + n ≤ limit → flat_map f (range_with_len from n) ≡ flat_map g (range_with_len from n)
same_joined f g limit same from zero within = refl
same_joined f g limit same from (suc n) within =
    ap (λ xs. xs ++ flat_map f (range_with_len (from + 1) n)) (same from (omega (arith, within)))
    ∙ ap (λ ys. g from ++ ys) (same_joined f g limit same (from + 1) n (omega (arith, within)))
