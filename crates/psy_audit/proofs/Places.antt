-- Places in lists, as loops come to them.
use Rattle.std.proofs.Common.{None, Some, Option, inl, inr, sym, ◌≤◌, ◌≡◌, ◌∙◌, ℕ, ◌+◌, ◌<◌, Bool, true, false, cond, not, List, length, get_or, drop, ap, subst}
use Rattle.std.specs.List.{position_or_len, slice_get}
use Rattle.std.specs.Option.{unwrap_or}
use Rattle.std.proofs.Math.ListN.{set}
use Rattle.std.proofs.lemmas.Bool.{cases_lt}
use Rattle.std.proofs.lemmas.List.{get_or_default, set_past}
use Rattle.std.proofs.lemmas.Option.{unwrap_or-slice_get}
use Rattle.psy_lists.proofs.lemmas.Places.{drop_read, there}

module _ {X : Type 0} (p : X → Bool) (xs : List X) (i : ℕ) (x : X) (l : i < length xs) (is : x ≡ get_or xs i x) where
  -- The one that comes next is the first that passes.
  pub position_here : p x ≡ true → position_or_len p (drop i xs) ≡ 0
  position_here passed = ap (position_or_len p) (drop_read xs i x l is) ∙ ap (λ b. cond (not b) (1 + position_or_len p (drop (i + 1) xs)) 0) passed

  -- It isn't.
  pub position_behind : p x ≡ false → position_or_len p (drop i xs) ≡ 1 + position_or_len p (drop (i + 1) xs)
  position_behind failed = ap (position_or_len p) (drop_read xs i x l is) ∙ ap (λ b. cond (not b) (1 + position_or_len p (drop (i + 1) xs)) 0) failed

-- There is no item of this number.
pub get_or_none : {X : Type 0} (xs : List X) (i : ℕ) (d : X) → None ≡ slice_get xs i → d ≡ get_or xs i d
get_or_none xs i d e = ap (λ o. unwrap_or o d) e ∙ unwrap_or-slice_get xs i d

-- What an item holds, where it doesn't hold so many
pub part_none : {X Y : Type 0} (parts : X → List Y) (xs ys : List X) (i k : ℕ) (x d : X) (e : Y) → ys ≡ xs → i < length xs → None ≡ slice_get (parts (get_or ys i x)) k
    → e ≡ get_or (parts (get_or xs i d)) k e
part_none parts xs ys i k x d e same l none =
    let is : get_or ys i x ≡ get_or xs i d = ap (λ zs. get_or zs i x) same ∙ get_or_default xs i x d l in
    subst (λ z. e ≡ get_or (parts z) k e) is (get_or_none (parts (get_or ys i x)) k e none)

pub none_past : {X : Type 0} (xs : List X) (i : ℕ) → None ≡ slice_get xs i → length xs ≤ i
none_past xs i none = elim (cases_lt i (length xs)) [
  | inl less ↦ (let (x, at) = there xs i less in absurd (none_some none at))
  | inr past ↦ past
]
  where
    none_some : {X : Type 0} {o : Option X} {x : X} → None ≡ o → o ≡ Some x → ⊥
    none_some e f = cc

-- Nothing is written where there is no place.
pub set_none : {X : Type 0} (xs : List X) (i : ℕ) (y : X) → None ≡ slice_get xs i → xs ≡ set xs i y
set_none xs i y none = sym (set_past xs i y (none_past xs i none))
