-- The parts of a state of a plan, by their numbers.
use Rattle.std.proofs.Common.{◌≡◌, ◌∙◌, ℕ, ◌<◌, List, get_or, map, length, zero-add, Some, ap, arith}
use Rattle.std.specs.Prelude.{slice_get}
use Rattle.std.specs.List.{All, range_with_len}
use Rattle.std.proofs.lemmas.List.FromFn.{get_or-map-range_with_len, length-map-range_with_len}
use Rattle.std.proofs.lemmas.Option.{slice_get-get_or, slice_get_within}
use Rattle.psy_lists.proofs.lemmas.Places.{there}
use Rattle.psy_snap.specs.Shapes.{AreOf}

-- The form of a number below a count
form_at : {F : Type 0} (form : ℕ → F) (count i : ℕ) → i < count → slice_get (map form (range_with_len 0 count)) i ≡ Some (form i)
form_at form count i less =
    slice_get-get_or (map form (range_with_len 0 count)) i (form i) (omega (arith, less, length-map-range_with_len form 0 count))
    ∙ ap Some (get_or-map-range_with_len form 0 count i i (form i) less (zero-add i))

module _ {F X : Type 0} (Right : F → X → Type 0) (form : ℕ → F) (count : ℕ) (xs : List X) (are : AreOf Right (map form (range_with_len 0 count)) xs) where
  pub parts_count : length xs ≡ count
  parts_count = are.count ∙ length-map-range_with_len form 0 count

  -- A part that there is
  pub part_right : (i : ℕ) (x : X) → slice_get xs i ≡ Some x → Right (form i) x
  part_right i x at = are.each i (form i) x (form_at form count i (omega (arith, slice_get_within xs i x at, parts_count))) at

  -- The part of a number
  pub number_right : (i : ℕ) (d : X) → i < count → Right (form i) (get_or xs i d)
  number_right i d less = part_right i (get_or xs i d) (slice_get-get_or xs i d (omega (arith, less, parts_count)))

-- This holds of each part.
pub all_parts : {F X : Type 0} (Right : F → X → Type 0) (P : X → Type 0) (forms : List F) (xs : List X) → AreOf Right forms xs → ((form : F) (x : X) → Right form x → P x) → All P xs
all_parts Right P forms xs are one = λ i d less.
    let (form, at) = there forms i (omega (arith, less, are.count)) in
    one form (get_or xs i d) (are.each i form (get_or xs i d) at (slice_get-get_or xs i d less))
