-- Parts that are right by their numbers are right by the forms of a plan.
use Rattle.std.proofs.Common.{◌≡◌, ◌∙◌, ℕ, ◌<◌, List, map, length, zero-add, Some, sym, ap, subst, arith}
use Rattle.std.specs.Prelude.{slice_get}
use Rattle.std.specs.List.{range_with_len}
use Rattle.std.proofs.lemmas.List.FromFn.{get_or-map-range_with_len, length-map-range_with_len}
use Rattle.std.proofs.lemmas.Option.{same_Some, slice_get-get_or, slice_get_within}
use Rattle.psy_snap.specs.Shapes.{AreOf}

form_there : {F : Type 0} (form : ℕ → F) (count i : ℕ) → i < count → slice_get (map form (range_with_len 0 count)) i ≡ Some (form i)
form_there form count i less =
    slice_get-get_or (map form (range_with_len 0 count)) i (form i) (omega (arith, less, length-map-range_with_len form 0 count))
    ∙ ap Some (get_or-map-range_with_len form 0 count i i (form i) less (zero-add i))

pub are_by : {F X : Type 0} (Right : F → X → Type 0) (form : ℕ → F) (count : ℕ) (xs : List X) → length xs ≡ count → ((i : ℕ) (x : X) → slice_get xs i ≡ Some x → Right (form i) x)
    → AreOf Right (map form (range_with_len 0 count)) xs
are_by Right form count xs same each = record {
  count = same ∙ sym (length-map-range_with_len form 0 count);
  each = λ i f x there at. subst (λ g. Right g x)
      (same_Some (form i) f (sym (form_there form count i (omega (arith, slice_get_within xs i x at, same))) ∙ there)) (each i x at);
}
