-- What is read at a place of a list.
use Rattle.std.proofs.Common.{◌≡◌, ℕ, List, length, get_or, Some, sym, ◌∙◌, inl, inr}
use Rattle.std.specs.Prelude.{None, Option, slice_get}
use Rattle.std.proofs.lemmas.Bool.{cases_lt}
use Rattle.std.proofs.lemmas.List.{get_or_past}
use Rattle.std.proofs.lemmas.Option.{get_or_from_slice_get, none-some, slice_get-get_or}

pub read_none : {X : Type 0} (xs : List X) (i : ℕ) (d : X) → ◌≡◌ {A = Option X} None (slice_get xs i) → get_or xs i d ≡ d
read_none xs i d e = elim (cases_lt i (length xs)) [
  | inl less ↦ absurd (none-some (get_or xs i d) (e ∙ slice_get-get_or xs i d less))
  | inr past ↦ get_or_past xs i d past
]

pub read_some : {X : Type 0} (xs : List X) (i : ℕ) (x d : X) → Some x ≡ slice_get xs i → get_or xs i d ≡ x
read_some xs i x d e = get_or_from_slice_get xs i x d (sym e)
