-- The name for which was asked and which the summary doesn't list.
use Rattle.std.proofs.Common.{◌≡◌, subst, ap, ◌∙◌, ℕ, ◌<◌, not, List, [], Some, length, map, get_or, option_map}
use Rattle.std.specs.List.{slice_get}
use Rattle.std.proofs.lemmas.List.{length-map}
use Rattle.std.proofs.lemmas.List.Quantifiers.{position-Some}
use Rattle.std.proofs.lemmas.Option.{slice_get-get_or, slice_get-map}
use Rattle.psy_log.specs.declared.note.Note.{Note}
use Rattle.psy_draw.specs.Listing.{first_unasked, is_named}

-- Its place lies among the names.
pub unasked_within : {S : Type 0} (f : S → List ℕ) (notes : List Note) (names : List S) (place : ℕ) → first_unasked notes (map f names) ≡ Some place → place < length names
unasked_within f notes names place is = subst (λ n. place < n) (length-map names f) (position-Some (λ name. not (is_named notes name)) (map f names) place [] is).0

-- The name of a place among them
pub name_at : {S : Type 0} (f : S → List ℕ) (names : List S) (place : ℕ) (name : S) → place < length names → get_or names place name ≡ name → slice_get (map f names) place ≡ Some (f name)
name_at f names place name within is = slice_get-map f names place ∙ ap (option_map f) (slice_get-get_or names place name within ∙ ap Some is)
