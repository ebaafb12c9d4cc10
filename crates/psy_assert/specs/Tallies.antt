-- What the notes of a run tell between cuts.
use Rattle.std.specs.Prelude.{◌≡◌, ℕ, Bool, ◌<◌, ◌≤◌, List, length, slice_index_or}
use Rattle.std.specs.List.{HoldsAt}
use Rattle.std.specs.List.Sorted.{IsSorted}
use Rattle.std.specs.declared.cmp.Ordering.TheVariants.{Equal}
use Rattle.psy_log.specs.declared.note.Note.{Note}
use Rattle.psy_assert.specs.declared.cut.Cut.{Cut}
use Rattle.psy_assert.specs.declared.sum.Sum.{Sum}
use Rattle.psy_assert.specs.declared.tally.Tally.{Tally}
use Rattle.psy_assert.specs.Cuts.{cut_cmp}
use Rattle.psy_assert.specs.Sums.{IsExtent, IsNewest, is_own, is_up_to, stands_at}

-- A cut that is equal to this one stands at the place.
abbrev pub StandsAt : List Cut → ℕ → Cut → Type 0
StandsAt cuts place cut = (place < length cuts) × HoldsAt (λ other. cut_cmp other cut ≡ Equal) cuts place

-- Each sum has the extent of the notes between two cuts.
abbrev pub HaveExtents : Bool → List Cut → List Note → List Sum → Type 0
HaveExtents by_value cuts notes sums =
    (place : ℕ) (s : Sum) → place < length cuts → IsExtent (stands_at by_value cuts place) notes (slice_index_or sums place s).extent

-- Each has the newest of them, of the subject of the second cut.
abbrev pub HaveOwn : Bool → List Cut → List Note → ℕ → List Sum → Type 0
HaveOwn by_value cuts notes from sums = (place : ℕ) (c : Cut) (s : Sum) → from ≤ place → place < length cuts
    → IsNewest (is_own by_value cuts (slice_index_or cuts place c) place) notes (slice_index_or sums place s).newest

-- Each of the first has the newest note of its subject before its cut.
abbrev pub HaveNewest : Bool → List Cut → List Note → ℕ → List Sum → Type 0
HaveNewest by_value cuts notes upto sums = (place : ℕ) (c : Cut) (s : Sum) → place < upto → place < length cuts
    → IsNewest (is_up_to by_value cuts (slice_index_or cuts place c) place) notes (slice_index_or sums place s).newest

-- The notes are summed up between the cuts.
pub record IsSummed (by_value : Bool) (cuts : List Cut) (notes : List Note) (sums : List Sum) : Type 0 where
  pub size : length sums ≡ length cuts
  pub extents : HaveExtents by_value cuts notes sums
  pub own : HaveOwn by_value cuts notes 0 sums

-- So many sums have the newest note before their cuts, and the others that between two.
pub record IsSettling (by_value : Bool) (cuts : List Cut) (notes : List Note) (upto : ℕ) (sums : List Sum) : Type 0 where
  pub size : length sums ≡ length cuts
  pub extents : HaveExtents by_value cuts notes sums
  pub newest : HaveNewest by_value cuts notes upto sums
  pub own : HaveOwn by_value cuts notes upto sums

-- The notes are summed up between cuts that are in order.
pub record IsTally (by_value : Bool) (tally : Tally) (notes : List Note) : Type 0 where
  pub order : IsSorted cut_cmp tally.cuts.items
  pub sums : IsSettling by_value tally.cuts.items notes (length tally.cuts.items) tally.sums.items
