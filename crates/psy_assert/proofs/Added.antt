-- Sums with one note more.
use Rattle.std.proofs.Common.{◌≡◌, ◌∙◌, inl, inr, refl, sym, ap, subst, ℕ, ◌<◌, ◌≤◌, Bool, true, false, ◌&&◌, ◌||◌, eqb, List, [], ◌∷◌, ◌++◌, length, get_or, set, Option, None, Some, arith, eq-eqb}
use Rattle.std.specs.Prelude.{if◌then◌else◌}
use Rattle.std.specs.List.{list_any}
use Rattle.std.proofs.lemmas.Bool.{and_right, cases_eq, ne_eqb}
use Rattle.std.proofs.lemmas.List.{get_or_default, get_or-set_same, get_or-set_other, length-set}
use Rattle.std.proofs.lemmas.List.Folds.{list_any-append}
use Rattle.psy_log.specs.declared.note.Note.{Note}
use Rattle.psy_assert.specs.declared.cut.Cut.{Cut}
use Rattle.psy_assert.specs.declared.sum.Extent.{Extent}
use Rattle.psy_assert.specs.declared.sum.Newest.{Newest}
use Rattle.psy_assert.specs.declared.sum.Sought.{Sought}
use Rattle.psy_assert.specs.declared.sum.Sum.{Sum}
use Rattle.psy_assert.specs.Cuts.{is_beside, note_cut}
use Rattle.psy_assert.specs.Sums.{IsExtent, IsNewest, has_sought, is_by_ends, is_cut, is_own, passes, rank, stands_at, value_of}
use Rattle.psy_assert.specs.Tallies.{IsSummed}
use Rattle.psy_assert.proofs.Newest.{newest_here, newest_kept}

or_nothing : (t : Bool) → (t || false) ≡ t
or_nothing true = refl
or_nothing false = refl

one_is : (t b : Bool) → t ≡ true → ((t && b) || false) ≡ b
one_is t b e = rw e (or_nothing b)

none_is : (t b : Bool) → t ≡ false → ((t && b) || false) ≡ false
none_is t b e = rw e refl

-- A note that doesn't pass the test leaves an extent as it is.
pub extent_kept : (test : Note → Bool) (notes : List Note) (n : Note) (e : Option Extent) → test n ≡ false → IsExtent test notes e → IsExtent test (notes ++ n ∷ []) e
extent_kept test notes n e fails is wanted ends =
    let p = λ (m : Note). test m && passes wanted (value_of m) in
    is wanted ends ∙ sym (or_nothing (list_any p notes)) ∙ ap (λ t. list_any p notes || t) (sym (none_is (test n) (passes wanted (value_of n)) fails))
    ∙ sym (list_any-append p notes (n ∷ []))

-- One that passes is added.
pub extent_more : (test : Note → Bool) (notes : List Note) (n : Note) (old new : Option Extent) → test n ≡ true → IsExtent test notes old
    → ((wanted : Sought) → is_by_ends wanted ≡ true → has_sought wanted new ≡ (has_sought wanted old || passes wanted (value_of n))) → IsExtent test (notes ++ n ∷ []) new
extent_more test notes n old new holds is grew wanted ends =
    let p = λ (m : Note). test m && passes wanted (value_of m) in
    grew wanted ends ∙ ap (λ t. t || passes wanted (value_of n)) (is wanted ends)
    ∙ ap (λ t. list_any p notes || t) (sym (one_is (test n) (passes wanted (value_of n)) holds)) ∙ sym (list_any-append p notes (n ∷ []))

module _ (by_value : Bool) where
  -- What stands elsewhere isn't a sum's own.
  not_own : (cuts : List Cut) (own : Cut) (place : ℕ) (n : Note) → stands_at by_value cuts place n ≡ false → is_own by_value cuts own place n ≡ false
  not_own cuts own place n = by (note_cut by_value n)
    where
      by : (o : Option Cut) → is_cut (λ cut. eqb (rank cuts cut) place) o ≡ false → is_cut (λ cut. is_beside own cut && eqb (rank cuts cut) place) o ≡ false
      by None e = refl
      by (Some cut) e = and_right (is_beside own cut) (eqb (rank cuts cut) place) e

  -- A note that stands at none of the places changes nothing.
  pub not_added : (cuts : List Cut) (notes : List Note) (n : Note) (sums : List Sum) → ((place : ℕ) → place < length cuts → stands_at by_value cuts place n ≡ false)
      → IsSummed by_value cuts notes sums → IsSummed by_value cuts (notes ++ n ∷ []) sums
  not_added cuts notes n sums nowhere is = record {
    size = is.size;
    extents = λ place s within. extent_kept (stands_at by_value cuts place) notes n (get_or sums place s).extent (nowhere place within) (is.extents place s within);
    own =
        λ place c s from within.
        newest_kept (is_own by_value cuts (get_or cuts place c) place) notes n (get_or sums place s).newest (not_own cuts (get_or cuts place c) place n (nowhere place within)) (is.own place c s from within);
  }

  pub no_cut : (cuts : List Cut) (n : Note) → note_cut by_value n ≡ None → (place : ℕ) → stands_at by_value cuts place n ≡ false
  no_cut cuts n none place = ap (is_cut (λ cut. eqb (rank cuts cut) place)) none

  pub stands_by : (cuts : List Cut) (n : Note) (cut : Cut) → note_cut by_value n ≡ Some cut → (place : ℕ) → stands_at by_value cuts place n ≡ eqb (rank cuts cut) place
  stands_by cuts n cut is place = ap (is_cut (λ c. eqb (rank cuts c) place)) is

  pub behind_all : (cuts : List Cut) (n : Note) (cut : Cut) → note_cut by_value n ≡ Some cut → (at : ℕ) → at ≡ rank cuts cut → length cuts ≤ at → (place : ℕ) → place < length cuts → stands_at by_value cuts place n ≡ false
  behind_all cuts n cut is at rank_is beyond place within = stands_by cuts n cut is place ∙ ne_eqb (rank cuts cut) place (λ e. omega (arith, e, rank_is, beyond, within))

  -- A note is added to the sum at its place.
  module _ (cuts : List Cut) (notes : List Note) (n : Note) (cut : Cut) (sums : List Sum) (at : ℕ) (new : Sum) (found : Newest) (is_of : note_cut by_value n ≡ Some cut) (rank_is : at ≡ rank cuts cut) (inside : at < length cuts)
      (d : Cut) (x : Sum) (grew : (wanted : Sought) → is_by_ends wanted ≡ true → has_sought wanted new.extent ≡ (has_sought wanted (get_or sums at x).extent || passes wanted found.value))
      (newest : new.newest ≡ (if is_beside (get_or cuts at d) cut then Some found else (get_or sums at x).newest)) (placed : found.place ≡ length notes) (valued : found.value ≡ value_of n)
      (is : IsSummed by_value cuts notes sums) where
    here : stands_at by_value cuts at n ≡ true
    here = stands_by cuts n cut is_of at ∙ eq-eqb (rank cuts cut) at (sym rank_is)

    elsewhere : (place : ℕ) → (place ≡ at → ⊥) → stands_at by_value cuts place n ≡ false
    elsewhere place other = stands_by cuts n cut is_of place ∙ ne_eqb (rank cuts cut) place (λ e. other (sym e ∙ sym rank_is))

    now_at : (s : Sum) → get_or (set sums at new) at s ≡ new
    now_at s = get_or-set_same sums at new s (omega (arith, inside, is.size))

    extent_here : (s : Sum) → IsExtent (stands_at by_value cuts at) (notes ++ n ∷ []) (get_or (set sums at new) at s).extent
    extent_here s =
        subst (λ (y : Sum). IsExtent (stands_at by_value cuts at) (notes ++ n ∷ []) y.extent) (sym (now_at s))
        (extent_more (stands_at by_value cuts at) notes n (get_or sums at x).extent new.extent here (is.extents at x inside)
        (λ wanted ends. grew wanted ends ∙ ap (λ v. has_sought wanted (get_or sums at x).extent || passes wanted v) valued))

    own_here : (c : Cut) (s : Sum) → IsNewest (is_own by_value cuts (get_or cuts at c) at) (notes ++ n ∷ []) (get_or (set sums at new) at s).newest
    own_here c s =
        subst (λ (y : Sum). IsNewest (is_own by_value cuts (get_or cuts at c) at) (notes ++ n ∷ []) y.newest) (sym (now_at s))
        (subst (IsNewest (is_own by_value cuts (get_or cuts at c) at) (notes ++ n ∷ [])) (sym newest_is) (by (is_beside (get_or cuts at c) cut) refl))
      where
        newest_is : new.newest ≡ (if is_beside (get_or cuts at c) cut then Some found else (get_or sums at x).newest)
        newest_is = subst (λ e. new.newest ≡ (if is_beside e cut then Some found else (get_or sums at x).newest)) (get_or_default cuts at d c inside) newest

        own_is : is_own by_value cuts (get_or cuts at c) at n ≡ (is_beside (get_or cuts at c) cut && eqb (rank cuts cut) at)
        own_is = ap (is_cut (λ d. is_beside (get_or cuts at c) d && eqb (rank cuts d) at)) is_of

        by : (t : Bool) → is_beside (get_or cuts at c) cut ≡ t → IsNewest (is_own by_value cuts (get_or cuts at c) at) (notes ++ n ∷ []) (if t then Some found else (get_or sums at x).newest)
        by true e =
            newest_here (is_own by_value cuts (get_or cuts at c) at) notes n found placed valued (own_is ∙ ap (λ t. t && eqb (rank cuts cut) at) e ∙ eq-eqb (rank cuts cut) at (sym rank_is))
        by false e = newest_kept (is_own by_value cuts (get_or cuts at c) at) notes n (get_or sums at x).newest (own_is ∙ ap (λ t. t && eqb (rank cuts cut) at) e) (is.own at c x (omega arith) inside)

    pub added : IsSummed by_value cuts (notes ++ n ∷ []) (set sums at new)
    added = record {
      size = length-set sums at new ∙ is.size;
      extents =
          λ place s within.
          elim (cases_eq place at) [
            | inl same ↦ subst (λ k. IsExtent (stands_at by_value cuts k) (notes ++ n ∷ []) (get_or (set sums at new) k s).extent) (sym same) (extent_here s)
            | inr other ↦
                subst (λ (y : Sum). IsExtent (stands_at by_value cuts place) (notes ++ n ∷ []) y.extent) (sym (get_or-set_other sums at place new s other))
                (extent_kept (stands_at by_value cuts place) notes n (get_or sums place s).extent (elsewhere place other) (is.extents place s within))
          ];
      own =
          λ place c s from within.
          elim (cases_eq place at) [
            | inl same ↦ subst (λ k. IsNewest (is_own by_value cuts (get_or cuts k c) k) (notes ++ n ∷ []) (get_or (set sums at new) k s).newest) (sym same) (own_here c s)
            | inr other ↦
                subst (λ (y : Sum). IsNewest (is_own by_value cuts (get_or cuts place c) place) (notes ++ n ∷ []) y.newest) (sym (get_or-set_other sums at place new s other))
                (newest_kept (is_own by_value cuts (get_or cuts place c) place) notes n (get_or sums place s).newest (not_own cuts (get_or cuts place c) place n (elsewhere place other)) (is.own place c s from within))
          ];
    }
