-- Sums that have what is newest before their cuts, from cut to cut.
use Rattle.std.proofs.Common.{◌≡◌, ◌∙◌, inl, inr, refl, sym, ap, subst, ℕ, zero, suc, ◌+◌, ◌-◌, ◌<◌, ◌≤◌, Bool, true, false, ◌&&◌, ◌||◌, leb, eqb, List, length, get_or, set, Option, None, Some, true≢false, arith}
use Rattle.std.specs.Prelude.{if◌then◌else◌}
use Rattle.std.specs.declared.cmp.Ordering.{Ordering}
use Rattle.std.specs.declared.cmp.Ordering.TheVariants.{Less, Equal, Greater}
use Rattle.std.specs.Ordering.{is_eq, is_lt, ordering_reverse, ordering_then}
use Rattle.std.specs.List.Sorted.{IsSorted}
use Rattle.std.proofs.lemmas.Bool.{cases_eq, ltb-true}
use Rattle.std.proofs.lemmas.Cmp.{alike_right}
use Rattle.std.proofs.lemmas.List.{get_or_default, get_or-set_same, get_or-set_other, length-set}
use Rattle.psy_log.specs.declared.note.Note.{Note}
use Rattle.psy_assert.specs.declared.cut.Cut.{Cut}
use Rattle.psy_assert.specs.declared.sum.Newest.{Newest}
use Rattle.psy_assert.specs.declared.sum.Sum.{Sum}
use Rattle.psy_assert.specs.Cuts.{cut_cmp, is_before, is_beside, note_cut, subject_cmp}
use Rattle.psy_assert.specs.Sums.{IsExtent, IsNewest, is_cut, is_own, is_up_to, later, rank, stands_at}
use Rattle.psy_assert.specs.Tallies.{IsSettling, IsSummed}
use Rattle.psy_assert.proofs.Newest.{newest_later, newest_same}
use Rattle.psy_assert.proofs.Ranks.{before_rank, cut_total, subject_total}

-- ---- the first, and all

at_first : (k : ℕ) → eqb k 0 ≡ leb k 0
at_first k = grind (arith)

module _ (by_value : Bool) where
  own_first : (cuts : List Cut) (own : Cut) (n : Note) → is_own by_value cuts own 0 n ≡ is_up_to by_value cuts own 0 n
  own_first cuts own n = by (note_cut by_value n)
    where
      by : (o : Option Cut) → is_cut (λ cut. is_beside own cut && eqb (rank cuts cut) 0) o ≡ is_cut (λ cut. is_beside own cut && leb (rank cuts cut) 0) o
      by None = refl
      by (Some cut) = ap (λ t. is_beside own cut && t) (at_first (rank cuts cut))

  pub first_settled : (cuts : List Cut) (notes : List Note) (sums : List Sum) → IsSummed by_value cuts notes sums → IsSettling by_value cuts notes 1 sums
  first_settled cuts notes sums is = record {
    size = is.size;
    extents = is.extents;
    newest = at;
    own = λ place c s from within. is.own place c s (omega arith) within;
  }
    where
      at : (place : ℕ) (c : Cut) (s : Sum) → place < 1 → place < length cuts → IsNewest (is_up_to by_value cuts (get_or cuts place c) place) notes (get_or sums place s).newest
      at zero c s upto within =
          newest_same (is_own by_value cuts (get_or cuts 0 c) 0) (is_up_to by_value cuts (get_or cuts 0 c) 0) (own_first cuts (get_or cuts 0 c)) notes (get_or sums 0 s).newest (is.own 0 c s (omega arith) within)
      at (suc place) c s upto within = absurd (omega (arith, upto))

  pub all_settled : (cuts : List Cut) (notes : List Note) (at : ℕ) (sums : List Sum) → length cuts ≤ at → IsSettling by_value cuts notes at sums → IsSettling by_value cuts notes (length cuts) sums
  all_settled cuts notes at sums beyond is = record {
    size = is.size;
    extents = is.extents;
    newest = λ place c s upto within. is.newest place c s (omega (arith, within, beyond)) within;
    own = λ place c s from within. absurd (omega (arith, from, within));
  }

  -- ---- one cut more

  some_of : (b x y : Bool) → ((b && x) || (b && y)) ≡ (b && (x || y))
  some_of true x y = refl
  some_of false x y = refl

  up_to_next : (k at : ℕ) → 0 < at → (leb k (at - 1) || eqb k at) ≡ leb k at
  up_to_next k at some = grind (arith, some)

  module _ (cuts : List Cut) (notes : List Note) (order : IsSorted cut_cmp cuts) (at : ℕ) (some : 0 < at) (inside : at < length cuts) where
    -- Behind a cut of the same subject
    joined : (before own : Cut) → is_beside before own ≡ true → (n : Note) → (is_up_to by_value cuts before (at - 1) n || is_own by_value cuts own at n) ≡ is_up_to by_value cuts own at n
    joined before own same n = by (note_cut by_value n)
      where
        equal : (o : Ordering) → is_eq o ≡ true → o ≡ Equal
        equal Less e = absurd (true≢false (sym e))
        equal Equal e = refl
        equal Greater e = absurd (true≢false (sym e))

        alike : (cut : Cut) → is_beside before cut ≡ is_beside own cut
        alike cut = ap is_eq (subject_total.congr before.subject own.subject cut.subject (equal (subject_cmp before.subject own.subject) same))

        by : (o : Option Cut) → (is_cut (λ cut. is_beside before cut && leb (rank cuts cut) (at - 1)) o || is_cut (λ cut. is_beside own cut && eqb (rank cuts cut) at) o)
            ≡ is_cut (λ cut. is_beside own cut && leb (rank cuts cut) at) o
        by None = refl
        by (Some cut) =
            ap (λ t. (t && leb (rank cuts cut) (at - 1)) || (is_beside own cut && eqb (rank cuts cut) at)) (alike cut)
            ∙ some_of (is_beside own cut) (leb (rank cuts cut) (at - 1)) (eqb (rank cuts cut) at) ∙ ap (λ t. is_beside own cut && t) (up_to_next (rank cuts cut) at some)

    -- Behind a cut of another subject, nothing of its own stands further ahead.
    apart : (d : Cut) → is_beside (get_or cuts (at - 1) d) (get_or cuts at d) ≡ false → (n : Note) → is_own by_value cuts (get_or cuts at d) at n ≡ is_up_to by_value cuts (get_or cuts at d) at n
    apart d other n = by (note_cut by_value n)
      where
        before : Cut
        before = get_or cuts (at - 1) d

        own : Cut
        own = get_or cuts at d

        rises : is_lt (cut_cmp (get_or cuts at d) (get_or cuts (at - 1) d)) ≡ false
        rises = subst (λ k. is_lt (cut_cmp (get_or cuts k d) (get_or cuts (at - 1) d)) ≡ false) (omega (arith, some)) (order (at - 1) d (omega arith) (omega (arith, some, inside)))

        less : (o p : Ordering) → is_eq o ≡ false → is_lt (ordering_reverse (ordering_then o p)) ≡ false → o ≡ Less
        less Less p e f = refl
        less Equal p e f = absurd (true≢false e)
        less Greater p e f = absurd (true≢false f)

        sooner : subject_cmp (get_or cuts (at - 1) d).subject (get_or cuts at d).subject ≡ Less
        sooner = less (subject_cmp (get_or cuts (at - 1) d).subject (get_or cuts at d).subject) _ other (sym (ap is_lt (cut_total.antisymm (get_or cuts at d) (get_or cuts (at - 1) d))) ∙ rises)

        equal : (o : Ordering) → is_eq o ≡ true → o ≡ Equal
        equal Less e = absurd (true≢false (sym e))
        equal Equal e = refl
        equal Greater e = absurd (true≢false (sym e))

        first : (o p : Ordering) → o ≡ Less → is_lt (ordering_then o p) ≡ true
        first o p e = rw e refl

        -- A cut of the own subject comes behind the cut before.
        behind : (cut : Cut) → is_beside (get_or cuts at d) cut ≡ true → at - 1 < rank cuts cut
        behind cut same =
            let alike : subject_cmp (get_or cuts (at - 1) d).subject (get_or cuts at d).subject ≡ subject_cmp (get_or cuts (at - 1) d).subject cut.subject =
            alike_right subject_total (get_or cuts at d).subject cut.subject (get_or cuts (at - 1) d).subject (equal (subject_cmp (get_or cuts at d).subject cut.subject) same) in
            let passes : is_before (get_or cuts (at - 1) d) cut ≡ true = first (subject_cmp (get_or cuts (at - 1) d).subject cut.subject) _ (sym alike ∙ sooner) in
            ltb-true (at - 1) (rank cuts cut) (sym (before_rank cuts cut order (at - 1) d (omega (arith, inside))) ∙ passes)

        exact : (k : ℕ) → at - 1 < k → eqb k at ≡ leb k at
        exact k more = grind (arith, more, some)

        at_cut : (cut : Cut) (t : Bool) → is_beside (get_or cuts at d) cut ≡ t → (t && eqb (rank cuts cut) at) ≡ (t && leb (rank cuts cut) at)
        at_cut cut true e = exact (rank cuts cut) (behind cut e)
        at_cut cut false e = refl

        by : (o : Option Cut) → is_cut (λ cut. is_beside (get_or cuts at d) cut && eqb (rank cuts cut) at) o ≡ is_cut (λ cut. is_beside (get_or cuts at d) cut && leb (rank cuts cut) at) o
        by None = refl
        by (Some cut) = at_cut cut (is_beside (get_or cuts at d) cut) refl

    module _ (sums : List Sum) (new : Sum) (d : Cut) (x : Sum) (extent : new.extent ≡ (get_or sums at x).extent)
        (newest : new.newest ≡ (if is_beside (get_or cuts (at - 1) d) (get_or cuts at d) then later (get_or sums (at - 1) x).newest (get_or sums at x).newest else (get_or sums at x).newest))
        (is : IsSettling by_value cuts notes at sums) where
      now_at : (s : Sum) → get_or (set sums at new) at s ≡ new
      now_at s = get_or-set_same sums at new s (omega (arith, inside, is.size))

      newest_here : (c : Cut) (s : Sum) → IsNewest (is_up_to by_value cuts (get_or cuts at c) at) notes (get_or (set sums at new) at s).newest
      newest_here c s =
          subst (λ (y : Sum). IsNewest (is_up_to by_value cuts (get_or cuts at c) at) notes y.newest) (sym (now_at s))
          (subst (IsNewest (is_up_to by_value cuts (get_or cuts at c) at) notes) (sym newest_is) (by (is_beside (get_or cuts (at - 1) c) (get_or cuts at c)) refl))
        where
          either : Cut → Cut → Option Newest
          either before own = if is_beside before own then later (get_or sums (at - 1) x).newest (get_or sums at x).newest else (get_or sums at x).newest

          newest_is : new.newest ≡ either (get_or cuts (at - 1) c) (get_or cuts at c)
          newest_is =
              subst (λ e. new.newest ≡ either e (get_or cuts at c)) (get_or_default cuts (at - 1) d c (omega (arith, inside)))
              (subst (λ e. new.newest ≡ either (get_or cuts (at - 1) d) e) (get_or_default cuts at d c inside) newest)

          own_here : IsNewest (is_own by_value cuts (get_or cuts at c) at) notes (get_or sums at x).newest
          own_here = is.own at c x (omega arith) inside

          by : (t : Bool) → is_beside (get_or cuts (at - 1) c) (get_or cuts at c) ≡ t
              → IsNewest (is_up_to by_value cuts (get_or cuts at c) at) notes (if t then later (get_or sums (at - 1) x).newest (get_or sums at x).newest else (get_or sums at x).newest)
          by true e =
              newest_same _ (is_up_to by_value cuts (get_or cuts at c) at) (joined (get_or cuts (at - 1) c) (get_or cuts at c) e) notes _
              (newest_later (is_up_to by_value cuts (get_or cuts (at - 1) c) (at - 1)) (is_own by_value cuts (get_or cuts at c) at) notes (get_or sums (at - 1) x).newest (get_or sums at x).newest
              (is.newest (at - 1) c x (omega (arith, some)) (omega (arith, inside))) own_here)
          by false e = newest_same (is_own by_value cuts (get_or cuts at c) at) (is_up_to by_value cuts (get_or cuts at c) at) (apart c e) notes (get_or sums at x).newest own_here

      pub one_settled : IsSettling by_value cuts notes (at + 1) (set sums at new)
      one_settled = record {
        size = length-set sums at new ∙ is.size;
        extents =
            λ place s within.
            elim (cases_eq place at) [
              | inl same ↦
                  subst (λ k. IsExtent (stands_at by_value cuts k) notes (get_or (set sums at new) k s).extent) (sym same)
                  (subst (λ (y : Sum). IsExtent (stands_at by_value cuts at) notes y.extent) (sym (now_at s)) (subst (IsExtent (stands_at by_value cuts at) notes) (sym extent) (is.extents at x inside)))
              | inr other ↦ subst (λ (y : Sum). IsExtent (stands_at by_value cuts place) notes y.extent) (sym (get_or-set_other sums at place new s other)) (is.extents place s within)
            ];
        newest =
            λ place c s upto within.
            elim (cases_eq place at) [
              | inl same ↦ subst (λ k. IsNewest (is_up_to by_value cuts (get_or cuts k c) k) notes (get_or (set sums at new) k s).newest) (sym same) (newest_here c s)
              | inr other ↦
                  subst (λ (y : Sum). IsNewest (is_up_to by_value cuts (get_or cuts place c) place) notes y.newest) (sym (get_or-set_other sums at place new s other))
                  (is.newest place c s (omega (arith, upto, other)) within)
            ];
        own =
            λ place c s from within.
            subst (λ (y : Sum). IsNewest (is_own by_value cuts (get_or cuts place c) place) notes y.newest) (sym (get_or-set_other sums at place new s (λ e. omega (arith, e, from))))
            (is.own place c s (omega (arith, from)) within);
      }
