-- How many cuts come before one.
use Rattle.std.proofs.Common.{◌≡◌, ◌∙◌, refl, sym, ap, subst, ℕ, zero, suc, ◌+◌, ◌<◌, ◌≤◌, Bool, true, false, cond, ltb, filter, List, [], ◌∷◌, length, get_or, true≢false, le-ltb, lt-ltb, arith}
use Rattle.std.specs.declared.cmp.Ordering.{Ordering}
use Rattle.std.specs.declared.cmp.Ordering.TheVariants.{Less, Equal, Greater}
use Rattle.std.specs.Ordering.{bool_cmp, eq_by_cmp, is_eq, is_lt, nat_cmp, ordering_index, ordering_reverse, ordering_then}
use Rattle.std.specs.Cmp.{IsTotalOrder}
use Rattle.std.specs.List.{HoldsAt}
use Rattle.std.specs.List.Sorted.{IsPartitionedBy, IsPartitionPoint, IsSorted, IsStrictlySortedBy}
use Rattle.std.proofs.lemmas.List.Sorted.{IsPartitionedBy-ltb, searchable_from_sorted}
use Rattle.std.specs.List.Retain.{DiffersFromLast, IsFiltered}
use Rattle.std.proofs.lemmas.List.Filters.{dedup_is}
use Rattle.std.proofs.lemmas.List.Kept.{IsStrictlySortedBy-dedup}
use Rattle.std.proofs.lemmas.Map.Keys.{Less-from_sorted}
use Rattle.psy_assert.specs.declared.cut.Cut.{Cut}
use Rattle.psy_assert.specs.declared.cut.Subject.{Subject}
use Rattle.psy_assert.specs.declared.cut.Subject.TheVariants as subject
use Rattle.psy_assert.specs.contracts.cut.CutOrd.TheImpl.{cmp-value as derived_cuts}
use Rattle.psy_assert.specs.contracts.cut.SubjectOrd.TheImpl.{cmp-value as derived_subjects}
use Rattle.psy_assert.specs.contracts.cut.CutOrd.TheImpl.Laws as of_cuts
use Rattle.psy_assert.specs.contracts.cut.SubjectOrd.TheImpl.Laws as of_subjects
use Rattle.psy_assert.specs.Cuts.{cut_cmp, is_before, is_beside, subject_cmp}
use Rattle.psy_assert.specs.Sums.{rank}

-- The orders that are derived are those that were written out.
subject_same : (one other : Subject) → derived_subjects.it one other ≡ subject_cmp one other
subject_same subject.Stops subject.Stops = refl
subject_same subject.Stops (subject.Messages other) = refl
subject_same subject.Stops (subject.Values other) = refl
subject_same subject.Stops (subject.Value other other_value) = refl
subject_same (subject.Messages one) subject.Stops = refl
subject_same (subject.Messages one) (subject.Messages other) = refl
subject_same (subject.Messages one) (subject.Values other) = refl
subject_same (subject.Messages one) (subject.Value other other_value) = refl
subject_same (subject.Values one) subject.Stops = refl
subject_same (subject.Values one) (subject.Messages other) = refl
subject_same (subject.Values one) (subject.Values other) = refl
subject_same (subject.Values one) (subject.Value other other_value) = refl
subject_same (subject.Value one one_value) subject.Stops = refl
subject_same (subject.Value one one_value) (subject.Messages other) = refl
subject_same (subject.Value one one_value) (subject.Values other) = refl
subject_same (subject.Value one one_value) (subject.Value other other_value) = refl

pub cut_same : (one other : Cut) → derived_cuts.it one other ≡ cut_cmp one other
cut_same one other = ap (λ o. ordering_then o (ordering_then (nat_cmp one.date other.date) (bool_cmp one.behind other.behind))) (subject_same one.subject other.subject)

pub subject_total : IsTotalOrder subject_cmp
subject_total = subst IsTotalOrder (λ i one other. subject_same one other i) of_subjects.total-law

pub cut_total : IsTotalOrder cut_cmp
cut_total = subst IsTotalOrder (λ i one other. cut_same one other i) of_cuts.total-law

-- ---- of any list that a test parts

-- None pass where none does.
none_pass : {X : Type 0} (p : X → Bool) (xs : List X) → ((k : ℕ) (d : X) → k < length xs → p (get_or xs k d) ≡ false) → filter p xs ≡ []
none_pass p [] none = refl
none_pass p (x ∷ xs) none = rw (none 0 x (omega arith)) (none_pass p xs (λ k d within. none (suc k) d (omega (arith, within))))

-- How many pass, where the first do and the others don't
pub length_parted : {X : Type 0} (p : X → Bool) (xs : List X) (k : ℕ) → k ≤ length xs → IsPartitionPoint (λ x. p x ≡ true) (λ x. p x ≡ false) xs k → length (filter p xs) ≡ k
length_parted p [] zero within point = refl
length_parted p [] (suc k) within point = absurd (omega (arith, within))
length_parted p (x ∷ xs) zero within point = ap length (none_pass p (x ∷ xs) (λ i d less. point.1 i d (omega arith) less))
length_parted p (x ∷ xs) (suc k) within point =
    ap (λ (b : Bool). length (cond b (x ∷ filter p xs) (filter p xs))) (point.0 0 x (omega arith) (omega arith))
    ∙ ap suc (length_parted p xs k (omega (arith, within)) (λ i d more less. point.0 (suc i) d (omega arith) (omega (arith, less)), λ i d more less. point.1 (suc i) d (omega (arith, more)) (omega (arith, less))))

one_less : (a b : ℕ) → ltb a b ≡ ltb (suc a) (suc b)
one_less a b = grind (arith)

-- The one at a place passes where more pass than stand before it.
parted_at : {X : Type 0} (p : X → Bool) (xs : List X) → IsPartitionedBy p xs → (k : ℕ) (d : X) → k < length xs → p (get_or xs k d) ≡ ltb k (length (filter p xs))
parted_at p [] parted k d within = absurd (omega (arith, within))
parted_at {X} p (x ∷ xs) parted k d within = by (λ i small. parted_at p xs tail i d small) (p x) refl k within
  where
    tail : IsPartitionedBy p xs
    tail i j e less small = parted (suc i) (suc j) e (omega (arith, less)) (omega (arith, small))

    fails : p x ≡ false → (i : ℕ) (e : X) → i < length (x ∷ xs) → (t : Bool) → p (get_or (x ∷ xs) i e) ≡ t → t ≡ false
    fails f i e small false is = refl
    fails f i e small true is = absurd (true≢false (sym (parted 0 i e (omega arith) small is) ∙ f))

    by : ((i : ℕ) → i < length xs → p (get_or xs i d) ≡ ltb i (length (filter p xs))) → (t : Bool) → p x ≡ t → (i : ℕ) → i < length (x ∷ xs) → p (get_or (x ∷ xs) i d) ≡ ltb i (length (filter p (x ∷ xs)))
    by more true e zero small = rw e (sym (lt-ltb 0 (suc (length (filter p xs))) (omega arith)))
    by more true e (suc i) small = rw e (more i (omega (arith, small)) ∙ one_less i (length (filter p xs)))
    by more false e i small =
        let none : filter p (x ∷ xs) ≡ [] = none_pass p (x ∷ xs) (λ j f less. fails e j f less (p (get_or (x ∷ xs) j f)) refl) in
        fails e i d small (p (get_or (x ∷ xs) i d)) refl ∙ sym (le-ltb i (length (filter p (x ∷ xs))) (omega (arith, ap length none)))

-- ---- of cuts

is_lt_ltb : (o : Ordering) → is_lt o ≡ ltb (ordering_index o) 1
is_lt_ltb Less = refl
is_lt_ltb Equal = refl
is_lt_ltb Greater = refl

-- Those that come before one come first.
pub cuts_parted : (cuts : List Cut) (cut : Cut) → IsSorted cut_cmp cuts → IsPartitionedBy (λ other. is_before other cut) cuts
cuts_parted cuts cut sorted i j d less small e =
    let rises = searchable_from_sorted cut_total (λ (c : Cut). c) cuts cut sorted in
    let earlier = IsPartitionedBy-ltb (λ (c : Cut). ordering_index (cut_cmp c cut)) cuts 1 rises i j d less small (sym (is_lt_ltb (cut_cmp (get_or cuts j d) cut)) ∙ e) in
    is_lt_ltb (cut_cmp (get_or cuts i d) cut) ∙ earlier

-- A cut of a list comes before another where more do than stand before it.
pub before_rank : (cuts : List Cut) (cut : Cut) → IsSorted cut_cmp cuts → (k : ℕ) (d : Cut) → k < length cuts → is_before (get_or cuts k d) cut ≡ ltb k (rank cuts cut)
before_rank cuts cut sorted k d within = parted_at (λ other. is_before other cut) cuts (cuts_parted cuts cut sorted) k d within

-- The same of one that is equal to it
pub before_equal : (cuts : List Cut) (own cut : Cut) → IsSorted cut_cmp cuts → (k : ℕ) → k < length cuts → HoldsAt (λ other. cut_cmp other own ≡ Equal) cuts k
    → is_before own cut ≡ ltb k (rank cuts cut)
before_equal cuts own cut sorted k within at =
    sym (ap is_lt (cut_total.congr (get_or cuts k own) own cut (at own))) ∙ before_rank cuts cut sorted k own within

-- Cuts that are equal have one subject.
same_subject : (o p : Ordering) → ordering_then o p ≡ Equal → o ≡ Equal
same_subject Less p e = e
same_subject Equal p e = refl
same_subject Greater p e = e

pub beside_equal : (one own cut : Cut) → cut_cmp one own ≡ Equal → is_beside one cut ≡ is_beside own cut
beside_equal one own cut e = ap is_eq (subject_total.congr one.subject own.subject cut.subject (same_subject (subject_cmp one.subject own.subject) _ e))

-- Cuts that rise are in order.
pub rising : (cuts : List Cut) → IsStrictlySortedBy cut_cmp cuts → IsSorted cut_cmp cuts
rising cuts rise k d low within =
    let less : cut_cmp (get_or cuts k d) (get_or cuts (k + 1) d) ≡ Less = Less-from_sorted cut_cmp cuts k (k + 1) d rise (omega arith) within in
    ap is_lt (cut_total.antisymm (get_or cuts (k + 1) d) (get_or cuts k d) ∙ ap ordering_reverse less)

-- The cuts of a list, each once, are in order.
pub deduped : (E : Cut → Cut → Bool) → ((one other : Cut) → E one other ≡ eq_by_cmp derived_cuts.it one other) → (cuts new : List Cut) → IsSorted derived_cuts.it cuts
    → IsFiltered (DiffersFromLast E) [] cuts new → IsSorted cut_cmp new
deduped E ties cuts new sorted filtered =
    let own : IsSorted cut_cmp cuts = subst (λ (R : Cut → Cut → Ordering). IsSorted R cuts) (λ i one other. cut_same one other i) sorted in
    let tied : (one other : Cut) → E one other ≡ eq_by_cmp cut_cmp one other = λ one other. ties one other ∙ ap is_eq (cut_same one other) in
    rising new (subst (IsStrictlySortedBy cut_cmp) (sym (dedup_is E cuts new filtered)) (IsStrictlySortedBy-dedup cut_total tied cuts own))
