-- Lists by place: one item more, and items that change one after the other.
use Rattle.std.proofs.Common.{◌≡◌, ℕ, ◌+◌, ◌<◌, ◌≤◌, Bool, false, List, drop, length, get_or, Some, refl, sym, ap, subst, ◌∙◌, inl, inr, arith, slice_set}
use Rattle.std.specs.List.{slice_get}
use Rattle.std.proofs.lemmas.Bool.{cases_eq, cases_lt}
use Rattle.std.proofs.lemmas.List.{length-set}
use Rattle.std.proofs.lemmas.Option.{slice_get_within}
use Rattle.psy_dates.specs.Movers.{IsDoneBelow, NamesAll}
use Rattle.psy_dates.proofs.lemmas.Names.{named_last, named_next}
use Rattle.psy_dates.proofs.lemmas.Sets.{get_set_other, get_set_there}

pub none_done : {X : Type 0} (made : ℕ → X → X) (xs : List X) → IsDoneBelow made 0 xs xs
none_done made xs = record { count = refl; done = λ place x l e. absurd (omega (arith, l)); ahead = λ place l. refl }

-- The next item becomes what is made of it
pub one_done : {X : Type 0} (made : ℕ → X → X) (n : ℕ) (before after next : List X) (x : X) → IsDoneBelow made n before after → slice_get before n ≡ Some x → next ≡ slice_set after n (made n x) → IsDoneBelow made (n + 1) before next
one_done {X} made n before after next x h at e =
    let there : slice_get after n ≡ Some x = h.ahead n (omega arith) ∙ at in
    let now : (place : ℕ) → slice_get next place ≡ slice_get (slice_set after n (made n x)) place = λ place. ap (λ (ys : List X). slice_get ys place) e in
    record {
      count = ap length e ∙ length-set after n (made n x) ∙ h.count;
      done = λ place y l is. elim (cases_eq place n) [
        | inl same ↦ (
            let same_item : x ≡ y = (let both : Some x ≡ Some y = sym at ∙ ap (slice_get before) (sym same) ∙ is in cc) in
            now place ∙ subst (λ k. slice_get (slice_set after n (made n x)) k ≡ Some (made k y)) (sym same) (subst (λ z. slice_get (slice_set after n (made n x)) n ≡ Some (made n z)) same_item (get_set_there after n (made n x) (slice_get_within after n x there))))
        | inr other ↦ now place ∙ get_set_other after n place (made n x) other ∙ h.done place y (omega (arith, l, other)) is
      ];
      ahead = λ place l. now place ∙ get_set_other after n place (made n x) (λ is. absurd (omega (arith, l, is))) ∙ h.ahead place (omega (arith, l));
    }

-- The next item stays as it is, where this makes nothing else of it
pub one_kept : {X : Type 0} (made : ℕ → X → X) (n : ℕ) (before after next : List X) → IsDoneBelow made n before after → ((x : X) → made n x ≡ x) → next ≡ after → IsDoneBelow made (n + 1) before next
one_kept {X} made n before after next h same e =
    let now : (place : ℕ) → slice_get next place ≡ slice_get after place = λ place. ap (λ (ys : List X). slice_get ys place) e in
    record {
      count = ap length e ∙ h.count;
      done = λ place y l is. elim (cases_eq place n) [
        | inl at ↦ now place ∙ h.ahead place (omega (arith, at)) ∙ is ∙ ap Some (sym (ap (λ k. made k y) at ∙ same y))
        | inr other ↦ now place ∙ h.done place y (omega (arith, l, other)) is
      ];
      ahead = λ place l. now place ∙ h.ahead place (omega (arith, l));
    }

-- Items up to a place stay as they are, where this makes nothing else of them
pub kept_to : {X : Type 0} (made : ℕ → X → X) (n m : ℕ) (before after : List X) → n ≤ m → ((place : ℕ) (x : X) → n ≤ place → place < m → slice_get before place ≡ Some x → made place x ≡ x) → IsDoneBelow made n before after → IsDoneBelow made m before after
kept_to made n m before after up same h = record {
  count = h.count;
  done = λ place x l is. elim (cases_lt place n) [
    | inl low ↦ h.done place x low is
    | inr high ↦ h.ahead place high ∙ is ∙ ap Some (sym (same place x high l is))
  ];
  ahead = λ place l. h.ahead place (omega (arith, up, l));
}

-- ---- items of those that a list names

-- Up to the one that is named next all is done, and the rest of the list names the others.
pub record Walked {X : Type 0} (test : ℕ → Bool) (made : ℕ → X → X) (end : ℕ) (names : List ℕ) (place : ℕ) (before after : List X) : Type 0 where
  pub next : ℕ
  pub within : next ≤ end
  pub done : IsDoneBelow made next before after
  pub left : NamesAll test end next (drop place names)

module _ {X : Type 0} (test : ℕ → Bool) (made : ℕ → X → X) (end : ℕ) (names : List ℕ) (before : List X) where
  pub walk_begun : NamesAll test end 0 names → Walked test made end names 0 before before
  walk_begun all = record { next = 0; within = omega arith; done = none_done made before; left = all }

  -- The next one that is named is as it was.
  pub walk_at : (place : ℕ) (after : List X) → place < length names → Walked test made end names place before after → slice_get after (get_or names place 0) ≡ slice_get before (get_or names place 0)
  walk_at place after l w = w.done.ahead (get_or names place 0) (named_next test end w.next names place l w.left).0

  module _ (unmade : (place : ℕ) (x : X) → slice_get before place ≡ Some x → test place ≡ false → made place x ≡ x) where
    -- The next one that is named becomes what is made of it.
    pub walk_on : (place : ℕ) (after next : List X) (x : X) → place < length names → Walked test made end names place before after → slice_get after (get_or names place 0) ≡ Some x
        → next ≡ slice_set after (get_or names place 0) (made (get_or names place 0) x) → Walked test made end names (place + 1) before next
    walk_on place after next x l w at e =
        let (up, inside, gap, rest) = named_next test end w.next names place l w.left in
        let here = kept_to made w.next (get_or names place 0) before after up (λ k y low high is. unmade k y is (gap k low high)) w.done in
        let was : slice_get before (get_or names place 0) ≡ Some x = sym (here.ahead (get_or names place 0) (omega arith)) ∙ at in
        record {
          next = get_or names place 0 + 1;
          within = omega (arith, inside);
          done = one_done made (get_or names place 0) before after next x here was e;
          left = rest;
        }

    -- So it does where this makes nothing else of it.
    pub walk_kept : (place : ℕ) (after next : List X) → place < length names → Walked test made end names place before after → test (get_or names place 0) ≡ false → next ≡ after → Walked test made end names (place + 1) before next
    walk_kept place after next l w not_it e =
        let (up, inside, gap, rest) = named_next test end w.next names place l w.left in
        let none : (k : ℕ) → w.next ≤ k → k < get_or names place 0 + 1 → test k ≡ false = λ k low high. elim (cases_eq k (get_or names place 0)) [
          | inl same ↦ ap test same ∙ not_it
          | inr other ↦ gap k low (omega (arith, high, other))
        ] in
        record {
          next = get_or names place 0 + 1;
          within = omega (arith, inside);
          done = subst (IsDoneBelow made (get_or names place 0 + 1) before) (sym e) (kept_to made w.next (get_or names place 0 + 1) before after (omega (arith, up)) (λ k y low high is. unmade k y is (none k low high)) w.done);
          left = rest;
        }

    -- Once all were gone through, all is done.
    pub walk_done : (place : ℕ) (after : List X) → length names ≤ place → Walked test made end names place before after → IsDoneBelow made end before after
    walk_done place after l w = kept_to made w.next end before after w.within (λ k y low high is. unmade k y is (named_last test end w.next names place l w.left k low high)) w.done
