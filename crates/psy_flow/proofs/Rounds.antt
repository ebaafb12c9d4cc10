-- Ways that pass something twice that is counted: from there on there is no greatest count.
use Rattle.std.proofs.Common.{◌≡◌, ◌⊎◌, ◌||◌, ℕ, zero, suc, ◌+◌, ◌<◌, ◌≤◌, Bool, true, false, List, [], ◌∷◌, length, get_or, eqb, filter, Some, refl, sym, ap, subst, ◌∙◌, inl, inr, arith}
use Rattle.std.specs.Prelude.{slice_get, count_by}
use Rattle.std.specs.List.{AllByRecursion, Contains, IsDistinct, list_any}
use Rattle.std.proofs.lemmas.Bool.{false≢true}
use Rattle.std.proofs.lemmas.List.{get_or_default}
use Rattle.std.proofs.lemmas.List.Sums.{length-filter}
use Rattle.std.proofs.lemmas.Map.Keys.{IsDistinct-cons}
use Rattle.std.proofs.lemmas.Map.Steps.{length-le_from_distinct_below}
use Rattle.psy_lists.proofs.lemmas.Tests.{or_right}
use Rattle.psy_code.specs.declared.instr.Instr.{Instr}
use Rattle.psy_meaning.specs.CodeWays.{GoesOn, IsPassed, IsUnbounded, first, later}
use Rattle.psy_flow.specs.declared.quests.Quest.{Quest}
use Rattle.psy_flow.specs.Walks.{ArePassed}
use Rattle.psy_flow.proofs.PartKinds.{counts_none, counts_one}
use Rattle.psy_flow.specs.Quests.{HasCount, counted, counts, ends_here, goes_on, is_counted, is_counted_at, part_of}

-- ---- numbers that differ

none_distinct : IsDistinct eqb []
unfolding IsDistinct
none_distinct = tt

differs : (k : ℕ) (ks : List ℕ) → list_any (eqb k) ks ≡ false → AllByRecursion (λ y. eqb k y ≡ false) ks
differs k [] e = tt
differs k (y ∷ ys) e = (or_left (eqb k y) (list_any (eqb k) ys) e, differs k ys (or_right (eqb k y) (list_any (eqb k) ys) e))
  where
    or_left : (a b : Bool) → (a || b) ≡ false → a ≡ false
    or_left true b h = h
    or_left false b h = refl

distinct_more : (k : ℕ) (ks : List ℕ) → list_any (eqb k) ks ≡ false → IsDistinct eqb ks → IsDistinct eqb (k ∷ ks)
distinct_more k ks new distinct = IsDistinct-cons eqb k ks (differs k ks new) distinct

one_further : (y x : ℕ) (zs : List ℕ) → Contains zs x → Contains (y ∷ zs) x
one_further y x zs (k, less, is) = (suc k, omega (arith, less), is)

keep : (p : ℕ → Bool) (y : ℕ) (ys : List ℕ) (x : ℕ) → p x ≡ true → (Contains ys x → Contains (filter p ys) x) → (b : Bool) → p y ≡ b → Contains (y ∷ ys) x → Contains (filter p (y ∷ ys)) x
keep p y ys x so rest true e (zero, less, is) = rw e (0, omega arith, is)
keep p y ys x so rest true e (suc k, less, is) = rw e (one_further y x (filter p ys) (rest (k, omega (arith, less), is)))
keep p y ys x so rest false e (zero, less, is) = absurd (false≢true (sym e ∙ ap p is ∙ so))
keep p y ys x so rest false e (suc k, less, is) = rw e (rest (k, omega (arith, less), is))

-- What passes a test stands among those that pass it.
filter_has : (p : ℕ → Bool) (xs : List ℕ) (x : ℕ) → Contains xs x → p x ≡ true → Contains (filter p xs) x
filter_has p [] x (k, less, is) so = absurd (omega (arith, less))
filter_has p (y ∷ ys) x has so = keep p y ys x so (λ c. filter_has p ys x c so) (p y) refl has

-- ---- rounds

module _ (instrs : List Instr) (quest : Quest) where
  abbrev Counts : ℕ → ℕ → Type 0
  Counts = HasCount instrs quest

  -- A count behind a place that is passed is at most one before.
  pub before_count : (from place n : ℕ) → IsPassed instrs from place → Counts place n → (m : ℕ) × (n ≤ m) × Counts from m
  before_count from place n first has = (n, omega arith, has)
  before_count from place n (later before next i passed at on) has =
      let c = counted (part_of i) quest in
      let (m, less, so) = before_count from before (n + c) passed (goes_on before place (n + c) n i at on has refl) in
      (m, omega (arith, less), so)

  -- A way comes back to the place, which is counted.
  pub record IsRound (place : ℕ) : Type 0 where
    pub next : ℕ
    pub instr : Instr
    pub at : slice_get instrs place ≡ Some instr
    pub on : GoesOn instr place next
    pub counted_there : counts (part_of instr) quest ≡ true
    pub back : IsPassed instrs next place

  once_more : (place n : ℕ) → IsRound place → Counts place n → (m : ℕ) × (n < m) × Counts place m
  once_more place n round has =
      let (m, less, so) = before_count round.next place n round.back has in
      let one : counted (part_of round.instr) quest ≡ 1 = counts_one (part_of round.instr) quest round.counted_there in
      (m + 1, omega (arith, less), goes_on place round.next (m + 1) m round.instr round.at round.on so (omega (arith, one)))

  any_more : (place n : ℕ) → IsRound place → Counts place n → (m : ℕ) → (k : ℕ) × (m < k) × Counts place k
  any_more place n round has zero =
      let (k, less, so) = once_more place n round has in (k, omega (arith, less), so)
  any_more place n round has (suc m) =
      let (k, less, so) = any_more place n round has m in
      let (j, further, also) = once_more place k round so in
      (j, omega (arith, less, further), also)

  pub round_unbounded : (from place n : ℕ) → IsPassed instrs from place → IsRound place → Counts place n → IsUnbounded (Counts from)
  round_unbounded from place n passed round has m =
      let (k, less, so) = any_more place n round has m in
      let (j, further, also) = before_count from place k passed so in
      (j, also, omega (arith, less, further))

  -- ---- a way that counts more than there is

  -- Of those that are counted, some by their numbers, each no more than once
  module _ (from : ℕ) (marked : List ℕ) (each : (place : ℕ) → IsPassed instrs from place → is_counted_at instrs quest place ≡ true → Contains marked place) where
    -- A way from what has this number comes to the place.
    abbrev IsBehind : ℕ → ℕ → Type 0
    IsBehind place k = (next : ℕ) × (i : Instr) × (slice_get instrs (get_or marked k 0) ≡ Some i) × GoesOn i (get_or marked k 0) next × (counts (part_of i) quest ≡ true) × IsPassed instrs next place

    abbrev AreBehind : ℕ → List ℕ → Type 0
    AreBehind place seen = (k : ℕ) → list_any (eqb k) seen ≡ true → (k < length marked) × IsBehind place k

    abbrev Found : Type 0
    Found = (place : ℕ) × (n : ℕ) × IsPassed instrs from place × IsRound place × Counts place n

    abbrev Bounded : ℕ → Type 0
    Bounded n = (numbers : List ℕ) × IsDistinct eqb numbers × ((k : ℕ) → list_any (eqb k) numbers ≡ true → k < length marked) × (length numbers ≡ n)

    behind_on : (place next : ℕ) (i : Instr) (seen : List ℕ) → slice_get instrs place ≡ Some i → GoesOn i place next → AreBehind place seen → AreBehind next seen
    behind_on place next i seen at on behind k has =
        let (less, (after, j, there, went, is, passed)) = behind k has in
        (less, (after, j, there, went, is, later place next i passed at on))

    behind_more : (place next k : ℕ) (i : Instr) (seen : List ℕ) → slice_get instrs place ≡ Some i → GoesOn i place next → counts (part_of i) quest ≡ true → k < length marked → get_or marked k 0 ≡ place → AreBehind next seen → AreBehind next (k ∷ seen)
    behind_more place next k i seen at on is less here behind j has = split (eqb j k) refl
      where
        split : (b : Bool) → eqb j k ≡ b → (j < length marked) × IsBehind next j
        split true e =
            let same : j ≡ k = grind (arith, e) in
            let there : get_or marked j 0 ≡ place = ap (λ m. get_or marked m 0) same ∙ here in
            (omega (arith, same, less), (next, i, ap (slice_get instrs) there ∙ at, subst (λ p. GoesOn i p next) (sym there) on, is, first))
        split false e = behind j (subst (λ b. (b || list_any (eqb j) seen) ≡ true) e has)

    -- One place more of a way, once the rest of it is known
    module _ (here next m k : ℕ) (i : Instr) (seen : List ℕ) (at : slice_get instrs here ≡ Some i) (on : GoesOn i here next) (has : Counts here m) (e : m ≡ k + counted (part_of i) quest) (passed : IsPassed instrs from here) (distinct : IsDistinct eqb seen) (behind : AreBehind here seen)
        (rest : (more : List ℕ) → IsDistinct eqb more → AreBehind next more → Found ⊎ Bounded (k + length more)) where
      by_seen : (number : ℕ) → number < length marked → get_or marked number 0 ≡ here → counts (part_of i) quest ≡ true → (b : Bool) → list_any (eqb number) seen ≡ b → Found ⊎ Bounded (m + length seen)
      by_seen number less is counts_here true told =
          let (low, (after, j, there, went, so, back)) = behind number told in
          inl (
            here,
            m,
            passed,
            record {
              next = after;
              instr = j;
              at = subst (λ p. slice_get instrs p ≡ Some j) is there;
              on = subst (λ p. GoesOn j p after) is went;
              counted_there = so;
              back = back;
            },
            has,
          )
      by_seen number less is counts_here false told =
          let one = counts_one (part_of i) quest counts_here in
          let same : k + suc (length seen) ≡ m + length seen = omega (arith, e, one) in
          subst (λ c. Found ⊎ Bounded c) same (rest (number ∷ seen) (distinct_more number seen told distinct) (behind_more here next number i seen at on counts_here less is (behind_on here next i seen at on behind)))

      by_count : (b : Bool) → counts (part_of i) quest ≡ b → Found ⊎ Bounded (m + length seen)
      by_count false is =
          let none = counts_none (part_of i) quest is in
          let same : k + length seen ≡ m + length seen = omega (arith, e, none) in
          subst (λ c. Found ⊎ Bounded c) same (rest seen distinct (behind_on here next i seen at on behind))
      by_count true is =
          let (number, less, there) = each here passed (ap (is_counted quest) at ∙ is) in
          by_seen number less (get_or_default marked number 0 here less ∙ there) is (list_any (eqb number) seen) refl

    walk : (place n : ℕ) (seen : List ℕ) → Counts place n → IsPassed instrs from place → IsDistinct eqb seen → AreBehind place seen → Found ⊎ Bounded (n + length seen)
    walk place n seen (ends_here here m i at end e) passed distinct behind = inr (seen, distinct, (λ k has. (behind k has).0), omega (arith, e))
    walk place n seen (goes_on here next m k i at on has e) passed distinct behind =
        by_count here next m k i seen at on (goes_on here next m k i at on has e) e passed distinct behind
        (λ more distinct_also also. walk next k more has (later here next i passed at on) distinct_also also)
        (counts (part_of i) quest) refl

  -- On the places that are passed no way counts more than there is, or there is no greatest count.
  pub beyond : (from place n : ℕ) (places : List ℕ) → ArePassed instrs from places → Contains places place → Counts place n → count_by (is_counted_at instrs quest) places < n → IsUnbounded (Counts from)
  beyond from place n places are here has more =
      let marked : List ℕ = filter (is_counted_at instrs quest) places in
      let each : (p : ℕ) → IsPassed instrs from p → is_counted_at instrs quest p ≡ true → Contains marked p = λ p passed is. filter_has (is_counted_at instrs quest) places p ((are.each p).1 passed) is in
      elim (walk from marked each place n [] has ((are.each place).0 here) none_distinct (λ k told. absurd (false≢true told))) [
        | inl (at, m, passed, round, so) ↦ round_unbounded from at m passed round so
        | inr (numbers, distinct, below, count) ↦ absurd (omega (arith, count, length-le_from_distinct_below numbers (length marked) distinct below, length-filter (is_counted_at instrs quest) places, more))
      ]
