-- Cells and what they stand for: when a place's cell rises, and when none does.
use Rattle.std.proofs.Common.{◌≡◌, ◌⊎◌, ℕ, zero, suc, ◌+◌, ◌-◌, ◌<◌, ◌≤◌, max, Bool, true, false, nat_lt, List, length, get_or, Option, None, Some, refl, sym, ap, subst, ◌∙◌, inl, inr, arith, length-set, get_or-set_other, get_or-set_same}
use Rattle.std.specs.Prelude.{slice_get, slice_set, if◌then◌else◌, ◌≢◌}
use Rattle.std.specs.List.{Contains}
use Rattle.std.proofs.lemmas.Bool.{cases_lt, false≢true}
use Rattle.std.proofs.lemmas.List.Sums.{sum_by-set}
use Rattle.psy_code.specs.declared.instr.Instr.{Instr}
use Rattle.psy_meaning.specs.CodeWays.{GoesOn, later}
use Rattle.psy_flow.specs.declared.quests.Quest.{Quest}
use Rattle.psy_flow.specs.Quests.{HasCount, counted, ends, ends_here, goes_on, part_of}
use Rattle.psy_flow.specs.Walks.{ArePassed, MayFollow, onward_of}
use Rattle.psy_flow.specs.Worths.{AreFound, AreSettled, AreSmall, AreTops, and_more, best_at, best_of, cell_of, room_of, worth_at, worth_of}
use Rattle.psy_flow.proofs.Onwards.{goes_if, one_of}
use Rattle.psy_flow.proofs.PartKinds.{no_way_on}

-- ---- numbers

max_is : (a b m : ℕ) → max a b ≡ suc m → (a ≡ suc m) ⊎ (b ≡ suc m)
max_is a b m e = elim (cases_lt a b) [ inl less ↦ inr (omega (arith, e, less)) | inr not ↦ inl (omega (arith, e, not)) ]

pub same_or_not : (a b : ℕ) → (a ≡ b) ⊎ (a ≢ b)
same_or_not a b = elim (cases_lt a b) [
  | inl less ↦ inr (λ e. omega (arith, e, less))
  | inr not ↦ elim (cases_lt b a) [ inl more ↦ inr (λ e. omega (arith, e, more)) | inr also ↦ inl (omega (arith, not, also)) ]
]

-- ---- one cell more

-- A cell of a row is raised to what its place is worth, where that is more.
pub record IsRaised (most : ℕ) (row after : List ℕ) (place worth : ℕ) (rose : Bool) : Type 0 where
  pub count : length after ≡ length row
  pub there : get_or after place 0 ≡ max (get_or row place 0) worth
  pub others : (q : ℕ) → q ≢ place → get_or after q 0 ≡ get_or row q 0
  pub kept : rose ≡ false → (after ≡ row) × (worth ≤ get_or row place 0)
  pub room : rose ≡ true → get_or row place 0 ≤ most + 1 → room_of most after < room_of most row

raised_by : (most : ℕ) (row after : List ℕ) (place worth : ℕ) (b : Bool) → place < length row → nat_lt (get_or row place 0) worth ≡ b → after ≡ (if b then slice_set row place worth else row) → IsRaised most row after place worth b
raised_by most row after place worth true inside more is =
    let less : get_or row place 0 < worth = grind (arith, more) in
    let same : get_or after place 0 ≡ worth = ap (λ r. get_or r place 0) is ∙ get_or-set_same row place worth 0 inside in
    let sums = sum_by-set (λ cell. (most + 2) - cell) row place worth 0 inside in
    let left : room_of most after ≡ room_of most (slice_set row place worth) = ap (room_of most) is in
    record {
      count = ap length is ∙ length-set row place worth;
      there = omega (arith, same, less);
      others = λ q other. ap (λ r. get_or r q 0) is ∙ get_or-set_other row place q worth 0 other;
      kept = λ e. absurd (false≢true (sym e));
      room = λ e small. omega (arith, sums, left, small, less);
    }
raised_by most row after place worth false inside more is =
    let not : worth ≤ get_or row place 0 = grind (arith, more) in
    let same : get_or after place 0 ≡ get_or row place 0 = ap (λ r. get_or r place 0) is in
    record {
      count = ap length is;
      there = omega (arith, same, not);
      others = λ q other. ap (λ r. get_or r q 0) is;
      kept = λ e. (is, not);
      room = λ e small. absurd (false≢true e);
    }

pub raised : (most : ℕ) (row after : List ℕ) (place worth : ℕ) (rose : Bool) → place < length row → rose ≡ nat_lt (get_or row place 0) worth → after ≡ (if nat_lt (get_or row place 0) worth then slice_set row place worth else row) → IsRaised most row after place worth rose
raised most row after place worth rose inside told is =
    subst (IsRaised most row after place worth) (sym told) (raised_by most row after place worth (nat_lt (get_or row place 0) worth) inside refl is)

-- ---- cells that stand for ways

module _ (instrs : List Instr) (quest : Quest) (places : List ℕ) where
  abbrev Counts : ℕ → ℕ → Type 0
  Counts = HasCount instrs quest

  module _ (row : List ℕ) (found : AreFound instrs quest places row) (place : ℕ) (i : Instr) (may : MayFollow instrs places place) (at : slice_get instrs place ≡ Some i) where
    cell_found : (to : Option ℕ) → ((next : ℕ) → Some next ≡ to → GoesOn i place next) → (m : ℕ) → cell_of row to ≡ suc m → (next : ℕ) × GoesOn i place next × Counts next m
    cell_found None on m e = absurd (omega (arith, e))
    cell_found (Some next) on m e = let goes = on next refl in (next, goes, found.each next m (may next i at goes) e)

    best_found : (m : ℕ) → best_of row (onward_of i place) ≡ suc m → (next : ℕ) × GoesOn i place next × Counts next m
    best_found m e = elim (max_is (cell_of row (onward_of i place).next) (cell_of row (onward_of i place).jump) m e) [
      | inl a ↦ cell_found (onward_of i place).next (λ next is. goes_if i place next (inl is)) m a
      | inr b ↦ cell_found (onward_of i place).jump (λ next is. goes_if i place next (inr is)) m b
    ]

    more_found : (best n : ℕ) → best_of row (onward_of i place) ≡ best → and_more best (counted (part_of i) quest) ≡ suc n → Counts place n
    more_found zero n is e = absurd (omega (arith, e))
    more_found (suc m) n is e = let (next, on, has) = best_found m is in goes_on place next n m i at on has (omega (arith, e))

    worth_by : (b : Bool) → ends (part_of i) quest ≡ b → (n : ℕ) → (if b then 1 else and_more (best_of row (onward_of i place)) (counted (part_of i) quest)) ≡ suc n → Counts place n
    worth_by true end n e = ends_here place n i at end (omega (arith, e))
    worth_by false end n e = more_found (best_of row (onward_of i place)) n refl e

    worth_found : (n : ℕ) → worth_at quest instrs row place ≡ suc n → Counts place n
    worth_found n e = worth_by (ends (part_of i) quest) refl n (ap (worth_of quest row place) (sym at) ∙ e)

    pub raised_found : (most : ℕ) (after : List ℕ) (rose : Bool) → IsRaised most row after place (worth_at quest instrs row place) rose → AreFound instrs quest places after
    raised_found most after rose is = record {
      each = λ q n has e. elim (same_or_not q place) [
        | inl same ↦ (
            let here : max (get_or row place 0) (worth_at quest instrs row place) ≡ suc n = sym is.there ∙ ap (λ p. get_or after p 0) (sym same) ∙ e in
            subst (λ p. Counts p n) (sym same) (elim (max_is (get_or row place 0) (worth_at quest instrs row place) n here) [
              | inl a ↦ found.each place n (subst (Contains places) same has) a
              | inr b ↦ worth_found n b
            ]))
        | inr other ↦ found.each q n has (sym (is.others q other) ∙ e)
      ];
    }

  pub raised_small : (most : ℕ) (row after : List ℕ) (place worth : ℕ) (rose : Bool) → IsRaised most row after place worth rose → AreSmall most places row → get_or after place 0 ≤ most + 1 → AreSmall most places after
  raised_small most row after place worth rose is small low q has = elim (same_or_not q place) [
    | inl same ↦ omega (arith, ap (λ p. get_or after p 0) same, low)
    | inr other ↦ omega (arith, is.others q other, small q has)
  ]

  pub beyond_found : (most : ℕ) (row : List ℕ) (place : ℕ) → AreFound instrs quest places row → Contains places place → most + 1 < get_or row place 0 → (p n : ℕ) × Contains places p × Counts p n × (most < n)
  beyond_found most row place found has more =
      let n = get_or row place 0 - 1 in
      let is : get_or row place 0 ≡ suc n = omega (arith, more) in
      (place, n, has, found.each place n has is, omega (arith, is, more))

  cell_small : (most : ℕ) (row : List ℕ) (place : ℕ) (i : Instr) → MayFollow instrs places place → slice_get instrs place ≡ Some i → AreSmall most places row → (to : Option ℕ) → ((next : ℕ) → Some next ≡ to → GoesOn i place next) → cell_of row to ≤ most + 1
  cell_small most row place i may at small None on = omega arith
  cell_small most row place i may at small (Some next) on = small next (may next i at (on next refl))

  pub best_small : (most : ℕ) (row : List ℕ) (place : ℕ) (i : Instr) → MayFollow instrs places place → slice_get instrs place ≡ Some i → AreSmall most places row → best_at instrs row place ≤ most + 1
  best_small most row place i may at small =
      rw at (
      let next = cell_small most row place i may at small (onward_of i place).next (λ n is. goes_if i place n (inl is)) in
      let jump = cell_small most row place i may at small (onward_of i place).jump (λ n is. goes_if i place n (inr is)) in
      omega (arith, next, jump))

  -- ---- all cells

  -- Where a way may go on, its cell is one of the two.
  cell_best : (row : List ℕ) (i : Instr) (place next : ℕ) → GoesOn i place next → get_or row next 0 ≤ best_of row (onward_of i place)
  cell_best row i place next on = elim (one_of i place next on) [
    | inl is ↦ (let same : get_or row next 0 ≡ cell_of row (onward_of i place).next = ap (cell_of row) is in omega (arith, same))
    | inr is ↦ (let same : get_or row next 0 ≡ cell_of row (onward_of i place).jump = ap (cell_of row) is in omega (arith, same))
  ]

  worth_more : (best n c : ℕ) → n < best → n + c < and_more best c
  worth_more zero n c less = absurd (omega (arith, less))
  worth_more (suc m) n c less = omega (arith, less)

  module _ (from : ℕ) (are : ArePassed instrs from places) (row : List ℕ) (settled : AreSettled quest instrs places row) where
    worth_there : (place : ℕ) (i : Instr) → Contains places place → slice_get instrs place ≡ Some i → worth_of quest row place (Some i) ≤ get_or row place 0
    worth_there place i has at = subst (λ o. worth_of quest row place o ≤ get_or row place 0) at (settled place has)

    by_end : (here next m k : ℕ) (i : Instr) → Contains places here → slice_get instrs here ≡ Some i → GoesOn i here next → m ≡ k + counted (part_of i) quest → k < get_or row next 0 → (b : Bool) → ends (part_of i) quest ≡ b → m < get_or row here 0
    by_end here next m k i has at on e behind true end = absurd (no_way_on i quest here next end on)
    by_end here next m k i has at on e behind false end =
        let worth : and_more (best_of row (onward_of i here)) (counted (part_of i) quest) ≤ get_or row here 0 = subst (λ b. (if b then 1 else and_more (best_of row (onward_of i here)) (counted (part_of i) quest)) ≤ get_or row here 0) end (worth_there here i has at) in
        omega (arith, e, worth, worth_more (best_of row (onward_of i here)) k (counted (part_of i) quest) (omega (arith, behind, cell_best row i here next on)))

    most_there : (place n : ℕ) → Contains places place → Counts place n → n < get_or row place 0
    most_there place n has (ends_here here m i at end e) =
        let worth : 1 ≤ get_or row here 0 = subst (λ b. (if b then 1 else and_more (best_of row (onward_of i here)) (counted (part_of i) quest)) ≤ get_or row here 0) end (worth_there here i has at) in
        omega (arith, worth, e)
    most_there place n has (goes_on here next m k i at on way e) =
        by_end here next m k i has at on e (most_there next k ((are.each next).1 (later here next i ((are.each here).0 has) at on)) way) (ends (part_of i) quest) refl

    pub tops : AreFound instrs quest places row → AreTops instrs quest places row
    tops found = record { each = λ place has. record { one = λ n e. found.each place n has e; most = λ n way. most_there place n has way } }
