-- Which round of the processors is in force at a cycle, and that each round has each of them once.
use Rattle.std.proofs.Common.{◌≡◌, ◌≢◌, refl, sym, ap, ◌∙◌, subst, inl, inr, arith, eqb, eqb-true}
use Rattle.std.specs.Prelude.{ℕ, zero, suc, ◌-◌, ◌<◌, ◌≤◌, ◌==◌, nat_le, Bool, true, false, if◌then◌else◌, List, [], ◌∷◌, length, get_or, Some, slice_get}
use Rattle.std.specs.List.{All, AllByRecursion, AllPairs, IsDistinct, list_any, range_with_len}
use Rattle.std.proofs.lemmas.Bool.{cases_eq, cond-true, cond-false, cond_both, eqb-false, le-leb, lt-leb, ne_eqb}
use Rattle.std.proofs.lemmas.Cmp.{nat_eq_equiv}
use Rattle.std.proofs.lemmas.List.{get_or_default}
use Rattle.std.proofs.lemmas.List.Elements.{All-head, All-tail}
use Rattle.std.proofs.lemmas.Map.Steps.{le-length_from_below, length-le_from_distinct_below}
use Rattle.std.proofs.lemmas.Map.Views.{Contains-from_any, list_any-from_Contains}
use Rattle.std.proofs.lemmas.Option.{get_or_from_slice_get, slice_get_within, slice_get-get_or}
use Rattle.psy_ready.specs.Choice.{ListsEach}
use Rattle.psy_tree.specs.declared.unit.Unit.{Unit as Whole}
use Rattle.psy_history.specs.Processors.{processors}
use Rattle.psy_history.specs.Scripts.{IsRound, IsScript, round_in, round_of}
use Rattle.psy_history.specs.declared.told.Round.{Round}
use Rattle.psy_history.specs.declared.told.Script.{Script}
use Rattle.psy_kernel.specs.Kernels.{AreTurned, round_by}
use Rattle.psy_kernel.proofs.OrdersInForce.{lists_declared}

-- ---- each round lists all processors

lists_in : (unit : Whole) (round : List ℕ) (rounds : List Round) (cycle : ℕ) → ListsEach (processors unit) round → All (IsRound unit) rounds → ListsEach (processors unit) (round_in round rounds cycle)
lists_in unit round [] cycle h all = h
lists_in unit round (r ∷ rounds) cycle h all =
    cond_both (nat_le r.cycle cycle) (round_in r.processors rounds cycle) round (ListsEach (processors unit))
    (λ _. lists_in unit r.processors rounds cycle (IsRound.processors (All-head (IsRound unit) r rounds all)) (All-tail (IsRound unit) r rounds all)) (λ _. h)

pub lists_round : (unit : Whole) (script : Script) (cycle : ℕ) → IsScript unit script → ListsEach (processors unit) (round_of unit script cycle)
lists_round unit script cycle h = lists_in unit (range_with_len 0 (processors unit)) script.rounds cycle (lists_declared (processors unit)) h.rounds

apart_from : (n : ℕ) (ns : List ℕ) → ((k d : ℕ) → k < length ns → n ≢ get_or ns k d) → AllByRecursion (λ m. eqb n m ≡ false) ns
apart_from n [] differs = tt
apart_from n (m ∷ ns) differs = (ne_eqb n m (differs 0 0 (omega arith)), apart_from n ns (λ k d less. differs (suc k) d (omega (arith, less))))

distinct_from : (ns : List ℕ) → AllPairs (λ a b. a ≢ b) ns → IsDistinct eqb ns
unfolding IsDistinct
distinct_from [] pairs = tt
distinct_from (n ∷ ns) pairs =
    (apart_from n ns (λ k d less. pairs 0 (suc k) d (omega arith) (omega (arith, less))), distinct_from ns (λ i j d first near. pairs (suc i) (suc j) d (omega (arith, first)) (omega (arith, near))))

-- A list that lists each of so many is as long as they are many.
pub lists_as_many : (n : ℕ) (ns : List ℕ) → ListsEach n ns → length ns ≡ n
lists_as_many n ns h =
    let few = length-le_from_distinct_below ns n (distinct_from ns h.once) below in
    let many = le-length_from_below ns n (λ q less. list_any-from_Contains nat_eq_equiv q ns (h.each q less)) in
    omega (arith, few, many)
  where
    below : (q : ℕ) → list_any (eqb q) ns ≡ true → q < n
    below q found = let there = Contains-from_any (λ x y e. eqb-true x y e) q ns found in subst (λ m. m < n) there.2 (h.within there.0 q there.1)

-- ---- the round that is in force

behind : (r : Round) (rounds : List Round) (turned cycle : ℕ) → AreTurned (r ∷ rounds) (suc turned) cycle → AreTurned rounds turned cycle
behind r rounds turned cycle h = record {
  within = omega (arith, h.within);
  come = λ place q at less. h.come (suc place) q at (omega (arith, less));
  ahead = λ place q at more. h.ahead (suc place) q at (omega (arith, more));
}

-- The round of the last of some that have come into force
round_last : (declared : List ℕ) (rounds : List Round) (turned : ℕ) → round_by declared rounds (suc turned) ≡ (get_or rounds turned (record { cycle = 0; processors = declared })).processors
round_last declared rounds turned =
    cond-false (suc turned == 0) declared (get_or rounds (suc turned - 1) (record { cycle = 0; processors = declared })).processors (ne_eqb (suc turned) 0 (λ e. absurd (omega (arith, e))))
    ∙ ap (λ place. (get_or rounds place (record { cycle = 0; processors = declared })).processors) (let e : suc turned - 1 ≡ turned = omega arith in e)

round_suc : (declared : List ℕ) (r : Round) (rounds : List Round) (turned : ℕ) → turned ≤ length rounds → round_by r.processors rounds turned ≡ round_by declared (r ∷ rounds) (suc turned)
round_suc declared r rounds zero within = sym (round_last declared (r ∷ rounds) zero)
round_suc declared r rounds (suc turned) within =
    round_last r.processors rounds turned
    ∙ ap (λ (q : Round). q.processors) (get_or_default rounds turned (record { cycle = 0; processors = r.processors }) (record { cycle = 0; processors = declared }) (omega (arith, within)))
    ∙ sym (round_last declared (r ∷ rounds) (suc turned))

pub round_in_is : (declared : List ℕ) (rounds : List Round) (turned cycle : ℕ) → AreTurned rounds turned cycle → round_in declared rounds cycle ≡ round_by declared rounds turned
round_in_is declared [] zero cycle h = refl
round_in_is declared [] (suc turned) cycle h = absurd (omega (arith, h.within))
round_in_is declared (r ∷ rounds) zero cycle h =
    cond-false (nat_le r.cycle cycle) (round_in r.processors rounds cycle) declared (lt-leb r.cycle cycle (h.ahead zero r refl (omega arith)))
round_in_is declared (r ∷ rounds) (suc turned) cycle h =
    cond-true (nat_le r.cycle cycle) (round_in r.processors rounds cycle) declared (le-leb r.cycle cycle (h.come zero r refl (omega arith)))
    ∙ round_in_is r.processors rounds turned cycle (behind r rounds turned cycle h)
    ∙ round_suc declared r rounds turned (omega (arith, h.within))

-- ---- a later cycle

module _ (rounds : List Round) (rise : AllPairs (λ (r : Round) (q : Round). r.cycle < q.cycle) rounds) where
  -- a round behind another comes later
  later : (place more : ℕ) (r q : Round) → slice_get rounds place ≡ Some r → slice_get rounds more ≡ Some q → place < more → r.cycle < q.cycle
  later place more r q at at' less =
      let rises = rise place more r less (slice_get_within rounds more q at') in
      let a = ap (λ (t : Round). t.cycle) (get_or_from_slice_get rounds place r r at) in
      let b = ap (λ (t : Round). t.cycle) (get_or_from_slice_get rounds more q r at') in
      omega (arith, rises, a, b)

  -- where the next round comes later than a cycle, so do all that haven't come into force
  pub all_later : (turned next : ℕ) → ((r : Round) → slice_get rounds turned ≡ Some r → next < r.cycle) → (place : ℕ) (r : Round) → slice_get rounds place ≡ Some r → turned ≤ place → next < r.cycle
  all_later turned next ahead place r at more = elim (cases_eq place turned) [
    | inl same ↦ ahead r (ap (slice_get rounds) (sym same) ∙ at)
    | inr other ↦ (let low : turned < place = grind (arith, other, more) in past place r at low)
  ]
    where
      past : (place : ℕ) (r : Round) → slice_get rounds place ≡ Some r → turned < place → next < r.cycle
      past place r at low =
          let within : turned < length rounds = omega (arith, slice_get_within rounds place r at, low) in
          let first = slice_get-get_or rounds turned r within in
          omega (arith, later turned place (get_or rounds turned r) r first at low, ahead (get_or rounds turned r) first)

  -- at cycle 0 the first round has come at most
  pub turned_at_first : (first : Round) (b : Bool) → slice_get rounds 0 ≡ Some first → (first.cycle == 0) ≡ b → AreTurned rounds (if b then 1 else 0) 0
  turned_at_first first true head e =
      let zero_first = eqb-true first.cycle 0 e in
      record {
        within = omega (arith, slice_get_within rounds 0 first head);
        come = λ place r at less. (let here : slice_get rounds 0 ≡ Some r = subst (λ n. slice_get rounds n ≡ Some r) (omega (arith, less)) at in let both : Some first ≡ Some r = sym head ∙ here in let same : first ≡ r = cc in omega (arith, zero_first, ap (λ (q : Round). q.cycle) same));
        ahead = λ place r at more. omega (arith, later 0 place first r head at (omega (arith, more)), zero_first);
      }
  turned_at_first first false head e =
      let differs = eqb-false first.cycle 0 e in
      record {
        within = omega arith;
        come = λ place r at less. absurd (omega (arith, less));
        ahead = λ place r at more. all_later 0 0 (λ r at. (let both : Some first ≡ Some r = sym head ∙ at in let same : first ≡ r = cc in omega (arith, above first.cycle differs, ap (λ (q : Round). q.cycle) same))) place r at more;
      }
    where
      above : (n : ℕ) → (n ≡ 0 → ⊥) → 0 < n
      above n differs = grind (arith, differs)
