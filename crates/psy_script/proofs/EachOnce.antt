-- As many different numbers as there are agents, or processors, each below that, list each of them once.
use Rattle.std.proofs.Common.{◌≡◌, ◌∙◌, refl, sym, subst, ℕ, suc, ◌<◌, ◌≤◌, Bool, true, false, List, [], ◌∷◌, length, true≢false, eqb, eqb-true, eq-eqb, arith}
use Rattle.std.specs.List.{All, AllByRecursion, Contains, IsDistinct, list_any}
use Rattle.std.proofs.lemmas.Bool.{or_parts}
use Rattle.std.proofs.lemmas.List.Elements.{All-cons}
use Rattle.std.proofs.lemmas.Map.Keys.{IsDistinct-cons, apart_from_distinct}
use Rattle.std.proofs.lemmas.Map.Steps.{length-le_from_distinct_below}
use Rattle.std.proofs.lemmas.Map.Views.{Contains-from_any}
use Rattle.psy_ready.specs.Choice.{ListsEach}
use Rattle.psy_script.specs.Script.{has_same}

-- Where none of them equals a number, each differs from it.
apart_from : (n : ℕ) (ns : List ℕ) → list_any (λ m. eqb n m) ns ≡ false → AllByRecursion (λ m. eqb n m ≡ false) ns
apart_from n [] none = tt
apart_from n (m ∷ ns) none = (let parts = or_parts (eqb n m) (list_any (λ m. eqb n m) ns) none in (parts.0, apart_from n ns parts.1))

-- Where no number repeats, they differ.
distinct_from : (ns : List ℕ) → has_same ns ≡ false → IsDistinct eqb ns
unfolding IsDistinct
distinct_from [] none = tt
distinct_from (n ∷ ns) none = (let parts = or_parts (list_any (λ m. eqb n m) ns) (has_same ns) none in (apart_from n ns parts.0, distinct_from ns parts.1))

-- What is found among them is below the bound.
below_from : (count : ℕ) (ns : List ℕ) → All (λ n. n < count) ns → (q : ℕ) → list_any (eqb q) ns ≡ true → q < count
below_from count ns within q found = let there = Contains-from_any (λ x y e. eqb-true x y e) q ns found in subst (λ n. n < count) there.2 (within there.0 q there.1)

-- Each is among them: with one more there would be too many.
listed : (count : ℕ) (ns : List ℕ) → All (λ n. n < count) ns → IsDistinct eqb ns → length ns ≡ count → (number : ℕ) → number < count → (found : Bool) → list_any (eqb number) ns ≡ found → Contains ns number
listed count ns within distinct full number less true found = Contains-from_any (λ x y e. eqb-true x y e) number ns found
listed count ns within distinct full number less false found =
    let more : suc (length ns) ≤ count = length-le_from_distinct_below (number ∷ ns) count (IsDistinct-cons eqb number ns (apart_from number ns found) distinct) (below_from count (number ∷ ns) (All-cons (λ n. n < count) number ns less within)) in
    absurd (omega (arith, more, full))

-- As many numbers as this, each below it and none twice, are each number below it once.
pub lists_each : (count : ℕ) (ns : List ℕ) → All (λ n. n < count) ns → has_same ns ≡ false → length ns ≡ count → ListsEach count ns
lists_each count ns within none full =
    let distinct = distinct_from ns none in
    record {
      within = within;
      once = λ i j d first near same. absurd (true≢false (sym (eq-eqb _ _ same) ∙ apart_from_distinct eqb ns i j d distinct first near));
      each = λ number less. listed count ns within distinct full number less (list_any (eqb number) ns) refl;
    }
