-- The paths of a graph whose actions all last ten ticks and weigh the same.
use Rattle.std.proofs.Common.{◌≡◌, ℕ, zero, suc, ◌+◌, ◌*◌, ◌<◌, ◌≤◌, List, [], ◌∷◌, length, refl, sym, ap, ap₂, subst, ◌∙◌, arith}
use Rattle.std.specs.Prelude.{◌/◌}
use Rattle.std.specs.List.{Contains}
use Rattle.std.proofs.lemmas.Nat.{mul-le}
use Rattle.std.proofs.Math.Nat.{mul_assoc, mul_comm, suc-mul}
use Rattle.psy_base.specs.declared.edge.Edge.{Edge}
use Rattle.psy_base.specs.Paths.{DueBy, FitsDueLast, FitsFirstFree, IsGreatestWeight, IsPathFrom, length_of, weight_of}
use Rattle.psy_tree.specs.declared.unit.Unit.{Unit as Whole}
use Rattle.psy_history.specs.Processors.{edges_for, processors}
use Rattle.psy_meaning.specs.Demand.{IsFeasible}
use Rattle.psy_byhand.proofs.LapGraph.{lap, laps_of}

-- A program's only processor supplies what all agents may demand.
abbrev pub Alone : Type 0
Alone = (unit : Whole) (graphs : List (List Edge)) (quantum until : ℕ) → processors unit ≡ 1 → IsFeasible graphs quantum until
    → (processor : ℕ) → processor < processors unit → IsFeasible (edges_for unit processor graphs) quantum until

module _ (weight : ℕ) where
  abbrev edges : List Edge
  edges = laps_of weight

  record IsAlike (e : Edge) : Type 0 where
    len : e.len ≡ 10
    due : e.due ≡ 10
    weighs : e.weight ≡ weight

  alike : (e : Edge) → Contains edges e → IsAlike e
  alike e (zero, l, is) = subst IsAlike is (record { len = refl; due = refl; weighs = refl })
  alike e (suc zero, l, is) = subst IsAlike is (record { len = refl; due = refl; weighs = refl })
  alike e (suc (suc k), l, is) = absurd (omega (arith, l))

  -- ---- any path

  weight_is : (node : ℕ) (path : List Edge) → IsPathFrom edges node path → weight_of path ≡ length path * weight
  weight_is node [] is = omega arith
  weight_is node (e ∷ path) (there, from, rest) =
      ap₂ (λ (a b : ℕ). a + b) (alike e there).weighs (weight_is e.to path rest) ∙ omega (arith, suc-mul (length path) weight)

  length_is : (node : ℕ) (path : List Edge) → IsPathFrom edges node path → length_of path ≡ length path * 10
  length_is node [] is = refl
  length_is node (e ∷ path) (there, from, rest) = omega (arith, (alike e there).len, length_is e.to path rest)

  due_long : (by start node : ℕ) (e : Edge) (path : List Edge) → IsPathFrom edges node (e ∷ path) → DueBy by start (e ∷ path) → start + 10 * length (e ∷ path) ≤ by
  due_long by start node e [] (there, from, rest) due = omega (arith, due, (alike e there).due)
  due_long by start node e (f ∷ path) (there, from, rest) due =
      let later = due_long by (start + e.len) e.to f path rest due in
      omega (arith, later, (alike e there).len)

  due_few : (by node : ℕ) (path : List Edge) → IsPathFrom edges node path → FitsDueLast by path → length path ≤ by / 10
  due_few by node [] is due = omega arith
  due_few by node (e ∷ path) is due = (let long = due_long by 0 node e path is due in omega (arith, long))

  free_few : (by node : ℕ) (path : List Edge) → IsPathFrom edges node path → FitsFirstFree by path → length path ≤ by / 10 + 1
  free_few by node [] is free = omega arith
  free_few by node (e ∷ path) (there, from, rest) free = (let long = length_is e.to path rest in omega (arith, long, free))

  -- ---- the path from the head on

  abbrev on : ℕ → List Edge
  on zero = []
  on (suc n) = lap 1 weight ∷ on n

  abbrev trip : ℕ → List Edge
  trip zero = []
  trip (suc n) = lap 0 weight ∷ on n

  on_path : (n : ℕ) → IsPathFrom edges 1 (on n)
  on_path zero = tt
  on_path (suc n) = ((1, omega arith, refl), refl, on_path n)

  trip_path : (n : ℕ) → IsPathFrom edges 0 (trip n)
  trip_path zero = tt
  trip_path (suc n) = ((0, omega arith, refl), refl, on_path n)

  on_many : (n : ℕ) → length (on n) ≡ n
  on_many zero = refl
  on_many (suc n) = ap suc (on_many n)

  trip_many : (n : ℕ) → length (trip n) ≡ n
  trip_many zero = refl
  trip_many (suc n) = ap suc (on_many n)

  trip_weight : (n : ℕ) → weight_of (trip n) ≡ n * weight
  trip_weight n = weight_is 0 (trip n) (trip_path n) ∙ ap (λ k. k * weight) (trip_many n)

  on_due : (by start from n : ℕ) → start + 10 * suc n ≤ by → DueBy by start (lap from weight ∷ on n)
  on_due by start from zero within = omega (arith, within)
  on_due by start from (suc n) within = on_due by (start + 10) 1 n (omega (arith, within))

  trip_due : (by n : ℕ) → 10 * n ≤ by → DueBy by 0 (trip n)
  trip_due by zero within = tt
  trip_due by (suc n) within = on_due by 0 0 n (omega (arith, within))

  no_more : (path : List Edge) (node most : ℕ) → IsPathFrom edges node path → length path ≤ most → weight_of path ≤ most * weight
  no_more path node most is few = subst (λ w. w ≤ most * weight) (sym (weight_is node path is)) (mul-le (length path) weight most weight few (omega arith))

  -- The greatest weight of those that are due within a length: of one action in each ten ticks of it
  pub greatest_due : (by : ℕ) → IsGreatestWeight edges (FitsDueLast by) (by / 10 * weight)
  greatest_due by = record {
    one = (trip (by / 10), (0, trip_path (by / 10)), trip_due by (by / 10) (omega arith), trip_weight (by / 10));
    most = λ path is due. no_more path is.0 (by / 10) is.1 (due_few by is.0 path is.1 due);
  }

  -- The greatest weight of those whose first action is free: of one more
  pub greatest_free : (by : ℕ) → IsGreatestWeight edges (FitsFirstFree by) ((by / 10 + 1) * weight)
  greatest_free by =
      let n = by / 10 in
      let long = length_is 1 (on n) (on_path n) in
      let many = on_many n in
      let fits : length_of (on n) ≤ by = omega (arith, long, many) in
      let next : n + 1 ≡ suc n = omega arith in
      record {
        one = (trip (n + 1), (0, trip_path (n + 1)), subst (λ k. FitsFirstFree by (trip k)) (sym next) fits, trip_weight (n + 1));
        most = λ path is free. no_more path is.0 (n + 1) is.1 (free_few by is.0 path is.1 free);
      }

-- What is asked in each ten ticks, a processor can supply that has as much in ten ticks.
pub supplied : (budget quantum by : ℕ) → budget ≤ 10 * quantum → by / 10 * budget ≤ quantum * by
supplied budget quantum by enough =
    let n = by / 10 in
    let turns : 10 * (quantum * n) ≡ quantum * n * 10 = omega arith in
    let turned : n * (10 * quantum) ≡ quantum * (n * 10) = mul_comm n (10 * quantum) ∙ mul_assoc 10 quantum n ∙ turns ∙ mul_assoc quantum n 10 in
    let most = mul-le n budget n (10 * quantum) (omega arith) enough in
    let all = mul-le quantum (n * 10) quantum by (omega arith) (omega arith) in
    omega (arith, most, turned, all)
