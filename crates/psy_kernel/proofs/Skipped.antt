-- Places that are passed over, since nothing is told there.
use Rattle.std.proofs.Common.{◌≡◌, ℕ, zero, suc, ◌+◌, ◌-◌, ◌<◌, ◌≤◌, Bool, false, List, [], drop, length, get_or, ap, ◌∙◌, arith}
use Rattle.psy_dates.specs.Movers.{NamesAll}
use Rattle.psy_dates.proofs.lemmas.Names.{named_last, named_next}
use Rattle.psy_history.specs.Actions.{System}
use Rattle.psy_kernel.specs.Standing.{told_from}
use Rattle.psy_kernel.specs.Telling.{IsToldBy, places_of, told_by}
use Rattle.psy_kernel.proofs.PlacesTold.{walked_on}

-- ---- those that a list names

-- So many of a list are below a place, and the rest names those behind them.
pub record Skips (names : List ℕ) (end place at : ℕ) : Type 0 where
  pub next : ℕ
  pub low : next ≤ place
  pub left : (test : ℕ → Bool) → NamesAll test end 0 names → NamesAll test end next (drop at names)

module _ (names : List ℕ) (end place : ℕ) where
  pub skips_none : Skips names end place 0
  skips_none = record { next = 0; low = omega arith; left = λ test all. all }

  module _ (at : ℕ) (s : Skips names end place at) where
    pub skips_one : at < length names → get_or names at 0 < place → Skips names end place (at + 1)
    skips_one l below = record {
      next = get_or names at 0 + 1;
      low = omega (arith, below);
      left = λ test all. (named_next test end s.next names at l (s.left test all)).3;
    }

    -- None stands between the place and the next one that is named,
    pub skips_to : at < length names → (test : ℕ → Bool) → NamesAll test end 0 names → (k : ℕ) → place ≤ k → k < get_or names at 0 → test k ≡ false
    skips_to l test all k low high = (named_next test end s.next names at l (s.left test all)).2 k (omega (arith, low, s.low)) high

    -- nor behind the last one.
    pub skips_all : length names ≤ at → (test : ℕ → Bool) → NamesAll test end 0 names → (k : ℕ) → place ≤ k → k < end → test k ≡ false
    skips_all l test all k low high = named_last test end s.next names at l (s.left test all) k (omega (arith, low, s.low)) high

-- ---- the places

module _ (s : System) (date : ℕ) where
  passed : (n place : ℕ) → place + n ≤ places_of s → ((k : ℕ) → place ≤ k → k < place + n → IsToldBy s date (told_by s date k) false [] []) → told_from s date (place + n) 0 ≡ told_from s date place 0
  passed zero place within none = (let same : place + 0 ≡ place = omega arith in ap (λ m. told_from s date m 0) same)
  passed (suc n) place within none =
      let next : place + suc n ≡ place + n + 1 = omega arith in
      ap (λ m. told_from s date m 0) next
      ∙ walked_on s date place (place + n) [] [] (omega (arith, within)) (passed n place (omega (arith, within)) (λ k low high. none k low (omega (arith, high)))) (none (place + n) (omega arith) (omega arith))

  -- Where nothing is told up to a place, as much is told before it.
  pub passed_to : (place to : ℕ) → place ≤ to → to ≤ places_of s → ((k : ℕ) → place ≤ k → k < to → IsToldBy s date (told_by s date k) false [] []) → told_from s date to 0 ≡ told_from s date place 0
  passed_to place to up within none =
      let is : to ≡ place + (to - place) = omega (arith, up) in
      ap (λ m. told_from s date m 0) is ∙ passed (to - place) place (omega (arith, up, within)) (λ k low high. none k low (omega (arith, high, up)))
