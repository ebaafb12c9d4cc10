-- The greatest and the least of some numbers.
use Rattle.std.specs.Prelude.{◌≡◌, ◌⊎◌, ℕ, ◌≤◌, min, max, List, [], ◌∷◌, Option, Some, None}

-- One of these numbers is the greatest.
pub record IsGreatest (Has : ℕ → Type 0) (n : ℕ) : Type 0 where
  pub one : Has n
  pub most : (m : ℕ) → Has m → m ≤ n

-- The greatest of these numbers; 0 where there is none
pub record IsMost (Has : ℕ → Type 0) (n : ℕ) : Type 0 where
  pub one : (n ≡ 0) ⊎ Has n
  pub all : (m : ℕ) → Has m → m ≤ n

-- The lesser of a number and the least one so far
abbrev pub lesser : ℕ → Option ℕ → Option ℕ
lesser n None = Some n
lesser n (Some least) = Some (min n least)

-- The least of some numbers
abbrev pub least_of : List ℕ → Option ℕ
least_of [] = None
least_of (n ∷ numbers) = lesser n (least_of numbers)

-- The greater of a number and the greatest one so far
abbrev pub greater : ℕ → Option ℕ → Option ℕ
greater n None = Some n
greater n (Some greatest) = Some (max n greatest)

-- The greatest of some numbers
abbrev pub greatest_of : List ℕ → Option ℕ
greatest_of [] = None
greatest_of (n ∷ numbers) = greater n (greatest_of numbers)

-- The greatest of some numbers, and 0 where there are none
abbrev pub most_of : List ℕ → ℕ
most_of [] = 0
most_of (n ∷ numbers) = max n (most_of numbers)
