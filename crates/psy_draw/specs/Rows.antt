-- What a row of a table says.
use Rattle.std.specs.Prelude.{ℕ, List, Option}

-- A name, a number, and a second number, where there is one
pub record Entry : Type 0 where
  pub name : List ℕ
  pub first : ℕ
  pub second : Option ℕ
