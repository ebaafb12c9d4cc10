-- What is little enough for the judge.
use Rattle.std.specs.Prelude.{ℕ, ◌≤◌, List, length, get_or, []}
use Rattle.psy_code.specs.declared.code.FunctionCode.{FunctionCode}

-- One function at most, with one local at most
pub record AreFew (functions : List FunctionCode) : Type 0 where
  pub count : length functions ≤ 1
  pub locals : (number : ℕ) → length (get_or functions number (record { entry = 0; params = 0; locals = []; counters = 0 })).locals ≤ 1
