-- What a roll is seen as.
use Rattle.std.specs.Prelude.{ℕ, List}

-- A roll of agents
pub record Rolled : Type 0 where
  -- how many agents it has room for
  pub size : ℕ
  -- those that it names, in order
  pub agents : List ℕ
