-- What an outbox is seen as.
use Rattle.std.specs.Prelude.{ℕ, List}
use Rattle.psy_code.specs.declared.look.Sent.{Sent}

-- An outbox
pub record Outboxed : Type 0 where
  -- how many sends it has room for
  pub size : ℕ
  -- those that it holds, in order
  pub sends : List Sent
