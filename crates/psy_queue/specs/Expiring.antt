-- Messages that expire in their order.
use Rattle.std.specs.Prelude.{◌≤◌, List}
use Rattle.std.specs.List.{AllPairs}
use Rattle.psy_base.specs.declared.message.Message.{Message}

-- No message expires before an earlier one.
abbrev pub ExpiryRises : List Message → Type 0
ExpiryRises = AllPairs (λ m n. m.expiry ≤ n.expiry)
