-- What the fields of an outbox stand for.
use Rattle.std.specs.Prelude.{◌≤◌, vec_capacity, vec_len}
use Rattle.psy_dates.specs.declared.outbox.Outbox.TheInside.{Inside}
use Rattle.psy_dates.specs.Outboxes.{Outboxed}

-- The outbox
abbrev pub outboxed : Inside → Outboxed
outboxed o = record { size = o.size; sends = o.sends.items }

-- There are no more sends than its size, for which there is room.
pub record IsOutbox (o : Inside) : Type 0 where
  pub within : vec_len o.sends ≤ o.size
  pub room : o.size ≤ vec_capacity o.sends
