-- What the fields of a roll stand for.
use Rattle.std.specs.Prelude.{◌≤◌, vec_capacity, vec_len}
use Rattle.psy_dates.specs.declared.roll.Roll.TheInside.{Inside}
use Rattle.psy_dates.specs.Rolls.{Rolled}

-- The roll
abbrev pub rolled : Inside → Rolled
rolled r = record { size = r.size; agents = r.agents.items }

-- There are no more agents than its size, for which there is room.
pub record IsRoll (r : Inside) : Type 0 where
  pub within : vec_len r.agents ≤ r.size
  pub room : r.size ≤ vec_capacity r.agents
