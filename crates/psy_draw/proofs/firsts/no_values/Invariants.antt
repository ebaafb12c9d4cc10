-- What each loop of `firsts::no_values` keeps.
use Rattle.std.proofs.Common.{◌≡◌, ◌≤◌, ◌-◌, None, replicate, vec_len}
use Rattle.psy_draw.proofs.firsts.no_values.Given as goal

-- None so far has a value.
abbrev pub invariant-making : goal.invariant-making
invariant-making l = record {
  most : vec_len l.told ≤ l.count;
  none : l.told.items ≡ replicate (vec_len l.told) None;
}

-- How many are left
abbrev pub decreases-making : goal.decreases-making
decreases-making l = l.count - vec_len l.told
