-- What each loop of `series::no_columns` keeps.
use Rattle.std.proofs.Common.{◌≡◌, ◌≤◌, ◌-◌, [], map, replicate, vec_len}
use Rattle.psy_draw.proofs.series.no_columns.Given as goal

-- None so far has a column.
abbrev pub invariant-making : goal.invariant-making
invariant-making l = record {
  most : vec_len l.columns ≤ l.count;
  none : map (λ c. c.items) l.columns.items ≡ replicate (vec_len l.columns) [];
}

-- How many are left
abbrev pub decreases-making : goal.decreases-making
decreases-making l = l.count - vec_len l.columns
