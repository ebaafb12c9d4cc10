-- What each loop of `cells::empty_texts` keeps.
use Rattle.std.proofs.Common.{◌≡◌, ◌≤◌, ◌-◌, [], map, replicate, vec_len}
use Rattle.psy_table.proofs.cells.empty_texts.Given as goal

-- The texts so far are empty
abbrev pub invariant-making : goal.invariant-making
invariant-making l = record {
  most : vec_len l.texts ≤ l.count;
  empty : map (λ text. text.items) l.texts.items ≡ replicate (vec_len l.texts) [];
}

-- How many are left
abbrev pub decreases-making : goal.decreases-making
decreases-making l = l.count - vec_len l.texts
