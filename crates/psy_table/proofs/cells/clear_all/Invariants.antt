-- What each loop of `cells::clear_all` keeps.
use Rattle.std.proofs.Common.{◌≡◌, [], map, replicate, take}
use Rattle.psy_table.proofs.cells.clear_all.Given as goal

-- The texts so far are empty
abbrev pub invariant-loop-text : goal.invariant-loop-text
invariant-loop-text l = map (λ text. text.items) (take l.text-index l.texts) ≡ replicate l.text-index []
