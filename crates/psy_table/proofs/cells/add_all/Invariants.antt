-- What each loop of `cells::add_all` keeps.
use Rattle.std.proofs.Common.{◌≡◌, ◌++◌, map, take}
use Rattle.psy_table.specs.Fields.{fields}
use Rattle.psy_table.proofs.cells.add_all.Given as goal

-- The texts so far
abbrev pub invariant-loop-text : goal.invariant-loop-text
invariant-loop-text l = l.out.items ≡ l.initial.out.items ++ fields (map (λ text. text.items) (take l.text-index l.texts))
