-- What each loop of `heading::add_names` keeps.
use Rattle.std.proofs.Common.{◌≡◌, ◌++◌, map, take}
use Rattle.psy_table.specs.Fields.{fields, spelled}
use Rattle.psy_table.proofs.heading.add_names.Given as goal

-- The names so far
abbrev pub invariant-loop-place : goal.invariant-loop-place
invariant-loop-place l = l.out.items ≡ l.initial.out.items ++ fields (map (λ name. spelled (l.front ++ name)) (take l.place l.names))
