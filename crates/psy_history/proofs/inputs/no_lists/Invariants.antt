-- What each loop of `inputs::no_lists` keeps.
use Rattle.std.proofs.Common.{◌≡◌, [], map, take}
use Rattle.psy_history.proofs.inputs.no_lists.Given as goal

abbrev pub invariant-variables : goal.invariant-variables
invariant-variables l = record { lists : l.lists ≡ map (λ v. []) (take l.index l.unit.variables) }
