-- What each loop of `inputs::narrowed` keeps.
use Rattle.std.proofs.Common.{◌≡◌, true, take}
use Rattle.std.specs.List.{list_all}
use Rattle.psy_script.specs.Numbers.{fits_32}
use Rattle.psy_script.proofs.inputs.narrowed.Given as goal

abbrev pub invariant-loop-value : goal.invariant-loop-value
invariant-loop-value l = record { narrow : l.narrow ≡ take l.value-index l.values; fit : list_all fits_32 (take l.value-index l.values) ≡ true }
