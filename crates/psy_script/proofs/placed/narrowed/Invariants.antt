-- What each loop of `placed::narrowed` keeps.
use Rattle.std.proofs.Common.{◌≡◌, take}
use Rattle.psy_script.proofs.placed.narrowed.Given as goal

abbrev pub invariant-loop-number : goal.invariant-loop-number
invariant-loop-number l = l.narrow ≡ take l.number-index l.numbers
