-- What each loop of `placed::sorted_rounds` keeps.
use Rattle.std.proofs.Common.{◌≡◌, ◌++◌, map}
use Rattle.psy_script.specs.Entries.{round_from}
use Rattle.psy_script.proofs.placed.sorted_rounds.Given as goal

abbrev pub invariant-loop-cycle : goal.invariant-loop-cycle
invariant-loop-cycle l = map round_from l.fn.rounds.entries ≡ l.sorted ++ map round_from l.cycle-iterator
