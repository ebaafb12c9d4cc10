-- What each loop of `placed::sorted_stalls` keeps.
use Rattle.std.proofs.Common.{◌≡◌, ◌++◌, map}
use Rattle.psy_script.specs.Entries.{stall_at}
use Rattle.psy_script.proofs.placed.sorted_stalls.Given as goal

abbrev pub invariant-loop-place : goal.invariant-loop-place
invariant-loop-place l = map stall_at l.fn.stalls.entries ≡ l.sorted ++ map stall_at l.place-iterator
