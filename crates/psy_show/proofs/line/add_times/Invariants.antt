-- What each loop of `line::add_times` keeps.
use Rattle.std.proofs.Common.{◌≡◌, ◌++◌, replicate}
use Rattle.psy_show.proofs.line.add_times.Given as goal

abbrev pub invariant-loop : goal.invariant-loop
invariant-loop l = l.out.items ≡ l.initial.out.items ++ replicate l.counter l.byte
