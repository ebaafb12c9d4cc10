-- What each loop of `mend::push_all` keeps.
use Rattle.std.proofs.Common.{◌≡◌, ◌++◌, map, take}
use Rattle.psy_expect.specs.Terminals.{stand_in}
use Rattle.psy_expect.proofs.mend.push_all.Given as goal

abbrev pub invariant-each : goal.invariant-each
invariant-each l = l.front ≡ l.fn.front ++ map stand_in (take l.terminal-index l.ahead)
