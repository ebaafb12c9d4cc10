-- What each loop of `mend::menders` keeps.
use Rattle.std.proofs.Common.{◌≡◌, take}
use Rattle.psy_expect.specs.Mending.{Mends}
use Rattle.psy_expect.specs.Terminals.{Picks}
use Rattle.psy_expect.proofs.mend.menders.Given as goal

abbrev pub invariant-each : goal.invariant-each
invariant-each l = record {
  kept : l.front ≡ l.fn.front;
  picked : Picks (Mends l.fn.front l.around) (take l.terminal-index l.among) l.mends.items;
}
