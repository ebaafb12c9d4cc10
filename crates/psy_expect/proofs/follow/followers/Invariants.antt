-- What each loop of `follow::followers` keeps.
use Rattle.std.proofs.Common.{◌≡◌, take}
use Rattle.psy_expect.specs.Terminals.{MayFollow, Picks}
use Rattle.psy_expect.proofs.follow.followers.Given as goal

abbrev pub invariant-each : goal.invariant-each
invariant-each l = record {
  kept : l.front ≡ l.fn.front;
  picked : Picks (MayFollow l.fn.front) (take l.terminal-index l.among) l.told.items;
}
