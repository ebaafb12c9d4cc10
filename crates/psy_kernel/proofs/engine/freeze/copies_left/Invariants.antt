-- What each loop of `engine::freeze::copies_left` keeps.
use Rattle.std.proofs.Common.{◌≡◌, take}
use Rattle.psy_kernel.specs.Freezing.{copies_left}
use Rattle.psy_kernel.proofs.engine.freeze.copies_left.Given as goal

abbrev pub invariant-copies : goal.invariant-copies
invariant-copies l = l.copies ≡ copies_left (take l.place l.own) l.committed
