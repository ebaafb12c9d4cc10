-- What the loop of `seen::copied` keeps.
use Rattle.std.proofs.Common.{◌≡◌, take}
use Rattle.psy_image.proofs.seen.copied.Given as goal

abbrev pub invariant-names : goal.invariant-names
invariant-names l = l.copies ≡ take l.name-index l.names
