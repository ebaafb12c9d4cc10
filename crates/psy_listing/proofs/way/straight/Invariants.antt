-- What each loop of `way::straight` keeps.
use Rattle.std.proofs.Common.{◌≡◌, ◌++◌, ◌-◌, length}
use Rattle.psy_listing.specs.Straight.{straight, straight_way}
use Rattle.psy_listing.proofs.way.straight.Given as goal

-- What was found goes on to the whole way.
abbrev pub invariant-steps : goal.invariant-steps
invariant-steps l = l.places ++ straight (length l.instrs - l.counter) l.instrs l.place ≡ straight_way l.instrs l.from
