-- What each loop of `ring::Ring::new` keeps.
use Rattle.std.proofs.Common.{◌≡◌, ◌≤◌, replicate}
use Rattle.psy_ring.proofs.ring.Ring.new.Given as goal

abbrev pub invariant-loop : goal.invariant-loop
invariant-loop l = (l.counter ≤ l.fn.size) × (l.values.capacity ≡ l.fn.size) × (l.values.items ≡ replicate l.counter l.fn.init)
