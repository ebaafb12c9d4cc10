-- What the loop of `variables::ring` keeps.
use Rattle.std.proofs.Common.{◌≡◌, [], drop, map}
use Rattle.std.specs.List.{range_with_len}
use Rattle.psy_snap.specs.Reading.{kept_ask, values_at}
use Rattle.psy_snap.proofs.variables.ring.Given as goal

abbrev pub invariant-places : goal.invariant-places
invariant-places l = values_at (drop l.back (map (kept_ask l.fn.published l.fn.decl.init) (range_with_len 0 l.fn.size))) l.values l.rest
    ≡ values_at (map (kept_ask l.fn.published l.fn.decl.init) (range_with_len 0 l.fn.size)) [] l.fn.bytes
