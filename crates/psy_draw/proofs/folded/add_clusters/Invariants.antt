-- What each loop of `folded::add_clusters` keeps.
use Rattle.std.proofs.Common.{◌≡◌, ◌++◌, drop, map}
use Rattle.psy_draw.specs.Folded.{folded_clusters}
use Rattle.psy_draw.specs.Homes.{housed_of}
use Rattle.psy_draw.proofs.folded.add_clusters.Given as goal

-- What was written goes on to the whole.
abbrev pub invariant-each : goal.invariant-each
invariant-each l = l.out.items ++ folded_clusters (map housed_of l.homes) l.left (drop l.index l.notes) ≡ l.fn.out.items ++ folded_clusters (map housed_of l.homes) l.lines l.notes
