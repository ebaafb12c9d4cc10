-- What each loop of `dates::keep_publications` keeps.
use Rattle.std.proofs.Common.{◌≡◌, ◌++◌}
use Rattle.std.specs.List.{flat_map, range_with_len}
use Rattle.psy_collect.specs.Keeping.{published_in}
use Rattle.psy_collect.proofs.dates.keep_publications.Given as goal

abbrev pub invariant-variables : goal.invariant-variables
invariant-variables l = l.publications ≡ l.fn.publications ++ flat_map (published_in l.plan l.shared l.date) (range_with_len 0 l.variable)
