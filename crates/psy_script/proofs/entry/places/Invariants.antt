-- What each loop of `entry::places` keeps.
use Rattle.std.proofs.Common.{◌≡◌, ◌++◌, length, map}
use Rattle.std.specs.Option.{option_map}
use Rattle.psy_script.specs.Entries.{place_in}
use Rattle.psy_text.specs.Words.{words_of}
use Rattle.psy_script.specs.Numbers.{all_some}
use Rattle.psy_script.proofs.entry.places.Given as goal

abbrev pub invariant-loop-cut : goal.invariant-loop-cut
invariant-loop-cut l = all_some (map (place_in l.agents) (words_of l.fn.names)) ≡ option_map (λ ns. l.places ++ ns) (all_some (map (place_in l.agents) (words_of l.rest)))

abbrev pub decreases-loop-cut : goal.decreases-loop-cut
decreases-loop-cut l = length l.rest
