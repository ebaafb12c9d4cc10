-- What each loop of `folded::add_arrows` keeps.
use Rattle.std.proofs.Common.{◌≡◌, ◌++◌}
use Rattle.std.specs.List.{flat_map, range_with_len}
use Rattle.psy_draw.specs.Folded.{arrows_text}
use Rattle.psy_draw.proofs.folded.add_arrows.Given as goal

-- The texts so far
abbrev pub invariant-points : goal.invariant-points
invariant-points l = l.out.items ≡ l.fn.out.items ++ flat_map (arrows_text l.agent l.nodes l.notes l.count) (range_with_len 0 l.from)
