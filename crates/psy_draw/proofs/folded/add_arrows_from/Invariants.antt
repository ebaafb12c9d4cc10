-- What each loop of `folded::add_arrows_from` keeps.
use Rattle.std.proofs.Common.{◌≡◌, ◌++◌}
use Rattle.std.specs.List.{flat_map, range_with_len}
use Rattle.psy_draw.specs.Folded.{arrow_text}
use Rattle.psy_draw.proofs.folded.add_arrows_from.Given as goal

-- The texts so far
abbrev pub invariant-points : goal.invariant-points
invariant-points l = l.out.items ≡ l.fn.out.items ++ flat_map (arrow_text l.agent l.from l.steps.items) (range_with_len 0 l.to)
