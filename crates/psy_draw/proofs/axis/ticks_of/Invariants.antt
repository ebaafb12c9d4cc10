-- What each loop of `axis::ticks_of` keeps.
use Rattle.std.proofs.Common.{◌≡◌}
use Rattle.std.specs.List.{flat_map, range_with_len}
use Rattle.psy_draw.specs.Axes.{tick_by}
use Rattle.psy_draw.proofs.axis.ticks_of.Given as goal

-- The ticks so far
abbrev pub invariant-ticks : goal.invariant-ticks
invariant-ticks l = l.ticks.items ≡ flat_map (tick_by l.scale.from l.scale.to l.step) (range_with_len 0 l.number)
