-- What each loop of `axis::draw_axis` keeps.
use Rattle.std.proofs.Common.{◌≡◌, ◌++◌, take}
use Rattle.std.specs.List.{flat_map}
use Rattle.psy_draw.specs.Axes.{axis_date}
use Rattle.psy_draw.specs.Scales.{place_by}
use Rattle.psy_draw.proofs.axis.draw_axis.Given as goal

-- The dates so far
abbrev pub invariant-loop-date : goal.invariant-loop-date
invariant-loop-date l = l.page ≡ l.initial.page ++ flat_map (axis_date (place_by l.scale)) (take l.date-index l.ticks)
