-- What each loop of `axis::draw_grid` keeps.
use Rattle.std.proofs.Common.{◌≡◌, ◌++◌, take}
use Rattle.std.specs.List.{flat_map}
use Rattle.psy_draw.specs.Axes.{grid_line}
use Rattle.psy_draw.specs.Scales.{place_by}
use Rattle.psy_draw.proofs.axis.draw_grid.Given as goal

-- The lines so far
abbrev pub invariant-loop-date : goal.invariant-loop-date
invariant-loop-date l = l.page ≡ l.initial.page ++ flat_map (grid_line (place_by l.scale) l.left l.bottom) (take l.date-index l.ticks)
