-- What each loop of `series::first_columns` keeps.
use Rattle.std.proofs.Common.{map, take}
use Rattle.psy_draw.specs.ByName.{AreOfEach}
use Rattle.psy_draw.specs.Scales.{place_by}
use Rattle.psy_draw.proofs.series.first_columns.Given as goal

-- The columns of those so far
abbrev pub invariant-loop-one : goal.invariant-loop-one
invariant-loop-one l = AreOfEach (place_by l.scale) (take l.one-index l.told) (map (λ c. c.items) l.columns.items)
