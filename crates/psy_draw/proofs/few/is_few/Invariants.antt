-- What each loop of `few::is_few` keeps.
use Rattle.std.proofs.Common.{◌≡◌, take}
use Rattle.std.specs.List.{flat_map}
use Rattle.psy_draw.specs.Columns.{different, kept}
use Rattle.psy_draw.proofs.few.is_few.Given as goal

-- The different values so far
abbrev pub invariant-loop-column : goal.invariant-loop-column
invariant-loop-column l = take l.few.count l.few.seen ≡ different (flat_map kept (take l.column-index l.columns))
