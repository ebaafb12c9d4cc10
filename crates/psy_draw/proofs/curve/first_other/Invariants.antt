-- What each loop of `curve::first_other` keeps.
use Rattle.std.proofs.Common.{◌≡◌, drop}
use Rattle.psy_draw.specs.Curves.{first_other}
use Rattle.psy_draw.proofs.curve.first_other.Given as goal

-- The columns before have this value alone.
abbrev pub invariant-loop-column : goal.invariant-loop-column
invariant-loop-column l = first_other l.value (drop l.column-index l.columns) ≡ first_other l.value l.columns
