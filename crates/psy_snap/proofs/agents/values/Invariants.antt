-- What the loop of `agents::values` keeps.
use Rattle.std.proofs.Common.{◌≡◌, [], drop, replicate}
use Rattle.psy_snap.specs.Cuts.{any_number}
use Rattle.psy_snap.specs.Reading.{values_at}
use Rattle.psy_snap.proofs.agents.values.Given as goal

abbrev pub invariant-values : goal.invariant-values
invariant-values l = values_at (drop l.counter (replicate l.fn.count any_number)) l.values l.rest ≡ values_at (replicate l.fn.count any_number) [] l.fn.bytes
