-- What each loop of `tables::rows::segments_of_number` keeps.
use Rattle.std.proofs.Common.{◌≡◌, ◌==◌, take}
use Rattle.std.specs.Prelude.{filter}
use Rattle.psy_audit.specs.declared.said.Segment.{Segment}
use Rattle.psy_audit.proofs.tables.rows.segments_of_number.Given as goal

-- Those among the items so far
abbrev pub invariant-segments : goal.invariant-segments
invariant-segments l = l.its ≡ filter (λ (x : Segment). x.number == l.number) (take l.segment-index l.segments)
