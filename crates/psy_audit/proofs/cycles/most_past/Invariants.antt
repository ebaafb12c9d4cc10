-- What each loop of `cycles::most_past` keeps.
use Rattle.std.proofs.Common.{◌≡◌, drop, map, max}
use Rattle.psy_base.specs.Extremes.{most_of}
use Rattle.psy_audit.specs.declared.said.Segment.{Segment}
use Rattle.psy_audit.proofs.cycles.most_past.Given as goal

abbrev pub invariant-its : goal.invariant-its
invariant-its l = max l.most (most_of (map (λ (s : Segment). s.past) (drop l.segment-index l.its))) ≡ most_of (map (λ (s : Segment). s.past) l.its)
