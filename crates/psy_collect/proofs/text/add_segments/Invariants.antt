-- What each loop of `text::add_segments` keeps.
use Rattle.std.proofs.Common.{◌≡◌, ◌++◌, take}
use Rattle.psy_collect.specs.Keeping.{segments_text}
use Rattle.psy_collect.proofs.text.add_segments.Given as goal

abbrev pub invariant-segments : goal.invariant-segments
invariant-segments l = l.out.items ≡ l.fn.out.items ++ segments_text l.unit (take l.segment-index l.segments) l.processor
