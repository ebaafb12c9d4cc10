-- What each loop of `text::add_all_segments` keeps.
use Rattle.std.proofs.Common.{◌≡◌, ◌++◌}
use Rattle.std.specs.List.{flat_map, range_with_len}
use Rattle.psy_collect.specs.Keeping.{segments_text}
use Rattle.psy_collect.proofs.text.add_all_segments.Given as goal

abbrev pub invariant-processors : goal.invariant-processors
invariant-processors l = l.out.items ≡ l.fn.out.items ++ flat_map (segments_text l.unit l.segments) (range_with_len 0 l.processor)
