-- What each loop of `ends::end_segments` keeps.
use Rattle.std.proofs.Common.{◌≡◌, ◌++◌, None, get_or}
use Rattle.std.specs.Prelude.{option_to_list}
use Rattle.std.specs.List.{flat_map, range_with_len}
use Rattle.psy_collect.proofs.ends.end_segments.Given as goal

abbrev pub invariant-processors : goal.invariant-processors
invariant-processors l = l.segments ≡ l.fn.segments ++ flat_map (λ processor. option_to_list (get_or l.last processor None)) (range_with_len 0 l.processor)
