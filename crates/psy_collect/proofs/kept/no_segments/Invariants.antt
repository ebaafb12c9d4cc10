-- What each loop of `kept::no_segments` keeps.
use Rattle.std.proofs.Common.{◌≡◌, map, None}
use Rattle.std.specs.List.{range_with_len}
use Rattle.psy_collect.proofs.kept.no_segments.Given as goal

abbrev pub invariant-processors : goal.invariant-processors
invariant-processors l = l.segments ≡ map (λ n. None) (range_with_len 0 l.processor)
