-- What each loop of `text::add_all_looks` keeps.
use Rattle.std.proofs.Common.{◌≡◌, ◌++◌}
use Rattle.std.specs.List.{flat_map, range_with_len}
use Rattle.psy_collect.specs.Keeping.{looks_text}
use Rattle.psy_collect.proofs.text.add_all_looks.Given as goal

abbrev pub invariant-agents : goal.invariant-agents
invariant-agents l = l.out.items ≡ l.fn.out.items ++ flat_map (looks_text l.unit l.looks) (range_with_len 0 l.agent)
