-- What each loop of `text::add_all_acts` keeps.
use Rattle.std.proofs.Common.{◌≡◌, ◌++◌}
use Rattle.std.specs.List.{flat_map, range_with_len}
use Rattle.psy_collect.specs.Keeping.{acts_text}
use Rattle.psy_collect.proofs.text.add_all_acts.Given as goal

abbrev pub invariant-agents : goal.invariant-agents
invariant-agents l = l.out.items ≡ l.fn.out.items ++ flat_map (acts_text l.unit l.acts) (range_with_len 0 l.agent)
