-- What each loop of `text::add_all_publications` keeps.
use Rattle.std.proofs.Common.{◌≡◌, ◌++◌}
use Rattle.std.specs.List.{flat_map, range_with_len}
use Rattle.psy_collect.specs.Keeping.{publications_text}
use Rattle.psy_collect.proofs.text.add_all_publications.Given as goal

abbrev pub invariant-variables : goal.invariant-variables
invariant-variables l = l.out.items ≡ l.fn.out.items ++ flat_map (publications_text l.unit l.publications) (range_with_len 0 l.variable)
