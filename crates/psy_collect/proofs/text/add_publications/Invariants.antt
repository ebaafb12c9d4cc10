-- What each loop of `text::add_publications` keeps.
use Rattle.std.proofs.Common.{◌≡◌, ◌++◌, take}
use Rattle.psy_collect.specs.Keeping.{publications_text}
use Rattle.psy_collect.proofs.text.add_publications.Given as goal

abbrev pub invariant-publications : goal.invariant-publications
invariant-publications l = l.out.items ≡ l.fn.out.items ++ publications_text l.unit (take l.publication-index l.publications) l.variable
