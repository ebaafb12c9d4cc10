-- What each loop of `template::fill` keeps.
use Rattle.std.proofs.Common.{◌≡◌, ◌++◌, length, map}
use Rattle.psy_page.specs.Spelling.{spelled}
use Rattle.psy_page.specs.Templates.{fill}
use Rattle.psy_page.proofs.template.fill.Given as goal

abbrev pub invariant-each : goal.invariant-each
invariant-each l = l.out.items ++ fill l.rest (map spelled l.left) ≡ l.initial.out.items ++ fill l.fn.template (map spelled l.fn.holes)

abbrev pub decreases-each : goal.decreases-each
decreases-each l = length l.rest
