-- What each loop of `text::add_shown` keeps.
use Rattle.std.proofs.Common.{◌≡◌, ◌++◌}
use Rattle.psy_show.specs.Columns.{glyphs}
use Rattle.psy_show.specs.Lines.{shown}
use Rattle.psy_show.proofs.text.add_shown.Given as goal

abbrev pub invariant-each : goal.invariant-each
invariant-each l = l.out.items ++ glyphs l.c-iterator ≡ l.initial.out.items ++ shown l.fn.bytes
