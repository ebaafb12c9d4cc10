-- What each loop of `column::add_glyphs` keeps.
use Rattle.std.proofs.Common.{◌≡◌, ◌++◌, take}
use Rattle.psy_show.specs.Columns.{glyphs}
use Rattle.psy_show.proofs.column.add_glyphs.Given as goal

abbrev pub invariant-loop-c : goal.invariant-loop-c
invariant-loop-c l = l.out.items ≡ l.initial.out.items ++ glyphs (take l.c-index l.chars)
