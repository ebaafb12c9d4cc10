-- What each loop of `template::add_text` keeps.
use Rattle.std.proofs.Common.{◌≡◌, ◌++◌, take}
use Rattle.std.specs.List.{flat_map}
use Rattle.psy_page.specs.Spelling.{escaped}
use Rattle.psy_page.proofs.template.add_text.Given as goal

abbrev pub invariant-letters : goal.invariant-letters
invariant-letters l = l.out.items ≡ l.initial.out.items ++ flat_map escaped (take l.byte-index l.text)
