-- What each loop of `text::add_looks` keeps.
use Rattle.std.proofs.Common.{◌≡◌, ◌++◌, take}
use Rattle.psy_collect.specs.Keeping.{looks_text}
use Rattle.psy_collect.proofs.text.add_looks.Given as goal

abbrev pub invariant-looks : goal.invariant-looks
invariant-looks l = l.out.items ≡ l.fn.out.items ++ looks_text l.unit (take l.look-index l.looks) l.agent
