-- What each loop of `text::add_acts` keeps.
use Rattle.std.proofs.Common.{◌≡◌, ◌++◌, take}
use Rattle.psy_collect.specs.Keeping.{acts_text}
use Rattle.psy_collect.proofs.text.add_acts.Given as goal

abbrev pub invariant-acts : goal.invariant-acts
invariant-acts l = l.out.items ≡ l.fn.out.items ++ acts_text l.unit (take l.act-index l.acts) l.agent
