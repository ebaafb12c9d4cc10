-- What each loop of `text::add_inputs` keeps.
use Rattle.std.proofs.Common.{◌≡◌, ◌++◌, drop, flat_map}
use Rattle.psy_feed.specs.Drawing.{input_text}
use Rattle.psy_feed.proofs.text.add_inputs.Given as goal

-- What was written goes on to the whole text.
abbrev pub invariant-variables : goal.invariant-variables
invariant-variables l = l.out.items ++ flat_map input_text (drop l.variable-index l.variables) ≡ l.fn.out.items ++ flat_map input_text l.variables
