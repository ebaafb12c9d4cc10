-- What each loop of `messages::put_labels` keeps.
use Rattle.std.proofs.Common.{◌≡◌, ◌++◌, drop}
use Rattle.psy_draw.specs.Insides.{mark_labels}
use Rattle.psy_draw.proofs.messages.put_labels.Given as goal

-- The labels so far go on to all of them.
abbrev pub invariant-labels : goal.invariant-labels
invariant-labels l = l.page ++ mark_labels l.free (drop l.column-index l.columns) ≡ l.fn.page ++ mark_labels 0 l.columns
