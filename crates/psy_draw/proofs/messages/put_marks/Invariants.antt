-- What each loop of `messages::put_marks` keeps.
use Rattle.std.proofs.Common.{◌≡◌, ◌++◌, take}
use Rattle.std.specs.List.{flat_map}
use Rattle.psy_draw.specs.Insides.{mark_text}
use Rattle.psy_draw.proofs.messages.put_marks.Given as goal

-- The marks so far
abbrev pub invariant-loop-column : goal.invariant-loop-column
invariant-loop-column l = l.page ≡ l.initial.page ++ flat_map mark_text (take l.column-index l.columns)
