-- What each loop of `run::foreign_in_run` keeps.
use Rattle.std.proofs.Common.{take}
use Rattle.psy_match.specs.Belonging.{Belongs}
use Rattle.psy_match.proofs.run.foreign_in_run.Given as goal

-- The notes so far were taken in.
abbrev pub invariant-loop-note : goal.invariant-loop-note
invariant-loop-note l = Belongs l.unit (take l.note-index l.notes) l.belonging
