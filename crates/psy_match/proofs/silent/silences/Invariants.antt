-- What each loop of `silent::silences` keeps.
use Rattle.std.proofs.Common.{take}
use Rattle.psy_match.specs.Silences.{AreStopped, owning_in}
use Rattle.psy_match.proofs.silent.silences.Given as goal

-- The notes so far were taken in.
abbrev pub invariant-loop-note : goal.invariant-loop-note
invariant-loop-note l = AreStopped (owning_in l.unit) (take l.note-index l.notes) l.silencing
