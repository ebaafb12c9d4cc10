-- What is left of the proof of `run::foreign_in_run`.
use Rattle.std.proofs.Common.{sym, subst}
use Rattle.std.proofs.lemmas.List.{take_more}
use Rattle.psy_match.specs.Belonging.{Belongs}
use Rattle.psy_match.proofs.run.foreign_in_run.Goals as goal

pub loop-note-preserved : goal.loop-note-preserved
loop-note-preserved c =
    subst (λ notes. Belongs c.args.unit.now notes c.add.new.self) (sym (take_more c.args.notes.now c.loop-note.note-index _ c.loop-note-test.true))
    (c.add.ensures _ _ c.loop-note.invariant)
