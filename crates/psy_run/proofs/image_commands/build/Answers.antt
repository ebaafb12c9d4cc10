-- What is left of the proof of `image_commands::build`.
use Rattle.std.proofs.Common.{refl, []}
use Rattle.psy_run.specs.Answer.{compiling}
use Rattle.psy_run.specs.Steps.{imaging}
use Rattle.psy_run.proofs.Courses.{gives_then, halts_exit, halts_first, halts_later}
use Rattle.psy_run.proofs.LongFiles.{imaging_never_long, took_exit, took_never}
use Rattle.psy_run.proofs.FaultLemmas.{unfailed_exit}
use Rattle.psy_run.proofs.image_commands.build.Goals as goal

pub returns-in_err-unit-clause-err : goal.returns-in_err-unit-clause-err
returns-in_err-unit-clause-err g c = halts_exit _ _ _ _ _ _ c.from_residual.ensures.1 (halts_first (compiling _ _) _ _ _ _ _ c.in_err-unit.ensures.err)

pub returns-in_err-image-clause-err : goal.returns-in_err-image-clause-err
returns-in_err-image-clause-err g c = halts_exit _ _ _ _ _ _ c.from_residual-in_err-image.ensures.1
    (halts_later (compiling _ _) _ _ _ _ _ _ c.in_ok-unit.ensures.ok (halts_first (imaging _) _ _ _ _ _ (c.in_err-image.ensures.err _ _ _)))

pub returns-clause-ok : goal.returns-clause-ok
returns-clause-ok g c = gives_then (compiling _ _) _ _ _ c.in_ok-unit.ensures.ok (gives_then (imaging _) _ _ _ c.in_ok-image.ensures.ok refl)

pub returns-in_err-unit-clause-long : goal.returns-in_err-unit-clause-long
returns-in_err-unit-clause-long g c = took_exit _ _ _ c.from_residual.ensures.1 c.in_err-unit.ensures.long

pub returns-in_err-image-clause-long : goal.returns-in_err-image-clause-long
returns-in_err-image-clause-long g c = took_exit _ _ _ c.from_residual-in_err-image.ensures.1 (took_never (imaging c.in_ok-unit.unit) [] 0 0 _ _ (imaging_never_long c.in_ok-unit.unit) (c.in_err-image.ensures.err _ _ _))

pub returns-in_err-unit-clause-unread : goal.returns-in_err-unit-clause-unread
returns-in_err-unit-clause-unread g c = unfailed_exit _ _ _ _ c.from_residual.ensures.1 c.in_err-unit.ensures.unread

pub returns-in_err-image-clause-unread : goal.returns-in_err-image-clause-unread
returns-in_err-image-clause-unread g c = unfailed_exit _ _ _ _ c.from_residual-in_err-image.ensures.1 (λ other. c.in_ok-unit.ensures.unfailed)
