-- What is left of the proof of `filming::film`.
use Rattle.std.proofs.Common.{◌∙◌, IfErr, IfOk, map, sym, subst}
use Rattle.std.specs.Prelude.{string_bytes}
use Rattle.psy_film.specs.Causes.{IsCause}
use Rattle.psy_film.specs.Films.{IsFilm, IsLogOf}
use Rattle.psy_passes.specs.Runs.{IsRun}
use Rattle.psy_film.proofs.Faults.{of_check, of_no_run}
use Rattle.psy_film.proofs.filming.film.Goals as goal

pub returns-in-Err-clause-cause : goal.returns-in-Err-clause-cause
returns-in-Err-clause-cause g c = of_no_run _ _ c.args.source _ _ c.in-Err.fault c.in-Err.ensures.cause

pub check-requires : goal.check-requires
check-requires g c =
    let done = c.in-Ok.ensures.done in (
      done.0,
      subst (λ files. IsRun files c.args.name.now done.0) (sym c.in-Ok.ensures.reel.1) done.1,
      c.as_slice.ensures.value ∙ done.2,
    )

pub returns-in-Err-check-clause-cause : goal.returns-in-Err-check-clause-cause
returns-in-Err-check-clause-cause g c =
    let cause = rw (c.in-Ok.ensures.reel.1, c.in-Ok.ensures.read) at c.in-Err-check.ensures.cause in
    of_check _ _ c.args.window c.args.source (map string_bytes c.args.names.now) _ _ c.in-Err-check.fault cause

pub filmed-requires : goal.filmed-requires
filmed-requires g c =
    let own = c.in_default.ensures.own in (
      own.0,
      subst (λ tail. IsLogOf (g.R.Shelf.files c.check.new.reel) c.args.name.now tail own.0) (c.as_slice.ensures.value ∙ sym c.as_slice-2.ensures.value)
          (subst (λ files. IsLogOf files c.args.name.now c.as_slice.result.now own.0) (sym c.in_default.ensures.reel.1) own.1),
      own.2,
    )

pub returns-clause-picture : goal.returns-clause-picture
returns-clause-picture g c =
    subst (λ files. IfOk c.filmed.result (λ svg. IsFilm files c.args.name.now c.args.window c.args.source (map string_bytes c.args.names.now) svg.items))
    (c.in_default.ensures.reel.1 ∙ c.in-Ok.ensures.reel.1) c.filmed.ensures.picture

pub returns-clause-cause : goal.returns-clause-cause
returns-clause-cause g c =
    let names = map string_bytes c.args.names.now in
    let after = g.R.Shelf.faults c.filmed.new.reel in
    subst (λ files. IfErr c.filmed.result (λ fault. IsCause files c.args.name.now c.args.window c.args.source names (g.R.Shelf.faults c.args.reel.now) after fault))
    (c.in_default.ensures.reel.1 ∙ c.in-Ok.ensures.reel.1)
    (subst (λ before. IfErr c.filmed.result
    (λ fault. IsCause (g.R.Shelf.files c.check.new.reel) c.args.name.now c.args.window c.args.source names before after fault))
    (c.in_default.ensures.read ∙ c.in-Ok.ensures.read) c.filmed.ensures.cause)
