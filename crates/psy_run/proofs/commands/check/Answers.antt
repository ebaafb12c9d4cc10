-- What is left of the proof of `commands::check`.
use Rattle.std.proofs.Common.{refl, []}
use Rattle.psy_run.specs.Answer.{compiling, supplying}
use Rattle.psy_run.specs.Supplies.{supply_of}
use Rattle.psy_run.proofs.Courses.{gives_then, halts_exit, halts_first, halts_later}
use Rattle.psy_run.proofs.LongFiles.{took_exit, took_never, supplying_never_long}
use Rattle.psy_run.proofs.FaultLemmas.{unfailed_exit}
use Rattle.psy_run.proofs.commands.check.Goals as goal

pub returns-in_err-unit-clause-err : goal.returns-in_err-unit-clause-err
returns-in_err-unit-clause-err g c = halts_exit _ _ _ _ _ _ c.from_residual.ensures.1 (halts_first (compiling _ _) _ _ _ _ _ c.in_err-unit.ensures.err)

pub returns-in_err-supply-clause-err : goal.returns-in_err-supply-clause-err
returns-in_err-supply-clause-err g c = halts_exit _ _ _ _ _ _ c.from_residual-in_err-supply.ensures.1
    (halts_later (compiling _ _) _ _ _ _ _ _ c.in_ok-unit.ensures.ok (halts_first (supplying _ _) _ _ _ _ _ (c.in_err-supply.ensures.err _ _ _)))

pub returns-clause-ok : goal.returns-clause-ok
returns-clause-ok g c =
    let supply = c.in_ok-supply.supply in
    let gives = c.in_ok-supply.ensures.ok in
    gives_then (compiling _ _) _ _ _ c.in_ok-unit.ensures.ok
    (gives_then (supplying _ _) _ (supply_of supply) _ gives refl)

pub returns-in_err-unit-clause-long : goal.returns-in_err-unit-clause-long
returns-in_err-unit-clause-long g c = took_exit _ _ _ c.from_residual.ensures.1 c.in_err-unit.ensures.long

pub returns-in_err-supply-clause-long : goal.returns-in_err-supply-clause-long
returns-in_err-supply-clause-long g c = took_exit _ _ _ c.from_residual-in_err-supply.ensures.1 (took_never (supplying _ _) [] 0 0 _ _ (supplying_never_long c.in_ok-unit.unit c.args.until) (c.in_err-supply.ensures.err _ _ _))

pub returns-in_err-unit-clause-unread : goal.returns-in_err-unit-clause-unread
returns-in_err-unit-clause-unread g c = unfailed_exit _ _ _ _ c.from_residual.ensures.1 c.in_err-unit.ensures.unread

pub returns-in_err-supply-clause-unread : goal.returns-in_err-supply-clause-unread
returns-in_err-supply-clause-unread g c = unfailed_exit _ _ _ _ c.from_residual-in_err-supply.ensures.1 (λ other. c.in_ok-unit.ensures.unfailed)
