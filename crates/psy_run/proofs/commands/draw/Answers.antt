-- What is left of the proof of `commands::draw`.
use Rattle.std.proofs.Common.{refl, sym, subst, []}
use Rattle.psy_run.specs.Answer.{compiling}
use Rattle.psy_run.specs.Outcome.{TookLimit, halts_memory}
use Rattle.psy_run.specs.Steps.{graphing, costing}
use Rattle.psy_run.proofs.Courses.{gives_then, halts_exit, halts_first, halts_later, halts_for_memory}
use Rattle.psy_run.proofs.LongFiles.{took_exit, took_for_memory, took_never, graphing_never_long}
use Rattle.psy_run.proofs.FaultLemmas.{unfailed_exit}
use Rattle.psy_run.proofs.commands.draw.Goals as goal

pub returns-in_err-unit-clause-err : goal.returns-in_err-unit-clause-err
returns-in_err-unit-clause-err g c = halts_exit _ _ _ _ _ _ c.from_residual.ensures.1 (halts_first (compiling _ _) _ _ _ _ _ c.in_err-unit.ensures.err)

pub returns-in_err-coded-clause-err : goal.returns-in_err-coded-clause-err
returns-in_err-coded-clause-err g c = halts_exit _ _ _ _ _ _ c.from_residual-in_err-coded.ensures.1 halts_memory

pub returns-in_err-graphs-clause-err : goal.returns-in_err-graphs-clause-err
returns-in_err-graphs-clause-err g c = halts_exit _ _ _ _ _ _ c.from_residual-in_err-graphs.ensures.1
    (halts_later (compiling _ _) _ _ _ _ _ _ c.in_ok-unit.ensures.ok (halts_first (graphing _) _ _ _ _ _ (c.in_err-graphs.ensures.err _ _ _)))

pub returns-in_err-costs-clause-err : goal.returns-in_err-costs-clause-err
returns-in_err-costs-clause-err g c = halts_exit _ _ _ _ _ _ c.from_residual-in_err-costs.ensures.1 (halts_for_memory _ _ _ _ _ c.in_err-costs.ensures.err)

pub returns-clause-ok : goal.returns-clause-ok
returns-clause-ok g c =
    gives_then (compiling _ _) _ _ _ c.in_ok-unit.ensures.ok (gives_then (graphing _) _ _ _ c.in_ok-graphs.ensures.ok (gives_then (costing _) _ _ _ c.in_ok-costs.ensures.ok refl))

pub returns-in_err-unit-clause-long : goal.returns-in_err-unit-clause-long
returns-in_err-unit-clause-long g c = took_exit _ _ _ c.from_residual.ensures.1 c.in_err-unit.ensures.long

pub returns-in_err-coded-clause-long : goal.returns-in_err-coded-clause-long
returns-in_err-coded-clause-long g c = took_exit _ _ _ c.from_residual-in_err-coded.ensures.1 (took_for_memory _)

pub returns-in_err-graphs-clause-long : goal.returns-in_err-graphs-clause-long
returns-in_err-graphs-clause-long g c = took_exit _ _ _ c.from_residual-in_err-graphs.ensures.1 (took_never (graphing c.in_ok-unit.unit) [] 0 0 _ _ (graphing_never_long c.in_ok-unit.unit) (c.in_err-graphs.ensures.err _ _ _))

pub returns-in_err-costs-clause-long : goal.returns-in_err-costs-clause-long
returns-in_err-costs-clause-long g c = took_exit _ _ _ c.from_residual-in_err-costs.ensures.1 (subst (TookLimit _) (sym c.in_err-costs.ensures.err) (took_for_memory _))

pub returns-in_err-unit-clause-unread : goal.returns-in_err-unit-clause-unread
returns-in_err-unit-clause-unread g c = unfailed_exit _ _ _ _ c.from_residual.ensures.1 c.in_err-unit.ensures.unread

pub returns-in_err-coded-clause-unread : goal.returns-in_err-coded-clause-unread
returns-in_err-coded-clause-unread g c = unfailed_exit _ _ _ _ c.from_residual-in_err-coded.ensures.1 (λ other. c.in_ok-unit.ensures.unfailed)

pub returns-in_err-graphs-clause-unread : goal.returns-in_err-graphs-clause-unread
returns-in_err-graphs-clause-unread g c = unfailed_exit _ _ _ _ c.from_residual-in_err-graphs.ensures.1 (λ other. c.in_ok-unit.ensures.unfailed)

pub returns-in_err-costs-clause-unread : goal.returns-in_err-costs-clause-unread
returns-in_err-costs-clause-unread g c = unfailed_exit _ _ _ _ c.from_residual-in_err-costs.ensures.1 (λ other. c.in_ok-unit.ensures.unfailed)
