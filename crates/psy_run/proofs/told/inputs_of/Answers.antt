-- What is left of the proof of `told::inputs_of`.
use Rattle.std.proofs.Common.{refl, sym, subst, []}
use Rattle.psy_history.specs.declared.told.Inputs.{Inputs as Lists}
use Rattle.psy_history.specs.Compiled.{AreInputs}
use Rattle.psy_run.specs.declared.refusal.File.TheVariants.{Inputs}
use Rattle.psy_run.specs.declared.refusal.Stop.TheVariants.{Memory}
use Rattle.psy_run.specs.Outcome.{halts_memory}
use Rattle.psy_run.specs.Steps.{reading, stating}
use Rattle.psy_run.proofs.Courses.{halts_exit, halts_first, halts_last, gives_last}
use Rattle.psy_history.proofs.lemmas.NoInputs.{are_no_inputs}
use Rattle.psy_run.proofs.LongFiles.{took_exit, took_for_memory, took_last, stating_never_long}
use Rattle.psy_run.proofs.FaultLemmas.{unfailed_exit, unfailed_last}
use Rattle.psy_run.proofs.told.inputs_of.Goals as goal

pub returns-in_err-no_lists-clause-err : goal.returns-in_err-no_lists-clause-err
returns-in_err-no_lists-clause-err g c = halts_exit _ _ _ _ Memory _ c.from_residual.ensures.1 halts_memory

pub returns-in_default-clause-inputs : goal.returns-in_default-clause-inputs
returns-in_default-clause-inputs g c = subst (AreInputs c.args.unit.now) (sym c.in_ok-no_lists.ensures) (are_no_inputs c.args.unit.now)

pub returns-in_err-bytes-clause-err : goal.returns-in_err-bytes-clause-err
returns-in_err-bytes-clause-err g c = rw c.in-Some.is (halts_exit _ _ _ _ _ _ c.from_residual-in_err-bytes.ensures.1 (halts_first (reading _ Inputs _) _ _ _ _ _ c.in_err-bytes.ensures.err))

pub returns-clause-ok : goal.returns-clause-ok
returns-clause-ok g c = rw c.in-Some.is (gives_last (reading _ Inputs _) _ _ (λ (inputs : Lists). inputs.lists) _ c.in_ok-bytes.ensures.ok c.state.ensures.ok)

pub returns-clause-err : goal.returns-clause-err
returns-clause-err g c = rw c.in-Some.is (halts_last (reading _ Inputs _) _ _ _ _ _ _ c.in_ok-bytes.ensures.ok (c.state.ensures.err _ _ _))

pub returns-in_err-no_lists-clause-long : goal.returns-in_err-no_lists-clause-long
returns-in_err-no_lists-clause-long g c = took_exit _ Memory _ c.from_residual.ensures.1 (took_for_memory _)

pub returns-in_err-bytes-clause-long : goal.returns-in_err-bytes-clause-long
returns-in_err-bytes-clause-long g c = took_exit _ _ _ c.from_residual-in_err-bytes.ensures.1 c.in_err-bytes.ensures.long

pub returns-clause-long : goal.returns-clause-long
returns-clause-long g c = took_last (stating c.args.unit.now c.in_ok-bytes.bytes.items) _ _ _ _ _ (stating_never_long c.args.unit.now c.in_ok-bytes.bytes.items) (c.state.ensures.err [] 0 0)

pub returns-in_err-no_lists-clause-unread : goal.returns-in_err-no_lists-clause-unread
returns-in_err-no_lists-clause-unread g c = unfailed_exit _ _ _ _ c.from_residual.ensures.1 (λ other. refl)

pub returns-in_err-bytes-clause-unread : goal.returns-in_err-bytes-clause-unread
returns-in_err-bytes-clause-unread g c = unfailed_exit _ _ _ _ c.from_residual-in_err-bytes.ensures.1 c.in_err-bytes.ensures.unread

pub returns-clause-unread : goal.returns-clause-unread
returns-clause-unread g c = unfailed_last _ _ _ c.in_ok-bytes.ensures.unfailed
