-- What is left of the proof of `state_commands::restored`.
use Rattle.std.proofs.Common.{◌≡◌, ◌∙◌, ap, subst, ℕ, Err, List, Some}
use Rattle.psy_graph.specs.declared.graph.Graph.{Graph}
use Rattle.psy_snap.specs.Faults.{faults_of, least_fault}
use Rattle.psy_snap.specs.Forms.{form_of}
use Rattle.psy_run.specs.declared.refusal.Refusal.TheVariants.{State}
use Rattle.psy_run.specs.Outcome.{halts_memory, halts_refused}
use Rattle.psy_run.specs.Steps.{IsStateOf}
use Rattle.psy_run.proofs.Restoring.{is_state}
use Rattle.psy_run.proofs.state_commands.restored.Goals as goal

pub returns-in-Ok-clause-ok : goal.returns-in-Ok-clause-ok
returns-in-Ok-clause-ok c =
    let plan = c.args.drawn.now.plan in
    subst (λ (graphs : List Graph). IsStateOf (form_of plan graphs) c.args.bytes.now.items c.in-Ok.state) c.as_slice-2.ensures
    (is_state (form_of plan c.as_slice-2.result.now) _ _ c.in-Ok.state c.as_slice.ensures.value c.in-Ok.ensures.spelled c.in-Ok.ensures.formed c.in-Ok.ensures.ranges c.in-Ok.ensures.faultless)

pub returns-in-Err-Fault-clause-err : goal.returns-in-Err-Fault-clause-err
returns-in-Err-Fault-clause-err c failed before after =
    let plan = c.args.drawn.now.plan in
    let number = c.in-Err-Fault.number in
    let place = c.in-Err-Fault.place in
    let found = c.restore.ensures.fault number place (c.in-Err-Fault.is ∙ ap Err c.in-Err-Fault.field-0-is) in
    let by_bytes = subst (λ (bytes : List ℕ). least_fault (faults_of (form_of plan c.as_slice-2.result.now) bytes) ≡ Some (record { number = number; place = place })) c.as_slice.ensures.value found in
    halts_refused (State number place)
    (subst (λ (graphs : List Graph). least_fault (faults_of (form_of plan graphs) c.args.bytes.now.items) ≡ Some (record { number = number; place = place })) c.as_slice-2.ensures by_bytes)

pub returns-in-Err-Memory-clause-err : goal.returns-in-Err-Memory-clause-err
returns-in-Err-Memory-clause-err c failed before after = halts_memory
