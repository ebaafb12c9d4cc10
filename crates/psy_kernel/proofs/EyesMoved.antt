-- What the eyes of an action hold behind an instruction.
use Rattle.std.proofs.Common.{◌≡◌, ℕ, ap, sym, ◌∙◌, subst}
use Rattle.psy_meaning.proofs.lemmas.Running.{same_running}
use Rattle.psy_budget.specs.Charges.{Charged}
use Rattle.psy_code.specs.declared.code.Code.{Code}
use Rattle.psy_code.specs.Execution.{RunState, call_of, deeds_then}
use Rattle.psy_machine.specs.Stepping.{AgentMachine, window_after}
use Rattle.psy_history.specs.Actions.{Action, System}
use Rattle.psy_kernel.specs.declared.eyes.Eyes.{Eyes}
use Rattle.psy_kernel.specs.Acting.{AreDone, InAction, SeesAs}
use Rattle.psy_kernel.specs.Looking.{KeepsRest, window_of}
use Rattle.psy_kernel.specs.Seeing.{window_in}
use Rattle.psy_kernel.specs.Standing.{HasDone, charge_after}
use Rattle.psy_kernel.proofs.DeedsDone.{done_now}

module _ (s : System) (code : Code) (r : Action) (had : ℕ) (charge : Charged) (machine : AgentMachine) (w : InAction s code r had charge machine) where
  abbrev state : RunState
  state = w.running.0

  -- the outbox and the counts of a step keep what its instruction did
  pub moved : (before after : Eyes) → window_of after ≡ window_after (window_of before) (call_of code machine.machine) → KeepsRest before after → SeesAs s r before.scene.now before.taken.now.items
      → HasDone s code r (charge_after s r had).paid before.outbox.now.sends before.taken.now.items
      → AreDone s r (deeds_then state.deeds (call_of code state.machine)) after.outbox.now.sends after.taken.now.items
  moved before after is kept sees did =
      let same : did.state ≡ state = same_running did.state state (sym did.running ∙ w.running.1) in
      let now : AreDone s r state.deeds before.outbox.now.sends before.taken.now.items = subst (λ (t : RunState). AreDone s r t.deeds before.outbox.now.sends before.taken.now.items) same (record { sent = did.sent; took = did.took }) in
      let served : window_in before.scene.now after.taken.now.items after.outbox.now after.noted ≡ window_after (window_of before) (call_of code state.machine) =
      ap (λ scene. window_in scene after.taken.now.items after.outbox.now after.noted) (sym kept.scene) ∙ is ∙ ap (λ m. window_after (window_of before) (call_of code m)) (sym w.running.2) in
      done_now s r before.scene.now before.taken.now.items sees after.taken.now.items kept.count before.outbox.now after.outbox.now before.noted after.noted (call_of code state.machine) served
      (λ stream n queue queued at. kept.within stream n queue queued at) state.deeds now
