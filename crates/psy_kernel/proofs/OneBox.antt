-- What the agent whose action gets a cycle has sent and taken after it.
use Rattle.std.proofs.Common.{◌≡◌, sym, ap, ◌∙◌, subst}
use Rattle.std.specs.Prelude.{ℕ, suc, false, List, ◌∷◌, Option, Some}
use Rattle.std.proofs.lemmas.Bool.{true≢false}
use Rattle.psy_arith.specs.declared.operators.Trap.{Trap}
use Rattle.psy_budget.specs.Charges.{Charged}
use Rattle.psy_code.specs.declared.code.Code.{Code}
use Rattle.psy_code.specs.declared.look.Sent.{Sent}
use Rattle.psy_dates.specs.declared.seat.Phase.TheVariants as phase
use Rattle.psy_dates.specs.Standing.{phase_by, phase_of}
use Rattle.psy_machine.specs.Stepping.{AgentMachine}
use Rattle.psy_history.specs.Actions.{Action, System, is_done}
use Rattle.psy_history.specs.Schedule.{Turn, units, work}
use Rattle.psy_kernel.specs.Acting.{AfterCycle, HasDoneBy}
use Rattle.psy_kernel.specs.Cycles.{BoxStands, GetsCycle}
use Rattle.psy_kernel.specs.declared.engine.advance.Gone.TheVariants as gone
use Rattle.psy_kernel.specs.Standing.{HasDone, charge_after}
use Rattle.psy_kernel.proofs.OneAgent.{more, over, phase_acting, phase_over, still}

module _ (s : System) (code : Code) (turns : List (Option Turn)) (until date cycle agent : ℕ) (r : Action) (before : List Action) (g : GetsCycle s code turns until date cycle agent r before) (charge : Charged) (machine : AgentMachine) (sends : List Sent) (taken : List ℕ) where
  abbrev had : ℕ
  had = units r.agent r.number turns

  abbrev now : List (Option Turn)
  now = Some (record { agent = r.agent; number = r.number }) ∷ turns

  -- an action that goes on has done what its paid instructions did
  pub box_going : AfterCycle s code r had gone.Going charge machine → HasDoneBy s code r had sends taken gone.Going → BoxStands s code now date agent (r ∷ before) sends taken
  box_going a did =
      let on = still s code turns until date cycle agent r before g a.gone.0 in
      let acting = phase_acting s code turns until date cycle agent r before g on in
      record {
        doing = λ pending. subst (λ n. HasDone s code r (charge_after s r n).paid sends taken) (sym (more s code turns until date cycle agent r before g)) did;
        sent = λ ended. absurd (let wrong : phase.Acting ≡ phase.Ended = sym acting ∙ ended in cc);
        took = λ stream n at own ended. absurd (let wrong : phase.Acting ≡ phase.Ended = sym acting ∙ ended in cc);
      }

  -- one that reached a point has done all that it did
  pub box_ended : (point : ℕ) → AfterCycle s code r had (gone.Ended point) charge machine → HasDoneBy s code r had sends taken (gone.Ended point) → BoxStands s code now date agent (r ∷ before) sends taken
  box_ended point a did =
      let off = over s code turns until date cycle agent r before g a.gone.0 in
      record {
        doing = λ pending. absurd (true≢false (sym pending ∙ off));
        sent = λ ended. did.sent;
        took = λ stream n at own ended. did.took stream n at (own ∙ sym g.agent_is);
      }

  -- what one did that was stopped is nowhere asked for
  box_stopped : suc had ≡ work r → is_done r.verdict ≡ false → BoxStands s code now date agent (r ∷ before) sends taken
  box_stopped last done =
      let off = over s code turns until date cycle agent r before g last in
      let stopped : phase_of date now r ≡ phase.Stopped = phase_over s code turns until date cycle agent r before g off ∙ ap (λ test. phase_by false false test) done in
      record {
        doing = λ pending. absurd (true≢false (sym pending ∙ off));
        sent = λ ended. absurd (let wrong : phase.Stopped ≡ phase.Ended = sym stopped ∙ ended in cc);
        took = λ stream n at own ended. absurd (let wrong : phase.Stopped ≡ phase.Ended = sym stopped ∙ ended in cc);
      }

  pub box_trapped : (kind : Trap) → AfterCycle s code r had (gone.Trapped kind) charge machine → BoxStands s code now date agent (r ∷ before) sends taken
  box_trapped kind a = box_stopped a.gone.0 (ap is_done a.gone.1)

  pub box_spent : AfterCycle s code r had gone.Spent charge machine → BoxStands s code now date agent (r ∷ before) sends taken
  box_spent a = box_stopped a.gone.0 (ap is_done a.gone.1)
