-- The look of the cycle that an action gets: how far back it goes, and how far back rings are reached for with it.
use Rattle.std.proofs.Common.{◌≡◌, refl, sym, ap, ◌∙◌, subst, arith}
use Rattle.std.specs.Prelude.{ℕ, ◌<◌, Option, Some, None}
use Rattle.psy_budget.specs.declared.charge.Tick.{Tick}
use Rattle.psy_budget.specs.declared.charge.Tick.TheVariants as tick
use Rattle.psy_machine.specs.Stepping.{look_of}
use Rattle.psy_budget.specs.Charges.{cycle_of, tick_of}
use Rattle.psy_code.specs.declared.code.Code.{Code}
use Rattle.psy_code.specs.Execution.{RunState, Running, call_of, run_code}
use Rattle.psy_code.specs.Views.{Call, Past, Ready, Take, Send}
use Rattle.psy_history.specs.Regular.{MayAsk, begun_by}
use Rattle.psy_history.specs.Rings.{reach_with}
use Rattle.psy_history.specs.Actions.{Action, System}
use Rattle.psy_meaning.specs.CodeWays.{agent_code_at}
use Rattle.psy_history.specs.Schedule.{work}
use Rattle.psy_kernel.specs.Acting.{IsOfCode, LooksBy}
use Rattle.psy_kernel.specs.Cycles.{IsNear, reach_by}
use Rattle.psy_kernel.specs.Standing.{charge_after}
use Rattle.psy_kernel.proofs.PaidCycles.{not_spent, paid_at, paid_few, stalled_at}
use Rattle.psy_kernel.proofs.RunsOn.{asks}
use Rattle.psy_kernel.proofs.Verdicts.{is_whole}

module _ (s : System) (code : Code) (r : Action) (of_code : IsOfCode s code r) (had : ℕ) (less : had < work r) (date : ℕ) where
  within : had < r.budget
  within = omega (arith, less)

  abbrev paid : ℕ
  paid = (charge_after s r had).paid

  left : paid < r.budget
  left = (let few = paid_few (s.stalls r.agent) r.number r.budget had (omega (arith, within)) in omega (arith, few, within))

  abbrev now : Tick
  now = tick_of (charge_after s r had)

  -- ---- how far back it goes

  near_of : ((variable back : ℕ) → MayAsk of_code.ways s.unit r.agent r.point (Some (Past variable back)) → IsNear s r.start date (Some (variable, back)))
      → (call : Option Call) → MayAsk of_code.ways s.unit r.agent r.point call → IsNear s r.start date (look_of call)
  near_of law None may = tt {0}
  near_of law (Some (Past variable back)) may = law variable back may
  near_of law (Some (Ready stream)) may = tt {0}
  near_of law (Some (Take stream)) may = tt {0}
  near_of law (Some (Send sent)) may = tt {0}

  near_by : ((variable back : ℕ) → MayAsk of_code.ways s.unit r.agent r.point (Some (Past variable back)) → IsNear s r.start date (Some (variable, back)))
      → (look : Option (ℕ × ℕ)) (t : Tick) → LooksBy code r paid look t → IsNear s r.start date look
  near_by law look tick.Paid h =
      subst (IsNear s r.start date) (sym h.2) (near_of law (call_of code h.0.machine) (asks _ _ _ _ _ _ _ (is_whole s code r of_code) paid left h.0 h.1))
  near_by law look tick.Stalled h = subst (IsNear s r.start date) (sym h) (tt {0})
  near_by law look tick.Spent h = subst (IsNear s r.start date) (sym h) (tt {0})

  pub near : ((variable back : ℕ) → MayAsk of_code.ways s.unit r.agent r.point (Some (Past variable back)) → IsNear s r.start date (Some (variable, back)))
      → (look : Option (ℕ × ℕ)) → LooksBy code r paid look now → IsNear s r.start date look
  near law look h = near_by law look now h

  -- ---- how far back a ring is reached for

  reach_of : (variable : ℕ) (call : Option Call) (reach : Option ℕ) → reach_with s variable r.start date call reach ≡ reach_by s variable r.start date (look_of call) reach
  reach_of variable None reach = refl
  reach_of variable (Some (Past looked back)) reach = refl
  reach_of variable (Some (Ready stream)) reach = refl
  reach_of variable (Some (Take stream)) reach = refl
  reach_of variable (Some (Send sent)) reach = refl

  module _ (variable : ℕ) (before after : Option ℕ) (stalls : ((instr : ℕ) → had ≡ cycle_of (s.stalls r.agent) r.number instr → ⊥) → after ≡ before)
      (pays : (instr : ℕ) (state : RunState) → run_code code (agent_code_at code r.agent) (begun_by (agent_code_at code r.agent) r) instr ≡ Running state → had ≡ cycle_of (s.stalls r.agent) r.number instr → instr < r.budget
      → after ≡ reach_with s variable r.start date (call_of code state.machine) before) where
    reached_by : (look : Option (ℕ × ℕ)) (t : Tick) → now ≡ t → LooksBy code r paid look t → after ≡ reach_by s variable r.start date look before
    reached_by look tick.Paid e h =
        let at = paid_at (s.stalls r.agent) r.number r.budget had within e in
        pays paid h.0 h.1 at (omega (arith, at, within)) ∙ reach_of variable (call_of code h.0.machine) before
        ∙ ap (λ l. reach_by s variable r.start date l before) (sym h.2)
    reached_by look tick.Stalled e h = stalls (stalled_at (s.stalls r.agent) r.number r.budget had within e) ∙ ap (λ l. reach_by s variable r.start date l before) (sym h)
    reached_by look tick.Spent e h = absurd (not_spent (s.stalls r.agent) r.number r.budget had within e)

    pub reached : (look : Option (ℕ × ℕ)) → LooksBy code r paid look now → after ≡ reach_by s variable r.start date look before
    reached look h = reached_by look now refl h
