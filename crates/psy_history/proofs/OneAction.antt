-- One action, by the code and by the statements: the same within the budget, and past it in both.
use Rattle.std.proofs.Common.{◌≡◌, ℕ, zero, suc, ◌<◌, ◌≤◌, ◌⊎◌, inl, inr, refl, sym, ap, ◌∙◌, subst, arith}
use Rattle.std.proofs.lemmas.Bool.{cases_lt}
use Rattle.psy_code.specs.declared.code.AgentCode.{AgentCode}
use Rattle.psy_code.specs.declared.code.Code.{Code}
use Rattle.psy_code.specs.Execution.{RanTo, Run, RunState, TrappedBy, run_code}
use Rattle.psy_code.specs.Lasting.{IsOver, Lasted}
use Rattle.psy_code.specs.Views.{Deeds}
use Rattle.psy_meaning.specs.Alike.{EndsAs}
use Rattle.psy_history.specs.Executors.{Acted, Carried, Unfinished, acted_as, acted_by}
use Rattle.psy_meaning.specs.States.{Final, Halts}
use Rattle.psy_meaning.specs.States as by
use Rattle.psy_history.proofs.LateLooks.{looks_before, looks_below, over_stays}

-- Both cost more than the budget, the first unfinished, and have the same looks below it.
pub record ArePast (budget : ℕ) (a b : Acted) : Type 0 where
  pub unfinished : a.fate ≡ Unfinished
  pub this : budget < a.deeds.steps
  pub that : budget < b.deeds.steps
  pub looks : looks_below budget a.deeds ≡ looks_below budget b.deeds

-- The same came of both, or both are past the budget.
abbrev pub AreWithin : ℕ → Acted → Acted → Type 0
AreWithin budget a b = (a ≡ b) ⊎ ArePast budget a b

-- ---- a run that ends as the statements do

-- A run that is over took an instruction
pub some_steps : (code : Code) (its : AgentCode) (s t : RunState) (n : ℕ) → IsOver (run_code code its s n) t → 1 ≤ n
some_steps code its s t zero over = absurd over
some_steps code its s t (suc n) over = omega arith

module _ (code : Code) (its : AgentCode) (lasting : (s t : RunState) (n : ℕ) → IsOver (run_code code its s n) t → Lasted code its s n t) (start : RunState) (fresh : start.deeds.steps ≡ 0) (budget : ℕ) (carried : Carried) where
  past_it : (t : RunState) (n : ℕ) (b : Acted) → IsOver (run_code code its start n) t → t.deeds.steps ≡ n → b.deeds ≡ t.deeds → budget < n → ArePast budget (acted_as budget carried (run_code code its start budget)) b
  past_it t n b over counted deeds less =
      let l = lasting start t n over in
      let early : budget < l.steps = omega (arith, l.counted, counted, fresh, less) in
      let on = l.on_the_way budget early in
      let steps : on.state.deeds.steps ≡ budget = omega (arith, on.counted, fresh) in
      subst (λ run. ArePast budget (acted_as budget carried run) b) (sym on.running) (record {
        unfinished = refl;
        this = omega arith;
        that = subst (λ (d : Deeds). budget < d.steps) (sym deeds) (omega (arith, counted, less));
        looks = looks_before code its budget n start t on.state (omega (arith, less)) on.running steps over ∙ ap (looks_below budget) (sym deeds);
      })

  within_by : (t : RunState) (n : ℕ) (run : Run) (b : Acted) → run_code code its start n ≡ run → IsOver run t → t.deeds.steps ≡ n → b.deeds ≡ t.deeds → acted_as budget carried run ≡ b → AreWithin budget (acted_as budget carried (run_code code its start budget)) b
  within_by t n run b ran over counted deeds same =
      let ended : IsOver (run_code code its start n) t = subst (λ r. IsOver r t) (sym ran) over in
      elim (cases_lt budget n) [
        | inl less ↦ inr (past_it t n b ended counted deeds less)
        | inr most ↦ inl (ap (acted_as budget carried) (over_stays code its n budget start t most ended ∙ ran) ∙ same)
      ]

  pub within_budget : (final : Final) → EndsAs (Halts final) (run_code code its start) → AreWithin budget (acted_as budget carried (run_code code its start budget)) (acted_by budget carried (Halts final))
  within_budget (by.Ended point s) (t, ran, same) =
      within_by t s.deeds.steps (RanTo point t) (acted_by budget carried (Halts (by.Ended point s))) ran refl (ap (λ (d : Deeds). d.steps) same.deeds) (sym same.deeds) (rw (same.cells, same.copies, same.deeds) refl)
  within_budget (by.Trapped kind s) (t, ran, same) =
      within_by t s.deeds.steps (TrappedBy kind t) (acted_by budget carried (Halts (by.Trapped kind s))) ran refl (ap (λ (d : Deeds). d.steps) same.deeds) (sym same.deeds) (rw (same.cells, same.copies, same.deeds) refl)
