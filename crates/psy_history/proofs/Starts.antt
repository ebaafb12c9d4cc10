-- How an action came to its verdict; and that the same comes of the code and of the statements of an action that starts where its agent may go on.
use Rattle.std.proofs.Common.{◌≡◌, ℕ, List, inl, inr, refl, sym, subst}
use Rattle.std.specs.Prelude.{nat_lt, ℤ}
use Rattle.std.proofs.lemmas.Bool.{cases_Bool}
use Rattle.psy_budget.specs.declared.charge.Stall.{Stall}
use Rattle.psy_code.specs.declared.code.Code.{Code}
use Rattle.psy_code.specs.Views.{View}
use Rattle.psy_tree.specs.declared.unit.AgentDecl.{AgentDecl}
use Rattle.psy_tree.specs.declared.unit.Unit.{Unit as Whole}
use Rattle.psy_history.specs.Actions.{Next, System, Done, Overran, timing, verdict_by, verdict_of}
use Rattle.psy_meaning.specs.Alike.{IsViewOf, started}
use Rattle.psy_meaning.specs.CodeWays.{agent_code_at}
use Rattle.psy_history.specs.Executors.{Acted, Fate, Reached, Unfinished, acted_by, by_statements, machine_at}
use Rattle.psy_tree.specs.Parts.{agent_at}
use Rattle.psy_history.specs.Executors as fate
use Rattle.psy_meaning.specs.States.{Halts}
use Rattle.psy_meaning.specs.Timing.{Timing, budget_at, end_date}
use Rattle.psy_history.specs.Compiled.{IsCompiled, coded}
use Rattle.psy_history.proofs.OneAction.{AreWithin, within_budget}
use Rattle.psy_history.proofs.Stores.{AreStoreLaws, EndsAlike, IsReady, ends_alike}

-- ---- verdicts

-- One that is done reached the point, whose date is its end
done_by : (times : Timing) (start : ℕ) (f : Fate) (p e : ℕ) → verdict_by times start f ≡ Done p e → (f ≡ Reached p) × (e ≡ end_date times start p)
done_by times start (Reached q) p e h = (cc, cc)
done_by times start (fate.Trapped kind) p e h = absurd cc
done_by times start Unfinished p e h = absurd cc

pub done_of : (times : Timing) (start budget charge : ℕ) (f : Fate) (p e : ℕ) → verdict_of times start budget charge f ≡ Done p e → (f ≡ Reached p) × (e ≡ end_date times start p)
done_of times start budget charge f p e h = elim (cases_Bool (nat_lt budget charge)) [
  | inl t ↦ (let over : Overran ≡ Done p e = rw t at h in absurd cc)
  | inr t ↦ done_by times start f p e (rw t at h)
]

-- ---- an action

module _ (unit : Whole) (code : Code) (nexts : List (List (List ℕ))) (stalls : ℕ → List Stall) (inputs : List (List ℤ)) (laws : AreStoreLaws unit code) (compiled : IsCompiled unit code nexts)
    (agent : ℕ) (n : Next) (ready : IsReady unit agent n) (view : View) (sees : IsViewOf unit agent view) where
  abbrev system : System
  system = coded unit code nexts stalls inputs

  abbrev decl : AgentDecl
  decl = agent_at unit agent

  abbrev times : Timing
  times = timing system agent

  abbrev budget : ℕ
  budget = budget_at times n.point

  abbrev acted : Acted
  acted = system.executor.act agent n.point n.carried view budget

  it : EndsAlike unit code agent n.point n.carried view
  it = ends_alike unit code nexts laws compiled agent n.point n.carried view ready.less ready.known ready.carries sees

  within : AreWithin budget acted (acted_by budget n.carried (Halts it.final))
  within =
      let its = agent_code_at code agent in
      within_budget code its (laws.lasted its) (started (machine_at its n.point n.carried) view) refl budget n.carried it.final it.ends

  -- the same came of the statements
  pub acted_alike : AreWithin budget acted ((by_statements unit).act agent n.point n.carried view budget)
  acted_alike = subst (λ o. AreWithin budget acted (acted_by budget n.carried o)) (sym it.acts) within
