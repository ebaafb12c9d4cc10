-- What is left of the proof of `laws::quiet_alike`.
use Rattle.std.proofs.Common.{◌≡◌, ◌∙◌, ℕ, suc, List, sym}
use Rattle.std.specs.Prelude.{ℤ}
use Rattle.psy_budget.specs.declared.charge.Stall.{Stall}
use Rattle.psy_code.specs.declared.code.Code.{Code}
use Rattle.psy_history.specs.Compiled.{AreInputs, IsCompiled, coded, stated}
use Rattle.psy_history.specs.History.{history}
use Rattle.psy_history.specs.Resuming.{is_busy}
use Rattle.psy_tree.specs.declared.unit.Unit.{Unit as Whole}
use Rattle.psy_save.proofs.BusyDates.{busy_like}
use Rattle.psy_save.proofs.laws.quiet_alike.Goals as goal

same : (c : goal.After-alike) (unit : Whole) (code : Code) (nexts : List (List (List ℕ))) (stalls : ℕ → List Stall) (inputs : List (List ℤ)) (date : ℕ) → IsCompiled unit code nexts → AreInputs unit inputs
    → (agent : ℕ) → is_busy date (history (stated unit nexts stalls inputs) (suc date) agent) ≡ is_busy date (history (coded unit code nexts stalls inputs) (suc date) agent)
same c unit code nexts stalls inputs date compiled are agent =
    sym (busy_like date (history (coded unit code nexts stalls inputs) (suc date) agent) (history (stated unit nexts stalls inputs) (suc date) agent)
    (c.alike.ensures.actions unit code nexts stalls inputs compiled are (suc date) agent))

pub returns-clause-quiet : goal.returns-clause-quiet
returns-clause-quiet c unit code nexts stalls inputs date compiled are quiet agent = same c unit code nexts stalls inputs date compiled are agent ∙ quiet agent

pub returns-clause-busy : goal.returns-clause-busy
returns-clause-busy c unit code nexts stalls inputs date agent compiled are first = record {
  known = first.known;
  busy = same c unit code nexts stalls inputs date compiled are agent ∙ first.busy;
  first = λ lesser less. same c unit code nexts stalls inputs date compiled are lesser ∙ first.first lesser less;
}
