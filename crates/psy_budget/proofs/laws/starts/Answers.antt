-- What is left of the proof of `laws::starts`.
use Rattle.std.proofs.Common.{ap, ◌∙◌, arith}
use Rattle.std.specs.Prelude.{ℕ}
use Rattle.psy_budget.specs.Charges.{after_start_at}
use Rattle.psy_budget.proofs.Starts.{starts}
use Rattle.psy_budget.proofs.laws.starts.Goals as goal

pub returns : goal.returns
returns e c budgets budget none less =
    starts c budgets budget (omega (arith, none, less)) ∙ ap (λ (n : ℕ). after_start_at c n budget) (omega (arith, none))
