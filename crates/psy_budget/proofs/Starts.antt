-- Actions that begin one behind the other, and one that begins at once.
use Rattle.std.proofs.Common.{◌≡◌, ℕ, ◌+◌, ◌-◌, ◌^◌, ◌<◌, min, List, [], ◌∷◌, length, ap, ◌∙◌, arith}
use Rattle.psy_budget.specs.Charges.{Charged, after_start, after_start_at, after_starts}

pub starts : (c : Charged) (budgets : List ℕ) (budget : ℕ) → c.started + length budgets < 2 ^ 64 - 1
    → after_start (after_starts c budgets) budget ≡ after_start_at c (c.started + length budgets) budget
starts c [] budget less =
    ap (λ (n : ℕ). record c { started = n; budget = budget; consumed = 0; paid = 0 }) (omega (arith, less))
starts c (first ∷ budgets) budget less =
    let one : min (c.started + 1) (2 ^ 64 - 1) ≡ c.started + 1 = omega (arith, less) in
    let later = starts (after_start c first) budgets budget (omega (arith, less, one)) in
    later ∙ ap (λ (n : ℕ). record c { started = n; budget = budget; consumed = 0; paid = 0 }) (omega (arith, one))
