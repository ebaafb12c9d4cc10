-- What stalls cost an action before its first so many instructions.
use Rattle.std.proofs.Common.{◌≡◌, ℕ, ◌≤◌, cond, ◌==◌, ◌&&◌, nat_lt, List, [], ◌∷◌, refl, arith}
use Rattle.std.proofs.lemmas.Bool.Decides.{nat_tests}
use Rattle.std.proofs.lemmas.List.Sums.{sum_by-cons}
use Rattle.psy_budget.specs.declared.charge.Stall.{Stall}
use Rattle.psy_budget.specs.Charges.{stalled}

-- What a stall costs
abbrev cost : ℕ → ℕ → Stall → ℕ
cost action n s = cond (s.action == action && nat_lt s.instr n) s.cycles 0

none_costs : (action : ℕ) (s : Stall) → cost action 0 s ≡ 0
none_costs action s = grind (arith, nat_tests)

-- Before no instruction nothing is stalled.
pub none_stalled : (action : ℕ) (stalls : List Stall) → stalled stalls action 0 ≡ 0
none_stalled action [] = refl
none_stalled action (s ∷ stalls) = omega (arith, sum_by-cons (cost action 0) s stalls, none_costs action s, none_stalled action stalls)

more_cost : (action n m : ℕ) (s : Stall) → n ≤ m → cost action n s ≤ cost action m s
more_cost action n m s more = grind (arith, nat_tests)

-- Before more instructions no less is stalled.
pub more_stalled : (action n m : ℕ) (stalls : List Stall) → n ≤ m → stalled stalls action n ≤ stalled stalls action m
more_stalled action n m [] more = omega arith
more_stalled action n m (s ∷ stalls) more =
    omega (arith, sum_by-cons (cost action n) s stalls, sum_by-cons (cost action m) s stalls, more_cost action n m s more, more_stalled action n m stalls more)
