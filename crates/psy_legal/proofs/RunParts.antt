-- A run cut in two at a number of instructions; and a run that is over stays so.
use Rattle.std.proofs.Common.{◌≡◌, ℕ, zero, suc, ◌+◌, ◌-◌, ◌≤◌, refl, ap, ◌∙◌, arith, zero-add, suc-add}
use Rattle.psy_code.specs.declared.code.AgentCode.{AgentCode}
use Rattle.psy_code.specs.declared.code.Code.{Code}
use Rattle.psy_code.specs.Execution.{NoRun, RanTo, Run, RunState, Running, TrappedBy, go_on, run_code, run_one}
use Rattle.psy_code.specs.Lasting.{IsOver}

module _ (code : Code) (its : AgentCode) where
  -- ---- the run in two parts

  parts_by : (n k : ℕ) (run : Run) → ((u : RunState) → run_code code its u (n + k) ≡ go_on (run_code code its u n) (λ t. run_code code its t k))
      → go_on run (λ u. run_code code its u (n + k)) ≡ go_on (go_on run (λ u. run_code code its u n)) (λ t. run_code code its t k)
  parts_by n k (Running u) on = on u
  parts_by n k (RanTo point u) on = refl
  parts_by n k (TrappedBy kind u) on = refl
  parts_by n k NoRun on = refl

  pub parts : (n k : ℕ) (s : RunState) → run_code code its s (n + k) ≡ go_on (run_code code its s n) (λ t. run_code code its t k)
  parts zero k s = ap (run_code code its s) (zero-add k)
  parts (suc n) k s = ap (run_code code its s) (suc-add n k) ∙ parts_by n k (run_one code its s) (λ u. parts n k u)

  over_on : (run : Run) (t : RunState) (go : RunState → Run) → IsOver run t → go_on run go ≡ run
  over_on (Running u) t go over = absurd over
  over_on (RanTo point u) t go over = refl
  over_on (TrappedBy kind u) t go over = refl
  over_on NoRun t go over = absurd over

  -- a run that is over stays so
  pub over_stays : (n m : ℕ) (s t : RunState) → n ≤ m → IsOver (run_code code its s n) t → run_code code its s m ≡ run_code code its s n
  over_stays n m s t h over =
      let k : m ≡ n + (m - n) = omega arith in
      ap (run_code code its s) k ∙ parts n (m - n) s ∙ over_on (run_code code its s n) t _ over
