-- Runs that go on, and runs that are over.
use Rattle.std.proofs.Common.{◌≡◌, subst}
use Rattle.psy_code.specs.Execution.{Run, RunState, Running}
use Rattle.psy_code.specs.Lasting.{IsOver}

pub same_running : (s t : RunState) → Running s ≡ Running t → s ≡ t
same_running s t e = cc

pub not_over : (s t : RunState) (run : Run) → run ≡ Running s → IsOver run t → ⊥
not_over s t run e h = subst (λ r. IsOver r t) e h
