-- One instruction of the code of expressions.
use Rattle.std.proofs.Common.{◌≡◌, refl, ap, ◌∙◌}
use Rattle.std.specs.Prelude.{ℕ, List, length, slice_get, Some, ℤ}
use Rattle.psy_arith.specs.declared.operators.Trap.{Trap}
use Rattle.psy_code.specs.declared.code.Code.{Code}
use Rattle.psy_code.specs.declared.code.AgentCode.{AgentCode}
use Rattle.psy_code.specs.declared.instr.Instr.{Instr}
use Rattle.psy_code.specs.Views.{tick}
use Rattle.psy_code.specs.Execution.{Machine, Next, Went, Trapped, TrappedBy, does, run_one, run_code, present, index_in, copy_of, call_by, state_then}
use Rattle.psy_code.specs.Execution as code
use Rattle.psy_meaning.specs.Sound.{Scope}
use Rattle.psy_meaning.specs.States.{State, cost_1, trapping}
use Rattle.psy_gen.proofs.Leads.{Leads, by_one, went, trapped}
use Rattle.psy_gen.proofs.Contexts.{Context, Home, Inside, Room, roomy, machine_in, at, frame_size, Holds, HaltsAt}

module _ (whole : Code) (its : AgentCode) (k : Context) where
  -- An instruction that goes on to other operands
  pub step : (p q : ℕ) (operands more : List ℤ) (counters : List ℕ) (s t : State) (i : Instr) (cells calls : ℕ) → slice_get whole.instrs p ≡ Some i
      → does whole its s.view i (machine_in k p operands s.store counters) ≡ Went (machine_in k q more t.store counters)
      → state_then (at k p operands s counters) (call_by i operands) (machine_in k q more t.store counters) ≡ at k q more t counters
      → Room its k (frame_size t.store counters) (length more) cells calls → Leads whole its (at k p operands s counters) (at k q more t counters)
  step p q operands more counters s t i cells calls here does_it same room =
      by_one whole its (at k p operands s counters) (at k q more t counters)
      (went whole its (at k p operands s counters) i (machine_in k q more t.store counters) here does_it (roomy its k q more t.store counters cells calls room) ∙ ap code.Running same)

  -- An instruction that traps
  holds_here : (p : ℕ) (operands : List ℤ) (s : State) (counters : List ℕ) → Holds k (cost_1 s) (record (at k p operands s counters) { deeds = tick s.deeds })
  holds_here p operands s counters = by k
    where
      by : (k : Context) → Holds k (cost_1 s) (record (at k p operands s counters) { deeds = tick s.deeds })
      by Home = (refl, refl, refl)
      by (Inside home copies back outer) = (refl, refl, refl)

  pub traps : (sc : Scope) (p : ℕ) (operands : List ℤ) (counters : List ℕ) (s : State) (i : Instr) (kind : Trap) → slice_get whole.instrs p ≡ Some i
      → does whole its s.view i (machine_in k p operands s.store counters) ≡ Trapped kind → HaltsAt whole its sc k (at k p operands s counters) (trapping kind s)
  traps sc p operands counters s i kind here does_it =
      (1, record (at k p operands s counters) { deeds = tick s.deeds }, ap (λ x. code.go_on x (λ y. code.Running y)) (trapped whole its (at k p operands s counters) i kind here does_it), holds_here p operands s counters)
