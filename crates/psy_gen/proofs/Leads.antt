-- Where a run leads: each way that a later state's run ends is one that an earlier state's run ends.
use Rattle.std.proofs.Common.{◌≡◌, refl, ap, ◌∙◌}
use Rattle.std.specs.Prelude.{ℕ, suc, true, Some, ⊤}
use Rattle.psy_code.specs.declared.code.Code.{Code}
use Rattle.psy_code.specs.declared.code.AgentCode.{AgentCode}
use Rattle.psy_code.specs.declared.instr.Instr.{Instr}
use Rattle.psy_arith.specs.declared.operators.Trap.{Trap}
use Rattle.psy_code.specs.Views.{tick}
use Rattle.psy_code.specs.Execution.{Machine, RunState, Run, Running, RanTo, TrappedBy, NoRun, Went, Ended, Trapped, has_room, does, instr_at, call_by, run_one, run_code, go_on, state_then}

-- The run is over: it ended or trapped.
abbrev pub Over : Run → Type 0
Over (RanTo point t) = ⊤
Over (TrappedBy kind t) = ⊤
Over (Running t) = ⊥
Over NoRun = ⊥

module _ (code : Code) (its : AgentCode) where
  abbrev pub Leads : RunState → RunState → Type 0
  Leads t u = (n : ℕ) (r : Run) → Over r → run_code code its u n ≡ r → (m : ℕ) × (run_code code its t m ≡ r)

  pub here : (t : RunState) → Leads t t
  here t n r over e = (n, e)

  pub after : (t u v : RunState) → Leads t u → Leads u v → Leads t v
  after t u v f g n r over e = let there = g n r over e in f there.0 r over there.1

  pub by_one : (t u : RunState) → run_one code its t ≡ Running u → Leads t u
  by_one t u one n r over e = (suc n, ap (λ x. go_on x (λ y. run_code code its y n)) one ∙ e)

  -- An instruction that goes on
  pub went : (s : RunState) (i : Instr) (m : Machine) → instr_at code s.machine ≡ Some i → does code its s.view i s.machine ≡ Went m → has_room its m ≡ true → run_one code its s ≡ Running (state_then s (call_by i s.machine.operands) m)
  went s i m at d room = rw (at, d, room) refl

  -- an instruction that traps, and one that ends the action
  pub trapped : (s : RunState) (i : Instr) (kind : Trap) → instr_at code s.machine ≡ Some i → does code its s.view i s.machine ≡ Trapped kind → run_one code its s ≡ TrappedBy kind (record s { deeds = tick s.deeds })
  trapped s i kind at d = rw (at, d) refl

  pub ended : (s : RunState) (i : Instr) (point : ℕ) (m : Machine) → instr_at code s.machine ≡ Some i → does code its s.view i s.machine ≡ Ended point m → run_one code its s ≡ RanTo point (state_then s (call_by i s.machine.operands) m)
  ended s i point m at d = rw (at, d) refl
