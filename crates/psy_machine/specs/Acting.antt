-- What an instruction that can be executed does to a machine.
use Rattle.std.specs.Prelude.{◌≡◌, ℕ, ◌+◌, ◌<◌, ◌≤◌, ◌^◌, not, if◌then◌else◌, ◌∷◌, pos, ⊤, length, slice_get}
use Rattle.psy_arith.specs.Operators.{truth, is_zero}
use Rattle.psy_base.specs.declared.limits.TheConstants.{OPEN_CALLS}
use Rattle.psy_code.specs.declared.code.AgentCode.{AgentCode}
use Rattle.psy_code.specs.Execution.{Machine, Next, Went, Ended, Trapped, Stuck, need, with_top, onward, push, jump, store, copy_of, back_from}
use Rattle.psy_code.specs.Execution.{begun_at, cells_in_calls}
use Rattle.psy_machine.specs.declared.machine.Step.{Step}
use Rattle.psy_machine.specs.Stepping.{AgentMachine, Answers, machine_after}

-- ---- some instructions, where what they name is there

-- Pops a value into a cell
abbrev pub store_top : ℕ → Machine → Next
store_top cell m = with_top m.operands (λ v rest. store cell v rest m)

-- Pushes the working copy of a variable
abbrev pub push_copy : ℕ → Machine → Next
push_copy variable m = need (copy_of variable m.copies) (λ v. push v m)

-- 1 in the place of a value that isn't 0
abbrev pub truth_of_top : Machine → Next
truth_of_top m = with_top m.operands (λ v rest. onward (truth (not (is_zero v)) ∷ rest) m)

-- Goes on at a place where the value on top is 0
abbrev pub jump_at_zero : ℕ → Machine → Next
jump_at_zero to m = with_top m.operands (λ v rest. if is_zero v then jump to rest m else onward rest m)

-- The same, and leaves the 0
abbrev pub leave_zero : ℕ → Machine → Next
leave_zero to m = with_top m.operands (λ v rest. if is_zero v then jump to (pos 0 ∷ rest) m else onward rest m)

-- Goes on at a place where the value on top isn't 0, and leaves 1
abbrev pub leave_one : ℕ → Machine → Next
leave_one to m = with_top m.operands (λ v rest. if is_zero v then onward rest m else jump to (pos 1 ∷ rest) m)

-- Ends the innermost call, with the value on top
abbrev pub leave_call : Machine → Next
leave_call m = with_top m.operands (λ v rest. back_from m.calls m)

-- Ends the action; the machine goes on behind the point
abbrev pub advance_to : AgentCode → ℕ → Machine → Next
advance_to agent point m = need (slice_get agent.points point) (λ place. Ended point (begun_at place m))

-- ---- what it takes, and what it does

-- The machine at another place
abbrev pub with_place : ℕ → AgentMachine → AgentMachine
with_place place m = record m { machine = record (m.machine) { place = place } }

-- What comes of it finds room in the machine.
abbrev pub Finds : AgentMachine → Next → Type 0
Finds m (Went machine) = (length machine.operands ≤ m.stack) × (cells_in_calls machine.calls ≤ m.frames) × (length machine.calls ≤ OPEN_CALLS)
Finds m (Ended point machine) = ⊤
Finds m (Trapped kind) = ⊤
Finds m Stuck = ⊥

-- The machine can do this next, and the place after its own is a number.
pub record CanDo (m : AgentMachine) (next : Next) : Type 0 where
  pub place : m.machine.place + 1 < 2 ^ 64
  pub room : Finds m next

-- The machine and the answer after it
pub record Did (next : Next) (old new : AgentMachine) (result : Step) : Type 0 where
  pub answer : Answers next result
  pub machine : new ≡ record old { machine = machine_after next old.machine }
