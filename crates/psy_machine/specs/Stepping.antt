-- What a step of an agent's machine does: one instruction of the definition of execution.
use Rattle.std.specs.Prelude.{◌≡◌, ℕ, ◌<◌, ◌≤◌, List, length, map, replicate, Option, Some, None, slice_get, ℤ}
use Rattle.psy_code.specs.declared.code.Code.{Code}
use Rattle.psy_code.specs.declared.code.AgentCode.{AgentCode}
use Rattle.psy_code.specs.Views.{View, Window, Call, Past, answered}
use Rattle.psy_code.specs.Execution.{Machine, Next, Went, Ended, Trapped, Stuck, need, next_of, new_machine, copy_from, standing}
use Rattle.psy_machine.specs.Copying.{with_values}
use Rattle.psy_machine.specs.declared.machine.Step.{Step}
use Rattle.psy_machine.specs.declared.machine.Step.TheVariants as step

-- The state of the machine of an agent, and what there is room for in it.
pub record AgentMachine : Type 0 where
  pub agent : ℕ
  pub machine : Machine
  -- operands
  pub stack : ℕ
  -- cells and counters of all open calls
  pub frames : ℕ

-- The machine is one of this code: the code has its agent, and there is room for all that the agent's
-- instructions may hold.
abbrev pub IsOf : Code → AgentMachine → Type 0
IsOf code m = (agent : AgentCode) × (slice_get code.agents m.agent ≡ Some agent) × (agent.stack ≤ m.stack) × (agent.frames ≤ m.frames)

-- A new machine of this agent stands at point 0 with the first values.
abbrev pub IsNew : Code → ℕ → AgentMachine → Type 0
IsNew code number m = (agent : AgentCode) × (slice_get code.agents number ≡ Some agent) × (m.agent ≡ number) × (m.machine ≡ new_machine agent)

-- The code has this agent with this point, and so many cells and copies.
abbrev pub HasPlace : Code → ℕ → ℕ → List ℤ → List ℤ → Type 0
HasPlace code number point cells copies = (agent : AgentCode) × (slice_get code.agents number ≡ Some agent)
    × (point < length agent.points) × (length cells ≡ length agent.cells) × (length copies ≡ length agent.copies)

-- The machine of this agent stands at a point with these values in its cells and working copies, its counters 0.
abbrev pub StandsAt : Code → ℕ → ℕ → List ℤ → List ℤ → AgentMachine → Type 0
StandsAt code number point cells copies m = (agent : AgentCode) × (slice_get code.agents number ≡ Some agent) × (m.agent ≡ number)
    × (m.machine ≡ standing agent point (record { cells = cells; counters = replicate agent.counters 0 }) (with_values (map copy_from agent.copies) copies))

-- What comes of the machine's next instruction.
abbrev pub next_for : Code → View → AgentMachine → Next
next_for code view m = need (slice_get code.agents m.agent) (λ agent. next_of code agent view m.machine)

-- The answer of a step
abbrev pub Answers : Next → Step → Type 0
Answers (Went machine) answer = answer ≡ step.Went
Answers (Ended point machine) answer = answer ≡ step.Ended point
Answers (Trapped kind) answer = answer ≡ step.Trapped kind
Answers Stuck answer = ⊥

-- The machine after it, which a trap leaves as it was
abbrev pub machine_after : Next → Machine → Machine
machine_after (Went machine) m = machine
machine_after (Ended point machine) m = machine
machine_after _ m = m

-- The machine after its next instruction
abbrev pub stepped : Code → View → AgentMachine → AgentMachine
stepped code view m = record m { machine = machine_after (next_for code view m) m.machine }

-- What the world serves once it was asked; an instruction that asks nothing leaves it as it was.
abbrev pub window_after : Window → Option Call → Window
window_after window None = window
window_after window (Some call) = answered window call

-- The variable and the `back` that an instruction looks at, by what it asks, where it does
abbrev pub look_of : Option Call → Option (ℕ × ℕ)
look_of (Some (Past variable back)) = Some (variable, back)
look_of call = None
