-- The parts of a machine: its operands, and the frames of the agent and of its open calls.
use Rattle.std.specs.Prelude.{ℕ, List, ℤ}
use Rattle.psy_code.specs.Execution.{Frame, OpenCall, innermost_frame, home_with, calls_with}

-- The operands, and how many there may be
pub record OperandStack : Type 0 where
  -- the top first
  pub values : List ℤ
  -- how many operands there is room for
  pub room : ℕ

-- The frames of the agent and of its open calls, and how much these may hold
pub record FrameStack : Type 0 where
  -- the agent's own frame
  pub home : Frame
  -- the innermost first
  pub calls : List OpenCall
  -- how many cells and counters of open calls there is room for
  pub room : ℕ

-- The innermost frame
abbrev pub present_in : FrameStack → Frame
present_in f = innermost_frame f.home f.calls

-- The frames with another innermost one
abbrev pub with_present : Frame → FrameStack → FrameStack
with_present frame f = record f { home = home_with f.home f.calls frame; calls = calls_with f.calls frame }
