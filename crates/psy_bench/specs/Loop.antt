-- The code of a loop, and how its machine stands at each of its places.
use Rattle.std.specs.Prelude.{◌≡◌, ℕ, ◌≤◌, List, [], ◌∷◌, Option, Some, None, ℤ, pos, ⊤}
use Rattle.psy_arith.specs.declared.operators.Op2.TheVariants as op
use Rattle.psy_arith.specs.declared.width.Width.TheVariants as width
use Rattle.psy_code.specs.declared.code.Code.{Code}
use Rattle.psy_code.specs.declared.code.AgentCode.{AgentCode}
use Rattle.psy_code.specs.declared.code.CopyInit.{CopyInit}
use Rattle.psy_code.specs.declared.code.FunctionCode.{FunctionCode}
use Rattle.psy_code.specs.declared.instr.Instr.{Instr}
use Rattle.psy_code.specs.declared.instr.Instr.TheVariants as instr
use Rattle.psy_code.specs.Execution.{Machine, OpenCall, Next, Went, Ended, Trapped, Stuck}
use Rattle.psy_code.specs.Views.{Window}
use Rattle.psy_code.specs.declared.look.Sent.{Sent}
use Rattle.psy_machine.specs.Stepping.{AgentMachine}
use Rattle.psy_bench.specs.declared.still.Still.{Still}

-- The instructions of the agent, and behind them those of the function
abbrev pub instrs : List Instr
instrs =
    instr.Zero 0 ∷ instr.Load 0 ∷ instr.Push (pos 8) ∷ instr.Binary op.Lt width.W32 ∷ instr.Guard 0 8 ∷ instr.JumpZero 21 ∷
    instr.Load 1 ∷ instr.Load 0 ∷ instr.Call 0 ∷ instr.Binary op.Add width.W32 ∷ instr.Store 1 ∷ instr.Load 0 ∷
    instr.Push (pos 3) ∷ instr.Binary op.And width.W32 ∷ instr.Load 1 ∷ instr.StoreCell 2 4 ∷ instr.Load 0 ∷
    instr.Push (pos 1) ∷ instr.Binary op.Add width.W32 ∷ instr.Store 0 ∷ instr.Jump 1 ∷ instr.Push (pos 0) ∷
    instr.Store 0 ∷ instr.Load 1 ∷ instr.StoreCopy 0 ∷ instr.Advance 1 ∷ instr.Jump 0 ∷ instr.Load 0 ∷
    instr.Push (pos 3) ∷ instr.Binary op.Mul width.W32 ∷ instr.Load 1 ∷ instr.Binary op.Sub width.W32 ∷ instr.Return ∷ []

-- The agent's one working copy, 0 at first
abbrev pub first_copy : CopyInit
first_copy = record { variable = 0; init = pos 0 }

-- The agent: six cells, of which four are an array, and one counter
abbrev pub agent_code : AgentCode
agent_code = record {
  points = 0 ∷ 26 ∷ [];
  cells = pos 0 ∷ pos 0 ∷ pos 0 ∷ pos 0 ∷ pos 0 ∷ pos 0 ∷ [];
  counters = 1;
  copies = first_copy ∷ [];
  stack = 3;
  frames = 2;
}

-- The function: one parameter, and a local that is 5 at first
abbrev pub function_code : FunctionCode
function_code = record { entry = 27; params = 1; locals = pos 5 ∷ []; counters = 0 }

-- The code of the loop
abbrev pub loop_code : Code
loop_code = record { instrs = instrs; agents = agent_code ∷ []; functions = function_code ∷ [] }

-- One send, where there is one.
abbrev pub all_sent : Option Sent → List Sent
all_sent None = []
all_sent (Some sent) = sent ∷ []

-- One variable with one value, and one stream without a message; one send finds room.
abbrev pub seen : Still → Window
seen still = record {
  view = record { pasts = (still.published ∷ []) ∷ []; messages = Some [] ∷ [] };
  streams = 1;
  clocks = 1;
  room = 1;
  sends = all_sent still.sent;
  noted = still.noted;
}

-- ---- the machine at each place

-- The agent's six cells, its counter and its copy
pub record Held : Type 0 where
  pub n : ℤ
  pub total : ℤ
  pub first : ℤ
  pub second : ℤ
  pub third : ℤ
  pub fourth : ℤ
  pub turns : ℕ
  pub copy : ℤ

-- The machine at a place, with these operands and open calls
abbrev pub machine_at : ℕ → List ℤ → Held → List OpenCall → Machine
machine_at place operands held calls = record {
  place = place;
  operands = operands;
  home = record { cells = held.n ∷ held.total ∷ held.first ∷ held.second ∷ held.third ∷ held.fourth ∷ []; counters = held.turns ∷ [] };
  calls = calls;
  copies = record { variable = 0; value = held.copy } ∷ [];
}

-- The call of the function, from the place before 9
abbrev pub open_call : ℤ → ℤ → List OpenCall
open_call x local = record { frame = record { cells = x ∷ local ∷ []; counters = [] }; back = 9 } ∷ []

-- How many operands and open calls there are at each place
pub data IsAtPlace : Machine → Type 0 where
  at_0 : {s : Held} → IsAtPlace (machine_at 0 [] s [])
  at_1 : {s : Held} → IsAtPlace (machine_at 1 [] s [])
  at_2 : {x : ℤ} {s : Held} → IsAtPlace (machine_at 2 (x ∷ []) s [])
  at_3 : {x y : ℤ} {s : Held} → IsAtPlace (machine_at 3 (x ∷ y ∷ []) s [])
  at_4 : {x : ℤ} {s : Held} → IsAtPlace (machine_at 4 (x ∷ []) s [])
  at_5 : {x : ℤ} {s : Held} → IsAtPlace (machine_at 5 (x ∷ []) s [])
  at_6 : {s : Held} → IsAtPlace (machine_at 6 [] s [])
  at_7 : {x : ℤ} {s : Held} → IsAtPlace (machine_at 7 (x ∷ []) s [])
  at_8 : {x y : ℤ} {s : Held} → IsAtPlace (machine_at 8 (x ∷ y ∷ []) s [])
  at_9 : {x y : ℤ} {s : Held} → IsAtPlace (machine_at 9 (x ∷ y ∷ []) s [])
  at_10 : {x : ℤ} {s : Held} → IsAtPlace (machine_at 10 (x ∷ []) s [])
  at_11 : {s : Held} → IsAtPlace (machine_at 11 [] s [])
  at_12 : {x : ℤ} {s : Held} → IsAtPlace (machine_at 12 (x ∷ []) s [])
  at_13 : {x y : ℤ} {s : Held} → IsAtPlace (machine_at 13 (x ∷ y ∷ []) s [])
  at_14 : {x : ℤ} {s : Held} → IsAtPlace (machine_at 14 (x ∷ []) s [])
  at_15 : {x y : ℤ} {s : Held} → IsAtPlace (machine_at 15 (x ∷ y ∷ []) s [])
  at_16 : {s : Held} → IsAtPlace (machine_at 16 [] s [])
  at_17 : {x : ℤ} {s : Held} → IsAtPlace (machine_at 17 (x ∷ []) s [])
  at_18 : {x y : ℤ} {s : Held} → IsAtPlace (machine_at 18 (x ∷ y ∷ []) s [])
  at_19 : {x : ℤ} {s : Held} → IsAtPlace (machine_at 19 (x ∷ []) s [])
  at_20 : {s : Held} → IsAtPlace (machine_at 20 [] s [])
  at_21 : {s : Held} → IsAtPlace (machine_at 21 [] s [])
  at_22 : {x : ℤ} {s : Held} → IsAtPlace (machine_at 22 (x ∷ []) s [])
  at_23 : {s : Held} → IsAtPlace (machine_at 23 [] s [])
  at_24 : {x : ℤ} {s : Held} → IsAtPlace (machine_at 24 (x ∷ []) s [])
  at_25 : {s : Held} → IsAtPlace (machine_at 25 [] s [])
  at_26 : {s : Held} → IsAtPlace (machine_at 26 [] s [])
  at_27 : {x v w : ℤ} {s : Held} → IsAtPlace (machine_at 27 (x ∷ []) s (open_call v w))
  at_28 : {x y v w : ℤ} {s : Held} → IsAtPlace (machine_at 28 (x ∷ y ∷ []) s (open_call v w))
  at_29 : {x y z v w : ℤ} {s : Held} → IsAtPlace (machine_at 29 (x ∷ y ∷ z ∷ []) s (open_call v w))
  at_30 : {x y v w : ℤ} {s : Held} → IsAtPlace (machine_at 30 (x ∷ y ∷ []) s (open_call v w))
  at_31 : {x y z v w : ℤ} {s : Held} → IsAtPlace (machine_at 31 (x ∷ y ∷ z ∷ []) s (open_call v w))
  at_32 : {x y v w : ℤ} {s : Held} → IsAtPlace (machine_at 32 (x ∷ y ∷ []) s (open_call v w))

-- It goes on at a place of the loop, or traps; it is never stuck.
abbrev pub StaysInLoop : Next → Type 0
StaysInLoop (Went m) = IsAtPlace m
StaysInLoop (Ended point m) = IsAtPlace m
StaysInLoop (Trapped kind) = ⊤
StaysInLoop Stuck = ⊥

-- The machine of the loop
pub record IsLoop (m : AgentMachine) : Type 0 where
  pub agent : m.agent ≡ 0
  pub stack : 3 ≤ m.stack
  pub frames : 2 ≤ m.frames
  pub stands : IsAtPlace m.machine
