-- What code does: the state of an agent's machine after each instruction.
use Rattle.std.specs.Prelude.{ℕ, zero, suc, ◌+◌, ◌%◌, ◌^◌, Bool, not, ◌&&◌, nat_lt, nat_le, ◌==◌, if◌then◌else◌, List, [], ◌∷◌, ◌++◌, map, reverse}
use Rattle.std.specs.Prelude.{take, drop, replicate, length, Option, Some, None, slice_get, slice_index_or, slice_set, ℤ, pos, negsuc}
use Rattle.std.specs.Int.{w32, int_wrap}
use Rattle.psy_arith.specs.declared.operators.Op1.{Op1}
use Rattle.psy_arith.specs.declared.operators.Op2.{Op2}
use Rattle.psy_arith.specs.declared.operators.Trap.{Trap}
use Rattle.psy_arith.specs.declared.operators.Trap.TheVariants as trap
use Rattle.psy_arith.specs.declared.width.Width.{Width}
use Rattle.psy_arith.specs.Operators.{truth, is_zero}
use Rattle.psy_arith.specs.Types.{taken1, taken2}
use Rattle.psy_arith.specs.Widths.{of_type}
use Rattle.psy_base.specs.declared.limits.TheConstants.{OPEN_CALLS}
use Rattle.psy_code.specs.declared.code.Code.{Code}
use Rattle.psy_code.specs.declared.code.AgentCode.{AgentCode}
use Rattle.psy_code.specs.declared.code.CopyInit.{CopyInit}
use Rattle.psy_code.specs.declared.code.FunctionCode.{FunctionCode}
use Rattle.psy_code.specs.declared.instr.Instr.{Instr}
use Rattle.psy_code.specs.declared.instr.Instr.TheVariants as instr
use Rattle.psy_code.specs.Views.{View, Call, Past, Ready, Take, Send, Deeds, past_of, messages_of, count_as_value, first_of, view_after, tick, done, found_in}

-- ---- the state of a machine

-- The cells of the variables, and a counter for each bounded loop.
pub record Frame : Type 0 where
  pub cells : List ℤ
  pub counters : List ℕ

-- An open call: its frame, and the place at which its caller goes on.
pub record OpenCall : Type 0 where
  pub frame : Frame
  pub back : ℕ

-- The working copy of a variable.
pub record Copy : Type 0 where
  pub variable : ℕ
  pub value : ℤ

-- The state of an agent's machine.
pub record Machine : Type 0 where
  -- where the next instruction stands
  pub place : ℕ
  -- the top first
  pub operands : List ℤ
  -- the agent's own frame
  pub home : Frame
  -- the innermost first
  pub calls : List OpenCall
  pub copies : List Copy

-- The frame that instructions name: that of the innermost call, or the agent's own.
abbrev pub innermost_frame : Frame → List OpenCall → Frame
innermost_frame home [] = home
innermost_frame home (call ∷ rest) = call.frame

-- The frame of the innermost call, or the agent's own.
abbrev pub present : Machine → Frame
present m = innermost_frame m.home m.calls

-- The agent's own frame, changed where no call is open.
abbrev pub home_with : Frame → List OpenCall → Frame → Frame
home_with home [] frame = frame
home_with home (call ∷ rest) frame = home

-- The open calls, the innermost with another frame.
abbrev pub calls_with : List OpenCall → Frame → List OpenCall
calls_with [] frame = []
calls_with (call ∷ rest) frame = record call { frame = frame } ∷ rest

-- The machine with another frame in its place
abbrev pub with_frame : Frame → Machine → Machine
with_frame frame m = record m { home = home_with m.home m.calls frame; calls = calls_with m.calls frame }

-- The machine with another value in a cell of its present frame.
abbrev pub with_cell : ℕ → ℤ → Machine → Machine
with_cell cell v m = with_frame (record (present m) { cells = slice_set (present m).cells cell v }) m

-- The machine with another number in a counter of its present frame.
abbrev pub with_counter : ℕ → ℕ → Machine → Machine
with_counter counter n m = with_frame (record (present m) { counters = slice_set (present m).counters counter n }) m

-- The working copy of a variable: of two the first.
abbrev pub copy_of : ℕ → List Copy → Option ℤ
copy_of variable [] = None
copy_of variable (c ∷ rest) = if c.variable == variable then Some c.value else copy_of variable rest

-- The copies with another value of a variable.
abbrev pub with_copy : ℕ → ℤ → List Copy → List Copy
with_copy variable v [] = []
with_copy variable v (c ∷ rest) = if c.variable == variable then record c { value = v } ∷ rest else c ∷ with_copy variable v rest

-- ---- what comes of an instruction

-- What comes of an instruction.
pub data Next : Type 0 where
  -- it goes on
  Went : (machine : Machine) → Next
  -- the action ends, and the agent goes on at this point
  Ended : (point : ℕ) (machine : Machine) → Next
  -- the machine stays as it was
  Trapped : (kind : Trap) → Next
  -- the instruction can't be executed
  Stuck : Next

-- Goes on with what is there, and is stuck where it isn't.
abbrev pub need : {A : Type 0} → Option A → (A → Next) → Next
need None go = Stuck
need (Some x) go = go x

-- Goes on with what is there, and traps where it isn't.
abbrev pub or_trap : {A : Type 0} → Trap → Option A → (A → Next) → Next
or_trap kind None go = Trapped kind
or_trap kind (Some x) go = go x

-- Goes on with the value on top, and the operands below it.
abbrev pub with_top : List ℤ → (ℤ → List ℤ → Next) → Next
with_top [] go = Stuck
with_top (v ∷ below) go = go v below

-- Goes on with the two values on top, the lower one first.
abbrev pub with_two : List ℤ → (ℤ → ℤ → List ℤ → Next) → Next
with_two operands go = with_top operands (λ b below. with_top below (λ a rest. go a b rest))

-- On to the next instruction, with these operands
abbrev pub onward : List ℤ → Machine → Next
onward operands m = Went (record m { place = m.place + 1; operands = operands })

-- On to the next instruction, with a value more on top
abbrev pub push : ℤ → Machine → Next
push v m = onward (v ∷ m.operands) m

-- On at another place, with these operands
abbrev pub jump : ℕ → List ℤ → Machine → Next
jump to operands m = Went (record m { place = to; operands = operands })

-- Only a place of the code can be named.
abbrev pub in_code : Code → ℕ → Next → Next
in_code code to next = if nat_lt to (length code.instrs) then next else Stuck

-- ---- each kind of instruction

-- The cell of an array that an index names, counted from its first; none outside the array
abbrev pub index_in : ℕ → ℤ → Option ℕ
index_in cells (pos i) = if nat_lt i cells then Some i else None
index_in cells (negsuc i) = None

-- A cell of the present frame, on these operands
abbrev pub load : ℕ → List ℤ → Machine → Next
load cell operands m = need (slice_get (present m).cells cell) (λ v. onward (v ∷ operands) m)

-- A value into a cell of the present frame
abbrev pub store : ℕ → ℤ → List ℤ → Machine → Next
store cell v operands m = need (slice_get (present m).cells cell) (λ old. onward operands (with_cell cell v m))

-- The cell of an array that the value on top names
abbrev pub load_cell : ℕ → ℕ → Machine → Next
load_cell base cells m = with_top m.operands (λ index rest. or_trap trap.Index (index_in cells index) (λ i. load (base + i) rest m))

-- The value on top into the cell of an array that the value below it names
abbrev pub store_cell : ℕ → ℕ → Machine → Next
store_cell base cells m = with_two m.operands (λ index v rest. or_trap trap.Index (index_in cells index) (λ i. store (base + i) v rest m))

-- The value on top, taken modulo 2 ^ 32, as signed, into the working copy of a variable
abbrev pub store_copy : ℕ → Machine → Next
store_copy variable m = with_top m.operands (λ v rest. need (copy_of variable m.copies)
    (λ old. onward rest (record m { copies = with_copy variable (int_wrap w32 v) m.copies })))

-- The first of a stream's messages
abbrev pub take_first : List ℤ → Machine → Next
take_first messages m = or_trap trap.Take (first_of messages) (λ v. push v m)

-- On at another place where the value on top is 0
abbrev pub jump_zero : Code → ℕ → Machine → Next
jump_zero code to m = with_top m.operands (λ v rest. in_code code to (if is_zero v then jump to rest m else onward rest m))

-- `&&` is decided where its left side is 0, and else left to its right side.
abbrev pub and_test : Code → ℕ → Machine → Next
and_test code to m = with_top m.operands (λ v rest. in_code code to (if is_zero v then jump to (pos 0 ∷ rest) m else onward rest m))

-- `||` is decided where its left side isn't 0, and else left to its right side.
abbrev pub or_test : Code → ℕ → Machine → Next
or_test code to m = with_top m.operands (λ v rest. in_code code to (if is_zero v then onward rest m else jump to (pos 1 ∷ rest) m))

-- Counts the turn where the value on top isn't 0, and leaves that value.
abbrev pub guard : ℕ → ℕ → Machine → Next
guard counter bound m = with_top m.operands (λ v rest. need (slice_get (present m).counters counter) (λ turns.
    if is_zero v then onward m.operands m
    else (if turns == bound then Trapped trap.Loop else onward m.operands (with_counter counter ((turns + 1) % 2 ^ 32) m))))

-- A counter begins at 0.
abbrev pub zero_counter : ℕ → Machine → Next
zero_counter counter m = need (slice_get (present m).counters counter) (λ turns. onward m.operands (with_counter counter 0 m))

-- A function's frame: its arguments, the last of which is on top, its locals, and its counters at 0.
abbrev pub frame_for : FunctionCode → List ℤ → Frame
frame_for function operands = record { cells = reverse (take function.params operands) ++ function.locals; counters = replicate function.counters 0 }

-- Into a function, whose arguments are taken from the operands
abbrev pub call : FunctionCode → Machine → Next
call function m =
    if nat_le function.params (length m.operands)
    then Went (record m {
      place = function.entry;
      operands = drop function.params m.operands;
      calls = record { frame = frame_for function m.operands; back = m.place + 1 } ∷ m.calls;
    })
    else Stuck

-- Back in the caller, with the value on top
abbrev pub back_from : List OpenCall → Machine → Next
back_from [] m = Stuck
back_from (call ∷ rest) m = Went (record m { place = call.back; calls = rest })

-- The frame with all its counters at 0
abbrev pub cleared : Frame → Frame
cleared frame = record frame { counters = replicate (length frame.counters) 0 }

-- The machine at the place of a point: no operands, no open call, and its counters at 0
abbrev pub begun_at : ℕ → Machine → Machine
begun_at place m = record m { place = place; operands = []; home = cleared m.home; calls = [] }

-- An operator at a width, at which it takes the two values on top, the lower one being its left side
abbrev pub binary : Op2 → Width → Machine → Next
binary operator width m = with_two m.operands (λ a b rest. or_trap trap.Divide (taken2 (of_type width) operator a b) (λ v. onward (v ∷ rest) m))

-- An operator at a width, at which it takes the value on top
abbrev pub unary : Op1 → Width → Machine → Next
unary operator width m = with_top m.operands (λ a rest. onward (taken1 (of_type width) operator a ∷ rest) m)

-- The value on top, taken modulo 2 ^ bits, as signed
abbrev pub cast : Width → Machine → Next
cast width m = with_top m.operands (λ a rest. onward (int_wrap (of_type width) a ∷ rest) m)

-- ---- one instruction

-- What an instruction does, by its kind.
abbrev pub does : Code → AgentCode → View → Instr → Machine → Next
does code agent view (instr.Push number) m = push number m
does code agent view (instr.Load cell) m = load cell m.operands m
does code agent view (instr.Store cell) m = with_top m.operands (λ v rest. store cell v rest m)
does code agent view (instr.LoadCell base cells) m = load_cell base cells m
does code agent view (instr.StoreCell base cells) m = store_cell base cells m
does code agent view (instr.LoadCopy variable) m = need (copy_of variable m.copies) (λ v. push v m)
does code agent view (instr.StoreCopy variable) m = store_copy variable m
does code agent view (instr.Past variable back) m = need (past_of view variable back) (λ v. push v m)
does code agent view (instr.Ready stream) m = need (messages_of view stream) (λ messages. push (count_as_value messages) m)
does code agent view (instr.Take stream) m = need (messages_of view stream) (λ messages. take_first messages m)
does code agent view (instr.Send stream after clock) m = with_top m.operands (λ v rest. onward rest m)
does code agent view (instr.Jump to) m = in_code code to (jump to m.operands m)
does code agent view (instr.JumpZero to) m = jump_zero code to m
does code agent view (instr.AndTest to) m = and_test code to m
does code agent view (instr.OrTest to) m = or_test code to m
does code agent view instr.Truth m = with_top m.operands (λ v rest. onward (truth (not (is_zero v)) ∷ rest) m)
does code agent view (instr.Zero counter) m = zero_counter counter m
does code agent view (instr.Guard counter bound) m = guard counter bound m
does code agent view (instr.Call function) m = need (slice_get code.functions function) (λ f. call f m)
does code agent view instr.Return m = with_top m.operands (λ v rest. back_from m.calls m)
does code agent view (instr.Advance point) m = need (slice_get agent.points point) (λ place. Ended point (begun_at place m))
does code agent view (instr.Binary operator width) m = binary operator width m
does code agent view (instr.Unary operator width) m = unary operator width m
does code agent view (instr.Cast width) m = cast width m

-- How many cells and counters the open calls have.
abbrev pub cells_in_calls : List OpenCall → ℕ
cells_in_calls [] = 0
cells_in_calls (call ∷ rest) = length call.frame.cells + length call.frame.counters + cells_in_calls rest

-- It holds no more operands, cells of open calls and open calls than there is room for.
abbrev pub has_room : AgentCode → Machine → Bool
has_room agent m = nat_le (length m.operands) agent.stack && (nat_le (cells_in_calls m.calls) agent.frames && nat_le (length m.calls) OPEN_CALLS)

-- It goes on only where there is room for all that the machine then holds.
abbrev pub within : AgentCode → Next → Next
within agent (Went m) = if has_room agent m then Went m else Stuck
within agent next = next

-- The instruction at the machine's place
abbrev pub instr_at : Code → Machine → Option Instr
instr_at code m = slice_get code.instrs m.place

-- What comes of the instruction at the machine's place.
abbrev pub next_of : Code → AgentCode → View → Machine → Next
next_of code agent view m = need (instr_at code m) (λ i. within agent (does code agent view i m))

-- What an instruction asks of the world. A message is sent modulo 2 ^ 32, as signed.
abbrev pub call_by : Instr → List ℤ → Option Call
call_by (instr.Past variable back) operands = Some (Past variable back)
call_by (instr.Ready stream) operands = Some (Ready stream)
call_by (instr.Take stream) operands = Some (Take stream)
call_by (instr.Send stream after clock) (v ∷ below) = Some (Send (record { stream = stream; value = int_wrap w32 v; after = after; clock = clock }))
call_by i operands = None

-- What the next instruction asks of the world.
abbrev pub call_of : Code → Machine → Option Call
call_of code m = found_in (instr_at code m) (λ i. call_by i m.operands)

-- ---- many instructions

-- A machine with what its action sees and did so far.
pub record RunState : Type 0 where
  pub machine : Machine
  pub view : View
  pub deeds : Deeds

-- How a run stands after some instructions. A trap leaves the machine as it was, and is counted.
pub data Run : Type 0 where
  Running : (state : RunState) → Run
  RanTo : (point : ℕ) (state : RunState) → Run
  TrappedBy : (kind : Trap) (state : RunState) → Run
  NoRun : Run

-- The view after an instruction that asks this, or nothing.
abbrev pub view_then : View → Option Call → View
view_then view None = view
view_then view (Some call) = view_after view call

-- What was done after an instruction that asks this, or nothing.
abbrev pub deeds_then : Deeds → Option Call → Deeds
deeds_then deeds None = tick deeds
deeds_then deeds (Some call) = done deeds call

-- The state after an instruction, with the machine that comes of it.
abbrev pub state_then : RunState → Option Call → Machine → RunState
state_then s call m = record { machine = m; view = view_then s.view call; deeds = deeds_then s.deeds call }

-- How a run stands after one instruction, by what comes of it.
abbrev pub run_by : RunState → Option Call → Next → Run
run_by s call (Went m) = Running (state_then s call m)
run_by s call (Ended point m) = RanTo point (state_then s call m)
run_by s call (Trapped kind) = TrappedBy kind (record s { deeds = tick s.deeds })
run_by s call Stuck = NoRun

-- How a run stands after the next instruction.
abbrev pub run_one : Code → AgentCode → RunState → Run
run_one code agent s = run_by s (call_of code s.machine) (next_of code agent s.view s.machine)

-- On from a run that neither ended nor stopped.
abbrev pub go_on : Run → (RunState → Run) → Run
go_on (Running s) go = go s
go_on run go = run

-- The run after n instructions, or where it ended, trapped or stuck at an earlier one
abbrev pub run_code : Code → AgentCode → RunState → ℕ → Run
run_code code agent s zero = Running s
run_code code agent s (suc n) = go_on (run_one code agent s) (λ t. run_code code agent t n)

-- ---- where a machine begins

-- The working copy that a variable begins with
abbrev pub copy_from : CopyInit → Copy
copy_from c = record { variable = c.variable; value = c.init }

-- The machine of an agent at the place of a point: no operands and no open call
abbrev pub standing : AgentCode → ℕ → Frame → List Copy → Machine
standing agent point home copies = record { place = slice_index_or agent.points point 0; operands = []; home = home; calls = []; copies = copies }

-- The machine of an agent that hasn't started: at point 0, with the first values of its cells and copies, and its counters 0
abbrev pub new_machine : AgentCode → Machine
new_machine agent = standing agent 0 (record { cells = agent.cells; counters = replicate agent.counters 0 }) (map copy_from agent.copies)
