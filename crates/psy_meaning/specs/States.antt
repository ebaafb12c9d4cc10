-- What an action works on, and how expressions and statements end.
use Rattle.std.specs.Prelude.{ℕ, List, [], Option, Some, None, slice_index_or, slice_set, ℤ, pos}
use Rattle.psy_arith.specs.declared.operators.Trap.{Trap}
use Rattle.psy_code.specs.Views.{View, Call, Deeds, tick, done, view_after}
use Rattle.psy_code.specs.Execution.{Copy, copy_of, with_copy}

-- The variables that an action writes: by slot, the cells of a variable or an array, a variable having
-- one; and the working copies. A function's parameters and locals are a store without copies.
pub record Store : Type 0 where
  pub slots : List (List ℤ)
  pub copies : List Copy

-- What an action works on.
pub record State : Type 0 where
  pub store : Store
  pub view : View
  -- what was done so far, its instructions counted
  pub deeds : Deeds

-- How an action ends: at the `advance` of a point, or by a trap.
pub data Final : Type 0 where
  Ended : (point : ℕ) (state : State) → Final
  Trapped : (kind : Trap) (state : State) → Final

-- How an expression ends: with its value, or with the action.
pub data Got : Type 0 where
  Value : (value : ℤ) (state : State) → Got
  Stops : (final : Final) → Got

-- How statements end: they fall through, return a value, or end the action.
pub data Outcome : Type 0 where
  Falls : (state : State) → Outcome
  Returns : (value : ℤ) (state : State) → Outcome
  Halts : (final : Final) → Outcome

-- What an expression gives, by the state
abbrev pub Eval : Type 0
Eval = State → Got

-- What a statement does, by the state
abbrev pub Act : Type 0
Act = State → Outcome

-- A function, by its arguments
abbrev pub Callee : Type 0
Callee = List ℤ → Eval

-- ---- one after the other

-- On with a value, unless the action ended.
abbrev pub and_then : Got → (ℤ → State → Got) → Got
and_then (Value v s) go = go v s
and_then (Stops final) go = Stops final

-- The same, for statements.
abbrev pub with_value : Got → (ℤ → State → Outcome) → Outcome
with_value (Value v s) go = go v s
with_value (Stops final) go = Halts final

-- On where the statements before fell through.
abbrev pub then_do : Outcome → Act → Outcome
then_do (Falls s) go = go s
then_do outcome go = outcome

-- ---- one instruction

-- One instruction more was executed.
abbrev pub cost_1 : State → State
cost_1 s = record s { deeds = tick s.deeds }

-- One instruction that asks the world
abbrev pub asking : Call → State → State
asking call s = record s { view = view_after s.view call; deeds = done s.deeds call }

-- One instruction that traps
abbrev pub trapping : Trap → State → Final
trapping kind s = Trapped kind (cost_1 s)

-- Goes on with what is there, and traps where it isn't.
abbrev pub or_stop : {A : Type 0} → Trap → Option A → State → (A → Got) → Got
or_stop kind None s go = Stops (trapping kind s)
or_stop kind (Some x) s go = go x

-- The same, for statements.
abbrev pub or_halt : {A : Type 0} → Trap → Option A → State → (A → Outcome) → Outcome
or_halt kind None s go = Halts (trapping kind s)
or_halt kind (Some x) s go = go x

-- ---- the store

-- The cells of a slot
abbrev pub cells_at : Store → ℕ → List ℤ
cells_at store slot = slice_index_or store.slots slot []

-- The value of a cell
abbrev pub value_at : Store → ℕ → ℕ → ℤ
value_at store slot cell = slice_index_or (cells_at store slot) cell (pos 0)

-- The state with another value in a cell of a slot
abbrev pub with_slot : ℕ → ℕ → ℤ → State → State
with_slot slot cell v s = record s { store = record (s.store) { slots = slice_set s.store.slots slot (slice_set (cells_at s.store slot) cell v) } }

-- 0 where there is none
abbrev pub value_or_zero : Option ℤ → ℤ
value_or_zero None = pos 0
value_or_zero (Some v) = v

-- The value of a working copy
abbrev pub copy_at : Store → ℕ → ℤ
copy_at store variable = value_or_zero (copy_of variable store.copies)

-- The state with another value in a working copy
abbrev pub with_copy_at : ℕ → ℤ → State → State
with_copy_at variable v s = record s { store = record (s.store) { copies = with_copy variable v s.store.copies } }
