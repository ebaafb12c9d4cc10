-- How many operands an instruction pops and pushes.
use Rattle.std.proofs.Common.{◌≡◌, refl, sym, ap, subst, arith}
use Rattle.std.specs.Prelude.{ℕ, ◌+◌, ◌==◌, nat_lt, Bool, true, false, T, not, if◌then◌else◌, List, [], ◌∷◌, length, Option, Some, None, slice_get, ℤ, ⊤}
use Rattle.std.specs.Int.{int_wrap}
use Rattle.psy_arith.specs.declared.operators.Op1.TheVariants as one
use Rattle.psy_arith.specs.declared.operators.Op2.{Op2}
use Rattle.psy_arith.specs.declared.operators.Op2.TheVariants as op
use Rattle.psy_arith.specs.declared.operators.Trap.{Trap}
use Rattle.psy_arith.specs.declared.operators.Trap.TheVariants as trap
use Rattle.psy_arith.specs.declared.table.Row.{Row}
use Rattle.psy_arith.specs.declared.width.Width.{Width}
use Rattle.psy_arith.specs.declared.width.Width.TheVariants as widths
use Rattle.psy_arith.specs.Operators.{is_zero, truth}
use Rattle.psy_arith.specs.Types.{taken1, taken2}
use Rattle.psy_arith.specs.Widths.{of_type}
use Rattle.psy_arith.specs.Tables.{row_of}
use Rattle.psy_code.specs.declared.code.AgentCode.{AgentCode}
use Rattle.psy_code.specs.declared.code.Code.{Code}
use Rattle.psy_code.specs.declared.instr.Instr.{Instr}
use Rattle.psy_code.specs.declared.instr.Instr.TheVariants as instr
use Rattle.psy_code.specs.Views.{View, past_of, messages_of, first_of}
use Rattle.psy_code.specs.Execution.{Machine, OpenCall, Next, Went, Ended, Trapped, Stuck, need, or_trap, with_top, with_two, onward, jump, index_in, load, store, load_cell, store_cell, copy_of, jump_zero, guard, back_from, binary, does, present}
use Rattle.psy_code.specs.Rows.{byte_of, rows, is_plain}

-- Where it goes on, so many operands were popped and pushed.
abbrev Grows : ℕ → ℕ → ℕ → Next → Type 0
Grows pops pushes before (Went n) = length n.operands + pops ≡ before + pushes
Grows pops pushes before (Ended point n) = ⊤
Grows pops pushes before (Trapped kind) = ⊤
Grows pops pushes before Stuck = ⊤

module _ (p q b : ℕ) where
  g_need : {A : Type 0} (found : Option A) (go : A → Next) → ((x : A) → Grows p q b (go x)) → Grows p q b (need found go)
  g_need None go h = tt {0}
  g_need (Some x) go h = h x

  g_trap : {A : Type 0} (kind : Trap) (found : Option A) (go : A → Next) → ((x : A) → Grows p q b (go x)) → Grows p q b (or_trap kind found go)
  g_trap kind None go h = tt {0}
  g_trap kind (Some x) go h = h x

  g_if : (t : Bool) (x y : Next) → Grows p q b x → Grows p q b y → Grows p q b (if t then x else y)
  g_if true x y g h = g
  g_if false x y g h = h

differ : {A : Type 0} → false ≡ true → A
differ h = elim (subst T (sym h) (tt {0})) [ ]

g_top : (p q : ℕ) (operands : List ℤ) (go : ℤ → List ℤ → Next) → ((v : ℤ) (below : List ℤ) → length operands ≡ length below + 1 → Grows p q (length operands) (go v below)) → Grows p q (length operands) (with_top operands go)
g_top p q [] go h = tt {0}
g_top p q (v ∷ below) go h = h v below (omega arith)

module _ (code : Code) (agent : AgentCode) (view : View) (m : Machine) where
  g_load : (cell : ℕ) (operands : List ℤ) (p q b : ℕ) → length operands + 1 + p ≡ b + q → Grows p q b (load cell operands m)
  g_load cell operands p q b e = g_need p q b (slice_get (present m).cells cell) _ (λ v. omega (arith, e))

  g_store : (cell : ℕ) (v : ℤ) (operands : List ℤ) (p q b : ℕ) → length operands + p ≡ b + q → Grows p q b (store cell v operands m)
  g_store cell v operands p q b e = g_need p q b (slice_get (present m).cells cell) _ (λ old. e)

  g_store_top : (cell : ℕ) → Grows 1 0 (length m.operands) (with_top m.operands (λ v rest. store cell v rest m))
  g_store_top cell = g_top 1 0 m.operands _ (λ v below e. g_store cell v below 1 0 (length m.operands) (omega (arith, e)))

  g_load_cell : (base cells : ℕ) → Grows 1 1 (length m.operands) (load_cell base cells m)
  g_load_cell base cells = g_top 1 1 m.operands _ (λ index below e. g_trap 1 1 (length m.operands) trap.Index (index_in cells index) _ (λ i. g_load (base + i) below 1 1 (length m.operands) (omega (arith, e))))

  g_two : (p q : ℕ) (go : ℤ → ℤ → List ℤ → Next) → ((a b : ℤ) (below : List ℤ) → length m.operands ≡ length below + 2 → Grows p q (length m.operands) (go a b below)) → Grows p q (length m.operands) (with_two m.operands go)
  g_two p q go h = from m.operands refl
    where
      from : (operands : List ℤ) → m.operands ≡ operands → Grows p q (length m.operands) (with_two operands go)
      from [] e = tt {0}
      from (b ∷ []) e = tt {0}
      from (b ∷ (a ∷ below)) e = h a b below (omega (arith, ap length e))

  g_store_cell : (base cells : ℕ) → Grows 2 0 (length m.operands) (store_cell base cells m)
  g_store_cell base cells = g_two 2 0 _ (λ index v below e. g_trap 2 0 (length m.operands) trap.Index (index_in cells index) _ (λ i. g_store (base + i) v below 2 0 (length m.operands) (omega (arith, e))))

  g_jump_zero : (to : ℕ) → Grows 1 0 (length m.operands) (jump_zero code to m)
  g_jump_zero to =
      g_top 1 0 m.operands _ (λ v below e. g_if 1 0 (length m.operands) (nat_lt to (length code.instrs)) _ Stuck
      (g_if 1 0 (length m.operands) (is_zero v) (jump to below m) (onward below m) (omega (arith, e)) (omega (arith, e))) (tt {0}))

  g_guard : (counter bound : ℕ) → Grows 1 1 (length m.operands) (guard counter bound m)
  g_guard counter bound =
      g_top 1 1 m.operands _ (λ v below e. g_need 1 1 (length m.operands) (slice_get (present m).counters counter) _ (λ turns.
      g_if 1 1 (length m.operands) (is_zero v) _ _ refl (g_if 1 1 (length m.operands) (turns == bound) _ _ (tt {0}) refl)))

  g_return : Grows 1 1 (length m.operands) (with_top m.operands (λ v rest. back_from m.calls m))
  g_return = g_top 1 1 m.operands _ (λ v below e. from m.calls)
    where
      from : (calls : List OpenCall) → Grows 1 1 (length m.operands) (back_from calls m)
      from [] = tt {0}
      from (c ∷ cs) = refl

  g_binary : (operator : Op2) (width : Width) → Grows 2 1 (length m.operands) (binary operator width m)
  g_binary operator width =
      g_two 2 1 _ (λ a b below e. g_trap 2 1 (length m.operands) trap.Divide (taken2 (of_type width) operator a b) _ (λ v. omega (arith, e)))

  g_one : (f : ℤ → ℤ) → Grows 1 1 (length m.operands) (with_top m.operands (λ a rest. onward (f a ∷ rest) m))
  g_one f = g_top 1 1 m.operands _ (λ a below e. omega (arith, e))

  -- the row that the table has
  abbrev or_row : Option Row → Row
  or_row None = record { byte = 0; pops = 0; pushes = 0 }
  or_row (Some r) = r

  abbrev By : Instr → Type 0
  By i = let r = or_row (row_of (byte_of i) rows) in Grows r.pops r.pushes (length m.operands) (does code agent view i m)

  grows : (i : Instr) → is_plain i ≡ true → By i
  grows (instr.Push number) h = omega arith
  grows (instr.Load cell) h = g_load cell m.operands 0 1 (length m.operands) (omega arith)
  grows (instr.Store cell) h = g_store_top cell
  grows (instr.LoadCell base cells) h = g_load_cell base cells
  grows (instr.StoreCell base cells) h = g_store_cell base cells
  grows (instr.LoadCopy variable) h = g_need 0 1 (length m.operands) (copy_of variable m.copies) _ (λ v. omega arith)
  grows (instr.StoreCopy variable) h = g_top 1 0 m.operands _ (λ v below e. g_need 1 0 (length m.operands) (copy_of variable m.copies) _ (λ old. omega (arith, e)))
  grows (instr.Past variable back) h = g_need 0 1 (length m.operands) (past_of view variable back) _ (λ v. omega arith)
  grows (instr.Ready stream) h = g_need 0 1 (length m.operands) (messages_of view stream) _ (λ ms. omega arith)
  grows (instr.Take stream) h = g_need 0 1 (length m.operands) (messages_of view stream) _ (λ ms. g_trap 0 1 (length m.operands) trap.Take (first_of ms) _ (λ v. omega arith))
  grows (instr.Send stream after clock) h = g_top 1 0 m.operands _ (λ v below e. omega (arith, e))
  grows (instr.Jump to) h = g_if 0 0 (length m.operands) (nat_lt to (length code.instrs)) _ Stuck refl (tt {0})
  grows (instr.JumpZero to) h = g_jump_zero to
  grows (instr.AndTest to) h = differ h
  grows (instr.OrTest to) h = differ h
  grows instr.Truth h = g_one (λ v. truth (not (is_zero v)))
  grows (instr.Zero counter) h = g_need 0 0 (length m.operands) (slice_get (present m).counters counter) _ (λ turns. refl)
  grows (instr.Guard counter bound) h = g_guard counter bound
  grows (instr.Call function) h = differ h
  grows instr.Return h = g_return
  grows (instr.Advance point) h = g_need 0 0 (length m.operands) (slice_get agent.points point) _ (λ place. tt {0})
  grows (instr.Unary one.Not width) h = g_one (taken1 (of_type width) one.Not)
  grows (instr.Unary one.Neg widths.W8) h = g_one (taken1 (of_type widths.W8) one.Neg)
  grows (instr.Unary one.Flip widths.W8) h = g_one (taken1 (of_type widths.W8) one.Flip)
  grows (instr.Unary one.Neg widths.W16) h = g_one (taken1 (of_type widths.W16) one.Neg)
  grows (instr.Unary one.Flip widths.W16) h = g_one (taken1 (of_type widths.W16) one.Flip)
  grows (instr.Unary one.Neg widths.W32) h = g_one (taken1 (of_type widths.W32) one.Neg)
  grows (instr.Unary one.Flip widths.W32) h = g_one (taken1 (of_type widths.W32) one.Flip)
  grows (instr.Unary one.Neg widths.W64) h = g_one (taken1 (of_type widths.W64) one.Neg)
  grows (instr.Unary one.Flip widths.W64) h = g_one (taken1 (of_type widths.W64) one.Flip)
  grows (instr.Cast widths.W8) h = g_one (int_wrap (of_type widths.W8))
  grows (instr.Cast widths.W16) h = g_one (int_wrap (of_type widths.W16))
  grows (instr.Cast widths.W32) h = g_one (int_wrap (of_type widths.W32))
  grows (instr.Cast widths.W64) h = g_one (int_wrap (of_type widths.W64))
  -- a line with `operator` is tried at each other operator
  grows (instr.Binary op.Mul widths.W8) h = g_binary op.Mul widths.W8
  grows (instr.Binary operator widths.W8) h = g_binary operator widths.W8
  grows (instr.Binary op.Mul widths.W16) h = g_binary op.Mul widths.W16
  grows (instr.Binary operator widths.W16) h = g_binary operator widths.W16
  grows (instr.Binary op.Mul widths.W32) h = g_binary op.Mul widths.W32
  grows (instr.Binary operator widths.W32) h = g_binary operator widths.W32
  grows (instr.Binary op.Mul widths.W64) h = g_binary op.Mul widths.W64
  grows (instr.Binary operator widths.W64) h = g_binary operator widths.W64

  pub heights : (i : Instr) (n : Machine) (r : Row) → is_plain i ≡ true → row_of (byte_of i) rows ≡ Some r → does code agent view i m ≡ Went n → length n.operands + r.pops ≡ length m.operands + r.pushes
  heights i n r h e d = subst (Grows r.pops r.pushes (length m.operands)) d (subst (λ (x : Row). Grows x.pops x.pushes (length m.operands) (does code agent view i m)) (ap or_row e) (grows i h))
