-- Copies keep values of 32 bits, and an instruction sends no more than one message.
use Rattle.std.proofs.Common.{arith, length-append}
use Rattle.std.specs.Prelude.{ℕ, zero, suc, ◌+◌, ◌==◌, ◌≤◌, nat_le, Bool, true, false, if◌then◌else◌, List, [], ◌∷◌, length, Option, None, Some, slice_get, ℤ, FitsSigned, ⊤}
use Rattle.std.specs.Int.{w32, int_wrap}
use Rattle.std.specs.List.{All}
use Rattle.std.proofs.lemmas.List.Elements.{All-cons, All-head, All-tail}
use Rattle.std.proofs.lemmas.Int.{SFits-int_wrap}
use Rattle.psy_arith.specs.declared.operators.Trap.{Trap}
use Rattle.psy_arith.specs.declared.operators.Trap.TheVariants as trap
use Rattle.psy_arith.specs.Operators.{is_zero}
use Rattle.psy_arith.specs.Types.{taken2}
use Rattle.psy_arith.specs.Widths.{of_type}
use Rattle.psy_code.specs.declared.code.AgentCode.{AgentCode}
use Rattle.psy_code.specs.declared.code.Code.{Code}
use Rattle.psy_code.specs.declared.instr.Instr.{Instr}
use Rattle.psy_code.specs.declared.instr.Instr.TheVariants as instr
use Rattle.psy_code.specs.Execution.{Copy, Ended, Machine, Next, NoRun, OpenCall, RanTo, Run, RunState, Running, Stuck, Trapped, TrappedBy, Went, back_from, call_of, copy_of, deeds_then, does, go_on, has_room, in_code, index_in, instr_at, jump, load, need, next_of, or_trap, present, run_by, run_code, store, with_copy, with_top, within}
use Rattle.psy_code.specs.Views.{Call, Deeds, Past, Ready, Send, Take, View, first_of, messages_of, past_of}

-- Copies of 32 bits
abbrev pub AreFit : List Copy → Type 0
AreFit copies = All (λ (c : Copy). FitsSigned w32 c.value) copies

fit_after : (variable : ℕ) (value : ℤ) (copies : List Copy) → FitsSigned w32 value → AreFit copies → AreFit (with_copy variable value copies)
fit_after variable value [] new old = old
fit_after variable value (c ∷ rest) new old =
    from (c.variable == variable) (fit_after variable value rest new (All-tail (λ (d : Copy). FitsSigned w32 d.value) c rest old))
  where
    from : (b : Bool) → AreFit (with_copy variable value rest) → AreFit (if b then record c { value = value } ∷ rest else c ∷ with_copy variable value rest)
    from true behind = All-cons (λ (d : Copy). FitsSigned w32 d.value) (record c { value = value }) rest new (All-tail (λ (d : Copy). FitsSigned w32 d.value) c rest old)
    from false behind = All-cons (λ (d : Copy). FitsSigned w32 d.value) c (with_copy variable value rest) (All-head (λ (d : Copy). FitsSigned w32 d.value) c rest old) behind

pub wrapped : (value : ℤ) → FitsSigned w32 (int_wrap w32 value)
wrapped value = SFits-int_wrap w32 value

-- What comes of an instruction keeps them.
abbrev FitIn : Next → Type 0
FitIn (Went n) = AreFit n.copies
FitIn (Ended point n) = AreFit n.copies
FitIn (Trapped kind) = ⊤
FitIn Stuck = ⊤

f_need : {A : Type 0} (found : Option A) (go : A → Next) → ((x : A) → FitIn (go x)) → FitIn (need found go)
f_need None go h = tt {0}
f_need (Some x) go h = h x

f_trap : {A : Type 0} (kind : Trap) (found : Option A) (go : A → Next) → ((x : A) → FitIn (go x)) → FitIn (or_trap kind found go)
f_trap kind None go h = tt {0}
f_trap kind (Some x) go h = h x

f_if : (b : Bool) (x y : Next) → FitIn x → FitIn y → FitIn (if b then x else y)
f_if true x y g h = g
f_if false x y g h = h

f_top : (operands : List ℤ) (go : ℤ → List ℤ → Next) → ((v : ℤ) (below : List ℤ) → FitIn (go v below)) → FitIn (with_top operands go)
f_top [] go h = tt {0}
f_top (v ∷ below) go h = h v below

f_code : (code : Code) (to : ℕ) (next : Next) → FitIn next → FitIn (in_code code to next)
f_code code to next h = f_if _ next Stuck h (tt {0})

module _ (code : Code) (agent : AgentCode) (view : View) (m : Machine) (fit : AreFit m.copies) where
  f_load : (cell : ℕ) (operands : List ℤ) → FitIn (load cell operands m)
  f_load cell operands = f_need (slice_get (present m).cells cell) _ (λ v. fit)

  f_store : (cell : ℕ) (v : ℤ) (operands : List ℤ) → FitIn (store cell v operands m)
  f_store cell v operands = f_need (slice_get (present m).cells cell) _ (λ old. fit)

  f_back : (calls : List OpenCall) → FitIn (back_from calls m)
  f_back [] = tt {0}
  f_back (c ∷ rest) = fit

  f_jump : (to : ℕ) (b : Bool) (x y : Next) → FitIn x → FitIn y → FitIn (in_code code to (if b then x else y))
  f_jump to b x y g h = f_code code to (if b then x else y) (f_if b x y g h)

  fits : (i : Instr) → FitIn (does code agent view i m)
  fits (instr.Push number) = fit
  fits (instr.Load cell) = f_load cell m.operands
  fits (instr.Store cell) = f_top m.operands _ (λ v rest. f_store cell v rest)
  fits (instr.LoadCell base cells) = f_top m.operands _ (λ index rest. f_trap trap.Index (index_in cells index) _ (λ i. f_load (base + i) rest))
  fits (instr.StoreCell base cells) = f_top m.operands _ (λ v below. f_top below _ (λ index rest. f_trap trap.Index (index_in cells index) _ (λ i. f_store (base + i) v rest)))
  fits (instr.LoadCopy variable) = f_need (copy_of variable m.copies) _ (λ v. fit)
  fits (instr.StoreCopy variable) = f_top m.operands _ (λ v rest. f_need (copy_of variable m.copies) _ (λ old. fit_after variable (int_wrap w32 v) m.copies (wrapped v) fit))
  fits (instr.Past variable back) = f_need (past_of view variable back) _ (λ v. fit)
  fits (instr.Ready stream) = f_need (messages_of view stream) _ (λ messages. fit)
  fits (instr.Take stream) = f_need (messages_of view stream) _ (λ messages. f_trap trap.Take (first_of messages) _ (λ v. fit))
  fits (instr.Send stream after clock) = f_top m.operands _ (λ v rest. fit)
  fits (instr.Jump to) = f_code code to (jump to m.operands m) fit
  fits (instr.JumpZero to) = f_top m.operands _ (λ v rest. f_jump to (is_zero v) _ _ fit fit)
  fits (instr.AndTest to) = f_top m.operands _ (λ v rest. f_jump to (is_zero v) _ _ fit fit)
  fits (instr.OrTest to) = f_top m.operands _ (λ v rest. f_jump to (is_zero v) _ _ fit fit)
  fits instr.Truth = f_top m.operands _ (λ v rest. fit)
  fits (instr.Zero counter) = f_need (slice_get (present m).counters counter) _ (λ turns. fit)
  fits (instr.Guard counter bound) =
      f_top m.operands _ (λ v rest. f_need (slice_get (present m).counters counter) _ (λ turns. f_if (is_zero v) _ _ fit (f_if (turns == bound) _ _ (tt {0}) fit)))
  fits (instr.Call function) = f_need (slice_get code.functions function) _ (λ f. f_if (nat_le f.params (length m.operands)) _ Stuck fit (tt {0}))
  fits instr.Return = f_top m.operands _ (λ v rest. f_back m.calls)
  fits (instr.Advance point) = f_need (slice_get agent.points point) _ (λ place. fit)
  fits (instr.Binary operator width) = f_top m.operands _ (λ b below. f_top below _ (λ a rest. f_trap trap.Divide (taken2 (of_type width) operator a b) _ (λ v. fit)))
  fits (instr.Unary operator width) = f_top m.operands _ (λ a rest. fit)
  fits (instr.Cast width) = f_top m.operands _ (λ a rest. fit)

  f_within : (next : Next) → FitIn next → FitIn (within agent next)
  f_within (Went n) h = f_if (has_room agent n) (Went n) Stuck h (tt {0})
  f_within (Ended point n) h = h
  f_within (Trapped kind) h = tt {0}
  f_within Stuck h = tt {0}

  fits_next : FitIn (next_of code agent view m)
  fits_next = f_need (instr_at code m) _ (λ i. f_within (does code agent view i m) (fits i))

-- ---- runs

one_more : (d : Deeds) (call : Option Call) → length (deeds_then d call).sends ≤ length d.sends + 1
one_more d None = omega arith
one_more d (Some (Past variable back)) = omega arith
one_more d (Some (Ready stream)) = omega arith
one_more d (Some (Take stream)) = omega arith
one_more d (Some (Send sent)) = omega (arith, length-append d.sends (sent ∷ []))

-- The run's copies are of 32 bits, and it sent so many messages at most.
abbrev pub Keeping : ℕ → Run → Type 0
Keeping most (Running t) = AreFit t.machine.copies × (length t.deeds.sends ≤ most)
Keeping most (RanTo point t) = AreFit t.machine.copies × (length t.deeds.sends ≤ most)
Keeping most (TrappedBy kind t) = ⊤
Keeping most NoRun = ⊤

more_kept : (run : Run) (n m : ℕ) → n ≤ m → Keeping n run → Keeping m run
more_kept (Running t) n m most h = (h.0, omega (arith, h.1, most))
more_kept (RanTo point t) n m most h = (h.0, omega (arith, h.1, most))
more_kept (TrappedBy kind t) n m most h = h
more_kept NoRun n m most h = h

module _ (code : Code) (agent : AgentCode) where
  keeps_by : (n : ℕ) (s : RunState) (next : Next) → FitIn next → ((t : RunState) → AreFit t.machine.copies → Keeping (length t.deeds.sends + n) (run_code code agent t n))
      → Keeping (length s.deeds.sends + suc n) (go_on (run_by s (call_of code s.machine) next) (λ t. run_code code agent t n))
  keeps_by n s (Went m) fit on = more_kept _ _ _ (omega (arith, one_more s.deeds (call_of code s.machine))) (on _ fit)
  keeps_by n s (Ended point m) fit on = (fit, omega (arith, one_more s.deeds (call_of code s.machine)))
  keeps_by n s (Trapped kind) fit on = tt {0}
  keeps_by n s Stuck fit on = tt {0}

  pub keeps : (n : ℕ) (s : RunState) → AreFit s.machine.copies → Keeping (length s.deeds.sends + n) (run_code code agent s n)
  keeps zero s fit = (fit, omega arith)
  keeps (suc n) s fit = keeps_by n s (next_of code agent s.view s.machine) (fits_next code agent s.view s.machine fit) (keeps n)
