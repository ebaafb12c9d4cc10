-- What instructions leave of the agent's own frame and of its copies, and where an action's end leaves the machine.
use Rattle.std.proofs.Common.{◌≡◌, refl, ap, subst, ◌∙◌, length-set}
use Rattle.std.specs.Prelude.{ℕ, zero, suc, ◌+◌, ◌%◌, ◌^◌, ◌==◌, nat_le, Bool, true, false, if◌then◌else◌, List, [], ◌∷◌, map, length, slice_get, slice_set, Option, Some, None, ℤ, ⊤}
use Rattle.std.proofs.lemmas.Option.{slice_get_within, get_or_from_slice_get}
use Rattle.std.specs.Int.{w32, int_wrap}
use Rattle.psy_arith.specs.declared.operators.Trap.{Trap}
use Rattle.psy_arith.specs.declared.operators.Trap.TheVariants as trap
use Rattle.psy_arith.specs.Operators.{is_zero}
use Rattle.psy_arith.specs.Types.{taken2}
use Rattle.psy_arith.specs.Widths.{of_type}
use Rattle.psy_code.specs.declared.code.AgentCode.{AgentCode}
use Rattle.psy_code.specs.declared.code.Code.{Code}
use Rattle.psy_code.specs.declared.code.FunctionCode.{FunctionCode}
use Rattle.psy_code.specs.declared.instr.Instr.{Instr}
use Rattle.psy_code.specs.declared.instr.Instr.TheVariants as instr
use Rattle.psy_code.specs.Views.{View, past_of, messages_of, first_of}
use Rattle.psy_code.specs.Execution.{Machine, Frame, OpenCall, Copy, RunState, Run, Running, RanTo, TrappedBy, NoRun, Next, Went, Ended, Trapped, Stuck, need, or_trap, with_top, in_code, within, does, next_of, call_of, run_by, run_code, go_on, innermost_frame, home_with, with_counter, copy_of, with_copy, onward, present, index_in, jump, guard, load, store, call, back_from, begun_at, has_room, instr_at}
use Rattle.psy_code.specs.Lasting.{StandsAt}

-- As many cells and counters, and copies of the same variables
record Alike (before after : Machine) : Type 0 where
  pub cells : length after.home.cells ≡ length before.home.cells
  pub counters : length after.home.counters ≡ length before.home.counters
  pub copies : map (λ (c : Copy). c.variable) after.copies ≡ map (λ (c : Copy). c.variable) before.copies

-- What comes of an instruction leaves them so, and stands at the point where it ends the action.
abbrev Leaves : AgentCode → Machine → Next → Type 0
Leaves agent m (Went n) = Alike m n
Leaves agent m (Ended point n) = StandsAt agent point m n
Leaves agent m (Trapped kind) = ⊤
Leaves agent m Stuck = ⊤

home_cells : (home : Frame) (calls : List OpenCall) (frame : Frame) → length frame.cells ≡ length (innermost_frame home calls).cells → length (home_with home calls frame).cells ≡ length home.cells
home_cells home [] frame e = e
home_cells home (c ∷ cs) frame e = refl

home_counters : (home : Frame) (calls : List OpenCall) (frame : Frame) → length frame.counters ≡ length (innermost_frame home calls).counters → length (home_with home calls frame).counters ≡ length home.counters
home_counters home [] frame e = e
home_counters home (c ∷ cs) frame e = refl

same_variables : (variable : ℕ) (v : ℤ) (copies : List Copy) → map (λ (c : Copy). c.variable) (with_copy variable v copies) ≡ map (λ (c : Copy). c.variable) copies
same_variables variable v [] = refl
same_variables variable v (c ∷ rest) = from (c.variable == variable) (same_variables variable v rest)
  where
    from : (b : Bool) → map (λ (d : Copy). d.variable) (with_copy variable v rest) ≡ map (λ (d : Copy). d.variable) rest → map (λ (d : Copy). d.variable) (if b then record c { value = v } ∷ rest else c ∷ with_copy variable v rest) ≡ c.variable ∷ map (λ (d : Copy). d.variable) rest
    from true e = refl
    from false e = ap (λ vs. c.variable ∷ vs) e

module _ (code : Code) (agent : AgentCode) (m : Machine) where
  l_need : {A : Type 0} (found : Option A) (go : A → Next) → ((x : A) → Leaves agent m (go x)) → Leaves agent m (need found go)
  l_need None go h = tt {0}
  l_need (Some x) go h = h x

  l_trap : {A : Type 0} (kind : Trap) (found : Option A) (go : A → Next) → ((x : A) → Leaves agent m (go x)) → Leaves agent m (or_trap kind found go)
  l_trap kind None go h = tt {0}
  l_trap kind (Some x) go h = h x

  l_if : (b : Bool) (x y : Next) → Leaves agent m x → Leaves agent m y → Leaves agent m (if b then x else y)
  l_if true x y g h = g
  l_if false x y g h = h

  l_top : (operands : List ℤ) (go : ℤ → List ℤ → Next) → ((v : ℤ) (below : List ℤ) → Leaves agent m (go v below)) → Leaves agent m (with_top operands go)
  l_top [] go h = tt {0}
  l_top (v ∷ below) go h = h v below

  l_code : (to : ℕ) (next : Next) → Leaves agent m next → Leaves agent m (in_code code to next)
  l_code to next h = l_if _ next Stuck h (tt {0})

  alike : {n : Machine} → n.home ≡ m.home → n.copies ≡ m.copies → Alike m n
  alike home copies = record {
    cells = ap (λ (frame : Frame). length frame.cells) home;
    counters = ap (λ (frame : Frame). length frame.counters) home;
    copies = ap (map (λ (c : Copy). c.variable)) copies;
  }

  l_store : (cell : ℕ) (v : ℤ) (operands : List ℤ) → Leaves agent m (store cell v operands m)
  l_store cell v operands = l_need (slice_get (present m).cells cell) _ (λ old. record {
    cells = home_cells m.home m.calls (record (present m) { cells = slice_set (present m).cells cell v }) (length-set (present m).cells cell v);
    counters = home_counters m.home m.calls (record (present m) { cells = slice_set (present m).cells cell v }) refl;
    copies = refl;
  })

  l_counter : (counter n : ℕ) → Leaves agent m (onward m.operands (with_counter counter n m))
  l_counter counter n = record {
    cells = home_cells m.home m.calls (record (present m) { counters = slice_set (present m).counters counter n }) refl;
    counters = home_counters m.home m.calls (record (present m) { counters = slice_set (present m).counters counter n }) (length-set (present m).counters counter n);
    copies = refl;
  }

  l_copy : (variable : ℕ) (v : ℤ) (operands : List ℤ) → Leaves agent m (need (copy_of variable m.copies) (λ old. onward operands (record m { copies = with_copy variable v m.copies })))
  l_copy variable v operands = l_need (copy_of variable m.copies) _ (λ old. record { cells = refl; counters = refl; copies = same_variables variable v m.copies })

  l_load : (cell : ℕ) (operands : List ℤ) → Leaves agent m (load cell operands m)
  l_load cell operands = l_need (slice_get (present m).cells cell) _ (λ v. alike refl refl)

  l_call : (function : FunctionCode) → Leaves agent m (call function m)
  l_call function = l_if (nat_le function.params (length m.operands)) _ Stuck (alike refl refl) (tt {0})

  l_back : (calls : List OpenCall) → Leaves agent m (back_from calls m)
  l_back [] = tt {0}
  l_back (c ∷ rest) = alike refl refl

  l_advance : (point : ℕ) → Leaves agent m (need (slice_get agent.points point) (λ place. Ended point (begun_at place m)))
  l_advance point = from (slice_get agent.points point) refl
    where
      from : (found : Option ℕ) → slice_get agent.points point ≡ found → Leaves agent m (need found (λ place. Ended point (begun_at place m)))
      from None e = tt {0}
      from (Some place) e = record {
        known = slice_get_within agent.points point place e;
        machine = rw (get_or_from_slice_get agent.points point place 0 e) refl;
        cells = refl;
        copies = refl;
      }

  l_jump_zero : (to : ℕ) (v : ℤ) (x y : Next) → Leaves agent m x → Leaves agent m y → Leaves agent m (in_code code to (if is_zero v then x else y))
  l_jump_zero to v x y g h = l_code to (if is_zero v then x else y) (l_if (is_zero v) x y g h)

  l_guard : (counter bound : ℕ) → Leaves agent m (guard counter bound m)
  l_guard counter bound =
      l_top m.operands _ (λ v rest. l_need (slice_get (present m).counters counter) _ (λ turns.
      l_if (is_zero v) _ _ (alike refl refl) (l_if (turns == bound) _ _ (tt {0}) (l_counter counter ((turns + 1) % 2 ^ 32)))))

  leaves : (view : View) (i : Instr) → Leaves agent m (does code agent view i m)
  leaves view (instr.Push number) = alike refl refl
  leaves view (instr.Load cell) = l_load cell m.operands
  leaves view (instr.Store cell) = l_top m.operands _ (λ v rest. l_store cell v rest)
  leaves view (instr.LoadCell base cells) = l_top m.operands _ (λ index rest. l_trap trap.Index (index_in cells index) _ (λ i. l_load (base + i) rest))
  leaves view (instr.StoreCell base cells) = l_top m.operands _ (λ v below. l_top below _ (λ index rest. l_trap trap.Index (index_in cells index) _ (λ i. l_store (base + i) v rest)))
  leaves view (instr.LoadCopy variable) = l_need (copy_of variable m.copies) _ (λ v. alike refl refl)
  leaves view (instr.StoreCopy variable) = l_top m.operands _ (λ v rest. l_copy variable (int_wrap w32 v) rest)
  leaves view (instr.Past variable back) = l_need (past_of view variable back) _ (λ v. alike refl refl)
  leaves view (instr.Ready stream) = l_need (messages_of view stream) _ (λ messages. alike refl refl)
  leaves view (instr.Take stream) = l_need (messages_of view stream) _ (λ messages. l_trap trap.Take (first_of messages) _ (λ v. alike refl refl))
  leaves view (instr.Send stream after clock) = l_top m.operands _ (λ v rest. alike refl refl)
  leaves view (instr.Jump to) = l_code to (jump to m.operands m) (alike refl refl)
  leaves view (instr.JumpZero to) = l_top m.operands _ (λ v rest. l_jump_zero to v _ _ (alike refl refl) (alike refl refl))
  leaves view (instr.AndTest to) = l_top m.operands _ (λ v rest. l_jump_zero to v _ _ (alike refl refl) (alike refl refl))
  leaves view (instr.OrTest to) = l_top m.operands _ (λ v rest. l_jump_zero to v _ _ (alike refl refl) (alike refl refl))
  leaves view instr.Truth = l_top m.operands _ (λ v rest. alike refl refl)
  leaves view (instr.Zero counter) = l_need (slice_get (present m).counters counter) _ (λ turns. l_counter counter 0)
  leaves view (instr.Guard counter bound) = l_guard counter bound
  leaves view (instr.Call function) = l_need (slice_get code.functions function) _ l_call
  leaves view instr.Return = l_top m.operands _ (λ v rest. l_back m.calls)
  leaves view (instr.Advance point) = l_advance point
  leaves view (instr.Binary operator width) =
      l_top m.operands _ (λ b below. l_top below _ (λ a rest. l_trap trap.Divide (taken2 (of_type width) operator a b) _ (λ v. alike refl refl)))
  leaves view (instr.Unary operator width) = l_top m.operands _ (λ a rest. alike refl refl)
  leaves view (instr.Cast width) = l_top m.operands _ (λ a rest. alike refl refl)

  l_within : (next : Next) → Leaves agent m next → Leaves agent m (within agent next)
  l_within (Went n) h = l_if (has_room agent n) (Went n) Stuck h (tt {0})
  l_within (Ended point n) h = h
  l_within (Trapped kind) h = tt {0}
  l_within Stuck h = tt {0}

  leaves_next : (view : View) → Leaves agent m (next_of code agent view m)
  leaves_next view = l_need (instr_at code m) _ (λ i. l_within (does code agent view i m) (leaves view i))

-- A run that ended stands at its point.
abbrev StandsIn : AgentCode → Machine → Run → Type 0
StandsIn agent m (RanTo point t) = StandsAt agent point m t.machine
StandsIn agent m (Running t) = ⊤
StandsIn agent m (TrappedBy kind t) = ⊤
StandsIn agent m NoRun = ⊤

stands_from : (agent : AgentCode) (m n : Machine) (run : Run) → Alike m n → StandsIn agent n run → StandsIn agent m run
stands_from agent m n (RanTo point t) a s = record { known = s.known; machine = rw (← a.counters) s.machine; cells = s.cells ∙ a.cells; copies = s.copies ∙ a.copies }
stands_from agent m n (Running t) a s = tt {0}
stands_from agent m n (TrappedBy kind t) a s = tt {0}
stands_from agent m n NoRun a s = tt {0}

module _ (code : Code) (agent : AgentCode) where
  stands_by : (n : ℕ) (s : RunState) (next : Next) → Leaves agent s.machine next → ((u : RunState) → StandsIn agent u.machine (run_code code agent u n)) → StandsIn agent s.machine (go_on (run_by s (call_of code s.machine) next) (λ t. run_code code agent t n))
  stands_by n s (Went m) h on = stands_from agent s.machine m _ h (on _)
  stands_by n s (Ended point m) h on = h
  stands_by n s (Trapped kind) h on = tt {0}
  stands_by n s Stuck h on = tt {0}

  stands : (n : ℕ) (s : RunState) → StandsIn agent s.machine (run_code code agent s n)
  stands zero s = tt {0}
  stands (suc n) s = stands_by n s (next_of code agent s.view s.machine) (leaves_next code agent s.machine s.view) (stands n)

  pub ended : (n point : ℕ) (s t : RunState) → run_code code agent s n ≡ RanTo point t → StandsAt agent point s.machine t.machine
  ended n point s t e = subst (StandsIn agent s.machine) e (stands n s)
