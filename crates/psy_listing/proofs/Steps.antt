-- Where a run goes on: behind an instruction that can go on at one place alone, and along the straight way.
use Rattle.std.proofs.Common.{◌≡◌, ◌∙◌, ◌+◌, ◌<◌, ◌==◌, ℕ, zero, suc, ℤ, Bool, true, false, List, [], ◌∷◌, Option, None, Some, length, refl, sym, ap}
use Rattle.std.proofs.Common.{subst, nat_lt, arith}
use Rattle.std.specs.Prelude.{if◌then◌else◌, slice_get}
use Rattle.std.proofs.lemmas.Option.{none-some, same_Some}
use Rattle.psy_meaning.proofs.lemmas.Running.{same_running}
use Rattle.psy_arith.specs.declared.operators.Trap.{Trap}
use Rattle.psy_arith.specs.declared.operators.Trap.TheVariants as trap
use Rattle.psy_arith.specs.Operators.{is_zero}
use Rattle.psy_arith.specs.Types.{taken2}
use Rattle.psy_arith.specs.Widths.{of_type}
use Rattle.psy_code.specs.declared.code.AgentCode.{AgentCode}
use Rattle.psy_code.specs.declared.code.Code.{Code}
use Rattle.psy_code.specs.declared.instr.Instr.{Instr}
use Rattle.psy_code.specs.declared.instr.Instr.TheVariants as instr
use Rattle.psy_code.specs.Views.{Call, View, past_of, messages_of, first_of}
use Rattle.psy_code.specs.Execution.{Machine, Next, Went, Ended, Trapped, Stuck, Run, RunState, Running, RanTo, TrappedBy, NoRun, call_of, copy_of}
use Rattle.psy_code.specs.Execution.{does, go_on, has_room, index_in, need, next_of, or_trap, present, run_by, run_code, run_one, with_top, with_two}
use Rattle.psy_code.specs.Execution.{within}
use Rattle.psy_listing.specs.Straight.{found_at, only_next, straight, straight_way, then_from}

-- Where it goes on, it is at this place.
abbrev GoesTo : ℕ → Next → Type 0
GoesTo place (Went m) = m.place ≡ place
GoesTo place (Ended point m) = Unit {0}
GoesTo place (Trapped kind) = Unit {0}
GoesTo place Stuck = Unit {0}

module _ (p : ℕ) where
  t_need : {A : Type 0} (found : Option A) (go : A → Next) → ((x : A) → GoesTo p (go x)) → GoesTo p (need found go)
  t_need None go h = tt {0}
  t_need (Some x) go h = h x

  t_trap : {A : Type 0} (kind : Trap) (found : Option A) (go : A → Next) → ((x : A) → GoesTo p (go x)) → GoesTo p (or_trap kind found go)
  t_trap kind None go h = tt {0}
  t_trap kind (Some x) go h = h x

  t_if : (t : Bool) (x y : Next) → GoesTo p x → GoesTo p y → GoesTo p (if t then x else y)
  t_if true x y g h = g
  t_if false x y g h = h

  t_top : (operands : List ℤ) (go : ℤ → List ℤ → Next) → ((v : ℤ) (below : List ℤ) → GoesTo p (go v below)) → GoesTo p (with_top operands go)
  t_top [] go h = tt {0}
  t_top (v ∷ below) go h = h v below

  t_two : (operands : List ℤ) (go : ℤ → ℤ → List ℤ → Next) → ((a b : ℤ) (below : List ℤ) → GoesTo p (go a b below)) → GoesTo p (with_two operands go)
  t_two [] go h = tt {0}
  t_two (b ∷ []) go h = tt {0}
  t_two (b ∷ (a ∷ below)) go h = h a b below

  t_within : (agent : AgentCode) (next : Next) → GoesTo p next → GoesTo p (within agent next)
  t_within agent (Went m) h = t_if (has_room agent m) (Went m) Stuck h (tt {0})
  t_within agent (Ended point m) h = h
  t_within agent (Trapped kind) h = h
  t_within agent Stuck h = h

module _ (code : Code) (agent : AgentCode) (view : View) (m : Machine) where
  -- Behind an instruction that goes on at one place alone, a machine that goes on is there.
  goes_to : (i : Instr) (p : ℕ) → only_next i m.place ≡ Some p → GoesTo p (does code agent view i m)
  goes_to (instr.Push number) p e = same_Some (m.place + 1) p e
  goes_to (instr.Load cell) p e = t_need p (slice_get (present m).cells cell) _ (λ v. same_Some (m.place + 1) p e)
  goes_to (instr.Store cell) p e = t_top p m.operands _ (λ v below. t_need p (slice_get (present m).cells cell) _ (λ old. same_Some (m.place + 1) p e))
  goes_to (instr.LoadCell base cells) p e =
      t_top p m.operands _ (λ index below. t_trap p trap.Index (index_in cells index) _
      (λ i. t_need p (slice_get (present m).cells (base + i)) _ (λ v. same_Some (m.place + 1) p e)))
  goes_to (instr.StoreCell base cells) p e =
      t_two p m.operands _ (λ index v below. t_trap p trap.Index (index_in cells index) _
      (λ i. t_need p (slice_get (present m).cells (base + i)) _ (λ old. same_Some (m.place + 1) p e)))
  goes_to (instr.LoadCopy variable) p e = t_need p (copy_of variable m.copies) _ (λ v. same_Some (m.place + 1) p e)
  goes_to (instr.StoreCopy variable) p e = t_top p m.operands _ (λ v below. t_need p (copy_of variable m.copies) _ (λ old. same_Some (m.place + 1) p e))
  goes_to (instr.Past variable back) p e = t_need p (past_of view variable back) _ (λ v. same_Some (m.place + 1) p e)
  goes_to (instr.Ready stream) p e = t_need p (messages_of view stream) _ (λ messages. same_Some (m.place + 1) p e)
  goes_to (instr.Take stream) p e = t_need p (messages_of view stream) _
      (λ messages. t_trap p trap.Take (first_of messages) _ (λ v. same_Some (m.place + 1) p e))
  goes_to (instr.Send stream after clock) p e = t_top p m.operands _ (λ v below. same_Some (m.place + 1) p e)
  goes_to (instr.Jump to) p e = t_if p (nat_lt to (length code.instrs)) _ Stuck (same_Some to p e) (tt {0})
  goes_to (instr.JumpZero to) p e = absurd (none-some p e)
  goes_to (instr.AndTest to) p e = absurd (none-some p e)
  goes_to (instr.OrTest to) p e = absurd (none-some p e)
  goes_to instr.Truth p e = t_top p m.operands _ (λ v below. same_Some (m.place + 1) p e)
  goes_to (instr.Zero counter) p e = t_need p (slice_get (present m).counters counter) _ (λ turns. same_Some (m.place + 1) p e)
  goes_to (instr.Guard counter bound) p e =
      t_top p m.operands _ (λ v below. t_need p (slice_get (present m).counters counter) _ (λ turns.
      t_if p (is_zero v) _ _ (same_Some (m.place + 1) p e) (t_if p (turns == bound) _ _ (tt {0}) (same_Some (m.place + 1) p e))))
  goes_to (instr.Call function) p e = absurd (none-some p e)
  goes_to instr.Return p e = absurd (none-some p e)
  goes_to (instr.Advance point) p e = absurd (none-some p e)
  goes_to (instr.Binary operator width) p e =
      t_two p m.operands _ (λ a b below. t_trap p trap.Divide (taken2 (of_type width) operator a b) _ (λ v. same_Some (m.place + 1) p e))
  goes_to (instr.Unary operator width) p e = t_top p m.operands _ (λ a below. same_Some (m.place + 1) p e)
  goes_to (instr.Cast width) p e = t_top p m.operands _ (λ a below. same_Some (m.place + 1) p e)

  next_goes : (i : Instr) (p : ℕ) → slice_get code.instrs m.place ≡ Some i → only_next i m.place ≡ Some p → GoesTo p (next_of code agent view m)
  next_goes i p at e = subst (λ (found : Option Instr). GoesTo p (need found (λ i. within agent (does code agent view i m)))) (sym at)
      (t_within p agent (does code agent view i m) (goes_to i p e))

-- The same of a run's state
abbrev RunsTo : ℕ → Run → Type 0
RunsTo place (Running t) = t.machine.place ≡ place
RunsTo place _ = Unit {0}

runs_to : (s : RunState) (call : Option Call) (place : ℕ) (next : Next) → GoesTo place next → RunsTo place (run_by s call next)
runs_to s call place (Went m) h = h
runs_to s call place (Ended point m) h = tt {0}
runs_to s call place (Trapped kind) h = tt {0}
runs_to s call place Stuck h = tt {0}

-- The state of a run that goes on
abbrev state_of : Run → Option RunState
state_of (Running t) = Some t
state_of run = None

over : (run : Run) (t : RunState) → state_of run ≡ None → run ≡ Running t → ⊥
over run t none e = none-some t (sym none ∙ ap state_of e)

module _ (code : Code) (agent : AgentCode) where
  -- The places of a run are those of a way, as far as that goes.
  abbrev Keeps : (ℕ → List ℕ) → Type 0
  Keeps way = (n : ℕ) (s t : RunState) → run_code code agent s n ≡ Running t → n < length (way s.machine.place) → slice_get (way s.machine.place) n ≡
      Some t.machine.place

  module _ (way : ℕ → List ℕ) (keeps : Keeps way) where
    after_one : (n : ℕ) (t : RunState) (p : ℕ) (run : Run) → RunsTo p run → go_on run (λ u. run_code code agent u n) ≡ Running t
        → n < length (way p) → slice_get (way p) n ≡ Some t.machine.place
    after_one n t p (Running u) there e less =
        subst (λ place. n < length (way place) → slice_get (way place) n ≡ Some t.machine.place) there (keeps n u t e) less
    after_one n t p (RanTo point u) there e less = absurd (over (RanTo point u) t refl e)
    after_one n t p (TrappedBy kind u) there e less = absurd (over (TrappedBy kind u) t refl e)
    after_one n t p NoRun there e less = absurd (over NoRun t refl e)

    behind : (n : ℕ) (s t : RunState) (i : Instr) (next : Option ℕ) → slice_get code.instrs s.machine.place ≡ Some i → only_next i s.machine.place ≡ next
        → run_code code agent s (suc n) ≡ Running t → n < length (then_from way next) → slice_get (then_from way next) n ≡ Some t.machine.place
    behind n s t i None at is e less = absurd (omega (arith, less))
    behind n s t i (Some p) at is e less =
        after_one n t p (run_one code agent s)
        (runs_to s (call_of code s.machine) p (next_of code agent s.view s.machine) (next_goes code agent s.view s.machine i p at is)) e less

    from_place : (n : ℕ) (s t : RunState) (found : Option Instr) → slice_get code.instrs s.machine.place ≡ found → run_code code agent s n ≡ Running t
        → n < length (found_at way s.machine.place found) → slice_get (found_at way s.machine.place found) n ≡ Some t.machine.place
    from_place n s t None at e less = absurd (omega (arith, less))
    from_place zero s t (Some i) at e less = ap (λ (u : RunState). Some u.machine.place) (same_running s t e)
    from_place (suc n) s t (Some i) at e less = behind n s t i (only_next i s.machine.place) at refl e (omega (arith, less))

  along : (more : ℕ) → Keeps (straight more code.instrs)
  along zero n s t e less = absurd (omega (arith, less))
  along (suc more) n s t e less = from_place (straight more code.instrs) (along more) n s t (slice_get code.instrs s.machine.place) refl e less

  pub on_straight_way : (s t : RunState) (n : ℕ) → run_code code agent s n ≡ Running t → n < length (straight_way code.instrs s.machine.place)
      → slice_get (straight_way code.instrs s.machine.place) n ≡ Some t.machine.place
  on_straight_way s t n e less = along (length code.instrs) n s t e less
