-- One instruction of a run: it is the same under a view that answers alike what it asks, and what it looks at or sends is among all
-- that the run does.
use Rattle.std.proofs.Common.{◌≡◌, ◌≢◌, ℕ, ◌+◌, Bool, true, false, List, [], ◌∷◌, ◌++◌, Option, Some, None, refl, sym, ap, subst}
use Rattle.std.specs.Prelude.{ℤ, if◌then◌else◌, length, ⊤}
use Rattle.std.specs.Int.{w32, cast_signed}
use Rattle.std.specs.List.{Contains}
use Rattle.std.proofs.lemmas.List.Elements.{Contains-append_left, Contains-push}
use Rattle.std.proofs.lemmas.Option.{same_Some}
use Rattle.psy_arith.specs.declared.operators.Trap.TheVariants as trap
use Rattle.psy_code.specs.declared.code.AgentCode.{AgentCode}
use Rattle.psy_code.specs.declared.code.Code.{Code}
use Rattle.psy_code.specs.declared.instr.Instr.{Instr}
use Rattle.psy_code.specs.declared.instr.Instr.TheVariants as instr
use Rattle.psy_code.specs.declared.look.Sent.{Sent}
use Rattle.psy_code.specs.Execution.{Machine, Next, Went, Stuck, RunState, call_by, call_of, deeds_then, does, has_room, instr_at, need, next_of, onward, or_trap, push, take_first, with_top, within}
use Rattle.psy_code.specs.Lasting.{GoesOn, IsFront}
use Rattle.psy_code.specs.Views.{Call, Past, Ready, Take, Send, Deeds, Looked, View, count_as_value, first_of, found_in, messages_of, past_of}
use Rattle.psy_history.specs.Regular.{AnswerAlike}

-- ---- what answers alike

same_ready : (agent : AgentCode) (m : Machine) (these those : Option (List ℤ)) → found_in these (λ values. Some (length values)) ≡ found_in those (λ values. Some (length values))
    → within agent (need these (λ values. push (count_as_value values) m)) ≡ within agent (need those (λ values. push (count_as_value values) m))
same_ready agent m None None counts = refl
same_ready agent m None (Some those) counts = cc
same_ready agent m (Some these) None counts = cc
same_ready agent m (Some these) (Some those) counts = ap (λ n. within agent (push (cast_signed w32 n) m)) (same_Some (length these) (length those) counts)

same_take : (agent : AgentCode) (m : Machine) (these those : Option (List ℤ)) → found_in these (λ values. Some (length values)) ≡ found_in those (λ values. Some (length values)) → found_in these first_of ≡ found_in those first_of
    → within agent (need these (λ values. take_first values m)) ≡ within agent (need those (λ values. take_first values m))
same_take agent m None None counts first = refl
same_take agent m None (Some those) counts first = cc
same_take agent m (Some these) None counts first = cc
same_take agent m (Some these) (Some those) counts first = ap (λ found. within agent (or_trap trap.Take found (λ v. push v m))) first

same_instr : (code : Code) (agent : AgentCode) (view other : View) (m : Machine) (i : Instr) → AnswerAlike view other (call_by i m.operands) → within agent (does code agent view i m) ≡ within agent (does code agent other i m)
same_instr code agent view other m (instr.Past variable back) alike = ap (λ found. within agent (need found (λ v. push v m))) alike
same_instr code agent view other m (instr.Ready stream) alike = same_ready agent m (messages_of view stream) (messages_of other stream) alike
same_instr code agent view other m (instr.Take stream) alike = same_take agent m (messages_of view stream) (messages_of other stream) alike.0 alike.1
same_instr code agent view other m i alike = refl

same_found : (code : Code) (agent : AgentCode) (view other : View) (m : Machine) (found : Option Instr) → AnswerAlike view other (found_in found (λ i. call_by i m.operands))
    → need found (λ i. within agent (does code agent view i m)) ≡ need found (λ i. within agent (does code agent other i m))
same_found code agent view other m None alike = refl
same_found code agent view other m (Some i) alike = same_instr code agent view other m i alike

-- The next instruction is the same under a view that answers alike what it asks.
pub same_next : (code : Code) (agent : AgentCode) (view other : View) (m : Machine) → AnswerAlike view other (call_of code m) → next_of code agent view m ≡ next_of code agent other m
same_next code agent view other m alike = same_found code agent view other m (instr_at code m) alike

-- ---- instructions that look or send go on

-- Only looks and sends leave a deed.
abbrev pub LeavesDeed : Call → Type 0
LeavesDeed (Past variable back) = ⊤
LeavesDeed (Ready stream) = ⊥
LeavesDeed (Take stream) = ⊥
LeavesDeed (Send sent) = ⊤

-- It goes on.
abbrev pub IsGoing : Next → Type 0
IsGoing next = (n : Machine) × (next ≡ Went n)

room_went : (b : Bool) (m : Machine) → (if b then Went m else Stuck) ≢ Stuck → IsGoing (if b then Went m else Stuck)
room_went true m able = (m, refl)
room_went false m able = absurd (able refl)

send_went : (agent : AgentCode) (m : Machine) (operands : List ℤ) → within agent (with_top operands (λ v below. onward below m)) ≢ Stuck → IsGoing (within agent (with_top operands (λ v below. onward below m)))
send_went agent m [] able = absurd (able refl)
send_went agent m (v ∷ below) able = room_went (has_room agent (record m { place = m.place + 1; operands = below })) (record m { place = m.place + 1; operands = below }) able

past_went : (agent : AgentCode) (m : Machine) (found : Option ℤ) → within agent (need found (λ v. push v m)) ≢ Stuck → IsGoing (within agent (need found (λ v. push v m)))
past_went agent m None able = absurd (able refl)
past_went agent m (Some v) able = room_went (has_room agent (record m { place = m.place + 1; operands = v ∷ m.operands })) (record m { place = m.place + 1; operands = v ∷ m.operands }) able

leaves_went : (code : Code) (agent : AgentCode) (view : View) (m : Machine) (i : Instr) (call : Call) → LeavesDeed call → call_by i m.operands ≡ Some call → within agent (does code agent view i m) ≢ Stuck → IsGoing (within agent (does code agent view i m))
leaves_went code agent view m (instr.Send stream after clock) call leaves asks able = send_went agent m m.operands able
leaves_went code agent view m (instr.Past variable back) call leaves asks able = past_went agent m (past_of view variable back) able
leaves_went code agent view m (instr.Ready stream) call leaves asks able = absurd (subst LeavesDeed (sym (same_Some (Ready stream) call asks)) leaves)
leaves_went code agent view m (instr.Take stream) call leaves asks able = absurd (subst LeavesDeed (sym (same_Some (Take stream) call asks)) leaves)
leaves_went code agent view m i call leaves asks able = cc

went_by : (code : Code) (agent : AgentCode) (view : View) (m : Machine) (call : Call) (found : Option Instr) → LeavesDeed call → need found (λ i. within agent (does code agent view i m)) ≢ Stuck → found_in found (λ i. call_by i m.operands) ≡ Some call
    → IsGoing (need found (λ i. within agent (does code agent view i m)))
went_by code agent view m call None leaves able asks = absurd (able refl)
went_by code agent view m call (Some i) leaves able asks = leaves_went code agent view m i call leaves asks able

pub goes_on : (code : Code) (agent : AgentCode) (view : View) (m : Machine) (call : Call) → LeavesDeed call → call_of code m ≡ Some call → next_of code agent view m ≢ Stuck → IsGoing (next_of code agent view m)
goes_on code agent view m call leaves asks able = went_by code agent view m call (instr_at code m) leaves able asks

-- ---- what is left of them

module _ (code : Code) (its : AgentCode) (start : RunState) (n : ℕ) (all : Deeds) (on : GoesOn code its start n all) where
  pub left_behind : (call : Call) → LeavesDeed call → call_of code on.state.machine ≡ Some call → IsFront (deeds_then on.state.deeds (Some call)) all
  left_behind call leaves asks =
      let goes = goes_on code its on.state.view on.state.machine call leaves asks on.able in
      subst (λ c. IsFront (deeds_then on.state.deeds c) all) asks (on.behind goes.0 goes.1)

  -- What an instruction looks at is among the looks of the run.
  pub looked_at : (variable back : ℕ) → call_of code on.state.machine ≡ Some (Past variable back) → Contains all.looks (record { number = on.state.deeds.steps; variable = variable; back = back })
  looked_at variable back asks =
      let look : Looked = record { number = on.state.deeds.steps; variable = variable; back = back } in
      let front = left_behind (Past variable back) (tt {0}) asks in
      let before = on.state.deeds.looks ++ look ∷ [] in
      subst (λ looks. Contains looks look) (sym front.looks.1) (Contains-append_left before front.looks.0 look (Contains-push on.state.deeds.looks look))

  -- What it sends is among the sends of the run.
  pub sent_there : (sent : Sent) → call_of code on.state.machine ≡ Some (Send sent) → Contains all.sends sent
  sent_there sent asks =
      let front = left_behind (Send sent) (tt {0}) asks in
      let before = on.state.deeds.sends ++ sent ∷ [] in
      subst (λ sends. Contains sends sent) (sym front.sends.1) (Contains-append_left before front.sends.0 sent (Contains-push on.state.deeds.sends sent))
