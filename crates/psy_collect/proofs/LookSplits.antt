-- What a run of code looks at, split at one of its instructions.
use Rattle.std.proofs.Common.{◌≡◌, ◌≢◌, ◌∙◌, refl, sym, ap, subst, ℕ, zero, suc, ◌+◌, ◌-◌, ◌<◌, ◌≤◌, Bool, true, false, List, [], ◌∷◌, ◌++◌, Option, Some, None, append-nil, append_assoc, arith}
use Rattle.std.specs.Prelude.{if◌then◌else◌, ℤ}
use Rattle.std.specs.List.{All}
use Rattle.std.proofs.lemmas.List.Elements.{All-append, All-cons, All-nil, All-weaker}
use Rattle.psy_code.specs.declared.code.AgentCode.{AgentCode}
use Rattle.psy_code.specs.declared.code.Code.{Code}
use Rattle.psy_code.specs.declared.instr.Instr.{Instr}
use Rattle.psy_code.specs.declared.instr.Instr.TheVariants as instr
use Rattle.psy_arith.specs.declared.operators.Trap.{Trap}
use Rattle.psy_code.specs.Execution.{Ended, Machine, Next, NoRun, RanTo, Run, RunState, Running, Stuck, Trapped, TrappedBy, Went, call_by, call_of, deeds_then, does, go_on, has_room, instr_at, need, next_of, push, run_by, run_code, run_one, state_then, within}
use Rattle.psy_code.specs.Lasting.{IsOver}
use Rattle.psy_code.specs.Views.{Call, Deeds, Looked as Sight, Past, Ready, Send, Take, found_in, past_of}

-- The look of an instruction that asks this, behind so many
abbrev pub call_looks : ℕ → Option Call → List Sight
call_looks steps None = []
call_looks steps (Some (Past variable back)) = record { number = steps; variable = variable; back = back } ∷ []
call_looks steps (Some (Ready stream)) = []
call_looks steps (Some (Take stream)) = []
call_looks steps (Some (Send sent)) = []

-- What a run looked at
abbrev pub run_looks : Run → List Sight
run_looks (Running s) = s.deeds.looks
run_looks (RanTo point s) = s.deeds.looks
run_looks (TrappedBy kind s) = s.deeds.looks
run_looks NoRun = []

then_looks : (deeds : Deeds) (call : Option Call) → (deeds_then deeds call).looks ≡ deeds.looks ++ call_looks deeds.steps call
then_looks deeds None = sym (append-nil deeds.looks)
then_looks deeds (Some (Past variable back)) = refl
then_looks deeds (Some (Ready stream)) = sym (append-nil deeds.looks)
then_looks deeds (Some (Take stream)) = sym (append-nil deeds.looks)
then_looks deeds (Some (Send sent)) = sym (append-nil deeds.looks)

then_steps : (deeds : Deeds) (call : Option Call) → (deeds_then deeds call).steps ≡ deeds.steps + 1
then_steps deeds None = refl
then_steps deeds (Some (Past variable back)) = refl
then_steps deeds (Some (Ready stream)) = refl
then_steps deeds (Some (Take stream)) = refl
then_steps deeds (Some (Send sent)) = refl

pub at_steps : (steps : ℕ) (call : Option Call) → All (λ (l : Sight). l.number ≡ steps) (call_looks steps call)
at_steps steps None = All-nil (λ (l : Sight). l.number ≡ steps)
at_steps steps (Some (Past variable back)) = All-cons (λ (l : Sight). l.number ≡ steps) (record { number = steps; variable = variable; back = back }) [] refl (All-nil (λ (l : Sight). l.number ≡ steps))
at_steps steps (Some (Ready stream)) = All-nil (λ (l : Sight). l.number ≡ steps)
at_steps steps (Some (Take stream)) = All-nil (λ (l : Sight). l.number ≡ steps)
at_steps steps (Some (Send sent)) = All-nil (λ (l : Sight). l.number ≡ steps)

-- Some looks are others and then such as were made behind so many instructions.
pub record Grown (steps : ℕ) (before all : List Sight) : Type 0 where
  pub rest : List Sight
  pub is : all ≡ before ++ rest
  pub late : All (λ (l : Sight). steps ≤ l.number) rest

module _ (code : Code) (its : AgentCode) where
  -- ---- how far it is

  steps_by : (k : ℕ) (s t : RunState) (next : Next) → ((u : RunState) → run_code code its u k ≡ Running t → t.deeds.steps ≡ u.deeds.steps + k)
      → go_on (run_by s (call_of code s.machine) next) (λ u. run_code code its u k) ≡ Running t → t.deeds.steps ≡ s.deeds.steps + suc k
  steps_by k s t (Went m) on e = (let more = on (state_then s (call_of code s.machine) m) e in omega (arith, more, then_steps s.deeds (call_of code s.machine)))
  steps_by k s t (Ended point m) on e = absurd (cc)
  steps_by k s t (Trapped kind) on e = absurd (cc)
  steps_by k s t Stuck on e = absurd (cc)

  pub steps_on : (k : ℕ) (s t : RunState) → run_code code its s k ≡ Running t → t.deeds.steps ≡ s.deeds.steps + k
  steps_on zero s t e = (let same : s ≡ t = cc in let on = ap (λ (u : RunState). u.deeds.steps) same in omega (arith, on))
  steps_on (suc k) s t e = steps_by k s t (next_of code its s.view s.machine) (λ u. steps_on k u t) e

  early_by : (k : ℕ) (s t : RunState) (next : Next) → ((u : RunState) → run_code code its u k ≡ Running t → All (λ (l : Sight). l.number < u.deeds.steps) u.deeds.looks → All (λ (l : Sight). l.number < t.deeds.steps) t.deeds.looks)
      → go_on (run_by s (call_of code s.machine) next) (λ u. run_code code its u k) ≡ Running t → All (λ (l : Sight). l.number < s.deeds.steps) s.deeds.looks → All (λ (l : Sight). l.number < t.deeds.steps) t.deeds.looks
  early_by k s t (Went m) on e all =
      let call = call_of code s.machine in
      let u = state_then s call m in
      let more = then_steps s.deeds call in
      on u e
      (subst (All (λ (l : Sight). l.number < u.deeds.steps)) (sym (then_looks s.deeds call))
      (All-append (λ (l : Sight). l.number < u.deeds.steps) s.deeds.looks (call_looks s.deeds.steps call)
      (All-weaker (λ (l : Sight). l.number < s.deeds.steps) (λ (l : Sight). l.number < u.deeds.steps) (λ l less. omega (arith, less, more)) s.deeds.looks all)
      (All-weaker (λ (l : Sight). l.number ≡ s.deeds.steps) (λ (l : Sight). l.number < u.deeds.steps) (λ l same. omega (arith, same, more)) (call_looks s.deeds.steps call) (at_steps s.deeds.steps call))))
  early_by k s t (Ended point m) on e all = absurd (cc)
  early_by k s t (Trapped kind) on e all = absurd (cc)
  early_by k s t Stuck on e all = absurd (cc)

  -- What it looked at so far has lower numbers.
  pub early : (k : ℕ) (s t : RunState) → run_code code its s k ≡ Running t → All (λ (l : Sight). l.number < s.deeds.steps) s.deeds.looks → All (λ (l : Sight). l.number < t.deeds.steps) t.deeds.looks
  early zero s t e all = (let same : s ≡ t = cc in subst (λ (u : RunState). All (λ (l : Sight). l.number < u.deeds.steps) u.deeds.looks) same all)
  early (suc k) s t e all = early_by k s t (next_of code its s.view s.machine) (λ u. early k u t) e all

  -- ---- what it looks at from there on

  grow_by : (k : ℕ) (s : RunState) (next : Next) → ((u : RunState) → run_code code its u k ≢ NoRun → Grown u.deeds.steps u.deeds.looks (run_looks (run_code code its u k)))
      → go_on (run_by s (call_of code s.machine) next) (λ u. run_code code its u k) ≢ NoRun
      → Grown s.deeds.steps s.deeds.looks (run_looks (go_on (run_by s (call_of code s.machine) next) (λ u. run_code code its u k)))
  grow_by k s (Went m) on runs =
      let call = call_of code s.machine in
      let g = on (state_then s call m) runs in
      let more = then_steps s.deeds call in
      record {
        rest = call_looks s.deeds.steps call ++ g.rest;
        is = g.is ∙ ap (λ ls. ls ++ g.rest) (then_looks s.deeds call) ∙ append_assoc s.deeds.looks (call_looks s.deeds.steps call) g.rest;
        late = All-append (λ (l : Sight). s.deeds.steps ≤ l.number) (call_looks s.deeds.steps call) g.rest
            (All-weaker (λ (l : Sight). l.number ≡ s.deeds.steps) (λ (l : Sight). s.deeds.steps ≤ l.number) (λ l same. omega (arith, same)) (call_looks s.deeds.steps call) (at_steps s.deeds.steps call))
            (All-weaker (λ (l : Sight). (deeds_then s.deeds call).steps ≤ l.number) (λ (l : Sight). s.deeds.steps ≤ l.number) (λ l low. omega (arith, low, more)) g.rest g.late);
      }
  grow_by k s (Ended point m) on runs =
      let call = call_of code s.machine in
      record {
        rest = call_looks s.deeds.steps call;
        is = then_looks s.deeds call;
        late = All-weaker (λ (l : Sight). l.number ≡ s.deeds.steps) (λ (l : Sight). s.deeds.steps ≤ l.number) (λ l same. omega (arith, same)) (call_looks s.deeds.steps call) (at_steps s.deeds.steps call);
      }
  grow_by k s (Trapped kind) on runs = record { rest = []; is = sym (append-nil s.deeds.looks); late = All-nil (λ (l : Sight). s.deeds.steps ≤ l.number) }
  grow_by k s Stuck on runs = absurd (runs refl)

  grow : (k : ℕ) (s : RunState) → run_code code its s k ≢ NoRun → Grown s.deeds.steps s.deeds.looks (run_looks (run_code code its s k))
  grow zero s runs = record { rest = []; is = sym (append-nil s.deeds.looks); late = All-nil (λ (l : Sight). s.deeds.steps ≤ l.number) }
  grow (suc k) s runs = grow_by k s (next_of code its s.view s.machine) (λ u. grow k u) runs

  -- ---- an instruction that looks doesn't trap

  room_goes : (b : Bool) (m : Machine) (kind : Trap) → (if b then Went m else Stuck) ≡ Trapped kind → ⊥
  room_goes true m kind e = cc
  room_goes false m kind e = cc

  past_goes : (m : Machine) (kind : Trap) (found : Option ℤ) → within its (need found (λ v. push v m)) ≡ Trapped kind → ⊥
  past_goes m kind None e = cc
  past_goes m kind (Some v) e = room_goes (has_room its (record m { place = m.place + 1; operands = v ∷ m.operands })) (record m { place = m.place + 1; operands = v ∷ m.operands }) kind e

  send_none : (steps : ℕ) (operands : List ℤ) (i : Instr) (stream after clock : ℕ) → call_looks steps (call_by (instr.Send stream after clock) operands) ≡ []
  send_none steps [] i stream after clock = refl
  send_none steps (v ∷ below) i stream after clock = refl

  instr_none : (s : RunState) (i : Instr) (kind : Trap) → within its (does code its s.view i s.machine) ≡ Trapped kind → call_looks s.deeds.steps (call_by i s.machine.operands) ≡ []
  instr_none s (instr.Past variable back) kind e = absurd (past_goes s.machine kind (past_of s.view variable back) e)
  instr_none s (instr.Ready stream) kind e = refl
  instr_none s (instr.Take stream) kind e = refl
  instr_none s (instr.Send stream after clock) kind e = send_none s.deeds.steps s.machine.operands (instr.Send stream after clock) stream after clock
  instr_none s i kind e = refl

  found_none : (s : RunState) (found : Option Instr) (kind : Trap) → need found (λ i. within its (does code its s.view i s.machine)) ≡ Trapped kind
      → call_looks s.deeds.steps (found_in found (λ i. call_by i s.machine.operands)) ≡ []
  found_none s None kind e = refl
  found_none s (Some i) kind e = instr_none s i kind e

  -- ---- the first instruction

  -- What a run looks at: what it did before, then the look of its first instruction, then those behind it.
  pub record Split (s : RunState) (all : List Sight) : Type 0 where
    pub rest : List Sight
    pub is : all ≡ s.deeds.looks ++ (call_looks s.deeds.steps (call_of code s.machine) ++ rest)
    pub late : All (λ (l : Sight). s.deeds.steps < l.number) rest

  split_by : (k : ℕ) (s : RunState) (next : Next) → next_of code its s.view s.machine ≡ next → go_on (run_by s (call_of code s.machine) next) (λ u. run_code code its u k) ≢ NoRun
      → Split s (run_looks (go_on (run_by s (call_of code s.machine) next) (λ u. run_code code its u k)))
  split_by k s (Went m) e runs =
      let call = call_of code s.machine in
      let g = grow k (state_then s call m) runs in
      let more = then_steps s.deeds call in
      record {
        rest = g.rest;
        is = g.is ∙ ap (λ ls. ls ++ g.rest) (then_looks s.deeds call) ∙ append_assoc s.deeds.looks (call_looks s.deeds.steps call) g.rest;
        late = All-weaker (λ (l : Sight). (deeds_then s.deeds call).steps ≤ l.number) (λ (l : Sight). s.deeds.steps < l.number) (λ l low. omega (arith, low, more)) g.rest g.late;
      }
  split_by k s (Ended point m) e runs =
      let call = call_of code s.machine in
      record {
        rest = [];
        is = then_looks s.deeds call ∙ ap (λ ls. s.deeds.looks ++ ls) (sym (append-nil (call_looks s.deeds.steps call)));
        late = All-nil (λ (l : Sight). s.deeds.steps < l.number);
      }
  split_by k s (Trapped kind) e runs =
      let none = found_none s (instr_at code s.machine) kind e in
      record {
        rest = [];
        is = sym (append-nil s.deeds.looks) ∙ ap (λ ls. s.deeds.looks ++ (ls ++ [])) (sym none);
        late = All-nil (λ (l : Sight). s.deeds.steps < l.number);
      }
  split_by k s Stuck e runs = absurd (runs refl)

  -- ---- a run in two parts

  parts_by : (n k : ℕ) (run : Run) → ((u : RunState) → run_code code its u (n + k) ≡ go_on (run_code code its u n) (λ t. run_code code its t k))
      → go_on run (λ u. run_code code its u (n + k)) ≡ go_on (go_on run (λ u. run_code code its u n)) (λ t. run_code code its t k)
  parts_by n k (Running u) on = on u
  parts_by n k (RanTo point u) on = refl
  parts_by n k (TrappedBy kind u) on = refl
  parts_by n k NoRun on = refl

  parts : (n k : ℕ) (s : RunState) → run_code code its s (n + k) ≡ go_on (run_code code its s n) (λ t. run_code code its t k)
  parts zero k s = ap (run_code code its s) (let e : zero + k ≡ k = omega arith in e)
  parts (suc n) k s = ap (run_code code its s) (let e : suc n + k ≡ suc (n + k) = omega arith in e) ∙ parts_by n k (run_one code its s) (λ u. parts n k u)

  over_on : (run : Run) (t : RunState) (go : RunState → Run) → IsOver run t → go_on run go ≡ NoRun → ⊥
  over_on (Running u) t go over e = over
  over_on (RanTo point u) t go over e = cc
  over_on (TrappedBy kind u) t go over e = cc
  over_on NoRun t go over e = over

  -- A run that is over isn't stuck later.
  pub over_stays : (n m : ℕ) (s t : RunState) → n ≤ m → IsOver (run_code code its s n) t → run_code code its s m ≢ NoRun
  over_stays n m s t less over e =
      let k : m ≡ n + (m - n) = omega (arith, less) in
      over_on (run_code code its s n) t (λ u. run_code code its u (m - n)) over (sym (ap (run_code code its s) k ∙ parts n (m - n) s) ∙ e)

  -- What a run looks at, split at an instruction that it comes to
  pub split_at : (n m : ℕ) (s t : RunState) → n < m → run_code code its s n ≡ Running t → run_code code its s m ≢ NoRun → Split t (run_looks (run_code code its s m))
  split_at n m s t less running runs =
      let k : m ≡ n + suc (m - n - 1) = omega (arith, less) in
      let whole : run_code code its s m ≡ run_code code its t (suc (m - n - 1)) =
      ap (run_code code its s) k ∙ parts n (suc (m - n - 1)) s ∙ ap (λ run. go_on run (λ u. run_code code its u (suc (m - n - 1)))) running in
      subst (λ run. Split t (run_looks run)) (sym whole) (split_by (m - n - 1) t (next_of code its t.view t.machine) refl (λ e. runs (whole ∙ e)))
