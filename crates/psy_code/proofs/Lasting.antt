-- How long a run lasts, and what it did on the way to its end.
use Rattle.std.proofs.Common.{◌≡◌, ◌≢◌, refl, sym, ap, ◌∙◌, arith, append_assoc}
use Rattle.std.specs.Prelude.{ℕ, zero, suc, ◌+◌, ◌<◌, List, [], ◌∷◌, ◌++◌, Option, Some, None, IsSome, ℤ}
use Rattle.psy_code.specs.declared.code.AgentCode.{AgentCode}
use Rattle.psy_code.specs.declared.code.Code.{Code}
use Rattle.psy_code.specs.declared.instr.Instr.{Instr}
use Rattle.psy_code.specs.declared.instr.Instr.TheVariants as instr
use Rattle.psy_code.specs.Views.{View, Call, Past, Ready, Take, Send, Deeds, ServesAll, past_of, messages_of}
use Rattle.psy_code.specs.Execution.{Machine, RunState, Run, Running, RanTo, TrappedBy, NoRun, Next, Went, Ended, Trapped, Stuck, need, within, does, instr_at, call_by, call_of, next_of, deeds_then, state_then, run_by, run_one, run_code, go_on}
use Rattle.psy_code.specs.Lasting.{IsOver, IsFront, GoesOn, Lasted}

-- ---- fronts

all_of : {A : Type 0} → (xs : List A) → xs ≡ xs ++ []
all_of [] = refl
all_of (x ∷ xs) = ap (λ rest. x ∷ rest) (all_of xs)

front_same : (d : Deeds) → IsFront d d
front_same d = record { steps = omega arith; looks = ([], all_of d.looks); sends = ([], all_of d.sends); takes = ([], all_of d.takes) }

list_front : {A : Type 0} → (a b c : List A) → (more : List A) × (b ≡ a ++ more) → (more : List A) × (c ≡ b ++ more) → (more : List A) × (c ≡ a ++ more)
list_front a b c f g = (f.0 ++ g.0, g.1 ∙ ap (λ xs. xs ++ g.0) f.1 ∙ append_assoc a f.0 g.0)

front_front : (a b c : Deeds) → IsFront a b → IsFront b c → IsFront a c
front_front a b c f g = record {
  steps = omega (arith, f.steps, g.steps);
  looks = list_front a.looks b.looks c.looks f.looks g.looks;
  sends = list_front a.sends b.sends c.sends f.sends g.sends;
  takes = list_front a.takes b.takes c.takes f.takes g.takes;
}

steps_then : (d : Deeds) (call : Option Call) → (deeds_then d call).steps ≡ d.steps + 1
steps_then d None = refl
steps_then d (Some (Past variable back)) = refl
steps_then d (Some (Ready stream)) = refl
steps_then d (Some (Take stream)) = refl
steps_then d (Some (Send sent)) = refl

front_then : (d : Deeds) (call : Option Call) → IsFront d (deeds_then d call)
front_then d None = record { steps = omega arith; looks = ([], all_of d.looks); sends = ([], all_of d.sends); takes = ([], all_of d.takes) }
front_then d (Some (Past variable back)) = record { steps = omega arith; looks = (_, refl); sends = ([], all_of d.sends); takes = ([], all_of d.takes) }
front_then d (Some (Ready stream)) = record { steps = omega arith; looks = ([], all_of d.looks); sends = ([], all_of d.sends); takes = ([], all_of d.takes) }
front_then d (Some (Take stream)) = record { steps = omega arith; looks = ([], all_of d.looks); sends = ([], all_of d.sends); takes = (_, refl) }
front_then d (Some (Send sent)) = record { steps = omega arith; looks = ([], all_of d.looks); sends = (_, refl); takes = ([], all_of d.takes) }

-- ---- what is asked of the view

there : {A : Type 0} → (agent : AgentCode) (found : Option A) (go : A → Next) → within agent (need found go) ≢ Stuck → IsSome found
there agent None go h = absurd (h refl)
there agent (Some x) go h = refl

module _ (code : Code) (agent : AgentCode) where
  asked_by : (view : View) (m : Machine) (i : Instr) (operands : List ℤ) → within agent (does code agent view i m) ≢ Stuck → ServesAll view (call_by i operands)
  asked_by view m (instr.Past variable back) operands h = there agent (past_of view variable back) _ h
  asked_by view m (instr.Ready stream) operands h = there agent (messages_of view stream) _ h
  asked_by view m (instr.Take stream) operands h = there agent (messages_of view stream) _ h
  asked_by view m (instr.Send stream after clock) [] h = tt {0}
  asked_by view m (instr.Send stream after clock) (v ∷ below) h = tt {0}
  asked_by view m i operands h = tt {0}

  asked : (view : View) (m : Machine) → next_of code agent view m ≢ Stuck → ServesAll view (call_of code m)
  asked view m h = from (instr_at code m) refl
    where
      from : (found : Option Instr) → instr_at code m ≡ found → ServesAll view (call_of code m)
      from None e = rw e (tt {0})
      from (Some i) e = rw e (asked_by view m i m.operands (rw e at h))

  -- ---- the run

  abbrev next_at : RunState → Next
  next_at s = next_of code agent s.view s.machine

  abbrev further : ℕ → Run → Run
  further n run = go_on run (λ t. run_code code agent t n)

  no_further : (run : Run) → go_on run Running ≡ run
  no_further (Running t) = refl
  no_further (RanTo point t) = refl
  no_further (TrappedBy kind t) = refl
  no_further NoRun = refl

  -- what comes of one instruction
  one : (s : RunState) (next : Next) → next_at s ≡ next → run_one code agent s ≡ run_by s (call_of code s.machine) next
  one s next e = ap (run_by s (call_of code s.machine)) e

  front_by : (n : ℕ) (s t : RunState) (next : Next) → ((u : RunState) → IsOver (run_code code agent u n) t → IsFront u.deeds t.deeds) → IsOver (further n (run_by s (call_of code s.machine) next)) t → IsFront s.deeds t.deeds
  front_by n s t (Went m) on h = front_front s.deeds (deeds_then s.deeds (call_of code s.machine)) t.deeds (front_then s.deeds (call_of code s.machine)) (on (state_then s (call_of code s.machine) m) h)
  front_by n s t (Ended point m) on h = rw h (front_then s.deeds (call_of code s.machine))
  front_by n s t (Trapped kind) on h = rw h (front_then s.deeds None)
  front_by n s t Stuck on h = absurd h

  front : (n : ℕ) (s t : RunState) → IsOver (run_code code agent s n) t → IsFront s.deeds t.deeds
  front zero s t h = absurd h
  front (suc n) s t h = front_by n s t (next_at s) (λ u. front n u t) h

  -- A run goes on at its start, and then as the run behind its first instruction.
  at_start : (s : RunState) (all : Deeds) → next_at s ≢ Stuck → IsFront s.deeds all → ((m : Machine) → next_at s ≡ Went m → IsFront (deeds_then s.deeds (call_of code s.machine)) all) → GoesOn code agent s 0 all
  at_start s all able before behind = record {
    state = s;
    running = refl;
    next = no_further (run_one code agent s);
    counted = omega arith;
    able = able;
    served = asked s.view s.machine able;
    front = before;
    behind = behind;
  }

  later : (s u : RunState) (n : ℕ) (all : Deeds) → run_one code agent s ≡ Running u → u.deeds.steps ≡ s.deeds.steps + 1 → GoesOn code agent u n all → GoesOn code agent s (suc n) all
  later s u n all e steps on = record {
    state = on.state;
    running = ap (further n) e ∙ on.running;
    next = ap (further (suc n)) e ∙ on.next;
    counted = omega (arith, on.counted, steps);
    able = on.able;
    served = on.served;
    front = on.front;
    behind = on.behind;
  }

  on_all : (s u : RunState) (steps : ℕ) (all : Deeds) → run_one code agent s ≡ Running u → u.deeds.steps ≡ s.deeds.steps + 1 → GoesOn code agent s 0 all → ((m : ℕ) → m < steps → GoesOn code agent u m all) → (m : ℕ) → m < suc steps → GoesOn code agent s m all
  on_all s u steps all e counts first rest zero h = first
  on_all s u steps all e counts first rest (suc m) h = later s u m all e counts (rest m (omega arith))

  -- A run that is over with its next instruction
  at_once : (s t : RunState) (n : ℕ) (run : Run) → run_one code agent s ≡ run → further 0 run ≡ further n run → t.deeds.steps ≡ s.deeds.steps + 1 → GoesOn code agent s 0 t.deeds → Lasted code agent s (suc n) t
  at_once s t n run e stays counts first = record {
    steps = 1;
    counted = counts;
    within = omega arith;
    over = ap (further 0) e ∙ stays ∙ sym (ap (further n) e);
    on_the_way = only;
  }
    where
      only : (m : ℕ) → m < 1 → GoesOn code agent s m t.deeds
      only zero h = first
      only (suc m) h = absurd (omega arith)

  lasted_by : (n : ℕ) (s t : RunState) (next : Next) → next_at s ≡ next → ((u : RunState) → IsOver (run_code code agent u n) t → Lasted code agent u n t) → IsOver (further n (run_by s (call_of code s.machine) next)) t → Lasted code agent s (suc n) t
  lasted_by n s t (Went m) e on h =
      let u = state_then s (call_of code s.machine) m in
      let l = on u h in
      let first = one s (Went m) e in
      let counts = steps_then s.deeds (call_of code s.machine) in
      let behind = front n u t h in
      let start = at_start s t.deeds (λ stuck. cc) (front_front s.deeds u.deeds t.deeds (front_then s.deeds (call_of code s.machine)) behind) (λ k went. behind) in
      record {
        steps = suc l.steps;
        counted = omega (arith, l.counted, counts);
        within = omega (arith, l.within);
        over = ap (further l.steps) first ∙ l.over ∙ sym (ap (further n) first);
        on_the_way = on_all s u l.steps t.deeds first counts start l.on_the_way;
      }
  lasted_by n s t (Ended point m) e on h =
      let call = call_of code s.machine in
      let start = at_start s t.deeds (λ stuck. cc) (rw h (front_then s.deeds call)) (λ k went. cc) in
      at_once s t n (RanTo point (state_then s call m)) (one s (Ended point m) e) refl (ap (λ (x : RunState). x.deeds.steps) h ∙ steps_then s.deeds call) start
  lasted_by n s t (Trapped kind) e on h =
      let start = at_start s t.deeds (λ stuck. cc) (rw h (front_then s.deeds None)) (λ k went. cc) in
      at_once s t n (TrappedBy kind (record s { deeds = deeds_then s.deeds None })) (one s (Trapped kind) e) refl (ap (λ (x : RunState). x.deeds.steps) h) start
  lasted_by n s t Stuck e on h = absurd h

  pub lasted : (n : ℕ) (s t : RunState) → IsOver (run_code code agent s n) t → Lasted code agent s n t
  lasted zero s t h = absurd h
  lasted (suc n) s t h = lasted_by n s t (next_at s) refl (λ u. lasted n u t) h
