-- An action of an agent's code, from its beginning to its end.
use Rattle.std.proofs.Common.{◌≡◌, ◌≢◌, refl, sym, ap, ◌∙◌, subst, arith}
use Rattle.std.proofs.lemmas.Bool.Decides.{nat_tests}
use Rattle.std.proofs.lemmas.List.Elements.{All-head, All-tail}
use Rattle.std.specs.Prelude.{Bool, true, false, if◌then◌else◌, ℕ, zero, suc, ◌+◌, ◌<◌, List, [], ◌∷◌, ◌++◌, map, length, replicate, Option, Some, None, IsSome, ◌==◌, slice_get, ℤ}
use Rattle.std.specs.List.{All, flat_map}
use Rattle.std.proofs.lemmas.List.{length-replicate}
use Rattle.psy_meaning.proofs.lemmas.Running.{same_running}
use Rattle.psy_arith.specs.declared.operators.Trap.{Trap}
use Rattle.psy_code.specs.declared.code.AgentCode.{AgentCode}
use Rattle.psy_code.specs.declared.code.Code.{Code}
use Rattle.psy_code.specs.declared.instr.Instr.{Instr}
use Rattle.psy_code.specs.declared.instr.Instr.TheVariants as instr
use Rattle.psy_code.specs.declared.look.Sent.{Sent}
use Rattle.psy_code.specs.Views.{View, Window, Call, Past, Ready, Take, Send, Deeds, ServesAll, PermitsAll, found_in, nothing_done}
use Rattle.psy_code.specs.Execution.{Machine, Copy, copy_of, RunState, Run, Running, RanTo, TrappedBy, NoRun, Next, Went, Ended, Trapped, Stuck, within, does, instr_at, call_by, call_of, next_of, deeds_then, view_then, state_then, run_by, run_one, run_code, standing, need, with_top, onward, has_room}
use Rattle.psy_code.specs.Lasting.{IsOver, IsFront, GoesOn, Lasted, StandsAt}
use Rattle.psy_tree.specs.declared.unit.Unit.{Unit as Whole}
use Rattle.psy_tree.specs.declared.unit.AgentDecl.{AgentDecl}
use Rattle.psy_tree.specs.declared.unit.VarDecl.{VarDecl}
use Rattle.psy_meaning.specs.Alike.{ActsAlike, AgentAlike, EndsAs, IsStoreOf, IsViewOf, SameAs, begun, started, first_copies, first_store, home_holding, owned_from, owned_copy}
use Rattle.psy_meaning.specs.Kept.{IsKept, IsSentOf}
use Rattle.psy_meaning.specs.Rest.{rest}
use Rattle.psy_meaning.specs.Sound.{IsSoundUnit}
use Rattle.psy_meaning.specs.Statements.{act}
use Rattle.psy_meaning.specs.States.{Store, State, Outcome, Final, Halts}
use Rattle.psy_meaning.specs.States as by
use Rattle.psy_machine.specs.declared.machine.Step.{Step}
use Rattle.psy_machine.specs.declared.machine.Step.TheVariants as step
use Rattle.psy_machine.specs.Stepping.{AgentMachine, IsNew, Answers, machine_after, next_for, stepped, window_after}
use Rattle.psy_trials.specs.Actions.{StandsIn, Rests, HasCopies, IsAction, IsUnderWay, IsBehind, Owns, RestsAfter}

-- ---- runs

-- ---- sends

in_front : {A : Type 0} (P : A → Type 0) → (before after : List A) (x : A) → All P ((before ++ x ∷ []) ++ after) → P x
in_front P [] after x h = All-head P x after h
in_front P (y ∷ before) after x h = in_front P before after x (All-tail P y _ h)

-- What goes on where there is room, and can't be stuck
room_went : (b : Bool) (m : Machine) → (if b then Went m else Stuck) ≢ Stuck → (n : Machine) × ((if b then Went m else Stuck) ≡ Went n)
room_went true m h = (m, refl)
room_went false m h = absurd (h refl)

send_went : (agent : AgentCode) (m : Machine) (operands : List ℤ) → within agent (with_top operands (λ v below. onward below m)) ≢ Stuck → (n : Machine) × (within agent (with_top operands (λ v below. onward below m)) ≡ Went n)
send_went agent m [] h = absurd (h refl)
send_went agent m (v ∷ below) h = room_went (has_room agent (record m { place = m.place + 1; operands = below })) (record m { place = m.place + 1; operands = below }) h

-- An instruction that sends goes on
sends_went : (code : Code) (agent : AgentCode) (view : View) (m : Machine) (i : Instr) (sent : Sent) → call_by i m.operands ≡ Some (Send sent) → within agent (does code agent view i m) ≢ Stuck → (n : Machine) × (within agent (does code agent view i m) ≡ Went n)
sends_went code agent view m (instr.Send stream after clock) sent e h = send_went agent m m.operands h
sends_went code agent view m (instr.Past variable back) sent e h = cc
sends_went code agent view m (instr.Ready stream) sent e h = cc
sends_went code agent view m (instr.Take stream) sent e h = cc
sends_went code agent view m i sent e h = cc

went_by : (code : Code) (agent : AgentCode) (view : View) (m : Machine) (sent : Sent) (found : Option Instr) → need found (λ i. within agent (does code agent view i m)) ≢ Stuck → found_in found (λ i. call_by i m.operands) ≡ Some (Send sent) → (n : Machine) × (need found (λ i. within agent (does code agent view i m)) ≡ Went n)
went_by code agent view m sent None h e = cc
went_by code agent view m sent (Some i) h e = sends_went code agent view m i sent e h

-- ---- an instruction of an action

-- What serves a call shows the view after it
pub view_served : (window : Window) (call : Option Call) → (window_after window call).view ≡ view_then window.view call
view_served window None = refl
view_served window (Some (Past variable back)) = refl
view_served window (Some (Ready stream)) = refl
view_served window (Some (Take stream)) = refl
view_served window (Some (Send sent)) = refl

not_last : (a b : ℕ) → a < b → (suc a ≡ b → ⊥) → suc a < b
not_last a b h other = grind (arith, nat_tests)

last_one : (a b : ℕ) → a < b → (suc a < b → ⊥) → suc a ≡ b
last_one a b h other = grind (arith, nat_tests)

module _ (unit : Whole) (code : Code) (number : ℕ) (m : Machine) (view : View) (w : IsUnderWay unit code number m view) where
  abbrev here : RunState
  here = record { machine = m; view = view; deeds = w.deeds }

  abbrev asks : Option Call
  asks = call_of code m

  going : GoesOn code w.its w.start w.executed w.last.deeds
  going = w.lasted.on_the_way w.executed w.early

  same : going.state ≡ here
  same = same_running going.state here (sym going.running ∙ w.running)

  pub able : next_of code w.its view m ≢ Stuck
  able = subst (λ (s : RunState). next_of code w.its s.view s.machine ≢ Stuck) same going.able

  served : ServesAll view asks
  served = subst (λ (s : RunState). ServesAll s.view (call_of code s.machine)) same going.served

  behind : (n : Machine) → next_of code w.its view m ≡ Went n → IsFront (deeds_then w.deeds asks) w.last.deeds
  behind = subst (λ (s : RunState). (n : Machine) → next_of code w.its s.view s.machine ≡ Went n → IsFront (deeds_then s.deeds (call_of code s.machine)) w.last.deeds) same going.behind

  next_run : run_code code w.its w.start (suc w.executed) ≡ run_one code w.its here
  next_run = going.next ∙ ap (run_one code w.its) same

  sent_of : (sent : Sent) → asks ≡ Some (Send sent) → IsSentOf unit sent
  sent_of sent e =
      let went = went_by code w.its view m sent (instr_at code m) able e in
      let front : IsFront (deeds_then w.deeds (Some (Send sent))) w.last.deeds = subst (λ call. IsFront (deeds_then w.deeds call) w.last.deeds) e (behind went.0 went.1) in
      in_front (IsSentOf unit) w.deeds.sends front.sends.0 sent (subst (All (IsSentOf unit)) front.sends.1 w.action.sends)

  pub permitted : (window : Window) → window.view ≡ view → window.streams ≡ length unit.streams → window.clocks ≡ length unit.clocks → length window.sends < window.room → PermitsAll window asks
  permitted window seen streams clocks room = from asks refl (subst (λ v. ServesAll v asks) (sym seen) served)
    where
      from : (call : Option Call) → asks ≡ call → ServesAll window.view call → PermitsAll window call
      from None e h = tt {0}
      from (Some (Past variable back)) e h = (h, tt {0})
      from (Some (Ready stream)) e h = (h, tt {0})
      from (Some (Take stream)) e h = (h, tt {0})
      from (Some (Send sent)) e h =
          let known = sent_of sent e in
          (h, (subst (λ n. sent.stream < n) (sym streams) known.stream, subst (λ n. sent.clock < n) (sym clocks) known.clock, room))

  -- the run after the instruction, and in the end
  abbrev after : Run → Type 0
  after run = run_code code w.its w.start (suc w.executed) ≡ run

  after_one : (next : Next) → next_of code w.its view m ≡ next → after (run_by here asks next)
  after_one next e = next_run ∙ ap (run_by here asks) e

  at_end : (run : Run) → after run → ((s : RunState) → run ≡ Running s → ⊥) → run_code code w.its w.start w.count ≡ run
  at_end run e halts =
      let last = last_one w.executed w.lasted.steps w.early (λ h. halts _ (sym e ∙ (w.lasted.on_the_way (suc w.executed) h).running)) in
      sym w.lasted.over ∙ sym (ap (run_code code w.its w.start) last) ∙ e

  goes_early : (s : RunState) → after (Running s) → suc w.executed < w.lasted.steps
  goes_early s e = not_last w.executed w.lasted.steps w.early (λ last. subst (λ run. IsOver run w.last) (sym w.lasted.over ∙ sym (ap (run_code code w.its w.start) last) ∙ e) w.action.over)

  under_way : (n : Machine) → next_of code w.its view m ≡ Went n → IsUnderWay unit code number n (view_then view asks)
  under_way n e =
      let run = after_one (Went n) e in
      record {
        its = w.its;
        start = w.start;
        last = w.last;
        count = w.count;
        action = w.action;
        lasted = w.lasted;
        executed = suc w.executed;
        early = goes_early _ run;
        deeds = deeds_then w.deeds asks;
        running = run;
      }

  ended : (point : ℕ) (n : Machine) → next_of code w.its view m ≡ Ended point n → HasCopies unit number n × Rests unit code number n
  ended point n e =
      let run = at_end _ (after_one (Ended point n) e) (λ s r. cc) in
      let last : w.last ≡ state_then here asks n = subst (λ run. IsOver run w.last) run w.action.over in
      let machine : w.last.machine ≡ n = ap (λ (s : RunState). s.machine) last in
      let stands = w.action.ends point (run ∙ ap (RanTo point) (sym last)) in
      (subst (HasCopies unit number) machine w.action.copies, (w.its, w.action.of_code, point, subst (StandsIn unit number w.its point) machine stands))

  trapped : (kind : Trap) → next_of code w.its view m ≡ Trapped kind → HasCopies unit number m
  trapped kind e =
      let run = at_end _ (after_one (Trapped kind) e) (λ s r. cc) in
      let last = subst (λ run. IsOver run w.last) run w.action.over in
      subst (HasCopies unit number) (ap (λ (s : RunState). s.machine) last) w.action.copies

  behind_by : (next : Next) (answer : Step) → next_of code w.its view m ≡ next → Answers next answer → IsBehind unit code number answer (machine_after next m) (view_then view asks)
  behind_by (Went n) answer e h = rw h (under_way n e)
  behind_by (Ended point n) answer e h = rw h (ended point n e)
  behind_by (Trapped kind) answer e h = rw h (trapped kind e)
  behind_by Stuck answer e h = absurd h

  pub behind_step : (answer : Step) → Answers (next_of code w.its view m) answer → IsBehind unit code number answer (machine_after (next_of code w.its view m) m) (view_then view asks)
  behind_step answer h = behind_by (next_of code w.its view m) answer refl h

-- The same of a machine that made a step
pub behind_stepped : (unit : Whole) (code : Code) (m n : AgentMachine) (before after : Window) (answer : Step) → after ≡ window_after before (call_of code m.machine) → n ≡ stepped code before.view m → Answers (next_for code before.view m) answer → IsUnderWay unit code m.agent m.machine before.view → IsBehind unit code m.agent answer n.machine after.view
behind_stepped unit code m n before after answer window machine answers w =
    let next : next_for code before.view m ≡ next_of code w.its before.view m.machine = rw w.action.of_code refl in
    let step = behind_step unit code m.agent m.machine before.view w answer (subst (λ x. Answers x answer) next answers) in
    let same : n.machine ≡ machine_after (next_of code w.its before.view m.machine) m.machine = ap (λ (x : AgentMachine). x.machine) machine ∙ ap (λ x. machine_after x m.machine) next in
    let seen : after.view ≡ view_then before.view (call_of code m.machine) = ap (λ (x : Window). x.view) window ∙ view_served before (call_of code m.machine) in
    subst (λ v. IsBehind unit code m.agent answer n.machine v) (sym seen) (subst (λ x. IsBehind unit code m.agent answer x (view_then before.view (call_of code m.machine))) (sym same) step)

-- ---- where actions begin

module _ (unit : Whole) (code : Code) (number : ℕ) (agent : AgentDecl) (its : AgentCode) (view : View) where
  abbrev pub Keeping : Type 0
  Keeping = (point : ℕ) (store : Store) → point < length agent.points → IsStoreOf unit number agent store → (final : Final) × (act unit.functions (rest agent.stmts point) (begun store view) ≡ Halts final) × IsKept unit number agent final

  abbrev pub Ending : Type 0
  Ending = (s t : RunState) (n point : ℕ) → run_code code its s n ≡ RanTo point t → StandsAt its point s.machine t.machine

  abbrev pub Lasting : Type 0
  Lasting = (s t : RunState) (n : ℕ) → IsOver (run_code code its s n) t → Lasted code its s n t

  -- an action that ends as the statements do
  action_by : (m : Machine) → length m.home.counters ≡ its.counters → slice_get unit.agents number ≡ Some agent → slice_get code.agents number ≡ Some its → Ending → (final : Final) → IsKept unit number agent final → EndsAs (Halts final) (run_code code its (started m view))
      → (last : RunState) × (count : ℕ) × IsAction unit code number its (started m view) last count
  action_by m counted of_unit of_code ending (by.Ended point s) kept ends =
      let t = ends.0 in
      let ran = ends.1 in
      let same = ends.2 in
      let copies : map (λ c. c.variable) t.machine.copies ≡ map (λ c. c.variable) (first_copies unit number) = ap (map (λ c. c.variable)) same.copies ∙ kept.1.variables in (
        t,
        s.deeds.steps,
        record {
          of_code = of_code;
          over = rw ran refl;
          sends = subst (λ (d : Deeds). All (IsSentOf unit) d.sends) (sym same.deeds) kept.2.sends;
          copies = copies;
          ends = λ other e.
              let point_is : point ≡ other = ended_at point other t (sym ran ∙ e) in
              let at = ending (started m view) t s.deeds.steps point ran in
              subst (λ p. StandsIn unit number its p t.machine) point_is (record {
                agent = agent;
                store = s.store;
                counters = replicate (length m.home.counters) 0;
                of_unit = of_unit;
                known = kept.0.1;
                holds = kept.1;
                counted = length-replicate (length m.home.counters) 0 ∙ counted;
                stands = at.machine ∙ rw (same.cells, same.copies) refl;
              });
        },
      )
    where
      ended_at : (p q : ℕ) (u : RunState) → RanTo p u ≡ RanTo q u → p ≡ q
      ended_at p q u e = cc
  action_by m counted of_unit of_code ending (by.Trapped kind s) kept ends =
      let t = ends.0 in
      let ran = ends.1 in
      let same = ends.2 in (
        t,
        s.deeds.steps,
        record {
          of_code = of_code;
          over = rw ran refl;
          sends = subst (λ (d : Deeds). All (IsSentOf unit) d.sends) (sym same.deeds) kept.1.sends;
          copies = ap (map (λ c. c.variable)) same.copies ∙ kept.0.variables;
          ends = λ other e. absurd (trapped_not kind other t (sym ran ∙ e));
        },
      )
    where
      trapped_not : (k : Trap) (q : ℕ) (u : RunState) → TrappedBy k u ≡ RanTo q u → ⊥
      trapped_not k q u e = cc

  first_early : (m : Machine) (last : RunState) (count : ℕ) → IsAction unit code number its (started m view) last count → (lasted : Lasted code its (started m view) count last) → 0 < lasted.steps
  first_early m last count action lasted = from lasted.steps refl
    where
      from : (n : ℕ) → lasted.steps ≡ n → 0 < n
      from zero e = absurd (subst (λ run. IsOver run last) (sym lasted.over ∙ ap (run_code code its (started m view)) e) action.over)
      from (suc n) e = omega arith

  begins : (m : Machine) (last : RunState) (count : ℕ) → IsAction unit code number its (started m view) last count → Lasting → IsUnderWay unit code number m view
  begins m last count action lasting =
      let lasted = lasting (started m view) last count action.over in
      record {
        its = its;
        start = started m view;
        last = last;
        count = count;
        action = action;
        lasted = lasted;
        executed = 0;
        early = first_early m last count action lasted;
        deeds = nothing_done;
        running = refl;
      }

  pub begins_at : (m : Machine) (point : ℕ) (store : Store) (counters : List ℕ) → ActsAlike unit code → slice_get unit.agents number ≡ Some agent → slice_get code.agents number ≡ Some its → point < length agent.points → IsStoreOf unit number agent store → length counters ≡ its.counters → m ≡ standing its point (home_holding store counters) store.copies → IsViewOf unit number view → Keeping → Ending → Lasting → IsUnderWay unit code number m view
  begins_at m point store counters alike of_unit of_code known holds counted stands sees keeping ending lasting =
      let at = standing its point (home_holding store counters) store.copies in
      let kept = keeping point store known holds in
      let acts = (alike.each number agent its of_unit of_code).acts point store view counters known holds sees counted in
      let ends = subst (λ o. EndsAs o (run_code code its (started at view))) kept.1 acts in
      let action = action_by at counted of_unit of_code ending kept.0 kept.2 ends in
      subst (λ n. IsUnderWay unit code number n view) (sym stands) (begins at action.0 action.1 action.2 lasting)

-- ---- the copies of an agent

either_found : (b : Bool) (x : ℤ) (o : Option ℤ) → IsSome o → IsSome (if b then Some x else o)
either_found true x o h = refl
either_found false x o h = h

found_behind : (variable : ℕ) (xs ys : List Copy) → IsSome (copy_of variable ys) → IsSome (copy_of variable (xs ++ ys))
found_behind variable [] ys h = h
found_behind variable (c ∷ xs) ys h = either_found (c.variable == variable) c.value _ (found_behind variable xs ys h)

first_found : (variable : ℕ) (c d : Copy) (found : Option ℤ) (b : Bool) → (d.variable == variable) ≡ b → c.variable ≡ d.variable → (b ≡ false → IsSome found) → IsSome (if c.variable == variable then Some c.value else found)
first_found variable c d found true e heads h = rw (heads, e) refl
first_found variable c d found false e heads h = rw (heads, e) (h refl)

left_found : (b : Bool) (x : ℤ) (o : Option ℤ) → b ≡ false → IsSome (if b then Some x else o) → IsSome o
left_found true x o e h = cc
left_found false x o e h = h

same_found : (variable : ℕ) (cs ds : List Copy) → map (λ c. c.variable) cs ≡ map (λ c. c.variable) ds → IsSome (copy_of variable ds) → IsSome (copy_of variable cs)
same_found variable [] [] e h = h
same_found variable [] (d ∷ ds) e h = cc
same_found variable (c ∷ cs) [] e h = cc
same_found variable (c ∷ cs) (d ∷ ds) e h =
    first_found variable c d (copy_of variable cs) (d.variable == variable) refl (cc) (λ other. same_found variable cs ds (cc) (left_found (d.variable == variable) d.value (copy_of variable ds) other h))

itself : (n : ℕ) → (n == n) ≡ true
itself n = grind (arith, nat_tests)

owned_first : (number k : ℕ) (v : VarDecl) (rest : List VarDecl) → v.owner ≡ Some number → IsSome (copy_of k (owned_from number k (v ∷ rest)))
owned_first number k v rest e = rw (e, itself number, itself k) refl

owned_found : (number k i : ℕ) (vs : List VarDecl) (v : VarDecl) → slice_get vs i ≡ Some v → v.owner ≡ Some number → IsSome (copy_of (k + i) (owned_from number k vs))
owned_found number k i [] v at e = absurd (cc)
owned_found number k zero (w ∷ vs) v at e =
    let here : w ≡ v = cc in
    subst (λ n. IsSome (copy_of n (owned_from number k (w ∷ vs)))) (omega arith) (owned_first number k w vs (ap (λ (x : VarDecl). x.owner) here ∙ e))
owned_found number k (suc i) (w ∷ vs) v at e =
    subst (λ n. IsSome (copy_of n (owned_from number k (w ∷ vs)))) (omega arith) (found_behind (k + 1 + i) (owned_copy number k w w.owner) (owned_from number (k + 1) vs) (owned_found number (k + 1) i vs v at e))

-- A machine has a copy of each variable that its agent owns
pub has_copy : (unit : Whole) (number variable : ℕ) (m : Machine) → Owns unit number variable → HasCopies unit number m → IsSome (copy_of variable m.copies)
has_copy unit number variable m owns has =
    let found = subst (λ n. IsSome (copy_of n (first_copies unit number))) (omega arith) (owned_found number 0 variable unit.variables owns.0 owns.1 owns.2) in
    same_found variable m.copies (first_copies unit number) has found

-- ---- between actions

-- After an action that ended or trapped
pub after_end : (unit : Whole) (code : Code) (number : ℕ) (answer : Step) (m : Machine) (view : View) → (answer ≡ step.Went → ⊥) → IsBehind unit code number answer m view → HasCopies unit number m × RestsAfter unit code number answer m
after_end unit code number step.Went m view other h = absurd (other refl)
after_end unit code number (step.Ended point) m view other h = h
after_end unit code number (step.Trapped kind) m view other h = (h, tt {0})

-- The machine of an agent that hasn't started
pub rests_first : (unit : Whole) (code : Code) (number : ℕ) (agent : AgentDecl) (m : AgentMachine) → IsSoundUnit unit → ActsAlike unit code → slice_get unit.agents number ≡ Some agent → IsNew code number m → IsStoreOf unit number agent (first_store unit number agent) → Rests unit code number m.machine
rests_first unit code number agent m sound alike of_unit new holds =
    let its = new.0 in
    let same = alike.each number agent its of_unit new.1 in (
      its,
      new.1,
      0,
      record {
        agent = agent;
        store = first_store unit number agent;
        counters = replicate its.counters 0;
        of_unit = of_unit;
        known = omega (arith, (sound.agents number agent of_unit).points);
        holds = holds;
        counted = length-replicate its.counters 0;
        stands = new.3 ∙ rw (same.cells, same.copies) refl;
      },
    )
