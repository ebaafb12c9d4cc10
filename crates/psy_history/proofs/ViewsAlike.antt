-- What acts alike in two states that differ in what variables published alone.
use Rattle.std.proofs.Common.{◌≡◌, ℕ, Bool, true, false, List, [], Option, Some, None, refl}
use Rattle.std.specs.Prelude.{if◌then◌else◌, ℤ, pos}
use Rattle.psy_arith.specs.declared.operators.Trap.{Trap}
use Rattle.psy_code.specs.Views.{Deeds}
use Rattle.psy_history.specs.Executors.{Carried, acted_by}
use Rattle.psy_meaning.specs.States.{Store, State, Final, Ended, Trapped, Got, Value, Stops, Outcome, Falls, Returns, Halts, Eval, Act, Callee, and_then, with_value, then_do, cost_1, or_stop, or_halt}
use Rattle.psy_meaning.specs.Statements.{in_store, back_in}

-- What an action works on, but for what variables published
pub record Held : Type 0 where
  pub store : Store
  pub messages : List (Option (List ℤ))
  pub deeds : Deeds

-- The state that holds this, where variables published these
abbrev pub seeing : List (List ℤ) → Held → State
seeing pasts held = record { store = held.store; view = record { pasts = pasts; messages = held.messages }; deeds = held.deeds }

-- What is held once the state is changed
abbrev pub after : (State → State) → Held → Held
after change held = let s : State = change (seeing [] held) in record { store = s.store; messages = s.view.messages; deeds = s.deeds }

-- Two actions end the same, but for what variables published.
pub data FinalAlike (pasts others : List (List ℤ)) : Final → Final → Type 0 where
  both_end : (point : ℕ) (held : Held) → FinalAlike pasts others (Ended point (seeing pasts held)) (Ended point (seeing others held))
  both_trap : (kind : Trap) (held : Held) → FinalAlike pasts others (Trapped kind (seeing pasts held)) (Trapped kind (seeing others held))

-- The same of two expressions
pub data GotAlike (pasts others : List (List ℤ)) : Got → Got → Type 0 where
  both_give : (value : ℤ) (held : Held) → GotAlike pasts others (Value value (seeing pasts held)) (Value value (seeing others held))
  both_stop : (this that : Final) → FinalAlike pasts others this that → GotAlike pasts others (Stops this) (Stops that)

-- The same of statements
pub data OutAlike (pasts others : List (List ℤ)) : Outcome → Outcome → Type 0 where
  both_fall : (held : Held) → OutAlike pasts others (Falls (seeing pasts held)) (Falls (seeing others held))
  both_return : (value : ℤ) (held : Held) → OutAlike pasts others (Returns value (seeing pasts held)) (Returns value (seeing others held))
  both_halt : (this that : Final) → FinalAlike pasts others this that → OutAlike pasts others (Halts this) (Halts that)

module _ (pasts others : List (List ℤ)) where
  -- An expression gives the same in both states,
  abbrev pub EvalAlike : Eval → Type 0
  EvalAlike e = (held : Held) → GotAlike pasts others (e (seeing pasts held)) (e (seeing others held))

  -- statements do,
  abbrev pub ActAlike : Act → Type 0
  ActAlike a = (held : Held) → OutAlike pasts others (a (seeing pasts held)) (a (seeing others held))

  -- and so do functions.
  abbrev pub CallsAlike : (ℕ → Callee) → Type 0
  CallsAlike callees = (function : ℕ) (arguments : List ℤ) → EvalAlike (callees function arguments)

  -- ---- expressions

  pub got_then : {got other : Got} (go : ℤ → State → Got) → GotAlike pasts others got other → ((v : ℤ) → EvalAlike (go v)) → GotAlike pasts others (and_then got go) (and_then other go)
  got_then go (both_give v held) h = h v held
  got_then go (both_stop this that same) h = both_stop this that same

  pub got_or_stop : {A : Type 0} (kind : Trap) (found : Option A) (held : Held) (go back : A → Got) → ((x : A) → GotAlike pasts others (go x) (back x)) → GotAlike pasts others (or_stop kind found (seeing pasts held) go) (or_stop kind found (seeing others held) back)
  got_or_stop kind None held go back h = both_stop (Trapped kind (cost_1 (seeing pasts held))) (Trapped kind (cost_1 (seeing others held))) (both_trap kind (after cost_1 held))
  got_or_stop kind (Some x) held go back h = h x

  pub got_choice : (b : Bool) {this these that those : Got} → GotAlike pasts others this these → GotAlike pasts others that those → GotAlike pasts others (if b then this else that) (if b then these else those)
  got_choice true h k = h
  got_choice false h k = k

  -- ---- statements

  pub out_value : {got other : Got} (go : ℤ → State → Outcome) → GotAlike pasts others got other → ((v : ℤ) → ActAlike (go v)) → OutAlike pasts others (with_value got go) (with_value other go)
  out_value go (both_give v held) h = h v held
  out_value go (both_stop this that same) h = both_halt this that same

  pub out_then : {this that : Outcome} (go : Act) → OutAlike pasts others this that → ActAlike go → OutAlike pasts others (then_do this go) (then_do that go)
  out_then go (both_fall held) h = h held
  out_then go (both_return v held) h = both_return v held
  out_then go (both_halt this that same) h = both_halt this that same

  pub out_or_halt : {A : Type 0} (kind : Trap) (found : Option A) (held : Held) (go back : A → Outcome) → ((x : A) → OutAlike pasts others (go x) (back x)) → OutAlike pasts others (or_halt kind found (seeing pasts held) go) (or_halt kind found (seeing others held) back)
  out_or_halt kind None held go back h = both_halt (Trapped kind (cost_1 (seeing pasts held))) (Trapped kind (cost_1 (seeing others held))) (both_trap kind (after cost_1 held))
  out_or_halt kind (Some x) held go back h = h x

  pub out_choice : (b : Bool) {this these that those : Outcome} → OutAlike pasts others this these → OutAlike pasts others that those → OutAlike pasts others (if b then this else that) (if b then these else those)
  out_choice true h k = h
  out_choice false h k = k

  -- ---- functions and actions

  -- back in the caller's store
  pub back_alike : (store : Store) {this that : Outcome} → OutAlike pasts others this that → GotAlike pasts others (back_in store this) (back_in store that)
  back_alike store (both_fall held) = both_give (pos 0) (after (λ s. cost_1 (cost_1 (in_store store s))) held)
  back_alike store (both_return v held) = both_give v (after (in_store store) held)
  back_alike store (both_halt this that (both_end point held)) =
      both_stop (Ended point (in_store store (seeing pasts held))) (Ended point (in_store store (seeing others held))) (both_end point (after (in_store store) held))
  back_alike store (both_halt this that (both_trap kind held)) =
      both_stop (Trapped kind (in_store store (seeing pasts held))) (Trapped kind (in_store store (seeing others held))) (both_trap kind (after (in_store store) held))

  -- The same comes of both.
  pub same_acted : (budget : ℕ) (carried : Carried) {this that : Outcome} → OutAlike pasts others this that → acted_by budget carried this ≡ acted_by budget carried that
  same_acted budget carried (both_fall held) = refl
  same_acted budget carried (both_return v held) = refl
  same_acted budget carried (both_halt this that (both_end point held)) = refl
  same_acted budget carried (both_halt this that (both_trap kind held)) = refl
