-- The first change of a processor behind the cycles that it did, up to a cycle.
use Rattle.std.proofs.Common.{◌≡◌, sym, ap, ◌∙◌, subst, inl, inr, arith}
use Rattle.std.specs.Prelude.{ℕ, ◌*◌, ◌<◌, ◌≤◌, List, Some, slice_get}
use Rattle.std.proofs.lemmas.Bool.{cases_lt}
use Rattle.psy_dates.specs.Standing.{dates_done}
use Rattle.psy_history.specs.declared.told.Order.{Order}
use Rattle.psy_kernel.specs.Engines.{ChangesOn, EngineState, IsOverOn, done_on, next_date}
use Rattle.psy_kernel.specs.Standing.{EngineStands, ServerStands, state_of}
use Rattle.psy_kernel.specs.declared.engine.Engine.TheInside.{Inside}
use Rattle.psy_kernel.specs.declared.engine.Server.{Server}
use Rattle.psy_kernel.proofs.Engines.{cycles_is}
use Rattle.psy_kernel.proofs.OrdersInForce.{all_ahead}

module _ (k : Inside) (is : EngineStands k) (processor : ℕ) (server : Server) (there : slice_get k.servers.items processor ≡ Some server) (e : EngineState) (view : state_of k ≡ e) where
  stands : ServerStands (state_of k) processor server
  stands = is.servers processor server there

  pub done_is : done_on e processor ≡ server.cycles
  done_is = ap (λ (q : EngineState). done_on q processor) (sym view) ∙ cycles_is k.servers.items processor server there

  -- the cycle before which nothing comes from outside: the limit, or the next order's
  module _ (limit : ℕ) (due : done_on e processor < limit) (within : limit ≤ next_date e) (orders : List Order) (orders_are : orders ≡ k.script.orders) (end : ℕ) (no_later : end ≤ limit)
      (ahead : (o : Order) → slice_get orders server.passed ≡ Some o → end ≤ o.cycle) (at : end < limit → (o : Order) × (slice_get orders server.passed ≡ Some o) × (o.cycle ≡ end)) where
    within_in : limit ≤ dates_done k.shared.date * k.plan.unit.quantum
    within_in = subst (λ (q : EngineState). limit ≤ next_date q) (sym view) within

    found : (o : Order) → slice_get orders server.passed ≡ Some o → slice_get k.script.orders server.passed ≡ Some o
    found o here = ap (λ os. slice_get os server.passed) (sym orders_are) ∙ here

    above_in : server.cycles < end
    above_in = elim (cases_lt end limit) [
      | inl less ↦ (let w = at less in omega (arith, stands.orders.ahead server.passed w.0 (found w.0 w.1) (omega arith), w.2))
      | inr whole ↦ omega (arith, due, done_is, whole)
    ]

    ahead_in : (place : ℕ) (o : Order) → slice_get k.script.orders place ≡ Some o → server.cycles < o.cycle → end ≤ o.cycle
    ahead_in place o here later = elim (cases_lt place server.passed) [
      | inl come ↦ absurd (omega (arith, stands.orders.come place o here come, later))
      | inr more ↦ all_ahead k.script.orders is.script.orders_rise server.passed server.cycles stands.orders end (λ o here. ahead o (ap (λ os. slice_get os server.passed) orders_are ∙ here)) place o here more
    ]

    pub end_above : done_on e processor < end
    end_above = omega (arith, above_in, done_is)

    pub end_ahead : (place : ℕ) (o : Order) → slice_get e.script.orders place ≡ Some o → done_on e processor < o.cycle → end ≤ o.cycle
    end_ahead =
        subst (λ (q : EngineState). (place : ℕ) (o : Order) → slice_get q.script.orders place ≡ Some o → done_on q processor < o.cycle → end ≤ o.cycle) view
        (subst (λ c. (place : ℕ) (o : Order) → slice_get k.script.orders place ≡ Some o → c < o.cycle → end ≤ o.cycle) (sym (cycles_is k.servers.items processor server there)) ahead_in)

    pub end_within : end ≤ next_date e
    end_within = omega (arith, within, no_later)

    change_in : (cycles : ℕ) → cycles ≤ end → (cycles < end → IsOverOn (state_of k) processor cycles) → cycles < limit → ChangesOn (state_of k) processor cycles
    change_in cycles high over early = elim (cases_lt cycles end) [
      | inl less ↦ inr (inl (over less))
      | inr whole ↦ (let w = at (omega (arith, whole, high, early)) in inr (inr (server.passed, w.0, found w.0 w.1, omega (arith, w.2, whole, high))))
    ]

    -- so many cycles later, where none of them but the last may end an action, something has changed
    pub change_there : (cycles : ℕ) → cycles ≤ end → (cycles < end → IsOverOn e processor cycles) → cycles < limit → ChangesOn e processor cycles
    change_there = subst (λ (q : EngineState). (cycles : ℕ) → cycles ≤ end → (cycles < end → IsOverOn q processor cycles) → cycles < limit → ChangesOn q processor cycles) view change_in

    first_in : (cycles : ℕ) → cycles ≤ end → ((between : ℕ) → server.cycles < between → between < cycles → IsOverOn (state_of k) processor between → ⊥)
        → (between : ℕ) → server.cycles < between → between < cycles → ChangesOn (state_of k) processor between → ⊥
    first_in cycles high steady between above below changes = elim changes [
      | inl filled_is ↦ (let b = within_in in omega (arith, filled_is, below, high, no_later, b))
      | inr more ↦ elim more [
        | inl over ↦ steady between above below over
        | inr ordered ↦ (let late = ahead_in ordered.0 ordered.1 ordered.2 (omega (arith, ordered.3, above)) in omega (arith, late, ordered.3, below, high))
      ]
    ]

    -- and nothing before.
    pub first_there : (cycles : ℕ) → cycles ≤ end → ((between : ℕ) → done_on e processor < between → between < cycles → IsOverOn e processor between → ⊥)
        → (between : ℕ) → done_on e processor < between → between < cycles → ChangesOn e processor between → ⊥
    first_there =
        subst (λ (q : EngineState). (cycles : ℕ) → cycles ≤ end → ((between : ℕ) → done_on q processor < between → between < cycles → IsOverOn q processor between → ⊥) → (between : ℕ) → done_on q processor < between → between < cycles → ChangesOn q processor between → ⊥) view
        (subst (λ c. (cycles : ℕ) → cycles ≤ end → ((between : ℕ) → c < between → between < cycles → IsOverOn (state_of k) processor between → ⊥) → (between : ℕ) → c < between → between < cycles → ChangesOn (state_of k) processor between → ⊥) (sym (cycles_is k.servers.items processor server there)) first_in)
