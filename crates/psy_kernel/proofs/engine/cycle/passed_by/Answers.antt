-- What is left of the proof of `engine::cycle::passed_by`.
use Rattle.std.proofs.Common.{◌≡◌, ◌<◌, ◌≤◌, ℕ, List, length, refl, ap, ◌∙◌, arith}
use Rattle.std.proofs.lemmas.Option.{get_or_from_slice_get, slice_get_read, slice_get_within}
use Rattle.psy_history.specs.declared.told.Order.{Order}
use Rattle.psy_kernel.proofs.OrdersInForce.{no_more, one_more}
use Rattle.psy_kernel.proofs.engine.cycle.passed_by.Goals.{else-passed-orders-via-then-passed-orders+else-orders-passed, else-passed-orders-via-else-passed-orders}
use Rattle.psy_kernel.proofs.engine.cycle.passed_by.Goals as goal

pub returns-then-orders-passed-clause-in_force : goal.returns-then-orders-passed-clause-in_force
returns-then-orders-passed-clause-in_force c =
    let orders : List Order = c.args.orders.now in
    let o : Order = c.index-orders-passed.result in
    let w = c.requires.in_force in
    one_more orders c.requires.rise c.args.passed w.0 w.2 c.args.next w.1 o
    (slice_get_read orders (length orders) c.args.passed o refl c.if-passed-orders.true c.index-orders-passed.is) (ap (λ (p : Order). p.cycle) c.index-orders-passed.is ∙ c.if-orders-passed.true)

pub returns-clause-in_force : goal.returns-clause-in_force
returns-clause-in_force c =
    let orders : List Order = c.args.orders.now in
    let w = c.requires.in_force in
    no_more orders c.requires.rise c.args.passed w.0 w.2 c.args.next (omega (arith, w.1)) (elim c.else-passed-orders.branch [
      | else-passed-orders-via-then-passed-orders+else-orders-passed w ↦ λ o at. above o.cycle c.args.next (c.requires.ahead o at) (λ e. w.if-orders-passed.false (ap (λ (p : Order). p.cycle) (get_or_from_slice_get orders c.args.passed o w.index-orders-passed.result at) ∙ e))
      | else-passed-orders-via-else-passed-orders w ↦ λ o at. absurd (omega (arith, slice_get_within orders c.args.passed o at, w.if-passed-orders.false))
    ])
  where
    above : (a b : ℕ) → b ≤ a → (a ≡ b → ⊥) → b < a
    above a b less other = grind (arith, less, other)
