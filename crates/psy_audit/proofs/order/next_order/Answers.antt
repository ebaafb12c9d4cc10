-- What is left of the proof of `order::next_order`.
use Rattle.std.proofs.Common.{◌≤◌, subst, arith}
use Rattle.std.specs.List.{All}
use Rattle.std.proofs.lemmas.List.{take_all}
use Rattle.psy_audit.proofs.Edges.{ComesApart, comes_more, order_steady}
use Rattle.psy_audit.proofs.order.next_order.Goals as goal

pub orders-preserved : goal.orders-preserved
orders-preserved c =
    let next = c.earlier-next.result in
    let near : next ≤ c.orders.next = c.earlier-next.ensures.within in
    record {
      behind = c.earlier-next.ensures.behind;
      within = omega (arith, near, c.orders.invariant.within);
      apart = comes_more c.args.cycle c.orders.next next near c.args.orders.now c.orders.told-index c.told-item.result c.orders-test.true c.told-item.is
          c.orders.invariant.apart c.earlier-next.ensures.passed;
    }

pub returns-clause-same : goal.returns-clause-same
returns-clause-same c = λ declared k low high.
    let orders = c.args.orders.now in
    let all = subst (All (ComesApart c.args.cycle c.orders.next)) (take_all c.orders.told-index orders (omega (arith, c.orders-test.false))) c.orders.invariant.apart in
    order_steady c.args.cycle c.orders.next k low high orders declared all
