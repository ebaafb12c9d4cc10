-- What is left of the proof of `engine::open::passed_at`.
use Rattle.std.proofs.Common.{◌≡◌, List, length, Some, refl, sym, ap, ◌∙◌, arith}
use Rattle.std.proofs.lemmas.Option.{slice_get_read, slice_get_within}
use Rattle.psy_history.specs.declared.told.Order.{Order}
use Rattle.psy_kernel.proofs.OrdersInForce.{rest_later}
use Rattle.psy_kernel.proofs.engine.open.passed_at.Goals as goal

pub returns-else-orders-passed : goal.returns-else-orders-passed
returns-else-orders-passed c =
    let orders : List Order = c.args.orders.now in
    let next : Order = c.index-orders-passed.result in
    let here = slice_get_read orders (length orders) c.orders.passed next refl c.orders-test.true c.index-orders-passed.is in
    record {
      within = c.orders.invariant.within;
      come = c.orders.invariant.come;
      ahead = rest_later orders c.requires c.orders.passed c.args.cycle (λ o at. (let both : Some next ≡ Some o = sym here ∙ at in let same : next ≡ o = cc in omega (arith, c.if-orders-passed.false, ap (λ (p : Order). p.cycle) c.index-orders-passed.is, ap (λ (p : Order). p.cycle) same)));
    }

pub returns-after-orders : goal.returns-after-orders
returns-after-orders c =
    let orders : List Order = c.args.orders.now in
    record {
      within = c.orders.invariant.within;
      come = c.orders.invariant.come;
      ahead = λ place o at more. absurd (omega (arith, slice_get_within orders place o at, more, c.orders-test.false));
    }
