-- What is left of the proof of `placed::sorted_orders`.
use Rattle.std.proofs.Common.{◌≡◌, ◌<◌, subst, map, rules}
use Rattle.std.specs.List.{AllPairs}
use Rattle.psy_history.specs.declared.told.Order.{Order}
use Rattle.psy_script.specs.Entries.{order_from}
use Rattle.psy_script.proofs.PutEntries.{orders_rise}
use Rattle.psy_script.proofs.placed.sorted_orders.Goals as goal

pub returns-clause-rise : goal.returns-clause-rise
returns-clause-rise c =
    let all : map order_from c.args.orders.entries ≡ c.loop-cycle.sorted = search (rules) in
    subst (AllPairs (λ (o p : Order). o.cycle < p.cycle)) all (orders_rise c.args.orders.entries (c.into_iter-cycle-iterator.ensures.into_iter_gives).5)
