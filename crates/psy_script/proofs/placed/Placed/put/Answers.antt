-- What is left of the proof of `placed::Placed::put`.
use Rattle.std.proofs.Common.{◌≡◌, ◌∙◌, sym, ap, false, nat_cmp, rules}
use Rattle.std.specs.BTreeMap.{insert_entry}
use Rattle.psy_script.specs.Entries.{clashes, with_entry}
use Rattle.psy_script.specs.declared.entry.Entry.TheVariants as entry
use Rattle.psy_script.proofs.PutEntries.{with_stall, with_order, with_round}
use Rattle.psy_script.proofs.placed.Placed.put.Goals as goal

pub returns-in_ok-insert-in-Stall : goal.returns-in_ok-insert-in-Stall
returns-in_ok-insert-in-Stall c =
    let same = c.in-Stall.is ∙ ap entry.Stall (sym c.place_of.ensures) in
    let added = with_stall c.args.self.now c.place_of.result c.in-Stall.stall.cycles c.self.inside.stalls.entries c.insert.new.self.entries _ _ c.self.view_is (sym (ap (clashes c.args.self.now) same) ∙ c.requires.apart) c.in_ok-insert-in-Stall.ensures.entries in
    added ∙ sym (ap (with_entry c.args.self.now) same)

pub returns-in_ok-insert-in-Order : goal.returns-in_ok-insert-in-Order
returns-in_ok-insert-in-Order c =
    let none : clashes c.args.self.now (entry.Order c.in-Order.field-0) ≡ false = sym (ap (clashes c.args.self.now) c.in-Order.is) ∙ c.requires.apart in
    let added = with_order c.args.self.now c.in-Order.field-0.cycle c.in-Order.field-0.agents c.self.inside.orders.entries c.insert-in-Order.new.self.entries _ _ c.self.view_is none c.in_ok-insert-in-Order.ensures.entries ∙ sym (ap (with_entry c.args.self.now) c.in-Order.is) in
    search (rules, added)

pub returns-in_ok-insert-in-Round : goal.returns-in_ok-insert-in-Round
returns-in_ok-insert-in-Round c =
    let cycle = c.in-Round.cycle in
    let numbers = c.in-Round.numbers in
    let entries = c.self.inside.rounds.entries in
    let none : clashes c.args.self.now (entry.Round cycle numbers) ≡ false = sym (ap (clashes c.args.self.now) c.in-Round.is) ∙ c.requires.apart in
    let same : c.in_ok-processors-in-Round.processors ≡ numbers = c.in_ok-processors-in-Round.ensures ∙ c.as_slice.ensures in
    let inserted = c.in_ok-insert-in-Round.ensures.entries ∙ ap (insert_entry nat_cmp entries cycle) same in
    with_round c.args.self.now cycle numbers entries c.insert-in-Round.new.self.entries _ _ c.self.view_is none inserted ∙ sym (ap (with_entry c.args.self.now) c.in-Round.is)
