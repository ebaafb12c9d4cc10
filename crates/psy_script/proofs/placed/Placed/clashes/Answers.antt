-- What is left of the proof of `placed::Placed::clashes`.
use Rattle.std.proofs.Common.{◌∙◌, sym, ap, ◌||◌, eqb}
use Rattle.psy_script.specs.Entries.{clashes, repeats}
use Rattle.psy_script.specs.Script.{has_same}
use Rattle.psy_script.specs.declared.entry.Entry.TheVariants as entry
use Rattle.psy_script.proofs.PutEntries.{clash_stall, clash_order, clash_round}
use Rattle.psy_script.proofs.RoundNumbers.{same_repeats}
use Rattle.psy_script.proofs.placed.Placed.clashes.Goals as goal

pub returns-in-Stall : goal.returns-in-Stall
returns-in-Stall c =
    let same = c.in-Stall.is ∙ ap entry.Stall (sym c.place_of.ensures) in
    c.contains_key.ensures ∙ clash_stall c.args.self.now c.place_of.result c.in-Stall.stall.cycles c.self.inside.stalls.entries _ _ c.self.view_is ∙ sym (ap (clashes c.args.self.now) same)

pub returns-then-contains_key : goal.returns-then-contains_key
returns-then-contains_key c =
    let found = clash_order c.args.self.now c.in-Order.order.cycle c.in-Order.order.agents c.self.inside.orders.entries _ _ c.contains_key-in-Order.result c.self.view_is c.contains_key-in-Order.ensures in
    c.if-contains_key.true ∙ sym (ap (λ b. b || has_same c.in-Order.order.agents) c.if-contains_key.true) ∙ found ∙ sym (ap (clashes c.args.self.now) c.in-Order.is)

pub returns-else-contains_key : goal.returns-else-contains_key
returns-else-contains_key c =
    let agents = c.in-Order.order.agents in
    let found = clash_order c.args.self.now c.in-Order.order.cycle agents c.self.inside.orders.entries _ _ c.contains_key-in-Order.result c.self.view_is c.contains_key-in-Order.ensures in
    let twice = c.repeats.ensures ∙ ap (repeats eqb) c.as_slice.ensures ∙ same_repeats agents in
    twice ∙ sym (ap (λ b. b || has_same agents) c.if-contains_key.false) ∙ found ∙ sym (ap (clashes c.args.self.now) c.in-Order.is)

pub returns-then-contains_key-2 : goal.returns-then-contains_key-2
returns-then-contains_key-2 c =
    let numbers = c.in-Round.numbers in
    let found = clash_round c.args.self.now c.in-Round.cycle numbers c.self.inside.rounds.entries _ _ c.contains_key-in-Round.result c.self.view_is c.contains_key-in-Round.ensures in
    c.if-contains_key-2.true ∙ sym (ap (λ b. b || has_same numbers) c.if-contains_key-2.true) ∙ found ∙ sym (ap (clashes c.args.self.now) c.in-Round.is)

pub returns-else-contains_key-2 : goal.returns-else-contains_key-2
returns-else-contains_key-2 c =
    let numbers = c.in-Round.numbers in
    let found = clash_round c.args.self.now c.in-Round.cycle numbers c.self.inside.rounds.entries _ _ c.contains_key-in-Round.result c.self.view_is c.contains_key-in-Round.ensures in
    let twice = c.repeats-else-contains_key-2.ensures ∙ ap (repeats eqb) c.as_slice-else-contains_key-2.ensures ∙ same_repeats numbers in
    twice ∙ sym (ap (λ b. b || has_same numbers) c.if-contains_key-2.false) ∙ found ∙ sym (ap (clashes c.args.self.now) c.in-Round.is)
