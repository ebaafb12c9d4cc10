-- What is left of the proof of `slots::slot_width`.
use Rattle.std.proofs.Common.{◌≤◌, length, sym, ap, ◌∙◌, arith}
use Rattle.psy_tree.specs.Scope.{item_params}
use Rattle.psy_tree.specs.Stands.{width_of_slot}
use Rattle.psy_rules.proofs.SlotLists.{width_at_param, slot_of_local}
use Rattle.psy_rules.proofs.slots.slot_width.Goals as goal

pub returns-then-k-params : goal.returns-then-k-params
returns-then-k-params c = sym (width_at_param c.args.item.now c.args.k (omega (arith, ap length c.params_of-params.ensures)))

pub returns : goal.returns
returns c =
    let past : length (item_params c.args.item.now) ≤ c.args.k = omega (arith, ap length c.params_of-params.ensures) in
    (rw (c.local_width.ensures, c.at.ensures, c.locals_of.ensures, c.params_of-params.ensures)) ∙ sym (ap width_of_slot (slot_of_local c.args.item.now c.args.k past))
