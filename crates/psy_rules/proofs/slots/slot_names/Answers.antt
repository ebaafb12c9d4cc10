-- What is left of the proof of `slots::slot_names`.
use Rattle.std.proofs.Common.{◌≤◌, ◌++◌, map, length, ap, ◌∙◌, arith}
use Rattle.std.proofs.lemmas.List.{take_all}
use Rattle.psy_tree.specs.Scope.{local_slot}
use Rattle.psy_tree.specs.Scope.{item_params, item_locals}
use Rattle.psy_rules.proofs.SlotLists.{slot_names_split}
use Rattle.psy_rules.proofs.slots.slot_names.Goals as goal

pub returns : goal.returns
returns c =
    let past : length (item_locals c.args.item.now) ≤ c.loop-local.local-index = omega (arith, ap length c.locals_of-local-items.ensures) in
    c.loop-local.invariant
    ∙ ap (λ ls. item_params c.args.item.now ++ map (λ l. (local_slot l).name) ls) (take_all c.loop-local.local-index (item_locals c.args.item.now) past)
    ∙ slot_names_split c.args.item.now
