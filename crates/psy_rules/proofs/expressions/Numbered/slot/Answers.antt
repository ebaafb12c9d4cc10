-- What is left of the proof of `expressions::Numbered::slot`.
use Rattle.std.proofs.Common.{◌≤◌, length, sym, subst, Option}
use Rattle.psy_base.specs.declared.limits.TheConstants.{NAMES}
use Rattle.psy_tree.specs.declared.reach.Found.{Found}
use Rattle.psy_tree.specs.Scope.{own_slots, stands_for}
use Rattle.psy_tree.specs.Stands.{slot_number}
use Rattle.psy_rules.specs.Lowered.{site}
use Rattle.psy_rules.proofs.Reach.{stands_within, slot_within}
use Rattle.psy_rules.proofs.expressions.Numbered.slot.Goals as goal

pub slot_number-requires : goal.slot_number-requires
slot_number-requires c =
    let P : Option Found → Type 0 = λ o. slot_number o ≤ NAMES in
    subst P (sym c.find.ensures) (slot_within (length c.args.self.now.scope.items.now) (length (own_slots (site c.args.self.now))) (stands_for (site c.args.self.now) c.args.name.now.text) c.requires.few
    (stands_within (site c.args.self.now) c.args.name.now.text c.requires.scope.within))
