-- What is left of the proof of `laws::one_tree`.
use Rattle.psy_parse.proofs.AgainItems.{Spells-unique}
use Rattle.psy_parse.proofs.Trees.{tree_or_none, fault_of_none, AtFault-once, none_of_fault}
use Rattle.psy_parse.proofs.Depths.{deep_or_shallow, Deep-once, not_both}
use Rattle.psy_parse.proofs.laws.one_tree.Goals as goal

pub returns-clause-some : goal.returns-clause-some
returns-clause-some c = tree_or_none

pub returns-clause-one : goal.returns-clause-one
returns-clause-one c = Spells-unique

pub returns-clause-fault : goal.returns-clause-fault
returns-clause-fault c = fault_of_none

pub returns-clause-one_fault : goal.returns-clause-one_fault
returns-clause-one_fault c = AtFault-once

pub returns-clause-no_fault : goal.returns-clause-no_fault
returns-clause-no_fault c = none_of_fault

pub returns-clause-depth : goal.returns-clause-depth
returns-clause-depth c = deep_or_shallow

pub returns-clause-deep : goal.returns-clause-deep
returns-clause-deep c = Deep-once

pub returns-clause-not_both : goal.returns-clause-not_both
returns-clause-not_both c = not_both
