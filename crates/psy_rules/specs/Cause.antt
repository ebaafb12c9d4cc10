-- The causes of the answers of resolve that are no unit.
use Rattle.std.specs.Prelude.{◌≡◌, Some}
use Rattle.psy_tree.specs.declared.raw.Raw.{Raw}
use Rattle.psy_tree.specs.Rules.{LeastFault, NoFault}
use Rattle.psy_tree.specs.Stands.{first_passed}
use Rattle.psy_rules.specs.declared.resolution.RuleFault.{RuleFault}
use Rattle.psy_rules.specs.declared.resolution.RuleFault.TheVariants.{Rule, Many, Memory}

-- A fault is the least; a count is the first that passes its limit where there is no fault; memory may
-- run out at any time.
abbrev pub IsCause : Raw → RuleFault → Type 0
IsCause raw (Rule kind token) = LeastFault raw kind token
IsCause raw (Many count) = NoFault raw × (first_passed raw ≡ Some count)
IsCause raw Memory = Unit {0}
