-- The `advance` statements of a declaration have room among its points.
use Rattle.std.proofs.Common.{◌≡◌, ℕ, ◌≤◌, Some, arith}
use Rattle.std.specs.Prelude.{slice_get}
use Rattle.psy_base.specs.declared.limits.TheConstants.{POINTS}
use Rattle.psy_tree.specs.declared.raw.Item.{Item}
use Rattle.psy_tree.specs.declared.raw.Item.TheVariants as item
use Rattle.psy_tree.specs.declared.raw.Raw.{Raw}
use Rattle.psy_tree.specs.Paths.{advances_list}
use Rattle.psy_tree.specs.Rules.{NoFault}
use Rattle.psy_tree.proofs.lemmas.Advances.{function_quiet}
use Rattle.psy_tree.proofs.lemmas.Limits.{NonePasses, points_within}
use Rattle.psy_tree.specs.Scope.{item_stmts}

pub room_of : (raw : Raw) → NoFault raw → NonePasses raw.items → (k : ℕ) (i : Item) → slice_get raw.items k ≡ Some i → advances_list (item_stmts i) ≤ POINTS
room_of raw sound few k (item.Function name params locals stmts) own = omega (arith, function_quiet raw k name params locals stmts sound own)
room_of raw sound few k (item.Agent name clock processor budget locals body stmts) own = omega (arith, points_within raw.items few k (item.Agent name clock processor budget locals body stmts) own)
room_of raw sound few k _ own = omega arith
