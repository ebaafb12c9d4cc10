-- What the numbered scope of a body stands for.
use Rattle.std.specs.Prelude.{◌≡◌, ℕ, ◌≤◌, List, length, Some, slice_get}
use Rattle.psy_base.specs.declared.limits.TheConstants.{NAMES, POINTS}
use Rattle.psy_tree.specs.declared.raw.Item.{Item}
use Rattle.psy_tree.specs.Paths.{advances_list}
use Rattle.psy_tree.specs.Scope.{Site, slots_of, item_stmts, item_entries, own_slots, own_item}
use Rattle.psy_tree.specs.Stands.{agent_budget}
use Rattle.psy_rules.specs.declared.expressions.Numbered.{Numbered}
use Rattle.psy_rules.specs.declared.declarations.Program.{Program}
use Rattle.psy_rules.specs.Tables.{StandsFor}
use Rattle.psy_rules.specs.Sites.{site_of, IsScope}
use Rattle.psy_rules.specs.Numbering.{AreNumbers}

-- Where the places of the numbered scope stand.
abbrev pub site : Numbered → Site
site n = site_of n.scope

-- The scope is one, the numbers are those of its declarations, the names inside are few, the budget is the agent's.
pub record IsNumbered (n : Numbered) : Type 0 where
  pub scope : IsScope n.scope
  pub numbers : AreNumbers n.scope.items.now n.before.now
  pub few : length (own_slots (site n)) ≤ NAMES
  pub budget : n.budget ≡ agent_budget (own_item (site n))

-- The declarations keep the limits of one declaration.
pub record KeepLimits (items : List Item) : Type 0 where
  pub names : (k : ℕ) (i : Item) → slice_get items k ≡ Some i → length (slots_of i) ≤ NAMES
  pub points : (k : ℕ) (i : Item) → slice_get items k ≡ Some i → advances_list (item_stmts i) ≤ POINTS

-- A program's table and numbers are those of its declarations, which keep the limits.
pub record IsProgram (p : Program) : Type 0 where
  pub globals : StandsFor p.globals.now (item_entries 0 p.items.now)
  pub numbers : AreNumbers p.items.now p.before.now
  pub limits : KeepLimits p.items.now
