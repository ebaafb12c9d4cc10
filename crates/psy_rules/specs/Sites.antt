-- What a scope stands for.
use Rattle.std.specs.Prelude.{◌<◌, length}
use Rattle.psy_tree.specs.Scope.{Site, own_slots, item_entries, slot_entries}
use Rattle.psy_rules.specs.declared.scope.Scope.{Scope}
use Rattle.psy_rules.specs.Tables.{StandsFor}

-- Where the places of the scope stand.
abbrev pub site_of : Scope → Site
site_of s = record { items = s.items.now; at = s.at; inside = s.inside }

-- Its tables have the declarations in reach.
pub record IsScope (s : Scope) : Type 0 where
  pub globals : StandsFor s.globals.now (item_entries 0 s.items.now)
  pub within : s.at < length s.items.now
  pub slots : StandsFor s.slots.now (slot_entries 0 (own_slots (site_of s)))
