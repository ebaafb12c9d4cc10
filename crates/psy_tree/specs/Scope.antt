-- The declarations of a program, and which of them a name stands for.
use Rattle.std.specs.Prelude.{ℕ, ◌+◌, Bool, true, false, if◌then◌else◌, List, [], ◌∷◌, ◌++◌, map, take, drop, Option, Some, None, slice_get}
use Rattle.std.specs.Str.{bytes_eq}
use Rattle.psy_arith.specs.declared.width.Width.{Width}
use Rattle.psy_arith.specs.declared.width.Width.TheVariants.{W32}
use Rattle.psy_tree.specs.declared.raw.Name.{Name}
use Rattle.psy_tree.specs.declared.raw.Local.{Local}
use Rattle.psy_tree.specs.declared.raw.Local.TheVariants as local
use Rattle.psy_tree.specs.declared.raw.Item.{Item}
use Rattle.psy_tree.specs.declared.raw.Item.TheVariants as item
use Rattle.psy_tree.specs.declared.raw.RawStmt.{RawStmt}
use Rattle.psy_tree.specs.declared.reach.Found.{Found}
use Rattle.psy_tree.specs.declared.reach.Found.TheVariants as found

-- The name that a declaration gives.
abbrev pub item_name : Item → Name
item_name (item.Clock name by parent shift) = name
item_name (item.Temporal name owner clock init depth) = name
item_name (item.Input name clock init depth) = name
item_name (item.Stream name receiver keep clock) = name
item_name (item.Function name params locals stmts) = name
item_name (item.Agent name clock processor budget locals body stmts) = name

-- The parameters of a function.
abbrev pub item_params : Item → List Name
item_params (item.Function name params locals stmts) = params
item_params _ = []

-- The local declarations of an agent or a function.
abbrev pub item_locals : Item → List Local
item_locals (item.Function name params locals stmts) = locals
item_locals (item.Agent name clock processor budget locals body stmts) = locals
item_locals _ = []

-- The statements inside an agent or a function.
abbrev pub item_stmts : Item → List RawStmt
item_stmts (item.Function name params locals stmts) = stmts
item_stmts (item.Agent name clock processor budget locals body stmts) = stmts
item_stmts _ = []

-- A parameter, variable or array, whether it is an array, and its type.
pub record SlotName : Type 0 where
  pub name : Name
  pub array : Bool
  pub width : Width

-- The slot of a parameter with this name, which is of type `int`.
abbrev pub scalar : Name → SlotName
scalar name = record { name = name; array = false; width = W32 }

-- The slot of a local declaration.
abbrev pub local_slot : Local → SlotName
local_slot (local.Scalar width name init) = record { name = name; array = false; width = width }
local_slot (local.Array width name cells) = record { name = name; array = true; width = width }

-- The parameters, variables and arrays of an agent or a function, in order.
abbrev pub slots_of : Item → List SlotName
slots_of (item.Function name params locals stmts) = map scalar params ++ map local_slot locals
slots_of (item.Agent name clock processor budget locals body stmts) = map local_slot locals
slots_of _ = []

-- Where a place stands: the whole program's declarations, the number of the one that it is in, and
-- whether it is inside its braces and not in its head.
pub record Site : Type 0 where
  pub items : List Item
  pub at : ℕ
  pub inside : Bool

-- The declaration that a site is in.
abbrev pub own_item : Site → Option Item
own_item site = slice_get site.items site.at

-- The slots of a declaration, none where there is no declaration.
abbrev pub slots_at : Option Item → List SlotName
slots_at None = []
slots_at (Some owner) = slots_of owner

-- The names in reach at a site, none in a head, and their slots.
abbrev pub own_slots : Site → List SlotName
own_slots site = if site.inside then slots_at (own_item site) else []

-- A name as its bytes, and what it stands for.
pub record Entry : Type 0 where
  pub text : List ℕ
  pub found : Found

-- The declarations from number k on.
abbrev pub item_entries : ℕ → List Item → List Entry
item_entries k [] = []
item_entries k (i ∷ is) = record { text = (item_name i).text; found = found.Item k } ∷ item_entries (k + 1) is

-- The slots from number k on.
abbrev pub slot_entries : ℕ → List SlotName → List Entry
slot_entries k [] = []
slot_entries k (s ∷ ss) = record { text = s.name.text; found = found.Slot k } ∷ slot_entries (k + 1) ss

-- All that is declared in reach of a site, in the order of the text: the declarations up to its own,
-- the names inside that one, and the declarations below.
abbrev pub in_reach : Site → List Entry
in_reach site =
    item_entries 0 (take (site.at + 1) site.items)
    ++ slot_entries 0 (own_slots site)
    ++ item_entries (site.at + 1) (drop (site.at + 1) site.items)

-- What the first of the entries with this name stands for.
abbrev pub first_named : List ℕ → List Entry → Option Found
first_named text [] = None
first_named text (e ∷ es) = if bytes_eq text e.text then Some e.found else first_named text es

-- What a name stands for at a site: the first of its declarations in reach.
abbrev pub stands_for : Site → List ℕ → Option Found
stands_for site text = first_named text (in_reach site)

-- What a name stands for among the program's declarations alone.
abbrev pub stands_globally : List Item → List ℕ → Option Found
stands_globally items text = first_named text (item_entries 0 items)

-- The declaration that was found, where what was found is one.
abbrev pub item_at : List Item → Option Found → Option Item
item_at items (Some (found.Item k)) = slice_get items k
item_at items _ = None
