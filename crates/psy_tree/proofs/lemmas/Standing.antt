-- What names without a fault stand for, and its number in the unit.
use Rattle.std.proofs.Common.{◌≡◌, ℕ, ◌<◌, Bool, true, false, List, take, length, Option, Some, refl, sym, ap, ◌∙◌, eqb-true}
use Rattle.std.proofs.lemmas.Bool.{not-false}
use Rattle.std.specs.Prelude.{not, ◌&&◌, nat_eq, slice_get}
use Rattle.psy_tree.specs.declared.raw.Name.{Name}
use Rattle.psy_tree.specs.declared.raw.Init.{Init}
use Rattle.psy_tree.specs.declared.raw.Lit.{Lit}
use Rattle.psy_tree.specs.declared.raw.Local.{Local}
use Rattle.psy_tree.specs.declared.raw.RawStmt.{RawStmt}
use Rattle.psy_tree.specs.declared.raw.Item.{Item}
use Rattle.psy_tree.specs.declared.raw.Item.TheVariants as item
use Rattle.psy_tree.specs.declared.reach.Asks.TheVariants as asks
use Rattle.psy_tree.specs.declared.reach.Found.TheVariants as found
use Rattle.psy_tree.specs.Scope.{stands_globally}
use Rattle.psy_tree.specs.Places.{Uses}
use Rattle.psy_tree.specs.Rules.{is_agent, is_stream, is_temporal, has_params, other_agent}
use Rattle.psy_tree.specs.Stands.{inside_of, counting, number_of_item, global_number}
use Rattle.psy_tree.proofs.lemmas.Faultless.{Fine, head_at, stands, asks_agent, head_stands}

-- ---- declarations of a kind

pub temporal_is : (o : Option Item) → is_temporal o ≡ true → (n w c : Name) × (i : Init) × (d : Lit) × (o ≡ Some (item.Temporal n w c i d))
temporal_is (Some (item.Temporal n w c i d)) h = (n, w, c, i, d, refl)
temporal_is _ h = cc

pub stream_is : (o : Option Item) → is_stream o ≡ true → (n r : Name) × (k : Lit) × (c : Name) × (o ≡ Some (item.Stream n r k c))
stream_is (Some (item.Stream n r k c)) h = (n, r, k, c, refl)
stream_is _ h = cc

pub function_is : (count : ℕ) (o : Option Item) → has_params count o ≡ true → (n : Name) × (ps : List Name) × (ls : List Local) × (ss : List RawStmt) × (o ≡ Some (item.Function n ps ls ss)) × (length ps ≡ count)
function_is count (Some (item.Function n ps ls ss)) h = (n, ps, ls, ss, refl, eqb-true (length ps) count h)
function_is count _ h = cc

-- ---- tests

-- The second of two fails where the first holds.
pub second_false : (a b : Bool) → a ≡ true → (a && b) ≡ false → b ≡ false
second_false a b e h = sym (ap (λ t. t && b) e) ∙ h

-- ---- agents

same_number : (m k : ℕ) (b : Bool) → b ≡ true → (b && not (nat_eq m k)) ≡ false → m ≡ k
same_number m k true h g = eqb-true m k (not-false (nat_eq m k) g)
same_number m k false h g = cc

-- An agent that a declaration names, and that is no other than agent k, has the number of agent k.
pub agent_here : (items : List Item) (k j : ℕ) (name : Name) → j < length items → Fine (head_at items j) (Uses name asks.Agent) → other_agent (inside_of items k) (stands_globally items name.text) ≡ false
    → global_number is_agent items name ≡ counting is_agent (take k items)
agent_here items k j name within fine own =
    let there = stands (head_at items j) name asks.Agent fine in
    let it = asks_agent (head_at items j) there.0 there.2 in
    let found : stands_globally items name.text ≡ Some (found.Item it.0) = sym (head_stands items j name.text within) ∙ there.1 ∙ ap Some it.1 in
    let same : it.0 ≡ k = same_number it.0 k (is_agent (slice_get items it.0)) it.2 (sym (ap (other_agent (inside_of items k)) found) ∙ own) in
    ap (number_of_item is_agent items) found ∙ ap (λ m. counting is_agent (take m items)) same
