-- What names without a fault stand for in a function can be named there.
use Rattle.std.proofs.Common.{◌≡◌, ℕ, zero, suc, ◌+◌, ◌<◌, Bool, true, false, List, [], ◌∷◌, ◌++◌, map, take, replicate, length, Option, Some, None, refl, sym, ap, ap₂, ◌∙◌, arith, leb-false}
use Rattle.std.specs.Prelude.{◌&&◌, ◌||◌, nat_le, slice_get}
use Rattle.std.proofs.lemmas.Bool.{not-false, and_parts}
use Rattle.std.proofs.lemmas.List.{length-append, length-map}
use Rattle.psy_tree.specs.declared.raw.Name.{Name}
use Rattle.psy_arith.specs.declared.width.Width.TheVariants.{W32}
use Rattle.psy_tree.specs.declared.raw.Local.{Local}
use Rattle.psy_tree.specs.declared.raw.Local.TheVariants as local
use Rattle.psy_tree.specs.declared.raw.RawStmt.{RawStmt}
use Rattle.psy_tree.specs.declared.raw.Item.{Item}
use Rattle.psy_tree.specs.declared.raw.Item.TheVariants as item
use Rattle.psy_tree.specs.declared.reach.Asks.TheVariants as asks
use Rattle.psy_tree.specs.declared.reach.Found.{Found}
use Rattle.psy_tree.specs.declared.reach.Found.TheVariants as found
use Rattle.psy_tree.specs.declared.rules.RuleKind.TheVariants as kind
use Rattle.psy_tree.specs.declared.unit.FunctionDecl.{FunctionDecl}
use Rattle.psy_tree.specs.declared.unit.LocalDecl.{LocalDecl}
use Rattle.psy_tree.specs.Scope.{Site, SlotName, scalar, local_slot, own_slots, slots_at, stands_for}
use Rattle.psy_tree.specs.Places.{Acts}
use Rattle.std.specs.Option.{is_none}
use Rattle.psy_tree.specs.Rules.{is_agent, is_function, is_temporal, has_params, in_agent, in_function, slot_is_array, function_from, unsuited, below}
use Rattle.psy_tree.specs.Stands.{inside_of, number_of_item, slot_number, local_of, functions, each_from}
use Rattle.psy_meaning.specs.Sound.{Scope, HasSlot, HasFunction, function_scope}
use Rattle.psy_tree.proofs.lemmas.Numbers.{length-each, given_at, gives_functions}
use Rattle.psy_tree.proofs.lemmas.Faultless.{Fine}
use Rattle.psy_meaning.proofs.SoundExprs.{HasValue, Suits}
use Rattle.psy_meaning.proofs.TypedExprs.{widths_at}
use Rattle.psy_tree.proofs.lemmas.Standing.{second_false, function_is}

-- ---- slots

-- A slot that is an array or isn't is there
slot_there : (array : Bool) (ss : List SlotName) (k : ℕ) → slot_is_array array (slice_get ss k) ≡ true → k < length ss
slot_there array [] k h = cc
slot_there array (s ∷ ss) zero h = omega arith
slot_there array (s ∷ ss) (suc k) h = omega (arith, slot_there array ss k h)

cell_there : (n k : ℕ) → k < n → slice_get {X = ℕ} (replicate n 1) k ≡ Some 1
cell_there zero k h = absurd (omega (arith, h))
cell_there (suc n) zero h = refl
cell_there (suc n) (suc k) h = cell_there n k (omega (arith, h))

-- The unit's slots have the types of the text.
local_types : (locals : List Local) → map (λ (l : LocalDecl). l.width) (map local_of locals) ≡ map (λ (s : SlotName). s.width) (map local_slot locals)
local_types [] = refl
local_types (local.Scalar width name init ∷ ls) = ap (λ ws. width ∷ ws) (local_types ls)
local_types (local.Array width name cells ∷ ls) = ap (λ ws. width ∷ ws) (local_types ls)

function_types : (params : List Name) (locals : List Local) →
    replicate (length params) W32 ++ map (λ (l : LocalDecl). l.width) (map local_of locals) ≡ map (λ (s : SlotName). s.width) (map scalar params ++ map local_slot locals)
function_types [] locals = local_types locals
function_types (p ∷ ps) locals = ap (λ ws. W32 ∷ ws) (function_types ps locals)

-- ---- the scope of a function

module _ (items : List Item) (k : ℕ) (name : Name) (params : List Name) (locals : List Local) (stmts : List RawStmt) (f : FunctionDecl) (depths : List ℕ) (streams : List Bool) (own : slice_get items k ≡ Some (item.Function name params locals stmts)) (params_are : f.params ≡ length params) (locals_are : f.locals ≡ map local_of locals) where
  abbrev site : Site
  site = inside_of items k

  abbrev scope : Scope
  scope = function_scope (each_from (functions items) 0 (take k items)) depths streams f

  here : in_function site ≡ true
  here = ap is_function own

  elsewhere : in_agent site ≡ false
  elsewhere = ap is_agent own

  slots : f.params + length f.locals ≡ length params + length locals
  slots = omega (arith, params_are, ap length locals_are, length-map locals local_of)

  slots_count : length (own_slots site) ≡ length params + length locals
  slots_count =
      ap (λ o. length (slots_at o)) own ∙ length-append (map scalar params) (map local_slot locals) ∙ omega (arith, length-map params scalar, length-map locals local_slot)

  value_in : (o : Option Found) → (is_none o || (false && below site o)) ≡ false → unsuited site asks.Value o ≡ false → HasValue site scope o
  value_in None known suited = cc
  value_in (Some (found.Item j)) known suited =
      let both = and_parts (in_agent site) (is_temporal (slice_get items j)) (not-false (in_agent site && is_temporal (slice_get items j)) suited) in
      absurd (let no : true ≡ false = sym both.0 ∙ elsewhere in cc)
  value_in (Some (found.Slot j)) known suited =
      let there = slot_there false (own_slots site) j (not-false (slot_is_array false (slice_get (own_slots site) j)) suited) in
      (1, cell_there (f.params + length f.locals) j (omega (arith, there, slots_count, slots)), omega arith)

  cell_in : (o : Option Found) → (is_none o || (false && below site o)) ≡ false → unsuited site asks.Cell o ≡ false → HasSlot scope (slot_number o)
  cell_in None known suited = cc
  cell_in (Some (found.Item j)) known suited = cc
  cell_in (Some (found.Slot j)) known suited =
      let both = and_parts (in_agent site) (slot_is_array true (slice_get (own_slots site) j)) (not-false (in_agent site && slot_is_array true (slice_get (own_slots site) j)) suited) in
      absurd (let no : true ≡ false = sym both.0 ∙ elsewhere in cc)

  call_in : (o : Option Found) (count : ℕ) → (is_none o || (false && below site o)) ≡ false → unsuited site (asks.Call count) o ≡ false → (in_function site && true && function_from site o) ≡ false
      → HasFunction scope (number_of_item is_function items o) count
  call_in None count known suited down = cc
  call_in (Some (found.Slot j)) count known suited down = cc
  call_in (Some (found.Item j)) count known suited down =
      let (n, ps, ls, ss, is, same) = function_is count (slice_get items j) (not-false (has_params count (slice_get items j)) suited) in
      let up = second_false (in_function site && true) (is_function (slice_get items j) && nat_le k j) (ap (λ b. b && true) here) down in
      let less = leb-false k j (second_false (is_function (slice_get items j)) (nat_le k j) (ap is_function is) up) in
      let z : 0 + j ≡ j = omega arith in (
        _,
        ap (slice_get (each_from (functions items) 0 (take k items))) (sym (length-each is_function (functions items) (gives_functions items) 0 (take j items)))
            ∙ given_at (functions items) 0 items j k (item.Function n ps ls ss) _ less is (ap (λ m. functions items m (item.Function n ps ls ss)) z),
        sym same,
      )

  no_word : {A : Type 0} (token : ℕ) → Fine site (Acts token) → A
  no_word token c = absurd (let no : true ≡ false = sym here ∙ c kind.WrongKind in cc)

  widths_are : scope.widths ≡ widths_at site
  widths_are =
      ap₂ (λ (n : ℕ) (ls : List LocalDecl). replicate n W32 ++ map (λ l. l.width) ls) params_are locals_are ∙ function_types params locals
      ∙ ap (λ o. map (λ (s : SlotName). s.width) (slots_at o)) (sym own)

  pub function_suits : Suits site scope
  function_suits = record {
    widths = widths_are;
    values = λ n c. value_in (stands_for site n.text) (c kind.Unknown) (c kind.WrongKind);
    cells = λ n c. cell_in (stands_for site n.text) (c kind.Unknown) (c kind.WrongKind);
    pasts = λ token n back a c l. no_word token a;
    messages = λ token n a c. no_word token a;
    calls = λ n count c. call_in (stands_for site n.text) count (c kind.Unknown) (c kind.WrongKind) (c kind.CallsDown);
    sends = λ token stream after clock a t d c. no_word token a;
    returns = λ token c. refl;
  }
