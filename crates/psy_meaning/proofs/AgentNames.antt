-- What names without a fault stand for in an agent can be named there.
use Rattle.std.proofs.Common.{◌≡◌, ℕ, zero, suc, ◌+◌, ◌<◌, true, false, List, [], ◌∷◌, ◌++◌, map, take, length, Option, Some, None, refl, sym, ap, ◌∙◌, inl, inr, arith, leb-false, eq-eqb}
use Rattle.std.specs.Prelude.{not, ◌&&◌, ◌||◌, ◌==◌, if◌then◌else◌, slice_get, option_map}
use Rattle.std.proofs.lemmas.List.{length-map, map-append}
use Rattle.std.proofs.lemmas.Bool.{not-false, and_parts}
use Rattle.std.proofs.lemmas.Option.{slice_get_within, slice_get-map}
use Rattle.psy_tree.specs.declared.raw.Name.{Name}
use Rattle.psy_tree.specs.declared.raw.Lit.{Lit}
use Rattle.psy_tree.specs.declared.raw.Local.{Local}
use Rattle.psy_tree.specs.declared.raw.Local.TheVariants as local
use Rattle.psy_tree.specs.declared.raw.RawStmt.{RawStmt}
use Rattle.psy_tree.specs.declared.raw.Item.{Item}
use Rattle.psy_tree.specs.declared.raw.Item.TheVariants as item
use Rattle.psy_tree.specs.declared.raw.Raw.{Raw}
use Rattle.psy_tree.specs.declared.reach.Asks.TheVariants as asks
use Rattle.psy_tree.specs.declared.reach.Found.{Found}
use Rattle.psy_tree.specs.declared.reach.Found.TheVariants as found
use Rattle.psy_tree.specs.declared.rules.RuleKind.TheVariants as kind
use Rattle.psy_tree.specs.declared.unit.Slots.{Slots}
use Rattle.psy_tree.specs.declared.unit.VarDecl.{VarDecl}
use Rattle.psy_tree.specs.declared.unit.StreamDecl.{StreamDecl}
use Rattle.psy_tree.specs.declared.unit.AgentDecl.{AgentDecl}
use Rattle.psy_tree.specs.Scope.{Site, SlotName, local_slot, own_slots, slots_at, stands_for, item_at}
use Rattle.psy_tree.specs.Places.{Uses, Ranges, local_place}
use Rattle.std.specs.Option.{is_none}
use Rattle.psy_tree.specs.Rules.{NoFault, is_clock, is_agent, is_function, is_stream, is_temporal, has_params, declared_depth, in_agent, slot_is_array, owner_elsewhere, receiver_elsewhere, reaches, unsuited, below}
use Rattle.psy_tree.specs.Stands.{unit_of, inside_of, counting, is_variable, number_of_item, number_at, slot_number, slot_of, variables, streams}
use Rattle.psy_code.specs.Execution.{Copy}
use Rattle.psy_meaning.specs.Alike.{owned_copy, owned_from}
use Rattle.psy_meaning.specs.Sound.{Scope, HasSlot, HasCopy, HasPast, HasStream, HasFunction, CanSend, Each, agent_scope}
use Rattle.psy_tree.proofs.lemmas.ClocksOf.{clocks_count}
use Rattle.psy_tree.proofs.lemmas.Numbers.{flat_map-each, length-each, gives_streams, variable_at, stream_at, function_at}
use Rattle.psy_tree.proofs.lemmas.Lists.{slice_get-behind}
use Rattle.psy_tree.proofs.lemmas.Faultless.{Fine, fine_head, in_range, number_below, asks_clock, asks_target}
use Rattle.psy_meaning.proofs.SoundExprs.{HasValue, Suits}
use Rattle.psy_meaning.proofs.TypedExprs.{widths_at}
use Rattle.psy_tree.proofs.lemmas.Standing.{second_false, temporal_is, stream_is, function_is, agent_here}

-- ---- slots

abbrev cells_of : List Local → List ℕ
cells_of locals = map (λ s. s.cells) (map slot_of locals)

scalar_at : (locals : List Local) (k : ℕ) → slot_is_array false (slice_get (map local_slot locals) k) ≡ true → (cells : ℕ) × (slice_get (cells_of locals) k ≡ Some cells) × (0 < cells)
scalar_at [] k h = cc
scalar_at (local.Scalar width name init ∷ ls) zero h = (1, refl, omega arith)
scalar_at (local.Array width name cells ∷ ls) zero h = cc
scalar_at (l ∷ ls) (suc k) h = scalar_at ls k h

array_at : (site : Site) (locals : List Local) (k : ℕ) → Each (Fine site) (map local_place locals) → slot_is_array true (slice_get (map local_slot locals) k) ≡ true
    → (cells : ℕ) × (slice_get (cells_of locals) k ≡ Some cells) × (0 < cells)
array_at site [] k c h = cc
array_at site (local.Scalar width name init ∷ ls) zero c h = cc
array_at site (local.Array width name cells ∷ ls) zero c h = (cells.value, refl, omega (arith, (in_range site cells 1 256 c.0).0))
array_at site (l ∷ ls) (suc k) c h = array_at site ls k c.1 h

-- The unit's slots have the types of the text.
slot_types : (locals : List Local) → map (λ (s : Slots). s.width) (map slot_of locals) ≡ map (λ (s : SlotName). s.width) (map local_slot locals)
slot_types [] = refl
slot_types (local.Scalar width name init ∷ ls) = ap (λ ws. width ∷ ws) (slot_types ls)
slot_types (local.Array width name cells ∷ ls) = ap (λ ws. width ∷ ws) (slot_types ls)

-- ---- copies

abbrev numbers_of : List Copy → List ℕ
numbers_of copies = map (λ c. c.variable) copies

owned_first : (agent first : ℕ) (v : VarDecl) (rest : List Copy) → v.owner ≡ Some agent → slice_get (numbers_of (owned_copy agent first v v.owner ++ rest)) 0 ≡ Some first
owned_first agent first v rest e =
    ap (λ o. slice_get (numbers_of (owned_copy agent first v o ++ rest)) 0) e
    ∙ ap (λ b. slice_get (numbers_of ((if b then record { variable = first; value = v.init } ∷ [] else []) ++ rest)) 0) (eq-eqb agent agent refl)

owned_at : (agent first : ℕ) (vs : List VarDecl) (n : ℕ) (v : VarDecl) → slice_get vs n ≡ Some v → v.owner ≡ Some agent → (place : ℕ) × (slice_get (numbers_of (owned_from agent first vs)) place ≡ Some (first + n))
owned_at agent first [] n v e own = cc
owned_at agent first (w ∷ vs) zero v e own =
    let same : w ≡ v = cc in
    let z : first ≡ first + 0 = omega arith in
    (0, owned_first agent first w (owned_from agent (first + 1) vs) (ap (λ (x : VarDecl). x.owner) same ∙ own) ∙ ap Some z)
owned_at agent first (w ∷ vs) (suc n) v e own =
    let there = owned_at agent (first + 1) vs n v e own in
    let here = owned_copy agent first w w.owner in
    let next : first + 1 + n ≡ first + suc n = omega arith in (
      length (numbers_of here) + there.0,
      ap (λ ns. slice_get ns (length (numbers_of here) + there.0)) (map-append (λ (c : Copy). c.variable) here (owned_from agent (first + 1) vs))
          ∙ slice_get-behind (numbers_of here) (numbers_of (owned_from agent (first + 1) vs)) there.0 ∙ there.1 ∙ ap Some next,
    )

-- ---- variables that are looked back

past_of : (items : List Item) (o : Option Item) (back : ℕ) → not (not (is_none (declared_depth o))) ≡ false → reaches back (declared_depth o) ≡ false → (i : Item) × (v : VarDecl) × (o ≡ Some i) × (variables items i ≡ v ∷ []) × (back < v.depth)
past_of items (Some (item.Temporal name owner clock init depth)) back known deep = (item.Temporal name owner clock init depth, _, refl, refl, leb-false depth.value back deep)
past_of items (Some (item.Input name clock init depth)) back known deep = (item.Input name clock init depth, _, refl, refl, leb-false depth.value back deep)
past_of items _ back known deep = cc

-- ---- the scope of an agent

module _ (raw : Raw) (fault : NoFault raw) (k : ℕ) (name clock : Name) (processor : Option Lit) (budget : Lit) (locals : List Local) (body : ℕ) (stmts : List RawStmt) (agent : AgentDecl) (own : slice_get raw.items k ≡ Some (item.Agent name clock processor budget locals body stmts)) (slots : agent.slots ≡ map slot_of locals) (cells : Each (Fine (inside_of raw.items k)) (map local_place locals)) where
  abbrev site : Site
  site = inside_of raw.items k

  abbrev number : ℕ
  number = counting is_agent (take k raw.items)

  abbrev scope : Scope
  scope = agent_scope (unit_of raw) number agent

  here : in_agent site ≡ true
  here = ap is_agent own

  slots_are : own_slots site ≡ map local_slot locals
  slots_are = ap slots_at own

  slot_in : (slot : ℕ) → (count : ℕ) × (slice_get (cells_of locals) slot ≡ Some count) × (0 < count) → HasSlot scope slot
  slot_in slot (count, e, h) = (count, ap (λ ss. slice_get (map (λ s. s.cells) ss) slot) slots ∙ e, h)

  copy_in : (j : ℕ) → is_temporal (slice_get raw.items j) ≡ true → owner_elsewhere site (slice_get raw.items j) ≡ false → HasCopy scope (counting is_variable (take j raw.items))
  copy_in j temporal mine =
      let (n, w, c, i, d, is) = temporal_is (slice_get raw.items j) temporal in
      let head = fine_head raw fault j (item.Temporal n w c i d) (Uses w asks.Agent) is (inr (inl refl)) in
      let owner = agent_here raw.items k j w (slice_get_within raw.items j (item.Temporal n w c i d) is) head (sym (ap (owner_elsewhere site) is) ∙ mine) in
      let there = owned_at number 0 (unit_of raw).variables (counting is_variable (take j raw.items)) _ (variable_at raw j (item.Temporal n w c i d) _ is refl) (ap Some owner) in
      let z : 0 + counting is_variable (take j raw.items) ≡ counting is_variable (take j raw.items) = omega arith in
      (there.0, there.1 ∙ ap Some z)

  value_in : (o : Option Found) → (is_none o || (false && below site o)) ≡ false → unsuited site asks.Value o ≡ false → (in_agent site && true && owner_elsewhere site (item_at raw.items o)) ≡ false → HasValue site scope o
  value_in None known suited mine = cc
  value_in (Some (found.Slot j)) known suited mine =
      slot_in j (scalar_at locals j (sym (ap (λ ss. slot_is_array false (slice_get ss j)) slots_are) ∙ not-false (slot_is_array false (slice_get (own_slots site) j)) suited))
  value_in (Some (found.Item j)) known suited mine =
      let both = and_parts (in_agent site) (is_temporal (slice_get raw.items j)) (not-false (in_agent site && is_temporal (slice_get raw.items j)) suited) in
      copy_in j both.1 (second_false (in_agent site && true) (owner_elsewhere site (slice_get raw.items j)) (ap (λ b. b && true) here) mine)

  cell_in : (o : Option Found) → (is_none o || (false && below site o)) ≡ false → unsuited site asks.Cell o ≡ false → HasSlot scope (slot_number o)
  cell_in None known suited = cc
  cell_in (Some (found.Item j)) known suited = cc
  cell_in (Some (found.Slot j)) known suited =
      let both = and_parts (in_agent site) (slot_is_array true (slice_get (own_slots site) j)) (not-false (in_agent site && slot_is_array true (slice_get (own_slots site) j)) suited) in
      slot_in j (array_at site locals j cells (sym (ap (λ ss. slot_is_array true (slice_get ss j)) slots_are) ∙ both.1))

  past_in : (o : Option Found) (back : ℕ) → (is_none o || (false && below site o)) ≡ false → unsuited site asks.Past o ≡ false → reaches back (declared_depth (item_at raw.items o)) ≡ false → HasPast scope (number_of_item is_variable raw.items o) back
  past_in None back known suited deep = cc
  past_in (Some (found.Slot j)) back known suited deep = cc
  past_in (Some (found.Item j)) back known suited deep =
      let (i, v, is, gives, less) = past_of raw.items (slice_get raw.items j) back suited deep in
      let n = counting is_variable (take j raw.items) in
      (v.depth, slice_get-map (λ (x : VarDecl). x.depth) (unit_of raw).variables n ∙ ap (option_map (λ (x : VarDecl). x.depth)) (variable_at raw j i v is gives), less)

  stream_in : (o : Option Found) → (is_none o || (false && below site o)) ≡ false → unsuited site asks.Messages o ≡ false → (in_agent site && true && receiver_elsewhere site (item_at raw.items o)) ≡ false → HasStream scope (number_of_item is_stream raw.items o)
  stream_in None known suited mine = cc
  stream_in (Some (found.Slot j)) known suited mine = cc
  stream_in (Some (found.Item j)) known suited mine =
      let (n, r, keep, c, is) = stream_is (slice_get raw.items j) (not-false (is_stream (slice_get raw.items j)) suited) in
      let head = fine_head raw fault j (item.Stream n r keep c) (Uses r asks.Agent) is (inr (inl refl)) in
      let elsewhere = second_false (in_agent site && true) (receiver_elsewhere site (slice_get raw.items j)) (ap (λ b. b && true) here) mine in
      let receiver = agent_here raw.items k j r (slice_get_within raw.items j (item.Stream n r keep c) is) head (sym (ap (receiver_elsewhere site) is) ∙ elsewhere) in
      let m = counting is_stream (take j raw.items) in
      slice_get-map (λ (s : StreamDecl). s.receiver == number) (unit_of raw).streams m
      ∙ ap (option_map (λ (s : StreamDecl). s.receiver == number)) (stream_at raw j (item.Stream n r keep c) _ is refl)
      ∙ ap Some (eq-eqb _ number receiver)

  call_in : (o : Option Found) (count : ℕ) → (is_none o || (false && below site o)) ≡ false → unsuited site (asks.Call count) o ≡ false → HasFunction scope (number_of_item is_function raw.items o) count
  call_in None count known suited = cc
  call_in (Some (found.Slot j)) count known suited = cc
  call_in (Some (found.Item j)) count known suited =
      let (n, ps, ls, ss, is, same) = function_is count (slice_get raw.items j) (not-false (has_params count (slice_get raw.items j)) suited) in
      (_, function_at raw j (item.Function n ps ls ss) _ is refl, sym same)

  streams_count : length scope.streams ≡ counting is_stream raw.items
  streams_count =
      length-map (unit_of raw).streams (λ (s : StreamDecl). s.receiver == number)
      ∙ ap length (flat_map-each (streams raw.items) 0 raw.items) ∙ length-each is_stream (λ k. streams raw.items) (gives_streams raw.items) 0 raw.items

  send_in : (stream : Name) (after : Lit) (clock : Name) → Fine site (Uses stream asks.Target) → Fine site (Ranges after 0 1024) → Fine site (Uses clock asks.Clock) → CanSend scope (number_at is_stream site stream) after.value (number_at is_clock site clock)
  send_in stream after clock t d c = record {
    allowed = refl;
    target = omega (arith, number_below is_stream asks.Target refl asks_target site stream t, streams_count);
    by = omega (arith, number_below is_clock asks.Clock refl asks_clock site clock c, clocks_count raw fault);
    delay = (in_range site after 0 1024 d).1;
  }

  widths_are : scope.widths ≡ widths_at site
  widths_are =
      ap (map (λ (s : Slots). s.width)) slots ∙ slot_types locals ∙ ap (map (λ (s : SlotName). s.width)) (sym slots_are)

  pub agent_suits : Suits site scope
  agent_suits = record {
    widths = widths_are;
    values = λ n c. value_in (stands_for site n.text) (c kind.Unknown) (c kind.WrongKind) (c kind.NotOwner);
    cells = λ n c. cell_in (stands_for site n.text) (c kind.Unknown) (c kind.WrongKind);
    pasts = λ token n back a c l. past_in (stands_for site n.text) back.value (c kind.Unknown) (c kind.WrongKind) (l kind.TooDeep);
    messages = λ token n a c. stream_in (stands_for site n.text) (c kind.Unknown) (c kind.WrongKind) (c kind.NotReceiver);
    calls = λ n count c. call_in (stands_for site n.text) count (c kind.Unknown) (c kind.WrongKind);
    sends = λ token stream after clock a. send_in stream after clock;
    returns = λ token c. absurd (let no : true ≡ false = sym here ∙ c kind.WrongKind in cc);
  }
