-- The unit of a program without a fault keeps what is asked of its declarations.
use Rattle.std.proofs.Common.{◌≡◌, ℕ, suc, ◌+◌, ◌<◌, List, [], ◌∷◌, ◌++◌, map, length, Option, Some, None, refl, sym, ap, ◌∙◌, subst, inl, inr, arith}
use Rattle.std.specs.Prelude.{◌-◌, slice_get}
use Rattle.std.specs.List.{All}
use Rattle.std.proofs.lemmas.Option.{slice_get_within}
use Rattle.std.proofs.lemmas.List.{length-append, length-map}
use Rattle.std.proofs.lemmas.List.Elements.{All-nil, All-append, All-cons, All-head, All-tail}
use Rattle.psy_base.specs.declared.limits.TheConstants.{PROCESSORS}
use Rattle.psy_tree.specs.declared.raw.Name.{Name}
use Rattle.psy_tree.specs.declared.raw.Lit.{Lit}
use Rattle.psy_tree.specs.declared.raw.Local.{Local}
use Rattle.psy_tree.specs.declared.raw.Local.TheVariants as local
use Rattle.psy_tree.specs.declared.raw.Item.{Item}
use Rattle.psy_tree.specs.declared.raw.Item.TheVariants as item
use Rattle.psy_tree.specs.declared.raw.Raw.{Raw}
use Rattle.psy_tree.specs.declared.reach.Asks.TheVariants as asks
use Rattle.psy_tree.specs.declared.unit.Unit.{Unit as Whole}
use Rattle.psy_tree.specs.declared.unit.Point.{Point}
use Rattle.psy_tree.specs.declared.unit.AgentDecl.{AgentDecl}
use Rattle.psy_tree.specs.Scope.{Site, item_name, slots_of, scalar, local_slot}
use Rattle.psy_tree.specs.Places.{Place, Uses, Ranges, HasBody, budget_places, processor_places, head_places, slot_places, local_place, stmts_places}
use Rattle.psy_tree.specs.Paths.{quiet_list}
use Rattle.psy_tree.specs.Rules.{NoFault, is_clock, is_agent, is_function, is_stream}
use Rattle.psy_tree.specs.Stands.{Stands, unit_of, counting, is_variable, clock_names, variables, streams, functions, agents, agent_with, named_processor, slot_of, local_of, agent_budget, head_point, global_number, budget_of, inside_of, stmts_of, each_from}
use Rattle.psy_meaning.specs.Units.{Within, IsName, IsBareVariable, IsBareStream, IsBareFunction, IsBareSlot, IsBarePoint, HasHead, IsBareAgent, IsBare}
use Rattle.psy_tree.proofs.lemmas.Among.{Among, among_left, among_right}
use Rattle.psy_tree.proofs.lemmas.Limits.{NonePasses, few_clocks, few_agents, few_variables, few_streams, few_functions, names_of, points_within}
use Rattle.psy_meaning.proofs.TextNames.{names_in, AreNames}
use Rattle.psy_tree.proofs.lemmas.Lists.{All-flat_map}
use Rattle.psy_tree.proofs.lemmas.Numbers.{length-each, flat_map-each, gives_clock_names, gives_variables, gives_streams, gives_functions, gives_agents}
use Rattle.psy_meaning.proofs.PathsOf.{points_of}
use Rattle.psy_tree.proofs.lemmas.Faultless.{Fine, AllFine, head_at, fine_head, fine_inside, fine_quantum, in_range, global_below, number_below, asks_clock, asks_agent}
use Rattle.psy_tree.proofs.lemmas.ClocksOf.{clocks_are, clocks_count}
use Rattle.psy_tree.proofs.lemmas.PointsOf.{Adds, point_of, stmts_add}
use Rattle.psy_meaning.proofs.NamesOf.{names_differ}

-- ---- each of them

all_each : {A : Type 0} (P : A → Type 0) (f : ℕ → Item → List A) (m : ℕ) (xs : List Item) → ((k : ℕ) (i : Item) → slice_get xs k ≡ Some i → All P (f (m + k) i)) → All P (each_from f m xs)
all_each P f m [] h = All-nil P
all_each P f m (x ∷ xs) h =
    let here : m + 0 ≡ m = omega arith in
    All-append P (f m x) (each_from f (m + 1) xs) (subst (λ n. All P (f n x)) here (h 0 x refl))
    (all_each P f (m + 1) xs (λ k i own. let next : m + suc k ≡ m + 1 + k = omega arith in subst (λ n. All P (f n i)) next (h (suc k) i own)))

all_items : {A : Type 0} (P : A → Type 0) (f : ℕ → Item → List A) (xs : List Item) → ((k : ℕ) (i : Item) → slice_get xs k ≡ Some i → All P (f k i)) → All P (each_from f 0 xs)
all_items P f xs h = all_each P f 0 xs (λ k i own. let e : k ≡ 0 + k = omega arith in subst (λ n. All P (f n i)) e (h k i own))

one : {A : Type 0} (P : A → Type 0) (a : A) → P a → All P (a ∷ [])
one P a h = All-cons P a [] h (All-nil P)

-- ---- declarations

slots_bare : (site : Site) (locals : List Local) → All IsName (map (λ s. s.name.text) (map local_slot locals)) → AllFine site (map local_place locals) → All IsBareSlot (map slot_of locals)
slots_bare site [] names h = All-nil IsBareSlot
slots_bare site (local.Scalar width name init ∷ locals) names h =
    All-cons IsBareSlot (slot_of (local.Scalar width name init)) (map slot_of locals)
    (record { name = All-head IsName name.text _ names; cells = (omega arith, omega arith) })
    (slots_bare site locals (All-tail IsName name.text _ names) (λ p there. h p (inr there)))
slots_bare site (local.Array width name cells ∷ locals) names h =
    All-cons IsBareSlot (slot_of (local.Array width name cells)) (map slot_of locals)
    (record { name = All-head IsName name.text _ names; cells = in_range site cells 1 256 (h (Ranges cells 1 256) (inl refl)) })
    (slots_bare site locals (All-tail IsName name.text _ names) (λ p there. h p (inr there)))

module _ (raw : Raw) (none : NoFault raw) (few : NonePasses raw.items) (names : AreNames raw) where
  named : (k : ℕ) (i : Item) → slice_get raw.items k ≡ Some i → IsName (item_name i).text
  named k i own = All-head IsName (item_name i).text _ (All-flat_map IsName names_in raw.items k i names own)

  agents_count : length (unit_of raw).agents ≡ counting is_agent raw.items
  agents_count = length-each is_agent (agents raw.items) (gives_agents raw.items) 0 raw.items

  agent_number : (k : ℕ) (i : Item) (name : Name) → slice_get raw.items k ≡ Some i → Among (Uses name asks.Agent) (head_places i) → global_number is_agent raw.items name < length (unit_of raw).agents
  agent_number k i name own there =
      omega (arith, agents_count, global_below is_agent asks.Agent refl asks_agent raw.items k name (slice_get_within raw.items k i own) (fine_head raw none k i (Uses name asks.Agent) own there))

  clock_number : (k : ℕ) (i : Item) (name : Name) → slice_get raw.items k ≡ Some i → Among (Uses name asks.Clock) (head_places i) → global_number is_clock raw.items name < length (unit_of raw).clocks
  clock_number k i name own there =
      omega (arith, clocks_count raw none, global_below is_clock asks.Clock refl asks_clock raw.items k name (slice_get_within raw.items k i own) (fine_head raw none k i (Uses name asks.Clock) own there))

  number : (k : ℕ) (i : Item) (n : Lit) (low high : ℕ) → slice_get raw.items k ≡ Some i → Among (Ranges n low high) (head_places i) → Within low high n.value
  number k i n low high own there = in_range (head_at raw.items k) n low high (fine_head raw none k i (Ranges n low high) own there)

  clock_name : (k : ℕ) (i : Item) → slice_get raw.items k ≡ Some i → All IsName (clock_names i)
  clock_name k (item.Clock name by parent shift) own = one IsName name.text (named k (item.Clock name by parent shift) own)
  clock_name k _ own = All-nil IsName

  variable : (k : ℕ) (i : Item) → slice_get raw.items k ≡ Some i → All (IsBareVariable (unit_of raw)) (variables raw.items i)
  variable k (item.Temporal name owner clock init depth) own =
      let i : Item = item.Temporal name owner clock init depth in
      one (IsBareVariable (unit_of raw)) _ (record {
        name = named k i own;
        owner = agent_number k i owner own (inr (inl refl));
        clock = clock_number k i clock own (inr (inr (inl refl)));
        depth = number k i depth 1 1024 own (inr (inr (inr (inl refl))));
      })
  variable k (item.Input name clock init depth) own =
      let i : Item = item.Input name clock init depth in
      one (IsBareVariable (unit_of raw)) _ (record {
        name = named k i own;
        owner = tt;
        clock = clock_number k i clock own (inr (inl refl));
        depth = number k i depth 1 1024 own (inr (inr (inl refl)));
      })
  variable k _ own = All-nil (IsBareVariable (unit_of raw))

  stream : (k : ℕ) (i : Item) → slice_get raw.items k ≡ Some i → All (IsBareStream (unit_of raw)) (streams raw.items i)
  stream k (item.Stream name receiver keep clock) own =
      let i : Item = item.Stream name receiver keep clock in
      one (IsBareStream (unit_of raw)) _ (record {
        name = named k i own;
        receiver = agent_number k i receiver own (inr (inl refl));
        clock = clock_number k i clock own (inr (inr (inr (inl refl))));
        keep = number k i keep 1 1024 own (inr (inr (inl refl)));
      })
  stream k _ own = All-nil (IsBareStream (unit_of raw))

  function : (k : ℕ) (i : Item) → slice_get raw.items k ≡ Some i → All IsBareFunction (functions raw.items k i)
  function k (item.Function name params locals stmts) own =
      let i : Item = item.Function name params locals stmts in
      one IsBareFunction _ (record {
        name = named k i own;
        slots = omega (
          arith,
          names_of raw.items few k i own,
          length-append (map scalar params) (map local_slot locals),
          length-map params scalar,
          length-map locals local_slot,
          length-map locals local_of,
        );
      })
  function k _ own = All-nil IsBareFunction

  point : (k : ℕ) (i : Option Item) → slice_get raw.items k ≡ i → Within 1 1000000 (agent_budget i) → (count : Lit) (clock : Name) (budget : Option Lit) →
      Fine (inside_of raw.items k) (Ranges count 1 1024) → Fine (inside_of raw.items k) (Uses clock asks.Clock) → AllFine (inside_of raw.items k) (budget_places budget) → IsBarePoint (unit_of raw) (point_of (inside_of raw.items k) count clock budget)
  point k i own its count clock budget counted reached h = record {
    count = in_range (inside_of raw.items k) count 1 1024 counted;
    clock = omega (arith, clocks_count raw none, number_below is_clock asks.Clock refl asks_clock (inside_of raw.items k) clock reached);
    budget = by budget h;
  }
    where
      by : (b : Option Lit) → AllFine (inside_of raw.items k) (budget_places b) → Within 1 1000000 (budget_of (inside_of raw.items k) b)
      by None h = subst (λ o. Within 1 1000000 (agent_budget o)) (sym own) its
      by (Some b) h = in_range (inside_of raw.items k) b 1 1000000 (h (Ranges b 1 1000000) (inl refl))

  processor_number : (k : ℕ) (i : Item) (processor : Option Lit) → slice_get raw.items k ≡ Some i → ((p : Place) → Among p (processor_places processor) → Among p (head_places i)) → named_processor processor < PROCESSORS
  processor_number k i None own there = omega arith
  processor_number k i (Some n) own there = omega (arith, (number k i n 0 (PROCESSORS - 1) own (there (Ranges n 0 (PROCESSORS - 1)) (inl refl))).1)

  agent : (k : ℕ) (i : Item) → slice_get raw.items k ≡ Some i → All (IsBareAgent (unit_of raw)) (agents raw.items k i)
  agent k (item.Agent name clock processor budget locals body stmts) own =
      let i : Item = item.Agent name clock processor budget locals body stmts in
      let site : Site = inside_of raw.items k in
      let head : Point = head_point (global_number is_clock raw.items clock) budget.value in
      let its : Within 1 1000000 budget.value = number k i budget 1 1000000 own (inr (inr (among_right (Ranges budget 1 1000000) (processor_places processor) (Ranges budget 1 1000000 ∷ []) (inl refl)))) in
      let behind : List Place = stmts_places stmts ++ HasBody body (quiet_list stmts) ∷ [] in
      let inside : AllFine site (map local_place locals ++ behind) = λ p there. fine_inside raw none k i p own (among_right p (slot_places 0 (slots_of i)) (map local_place locals ++ behind) there) in
      let fines : AllFine site (stmts_places stmts) = λ p there. inside p (among_right p (map local_place locals) behind (among_left p (stmts_places stmts) (HasBody body (quiet_list stmts) ∷ []) there)) in
      let acts : Adds (IsBarePoint (unit_of raw)) (head ∷ []) (stmts_of site stmts (head ∷ [])).1 = stmts_add site (IsBarePoint (unit_of raw)) (point k (Some i) own its) stmts fines (head ∷ []) in
      let a : AgentDecl = agent_with raw.items name clock processor budget locals (stmts_of site stmts (head ∷ [])) in
      one (IsBareAgent (unit_of raw)) a (record {
        name = named k i own;
        clock = clock_number k i clock own (inr (inl refl));
        processor = processor_number k i processor own (λ p there. inr (inr (among_left p (processor_places processor) (Ranges budget 1 1000000 ∷ []) there)));
        budget = its;
        slots = slots_bare site locals (All-tail IsName name.text _ (All-flat_map IsName names_in raw.items k i names own)) (λ p there. inside p (among_left p (map local_place locals) behind there));
        names = omega (arith, names_of raw.items few k i own, length-map locals local_slot, length-map locals slot_of);
        points = subst (λ ps. HasHead a ps (IsBarePoint (unit_of raw))) (sym acts.1) (refl, acts.2);
        limit = omega (arith, points_of site stmts (head ∷ []), points_within raw.items few k i own);
      })
  agent k _ own = All-nil (IsBareAgent (unit_of raw))

  bare : IsBare (unit_of raw)
  bare =
      let clock_names_count : length (unit_of raw).clock_names ≡ counting is_clock raw.items = ap length (flat_map-each clock_names 0 raw.items) ∙ length-each is_clock (λ k. clock_names) gives_clock_names 0 raw.items in
      let variables_count : length (unit_of raw).variables ≡ counting is_variable raw.items = ap length (flat_map-each (variables raw.items) 0 raw.items) ∙ length-each is_variable (λ k. variables raw.items) (gives_variables raw.items) 0 raw.items in
      let streams_count : length (unit_of raw).streams ≡ counting is_stream raw.items = ap length (flat_map-each (streams raw.items) 0 raw.items) ∙ length-each is_stream (λ k. streams raw.items) (gives_streams raw.items) 0 raw.items in
      record {
        quantum = in_range (head_at raw.items 0) raw.quantum 1 1000000 (fine_quantum raw none);
        clocks = clocks_are raw;
        clock_names = subst (All IsName) (sym (flat_map-each clock_names 0 raw.items)) (all_items IsName (λ k. clock_names) raw.items clock_name);
        clocks_named = clock_names_count ∙ sym (clocks_count raw none);
        clock_limit = omega (arith, few_clocks raw.items few, clocks_count raw none);
        variables = subst (All (IsBareVariable (unit_of raw))) (sym (flat_map-each (variables raw.items) 0 raw.items)) (all_items (IsBareVariable (unit_of raw)) (λ k. variables raw.items) raw.items variable);
        variable_limit = omega (arith, few_variables raw.items few, variables_count);
        streams = subst (All (IsBareStream (unit_of raw))) (sym (flat_map-each (streams raw.items) 0 raw.items)) (all_items (IsBareStream (unit_of raw)) (λ k. streams raw.items) raw.items stream);
        stream_limit = omega (arith, few_streams raw.items few, streams_count);
        functions = all_items IsBareFunction (functions raw.items) raw.items function;
        function_limit = omega (arith, few_functions raw.items few, length-each is_function (functions raw.items) (gives_functions raw.items) 0 raw.items);
        agents = all_items (IsBareAgent (unit_of raw)) (agents raw.items) raw.items agent;
        agent_limit = omega (arith, few_agents raw.items few, agents_count);
        names = names_differ raw none;
      }

pub bare_unit : (raw : Raw) (unit : Whole) → Stands unit raw → AreNames raw → IsBare unit
bare_unit raw unit stands names = subst IsBare (sym stands.numbered) (bare raw stands.no_fault stands.within_limits names)
