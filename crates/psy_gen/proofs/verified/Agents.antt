-- The code of a unit's agents keeps all rules.
use Rattle.std.proofs.Common.{◌≡◌, ℕ, zero, suc, ◌+◌, ◌≤◌, List, [], ◌∷◌, ◌++◌, map, length, Option, Some, None, refl, sym, ap, subst, ◌∙◌, inl, inr, arith, length-append}
use Rattle.std.specs.Prelude.{◌-◌, ◌==◌, true, ℤ, replicate, slice_get, slice_index_or}
use Rattle.std.specs.List.{flat_map, range_with_len}
use Rattle.std.proofs.lemmas.Bool.{cases_Bool}
use Rattle.std.proofs.lemmas.List.{length-map, length-replicate}
use Rattle.std.proofs.lemmas.Option.{get_or_from_slice_get}
use Rattle.psy_code.specs.declared.code.AgentCode.{AgentCode}
use Rattle.psy_code.specs.declared.code.Code.{Code}
use Rattle.psy_code.specs.declared.instr.Instr.TheVariants as instr
use Rattle.psy_code.specs.Execution.{Copy}
use Rattle.psy_tree.specs.declared.unit.AgentDecl.{AgentDecl}
use Rattle.psy_tree.specs.declared.unit.Slots.{Slots}
use Rattle.psy_tree.specs.declared.unit.StreamDecl.{StreamDecl}
use Rattle.psy_tree.specs.declared.unit.Unit.{Unit as Whole}
use Rattle.psy_tree.specs.declared.unit.VarDecl.{VarDecl}
use Rattle.psy_tree.specs.Paths.{total}
use Rattle.psy_meaning.specs.Alike.{owned_copy, owned_from}
use Rattle.psy_meaning.specs.CodeWays.{agent_code_at}
use Rattle.psy_meaning.specs.Depths.{call_depths, loops_in, shallow}
use Rattle.psy_meaning.specs.Paths.{advances_in}
use Rattle.psy_meaning.specs.Sizes.{stmts_size}
use Rattle.psy_meaning.specs.Sound.{HasCopy, HasFunction, HasPast, HasStream, IsSoundAgent, IsSoundUnit, Scope, agent_scope}
use Rattle.psy_flow.specs.Owners.{Agent, Function}
use Rattle.psy_flow.specs.Verified.{HasEnd, Hears, Owns, Reaches}
use Rattle.psy_gen.specs.Emission.{agent_code, agent_entries, agent_entry, agent_layout, agent_size, code_of, function_entry, function_size, functions_size, places_in, stmts_code}
use Rattle.psy_gen.proofs.Basics.{no_some, some_is}
use Rattle.psy_gen.proofs.Contexts.{HasAt, has-first}
use Rattle.psy_gen.proofs.Equations.{placed}
use Rattle.psy_gen.proofs.Wholes.{agent_length}
use Rattle.psy_gen.proofs.ways.Behinds.{stmts_behind}
use Rattle.psy_gen.proofs.verified.Functions.{agents_stand, entry_at}
use Rattle.psy_gen.proofs.verified.Marking.{height_at, height_next, mark_for, marks_of, owners_from, owners_of}
use Rattle.psy_gen.proofs.verified.Own.{Called, Own}
use Rattle.psy_gen.proofs.verified.Stmts.{Does, Led, Pairs, body_does, looped}
use Rattle.psy_gen.proofs.verified.Stretches.{code_at, from_at, got_behind, owner_at, owners_length, start_low, start_of}

-- ---- what machines are made from

pub agent_entry_at : (unit : Whole) (agents : List AgentDecl) (first p n : ℕ) (agent : AgentDecl) → slice_get agents n ≡ Some agent
    → slice_get (agent_entries unit first agents p) n ≡ Some (agent_entry unit (first + n) agent (start_of agent_size p agents n))
agent_entry_at unit [] first p n agent got = no_some agent got
agent_entry_at unit (a ∷ agents) first p zero agent got =
    let z : first ≡ first + 0 = omega arith in
    ap (λ n. Some (agent_entry unit n a p)) z ∙ ap (λ b. Some (agent_entry unit (first + 0) b p)) (some_is a agent got)
agent_entry_at unit (a ∷ agents) first p (suc n) agent got =
    let next : first + 1 + n ≡ first + suc n = omega arith in
    agent_entry_at unit agents (first + 1) (p + agent_size a) n agent got
    ∙ ap (λ m. Some (agent_entry unit m agent (start_of agent_size (p + agent_size a) agents n))) next

pub cells_count : (slots : List Slots) → length (flat_map (λ (cells : List ℤ). cells) (map (λ (s : Slots). replicate s.cells s.init) slots))
    ≡ total (map (λ (s : Slots). s.cells) slots)
cells_count [] = refl
cells_count (s ∷ slots) =
    let rest = flat_map (λ (cells : List ℤ). cells) (map (λ (s : Slots). replicate s.cells s.init) slots) in
    length-append (replicate s.cells s.init) rest ∙ omega (arith, length-replicate {A = ℤ} s.cells s.init, cells_count slots)

-- ---- names

abbrev names_of : List Copy → List ℕ
names_of copies = map (λ c. c.variable) copies

-- A variable that an agent owns, among those counted from a number on
record Owned (agent number variable : ℕ) (vs : List VarDecl) : Type 0 where
  index : ℕ
  decl : VarDecl
  at : slice_get vs index ≡ Some decl
  is : variable ≡ number + index
  owner : decl.owner ≡ Some agent

module _ (agent number variable : ℕ) (v : VarDecl) (vs : List VarDecl) (rest : List Copy)
    (later : (place : ℕ) → slice_get (names_of rest) place ≡ Some variable → Owned agent number variable (v ∷ vs)) where
  first_owned : (place : ℕ) → v.owner ≡ Some agent → slice_get (number ∷ names_of rest) place ≡ Some variable → Owned agent number variable (v ∷ vs)
  first_owned zero owner got = record { index = 0; decl = v; at = refl; is = omega (arith, some_is number variable got); owner = owner }
  first_owned (suc place) owner got = later place got

  by_owner : (owner : Option ℕ) (place : ℕ) → v.owner ≡ owner → slice_get (names_of (owned_copy agent number v owner ++ rest)) place ≡ Some variable
      → Owned agent number variable (v ∷ vs)
  by_owner None place is got = later place got
  by_owner (Some owner) place is got = elim (cases_Bool (owner == agent)) [
    | inl t ↦ (
        let here : slice_get (number ∷ names_of rest) place ≡ Some variable = rw t at got in
        let same : owner ≡ agent = grind (arith, t) in
        first_owned place (is ∙ ap Some same) here
        )
    | inr t ↦ (let here : slice_get (names_of rest) place ≡ Some variable = rw t at got in later place here)
  ]

owned_later : (agent number variable : ℕ) (v : VarDecl) (vs : List VarDecl) → Owned agent (number + 1) variable vs → Owned agent number variable (v ∷ vs)
owned_later agent number variable v vs w = record { index = suc w.index; decl = w.decl; at = w.at; is = omega (arith, w.is); owner = w.owner }

owned_is : (agent number place variable : ℕ) (vs : List VarDecl) → slice_get (names_of (owned_from agent number vs)) place ≡ Some variable
    → Owned agent number variable vs
owned_is agent number place variable [] got = no_some variable got
owned_is agent number place variable (v ∷ vs) got =
    by_owner agent number variable v vs (owned_from agent (number + 1) vs)
    (λ next found. owned_later agent number variable v vs (owned_is agent (number + 1) next variable vs found)) v.owner place refl got

is_equal : (a b : ℕ) → (a == b) ≡ true → a ≡ b
is_equal a b t = grind (arith, t)

-- ---- points

-- What holds of each number with what stands there holds of the numbers beside it.
numbered_pairs : (P : ℕ → ℕ → Type 0) (xs ys : List ℕ) (first n : ℕ) → xs ≡ range_with_len first n
    → ((i y : ℕ) → slice_get ys i ≡ Some y → P (first + i) y) → Pairs P xs ys
numbered_pairs P xs ys first n is all = subst (λ l. Pairs P l ys) (sym is) (by first n ys all)
  where
    by : (first n : ℕ) (ys : List ℕ) → ((i y : ℕ) → slice_get ys i ≡ Some y → P (first + i) y) → Pairs P (range_with_len first n) ys
    by first zero ys all = tt {0}
    by first (suc n) [] all = tt {0}
    by first (suc n) (y ∷ ys) all =
        let z : first + 0 ≡ first = omega arith in
        let next : (i : ℕ) → first + suc i ≡ first + 1 + i = λ i. omega arith in
        (subst (λ k. P k y) z (all 0 y refl), by (first + 1) n ys (λ i x got. subst (λ k. P k x) (next i) (all (suc i) x got)))

-- ---- its code

module _ (unit : Whole) (sound : IsSoundUnit unit) (n : ℕ) (agent : AgentDecl) (got : slice_get unit.agents n ≡ Some agent) where
  abbrev code : Code
  code = code_of unit

  abbrev pub agent_start : ℕ
  agent_start = start_of agent_size (functions_size unit.functions) unit.agents n

  own : IsSoundAgent unit n agent
  own = sound.agents n agent got

  abbrev its : AgentCode
  its = agent_code_at code n

  pub its_is : its ≡ agent_entry unit n agent agent_start
  its_is =
      let z : 0 + n ≡ n = omega arith in
      get_or_from_slice_get code.agents n (agent_entry unit n agent agent_start) _
      (agent_entry_at unit unit.agents 0 (functions_size unit.functions) n agent got ∙ ap (λ m. Some (agent_entry unit m agent agent_start)) z)

  abbrev sc : Scope
  sc = agent_scope unit n agent

  pub copies : (variable : ℕ) → HasCopy sc variable → Owns unit (Agent n) variable
  copies variable (place, found) =
      let w = owned_is n 0 place variable unit.variables found in
      let same : w.index ≡ variable = omega (arith, w.is) in
      (w.decl, subst (λ i. slice_get unit.variables i ≡ Some w.decl) same w.at, w.owner)

  pub pasts : (variable back : ℕ) → HasPast sc variable back → Reaches unit variable back
  pasts variable back (depth, found, less) =
      let w = from_at (λ (v : VarDecl). v.depth) unit.variables variable depth found in
      (w.one, w.at, omega (arith, less, w.is))

  pub streams : (stream : ℕ) → HasStream sc stream → Hears unit (Agent n) stream
  streams stream found =
      let w = from_at (λ (s : StreamDecl). s.receiver == n) unit.streams stream true found in
      (w.one, w.at, is_equal w.one.receiver n w.is)

  pub calls : (k arguments : ℕ) → HasFunction sc k arguments
      → Called code (marks_of unit) (Agent n) (slice_index_or (call_depths unit.functions) k shallow) k arguments
  calls k arguments (decl, found, same) = record {
    its = function_entry decl (start_of function_size 0 unit.functions k);
    at = entry_at unit.functions 0 k decl found;
    params = sym same;
    ordered = tt {0};
    needs = refl;
    uses = refl;
  }

  pub its_owner : (place : ℕ) → agent_start ≤ place → place ≤ agent_start + stmts_size agent.stmts → slice_get (owners_of unit) place ≡ Some (Agent n)
  its_owner place above below =
      let these = owners_from function_size Function 0 unit.functions in
      let those = owners_from agent_size Agent 0 unit.agents in
      let base = functions_size unit.functions in
      let past : base ≤ place = omega (arith, start_low agent_size base unit.agents n, above) in
      let rest = place - base in
      let whole : base + rest ≡ place = omega (arith, past) in
      let z : 0 + n ≡ n = omega arith in
      got_behind these those place rest (omega (arith, whole, owners_length function_size Function unit.functions 0))
      ∙ owner_at agent_size Agent unit.agents 0 base n agent rest got (omega (arith, above, whole)) (omega (arith, below, whole))
      ∙ ap (λ m. Some (Agent m)) z

  -- A way from each of its places ends.
  abbrev pub Ends : Type 0
  Ends = (place : ℕ) → agent_start ≤ place → place ≤ agent_start + stmts_size agent.stmts → HasEnd code.instrs place

  abbrev pub agent_own : Ends → Own
  agent_own ends = record {
    unit = unit;
    code = code;
    marks = marks_of unit;
    owner = Agent n;
    low = agent_start;
    high = agent_start + stmts_size agent.stmts;
    height = height_at code;
    sc = sc;
    depths = call_depths unit.functions;
    count = loops_in agent.stmts;
    next = height_next code;
    marked = λ place above below. ap (mark_for code place) (its_owner place above below);
    ends = ends;
    copy = λ variable has. ((copies variable has, tt {0}), (copies variable has, tt {0}));
    past = λ variable back has. (pasts variable back has, tt {0});
    stream = λ stream has. ((streams stream has, tt {0}), (streams stream has, tt {0}));
    send = λ stream after clock can. (
      (omega (arith, can.target, length-map unit.streams (λ (s : StreamDecl). s.receiver == n)), can.by, can.delay),
      tt {0},
    );
    call = calls;
    cells = omega (arith, ap (λ (e : AgentCode). length e.cells) its_is, cells_count agent.slots);
    counters = omega (arith, ap (λ (e : AgentCode). e.counters) its_is);
  }

  abbrev places : List ℕ
  places = places_in (map placed agent.stmts) agent_start

  points_are : its.points ≡ agent_start ∷ places
  points_are = ap (λ (e : AgentCode). e.points) its_is

  leads : (ends : Ends) → Pairs (Led (agent_own ends)) (advances_in agent.stmts) places
  leads ends =
      numbered_pairs (Led (agent_own ends)) (advances_in agent.stmts) places 1 (length (advances_in agent.stmts)) own.numbered
      (λ i place found less q is. ((omega arith, next i q (found ∙ ap Some is)), tt {0}))
    where
      next : (i q : ℕ) → slice_get places i ≡ Some (q + 1) → slice_get its.points (1 + i) ≡ Some (q + 1)
      next i q found =
          let one : suc i ≡ 1 + i = omega arith in
          ap (λ l. slice_get l (1 + i)) points_are ∙ ap (slice_get (agent_start ∷ places)) (sym one) ∙ found

  pub agent_done : (ends : Ends) → height_at code agent_start ≡ 0 → Does (agent_own ends) agent_start (agent_start + stmts_size agent.stmts + 1) places
  agent_done ends is =
      let p = agent_start in
      let q = p + stmts_size agent.stmts in
      let end = instr.Jump p ∷ [] in
      let has : HasAt code.instrs p (stmts_code (agent_layout agent) agent.stmts 0 p ++ end) =
      code_at agent_size agent_code agent_length code.instrs (functions_size unit.functions) unit.agents n agent (agents_stand unit) got in
      let operands = ap (λ (e : AgentCode). e.stack) its_is in
      let cells = ap (λ (e : AgentCode). e.frames) its_is in
      looped (agent_own ends) p q places (stmts_behind code.instrs (agent_layout agent) agent.stmts 0 p end has).0 (omega arith) (omega arith) (omega arith) is
      (body_does (agent_own ends) agent.stmts p (omega arith) (omega arith)
      (has-first code.instrs p (stmts_code (agent_layout agent) agent.stmts 0 p) end has) is own.stmts
      (omega (arith, operands), omega (arith, cells)) (omega arith) (leads ends))

  -- The places where its actions begin
  pub its_points : (point place : ℕ) → slice_get its.points point ≡ Some place → slice_get (agent_start ∷ places) point ≡ Some place
  its_points point place found = ap (λ l. slice_get l point) (sym points_are) ∙ found
