-- What the lines so far say, with one more.
use Rattle.std.proofs.Common.{◌≡◌, ◌∙◌, refl, sym, ap, ap₂, subst, ℕ, suc, ◌+◌, ◌<◌, Bool, true, false, cond, not, ◌&&◌, ◌||◌, List, [], ◌∷◌, ◌++◌, length, map, get_or, Option, Some, None, eqb, ltb, lt-ltb, le-ltb, ltb-true, ltb-false, eqb-true, eq-eqb, arith}
use Rattle.std.specs.Str.{bytes_eq}
use Rattle.std.specs.Option.{option_map}
use Rattle.std.specs.List.{flat_map, list_all, list_any, position, position_or_len}
use Rattle.std.specs.Cmp.{both_ways}
use Rattle.std.proofs.lemmas.Bool.{and_parts}
use Rattle.std.proofs.lemmas.Grind.{flat_map-append}
use Rattle.std.proofs.lemmas.List.{length-map}
use Rattle.std.proofs.lemmas.List.Folds.{list_any-append}
use Rattle.std.proofs.lemmas.List.Quantifiers.{position-Some}
use Rattle.std.proofs.lemmas.Slice.Eq.{bytes_eq-Decides}
use Rattle.psy_lists.proofs.lemmas.Searches.{list_any-map}
use Rattle.psy_lists.proofs.lemmas.Tests.{or_false}
use Rattle.psy_tree.specs.declared.unit.AgentDecl.{AgentDecl}
use Rattle.psy_tree.specs.declared.unit.Unit.{Unit as Whole}
use Rattle.psy_history.specs.declared.told.Order.{Order}
use Rattle.psy_history.specs.declared.told.Round.{Round}
use Rattle.psy_history.specs.declared.told.Script.{Script}
use Rattle.psy_script.specs.declared.entry.Entry.{Entry}
use Rattle.psy_script.specs.declared.entry.Entry.TheVariants as entry
use Rattle.psy_script.specs.Entries.{clashes, entry_in, is_beside, place_in, with_entry}
use Rattle.psy_script.specs.Numbers.{all_some}
use Rattle.psy_script.specs.Rising.{put_all, rising}
use Rattle.psy_script.specs.Script.{Statement, Stalls, Orders, Rounds, agent_number, has_same, has_twice, is_agent, is_order_at, is_round_at, is_stall_at, names_agents, order_before, order_said, round_before, round_said, stall_before, stall_said, stands_again}
use Rattle.psy_script.proofs.Placing.{any_rising, rising-append}

-- ---- names and numbers

-- The names of the agents
abbrev pub agent_names : Whole → List (List ℕ)
agent_names unit = map (λ (a : AgentDecl). a.name) unit.agents

-- One more on both sides
less_suc : (r : Bool) (a n : ℕ) → ltb a n ≡ r → ltb (1 + a) (suc n) ≡ r
less_suc true a n e = lt-ltb (1 + a) (suc n) (omega (arith, ltb-true a n e))
less_suc false a n e = le-ltb (1 + a) (suc n) (omega (arith, ltb-false a n e))

-- The first place, by whether the first item passes
place_step : (b : Bool) (p n : ℕ) (rest : Bool) → ltb p n ≡ rest → ltb (cond (not b) (1 + p) 0) (suc n) ≡ (b || rest)
place_step true p n rest e = lt-ltb 0 (suc n) (omega arith)
place_step false p n rest e = less_suc rest p n e

-- There is a place where one of them passes.
place_below : {X : Type 0} (test : X → Bool) (xs : List X) → ltb (position_or_len test xs) (length xs) ≡ list_any test xs
place_below test [] = refl
place_below test (x ∷ xs) = place_step (test x) (position_or_len test xs) (length xs) (list_any test xs) (place_below test xs)

-- Tests that agree find the same.
pub any_same : {X : Type 0} (p q : X → Bool) → ((x : X) → p x ≡ q x) → (xs : List X) → list_any p xs ≡ list_any q xs
any_same p q same [] = refl
any_same p q same (x ∷ xs) = ap₂ (λ a b. a || b) (same x) (any_same p q same xs)

-- A test of what items are made into, many of each
any_flat : {X Y : Type 0} (test : Y → Bool) (f : X → List Y) (xs : List X) → list_any test (flat_map f xs) ≡ list_any (λ x. list_any test (f x)) xs
any_flat test f [] = refl
any_flat test f (x ∷ xs) = list_any-append test (f x) (flat_map f xs) ∙ ap (λ b. list_any test (f x) || b) (any_flat test f xs)

-- A name has a place where it is an agent's.
pub place_is : (unit : Whole) (name : List ℕ) → place_in (agent_names unit) name ≡ cond (is_agent unit name) (Some (agent_number unit name)) None
place_is unit name = ap (λ b. cond b (Some (agent_number unit name)) None) (place_below (bytes_eq name) (agent_names unit) ∙ list_any-map (bytes_eq name) (λ (a : AgentDecl). a.name) unit.agents)

-- The number of an agent is one of theirs.
pub number_below : (unit : Whole) (name : List ℕ) → is_agent unit name ≡ true → agent_number unit name < length unit.agents
number_below unit name is = subst (λ n. agent_number unit name < n) (length-map unit.agents (λ (a : AgentDecl). a.name))
    (ltb-true (agent_number unit name) (length (agent_names unit)) (place_below (bytes_eq name) (agent_names unit) ∙ list_any-map (bytes_eq name) (λ (a : AgentDecl). a.name) unit.agents ∙ is))

-- The name stands at the place that is found.
stands_there : (names : List (List ℕ)) (name : List ℕ) (place : ℕ) → position_or_len (bytes_eq name) names ≡ place → place < length names → name ≡ get_or names place []
stands_there names name place is below =
    let found : position (bytes_eq name) names ≡ Some place = subst (λ p. cond (ltb p (length names)) (Some p) None ≡ Some place) (sym is) (ap (λ b. cond b (Some place) None) (lt-ltb place (length names) below)) in
    (bytes_eq-Decides name (get_or names place [])).0 (position-Some (bytes_eq name) names place [] found).1

-- Two names have one number where they are one; the first is an agent's.
pub same_number : (unit : Whole) (name other : List ℕ) → is_agent unit name ≡ true → eqb (agent_number unit name) (agent_number unit other) ≡ bytes_eq name other
same_number unit name other is =
    let names = agent_names unit in
    let number = agent_number unit name in
    let below : number < length names = subst (λ n. number < n) (sym (length-map unit.agents (λ (a : AgentDecl). a.name))) (number_below unit name is) in
    both_ways (eqb number (agent_number unit other)) (bytes_eq name other)
    (λ e. (bytes_eq-Decides name other).1 (stands_there names name number refl below ∙ sym (stands_there names other number (sym (eqb-true number (agent_number unit other) e)) below)))
    (λ e. eq-eqb number (agent_number unit other) (ap (agent_number unit) ((bytes_eq-Decides name other).0 e)))

-- What is made of a choice
option_cond : {X Y : Type 0} (f : X → Y) (b : Bool) (x : X) → option_map f (cond b (Some x) None) ≡ cond b (Some (f x)) None
option_cond f true x = refl
option_cond f false x = refl

-- One more that may be there
all_some_step : (b r : Bool) (n : ℕ) (ns : List ℕ) (o : Option ℕ) (rest : List (Option ℕ)) → o ≡ cond b (Some n) None → all_some rest ≡ cond r (Some ns) None → all_some (o ∷ rest) ≡ cond (b && r) (Some (n ∷ ns)) None
all_some_step true r n ns o rest e es = ap (λ p. all_some (p ∷ rest)) e ∙ ap (option_map (λ xs. n ∷ xs)) es ∙ option_cond (λ xs. n ∷ xs) r ns
all_some_step false r n ns o rest e es = ap (λ p. all_some (p ∷ rest)) e

-- Names have places where each is an agent's.
places_are : (unit : Whole) (names : List (List ℕ)) → all_some (map (place_in (agent_names unit)) names) ≡ cond (list_all (is_agent unit) names) (Some (map (agent_number unit) names)) None
places_are unit [] = refl
places_are unit (name ∷ names) =
    all_some_step (is_agent unit name) (list_all (is_agent unit) names) (agent_number unit name) (map (agent_number unit) names) (place_in (agent_names unit) name) (map (place_in (agent_names unit)) names) (place_is unit name) (places_are unit names)

-- ---- statements

-- What is said, with agents by their numbers
abbrev pub numbered : Whole → Statement → Entry
numbered unit (Stalls agent action instr cycles) = entry.Stall (record { agent = agent_number unit agent; action = action; instr = instr; cycles = cycles })
numbered unit (Orders cycle agents) = entry.Order (record { cycle = cycle; agents = map (agent_number unit) agents })
numbered unit (Rounds cycle processors) = entry.Round cycle processors

-- It is found where each name is an agent's.
pub entry_is : (unit : Whole) (st : Statement) → entry_in (agent_names unit) st ≡ cond (names_agents unit st) (Some (numbered unit st)) None
entry_is unit (Stalls agent action instr cycles) =
    let stall = λ (n : ℕ). entry.Stall (record { agent = n; action = action; instr = instr; cycles = cycles }) in
    ap (option_map stall) (place_is unit agent) ∙ option_cond stall (is_agent unit agent) (agent_number unit agent)
entry_is unit (Orders cycle agents) =
    let order = λ (ns : List ℕ). entry.Order (record { cycle = cycle; agents = ns }) in
    ap (option_map order) (places_are unit agents) ∙ option_cond order (list_all (is_agent unit) agents) (map (agent_number unit) agents)
entry_is unit (Rounds cycle processors) = refl

-- The script of what was said
abbrev pub script_said : Whole → List Statement → Script
script_said unit said = record {
  stalls = rising stall_before (flat_map (stall_said unit) said);
  orders = rising order_before (flat_map (order_said unit) said);
  rounds = rising round_before (flat_map round_said said);
}

-- What one more statement says is put among what was said.
put_said : {Y : Type 0} (before : Y → Y → Bool) (says : Statement → List Y) (said : List Statement) (st : Statement)
    → put_all before (flat_map says (st ∷ [])) (rising before (flat_map says said)) ≡ rising before (flat_map says (said ++ st ∷ []))
put_said before says said st = sym (ap (rising before) (flat_map-append says said (st ∷ [])) ∙ rising-append before (flat_map says said) (flat_map says (st ∷ [])))

-- So with all of it the script has one entry more,
with_said : (unit : Whole) (said : List Statement) (st : Statement) → record {
  stalls = put_all stall_before (flat_map (stall_said unit) (st ∷ [])) (rising stall_before (flat_map (stall_said unit) said));
  orders = put_all order_before (flat_map (order_said unit) (st ∷ [])) (rising order_before (flat_map (order_said unit) said));
  rounds = put_all round_before (flat_map round_said (st ∷ [])) (rising round_before (flat_map round_said said));
} ≡ script_said unit (said ++ st ∷ [])
with_said unit said st = λ i. record {
  stalls = put_said stall_before (stall_said unit) said st i;
  orders = put_said order_before (order_said unit) said st i;
  rounds = put_said round_before round_said said st i;
}

-- Which is that of the statement.
pub said_more : (unit : Whole) (said : List Statement) (st : Statement) → with_entry (script_said unit said) (numbered unit st) ≡ script_said unit (said ++ st ∷ [])
said_more unit said (Stalls agent action instr cycles) = with_said unit said (Stalls agent action instr cycles)
said_more unit said (Orders cycle agents) = with_said unit said (Orders cycle agents)
said_more unit said (Rounds cycle processors) = with_said unit said (Rounds cycle processors)

-- By number and by name the same stalls stand before an instruction,
stall_at_number : (unit : Whole) (agent : List ℕ) (action instr cycles : ℕ) → is_agent unit agent ≡ true → (st : Statement)
    → list_any (is_beside (record { agent = agent_number unit agent; action = action; instr = instr; cycles = cycles })) (stall_said unit st) ≡ is_stall_at agent action instr st
stall_at_number unit agent action instr cycles is (Stalls a n i c) = or_false (eqb (agent_number unit agent) (agent_number unit a) && (eqb action n && eqb instr i)) ∙ ap (λ b. b && (eqb action n && eqb instr i)) (same_number unit agent a is)
stall_at_number unit agent action instr cycles is (Orders c agents) = refl
stall_at_number unit agent action instr cycles is (Rounds c processors) = refl

-- And the same orders begin at a cycle,
order_at_cycle : (unit : Whole) (cycle : ℕ) (st : Statement) → list_any (λ (o : Order). eqb cycle o.cycle) (order_said unit st) ≡ is_order_at cycle st
order_at_cycle unit cycle (Stalls a n i c) = refl
order_at_cycle unit cycle (Orders c agents) = or_false (eqb cycle c)
order_at_cycle unit cycle (Rounds c processors) = refl

-- And the same rounds.
round_at_cycle : (cycle : ℕ) (st : Statement) → list_any (λ (r : Round). eqb cycle r.cycle) (round_said st) ≡ is_round_at cycle st
round_at_cycle cycle (Stalls a n i c) = refl
round_at_cycle cycle (Orders c agents) = refl
round_at_cycle cycle (Rounds c processors) = or_false (eqb cycle c)

-- A number repeats where a name stands twice; the names are agents'.
pub repeats_are : (unit : Whole) (names : List (List ℕ)) → list_all (is_agent unit) names ≡ true → has_same (map (agent_number unit) names) ≡ has_twice names
repeats_are unit [] are = refl
repeats_are unit (name ∷ names) are =
    ap₂ (λ a b. a || b)
    (list_any-map (λ m. eqb (agent_number unit name) m) (agent_number unit) names ∙ any_same (λ other. eqb (agent_number unit name) (agent_number unit other)) (bytes_eq name) (λ other. same_number unit name other (and_parts (is_agent unit name) (list_all (is_agent unit) names) are).0) names)
    (repeats_are unit names (and_parts (is_agent unit name) (list_all (is_agent unit) names) are).1)

-- One stands among what was said, put in its order, where a statement says it.
any_said : {Y : Type 0} (test : Y → Bool) (before : Y → Y → Bool) (says : Statement → List Y) (is : Statement → Bool) → ((st : Statement) → list_any test (says st) ≡ is st)
    → (said : List Statement) → list_any test (rising before (flat_map says said)) ≡ list_any is said
any_said test before says is same said = any_rising test before (flat_map says said) ∙ any_flat test says said ∙ any_same (λ st. list_any test (says st)) is same said

-- An entry clashes where its statement stands again.
pub clashes_are : (unit : Whole) (said : List Statement) (st : Statement) → names_agents unit st ≡ true → clashes (script_said unit said) (numbered unit st) ≡ stands_again said st
clashes_are unit said (Stalls agent action instr cycles) are =
    any_said (is_beside (record { agent = agent_number unit agent; action = action; instr = instr; cycles = cycles })) stall_before (stall_said unit) (is_stall_at agent action instr)
    (stall_at_number unit agent action instr cycles are) said
clashes_are unit said (Orders cycle agents) are =
    ap₂ (λ a b. a || b) (any_said (λ (o : Order). eqb cycle o.cycle) order_before (order_said unit) (is_order_at cycle) (order_at_cycle unit cycle) said) (repeats_are unit agents are)
clashes_are unit said (Rounds cycle processors) are =
    ap (λ a. a || has_same processors) (any_said (λ (r : Round). eqb cycle r.cycle) round_before round_said (is_round_at cycle) (round_at_cycle cycle) said)
