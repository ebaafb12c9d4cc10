-- The home of an agent's name is the agent's own, since no two agents have one name.
use Rattle.std.proofs.Common.{◌≡◌, ℕ, zero, suc, true, false, Bool, cond, List, [], ◌∷◌, ◌++◌, map, Some, None, refl, ap, subst, ◌∙◌, arith}
use Rattle.std.specs.Prelude.{◌==◌, slice_get, option_map, bytes_eq}
use Rattle.std.specs.List.{flat_map, list_any}
use Rattle.std.proofs.lemmas.Bool.{cond-false, cond-true, false_from_ne_true, or_parts}
use Rattle.std.proofs.lemmas.List.Folds.{list_any_none}
use Rattle.std.proofs.lemmas.Option.{slice_get-get_or, slice_get-map}
use Rattle.std.proofs.lemmas.Slice.Eq.{bytes_eq-Decides}
use Rattle.psy_draw.specs.Homes.{Housed, home_at}
use Rattle.psy_match.specs.Homes.{home_of, homes_in, told}
use Rattle.psy_meaning.specs.Units.{AllDiffer, IsBare}
use Rattle.psy_tree.specs.declared.unit.AgentDecl.{AgentDecl}
use Rattle.psy_tree.specs.declared.unit.Unit.{Unit as Whole}
use Rattle.psy_tree.proofs.lemmas.Lists.{slice_get-behind}

-- The names of agents
abbrev names : List AgentDecl → List (List ℕ)
names agents = map (λ a. a.name) agents

-- They differ behind a front.
differ_behind : (xs ys : List (List ℕ)) → AllDiffer (xs ++ ys) → AllDiffer ys
differ_behind xs ys all i j name at_i at_j =
    let same = all _ _ name (slice_get-behind xs ys i ∙ at_i) (slice_get-behind xs ys j ∙ at_j) in
    omega (arith, same)

-- The names of a program's agents differ.
agents_differ : (unit : Whole) → IsBare unit → AllDiffer (names unit.agents)
agents_differ unit bare =
    differ_behind (map (λ f. f.name) unit.functions) _ (differ_behind (map (λ s. s.name) unit.streams) _
    (differ_behind (map (λ v. v.name) unit.variables) _ (differ_behind unit.clock_names _ bare.names)))

-- The name of an agent that isn't the first is another.
another : (first : AgentDecl) (agents : List AgentDecl) (n : ℕ) (a : AgentDecl) → AllDiffer (names (first ∷ agents)) → slice_get agents n ≡ Some a
    → bytes_eq first.name a.name ≡ false
another first agents n a differ at =
    false_from_ne_true _ (λ same.
    let named : slice_get (names agents) n ≡ Some a.name = slice_get-map (λ (d : AgentDecl). d.name) agents n ∙ ap (option_map (λ d. d.name)) at in
    let none : zero ≡ suc n = differ zero (suc n) a.name (ap Some ((bytes_eq-Decides first.name a.name).0 same)) named in
    absurd (omega (arith, none)))

-- So no later one has the first one's.
others : (first : AgentDecl) (agents : List AgentDecl) → AllDiffer (names (first ∷ agents)) → list_any (λ a. bytes_eq a.name first.name) agents ≡ false
others first agents differ =
    list_any_none (λ a. bytes_eq a.name first.name) agents (λ k d within.
    false_from_ne_true _ (λ same.
    let named = slice_get-map (λ (a : AgentDecl). a.name) agents k ∙ ap (option_map (λ a. a.name)) (slice_get-get_or agents k d within) in
    let none : zero ≡ suc k = differ zero (suc k) first.name refl (named ∙ ap Some ((bytes_eq-Decides _ first.name).0 same)) in
    absurd (omega (arith, none))))

-- A home of another name is passed over, where there is one.
passed : (b : Bool) (housed : Housed) (homes : List Housed) (name : List ℕ) → bytes_eq housed.agent name ≡ false
    → home_at (cond b [] (housed ∷ []) ++ homes) name ≡ home_at homes name
passed true housed homes name other = refl
passed false housed homes name other = cond-false _ _ _ other

-- A home of the name is found, where there is one.
found : (b : Bool) (housed : Housed) (homes : List Housed) (name : List ℕ) → bytes_eq housed.agent name ≡ true → home_at homes name ≡ None
    → home_at (cond b [] (housed ∷ []) ++ homes) name ≡ cond b None (Some housed.processor)
found true housed homes name same none = none
found false housed homes name same none = cond-true _ _ _ same

-- What an agent may tell
abbrev housed : AgentDecl → Housed
housed a = record { agent = a.name; processor = a.processor }

-- Of a name that no agent has no processor is told.
none_found : (agents : List AgentDecl) (name : List ℕ) → list_any (λ a. bytes_eq a.name name) agents ≡ false → home_at (flat_map home_of agents) name ≡ None
none_found [] name none = refl
none_found (a ∷ agents) name none =
    let parts = or_parts (bytes_eq a.name name) _ none in
    passed (a.processor == 0) (housed a) (flat_map home_of agents) name parts.0 ∙ none_found agents name parts.1

-- Of an agent's name its own is.
own : (agents : List AgentDecl) (n : ℕ) (a : AgentDecl) → AllDiffer (names agents) → slice_get agents n ≡ Some a
    → home_at (flat_map home_of agents) a.name ≡ told a.processor
own [] n a differ at = cc
own (first ∷ agents) zero a differ at =
    let is : first ≡ a = cc in
    subst (λ (c : AgentDecl). home_at (flat_map home_of (first ∷ agents)) c.name ≡ told c.processor) is
    (found (first.processor == 0) (housed first) (flat_map home_of agents) first.name ((bytes_eq-Decides first.name first.name).1 refl)
    (none_found agents first.name (others first agents differ)))
own (first ∷ agents) (suc n) a differ at =
    passed (first.processor == 0) (housed first) (flat_map home_of agents) a.name (another first agents n a differ at)
    ∙ own agents n a (λ i j name p q. let same = differ (suc i) (suc j) name p q in omega (arith, same)) at

pub own_home : (unit : Whole) (n : ℕ) (a : AgentDecl) → IsBare unit → slice_get unit.agents n ≡ Some a → home_at (homes_in unit) a.name ≡ told a.processor
own_home unit n a bare at = own unit.agents n a (agents_differ unit bare) at
