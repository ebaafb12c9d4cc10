-- A program and the code that the compiler makes of it keep the ranges of an image.
use Rattle.std.proofs.Common.{◌≡◌, ◌∙◌, ◌↔◌, ◌⊎◌, ℕ, zero, suc, ◌+◌, ◌*◌, ◌<◌, ◌≤◌, true, List, [], ◌∷◌, ◌++◌, map, length, append_assoc, Some, refl, sym, ap, subst, inl, inr, arith}
use Rattle.std.specs.Prelude.{FitsSigned, slice_get}
use Rattle.std.specs.Int.{w32}
use Rattle.std.proofs.lemmas.List.{length-append}
use Rattle.std.proofs.lemmas.Option.{none-some, same_Some, slice_get_within}
use Rattle.psy_base.specs.declared.limits.TheConstants.{FILE_BYTES}
use Rattle.psy_code.specs.declared.code.AgentCode.{AgentCode}
use Rattle.psy_gen.specs.Emission.{agent_code, agent_entry, agent_size, code_of, codes_from, function_code, function_size, functions_size}
use Rattle.psy_image.specs.Answers.{KeepRanges}
use Rattle.psy_image.specs.Names.{is_name}
use Rattle.psy_lists.proofs.lemmas.Places.{in_front}
use Rattle.psy_meaning.proofs.lemmas.Eaches.{each-append}
use Rattle.psy_meaning.specs.Alike.{ActsAlike}
use Rattle.psy_meaning.specs.Depths.{loops_in}
use Rattle.psy_meaning.specs.Sizes.{unit_size}
use Rattle.psy_meaning.specs.Sound.{Each, IsSoundUnit}
use Rattle.psy_meaning.specs.Units.{AllDiffer, IsBareAgent, IsBareFunction, IsBareSlot, IsOfText, global_names}
use Rattle.psy_tree.proofs.lemmas.Lists.{slice_get-behind, slice_get-either}
use Rattle.psy_tree.specs.declared.token.Kind.TheVariants as kinds
use Rattle.psy_tree.specs.declared.unit.AgentDecl.{AgentDecl}
use Rattle.psy_tree.specs.declared.unit.FunctionDecl.{FunctionDecl}
use Rattle.psy_tree.specs.declared.unit.StreamDecl.{StreamDecl}
use Rattle.psy_tree.specs.declared.unit.Unit.{Unit as Whole}
use Rattle.psy_tree.specs.declared.unit.VarDecl.{VarDecl}
use Rattle.psy_tree.specs.Lexemes.{IsSpelling}
use Rattle.psy_build.proofs.Deepest.{agent_below}
use Rattle.psy_build.proofs.FirstValues.{HaveValues, SlotFits}
use Rattle.psy_build.proofs.Fit.{Fit, Small}
use Rattle.psy_build.proofs.Lists.{each_of, pairs, sides}
use Rattle.psy_build.proofs.Narrow.{AreNarrow, narrow_stmts}
use Rattle.psy_build.proofs.SpelledAgents.{IsFitAgent}
use Rattle.psy_build.proofs.SpelledImage.{HasRanges, keep_ranges, names_of}
use Rattle.psy_build.proofs.TextNames.{AreNamed, IsNamed}
use Rattle.psy_build.proofs.UnitCode.{Asked, IsEntry, agent_fit, agent_small, agents_count, agents_fit, cells_count, cells_few, cells_fit, copies_few, copies_fit, crew_count, entries_count, entries_fit, entry_at, functions_count, functions_fit, owned_is}

-- ---- lists

each_into : {X : Type 0} (P Q : X → Type 0) (xs : List X) → ((x : X) → P x → Q x) → Each P xs → Each Q xs
each_into P Q [] more h = tt
each_into P Q (x ∷ xs) more h = (more x h.0, each_into P Q xs more h.1)

each_number : {X : Type 0} (P : X → Type 0) (xs : List X) (i : ℕ) (x : X) → Each P xs → slice_get xs i ≡ Some x → P x
each_number P [] i x h e = absurd (none-some x e)
each_number P (y ∷ xs) zero x h e = subst P (same_Some y x e) h.0
each_number P (y ∷ xs) (suc i) x h e = each_number P xs i x h.1 e

-- ---- names

-- Where a name stands, once those of functions are in the list too
abbrev Whither : (front middle back : List (List ℕ)) → ℕ → List ℕ → Type 0
Whither front middle back i name = (j : ℕ) × (slice_get (front ++ (middle ++ back)) j ≡ Some name) × (((j ≡ i) × (i < length front)) ⊎ ((j ≡ i + length middle) × (length front ≤ i)))

moved : (front middle back : List (List ℕ)) (i : ℕ) (name : List ℕ) → slice_get (front ++ back) i ≡ Some name → Whither front middle back i name
moved front middle back i name at = elim (slice_get-either front back i name at) [
  | inl there ↦ (i, in_front front (middle ++ back) i name there, inl (refl, slice_get_within front i name there))
  | inr behind ↦ (
    length front + (length middle + behind.0),
    slice_get-behind front (middle ++ back) (length middle + behind.0) ∙ slice_get-behind middle back behind.0 ∙ behind.2,
    inr (omega (arith, behind.1), omega (arith, behind.1)),
  )
]

differ_without : (front middle back : List (List ℕ)) → AllDiffer (front ++ (middle ++ back)) → AllDiffer (front ++ back)
differ_without front middle back differ i j name at there =
    let first = moved front middle back i name at in
    let second = moved front middle back j name there in
    by i j first.0 second.0 (differ first.0 second.0 name first.1 second.1) first.2 second.2
  where
    by : (i j k l : ℕ) → k ≡ l → ((k ≡ i) × (i < length front)) ⊎ ((k ≡ i + length middle) × (length front ≤ i)) → ((l ≡ j) × (j < length front)) ⊎ ((l ≡ j + length middle) × (length front ≤ j)) → i ≡ j
    by i j k l same (inl a) (inl b) = omega (arith, same, a.0, b.0)
    by i j k l same (inl a) (inr b) = absurd (omega (arith, same, a.0, a.1, b.0, b.1))
    by i j k l same (inr a) (inl b) = absurd (omega (arith, same, a.0, a.1, b.0, b.1))
    by i j k l same (inr a) (inr b) = omega (arith, same, a.0, b.0)

names_differ : (unit : Whole) → AllDiffer (global_names unit) → AllDiffer (names_of unit)
names_differ unit differ =
    let cn : List (List ℕ) = unit.clock_names in
    let vn : List (List ℕ) = map (λ (v : VarDecl). v.name) unit.variables in
    let sn : List (List ℕ) = map (λ (c : StreamDecl). c.name) unit.streams in
    let fn : List (List ℕ) = map (λ (f : FunctionDecl). f.name) unit.functions in
    let an : List (List ℕ) = map (λ (a : AgentDecl). a.name) unit.agents in
    subst AllDiffer (apart cn vn sn an) (differ_without (cn ++ (vn ++ sn)) fn an (subst AllDiffer (sym (apart cn vn sn (fn ++ an))) differ))
  where
    apart : (a b c r : List (List ℕ)) → (a ++ (b ++ c)) ++ r ≡ a ++ (b ++ (c ++ r))
    apart a b c r = append_assoc a (b ++ c) r ∙ ap (λ l. a ++ l) (append_assoc b c r)

-- ---- what is known of a program

-- What a text gives beside its unit's declarations
pub record IsKnown (unit : Whole) : Type 0 where
  pub text : IsOfText unit
  pub sound : IsSoundUnit unit
  pub alike : ActsAlike unit (code_of unit)
  pub named : AreNamed unit
  pub narrow : AreNarrow unit
  pub values : HaveValues unit
  pub tokens : ℕ
  pub few : tokens ≤ FILE_BYTES
  pub size : unit_size unit ≤ 2 * tokens
  pub function_loops : Each (λ (f : FunctionDecl). 8 * loops_in f.stmts ≤ tokens) unit.functions
  pub agent_loops : Each (λ (a : AgentDecl). 8 * loops_in a.stmts ≤ tokens) unit.agents

module _ (unit : Whole) (known : IsKnown unit) where
  asked : (i : ℕ) (a : AgentDecl) → slice_get unit.agents i ≡ Some a → Asked unit (0 + i) a
  asked i a at =
      let bare = known.text.bare in
      let own : IsBareAgent unit a = each_number (IsBareAgent unit) unit.agents i a (each_of (IsBareAgent unit) unit.agents bare.agents) at in
      let same : i ≡ 0 + i = omega arith in
      subst (λ k. Asked unit k a) same (
        agent_small unit i a bare own (each_of (λ (v : VarDecl). FitsSigned w32 v.init) unit.variables known.sound.values),
        (known.sound.agents i a at).stmts,
        each_number (λ (b : AgentDecl). narrow_stmts b.stmts ≡ true) unit.agents i a known.narrow.agents at,
      )

  fit_entry : (number : ℕ) (a : AgentDecl) (c : AgentCode) (q : ℕ) → slice_get unit.agents number ≡ Some a → slice_get (code_of unit).agents number ≡ Some c → q + agent_size a ≤ unit_size unit → c ≡ agent_entry unit number a q → IsFitAgent unit number a c
  fit_entry number a c q at there below is =
      let bare = known.text.bare in
      let own : IsBareAgent unit a = each_number (IsBareAgent unit) unit.agents number a (each_of (IsBareAgent unit) unit.agents bare.agents) at in
      let same : 0 + number ≡ number = omega arith in
      let (small, sound, thin) = subst (λ k. Asked unit k a) same (asked number a at) in
      let depth = agent_below unit number a bare at in
      let loops = each_number (λ (b : AgentDecl). 8 * loops_in b.stmts ≤ known.tokens) unit.agents number a known.agent_loops at in
      let count : length (agent_entry unit number a q).points ≡ length a.points = ap (λ (x : AgentCode). length x.points) (sym is) ∙ (known.alike.each number a c at there).points in
      subst (IsFitAgent unit number a) (sym is) (record {
        points = count;
        places = (agent_fit unit number a q (unit_size unit) (omega (arith, known.size, known.few)) below small sound thin).1;
        cells = omega (arith, cells_count a.slots, cells_few a.slots (each_of IsBareSlot a.slots own.slots), own.names);
        values = cells_fit a.slots (each_number (λ (b : AgentDecl). Each SlotFits b.slots) unit.agents number a known.values.agents at);
        counters = omega (arith, loops, known.few);
        copies = owned_is number 0 unit.variables;
        inits = copies_fit unit number bare.variable_limit (each_of (λ (v : VarDecl). FitsSigned w32 v.init) unit.variables known.sound.values);
        few = omega (arith, copies_few unit number, bare.variable_limit);
        stack = omega (arith, depth.0, known.size, known.few);
        frames = omega (arith, depth.1, known.size, known.few);
      })

  fit_agent : (number : ℕ) (p : AgentDecl × AgentCode) → slice_get (pairs unit.agents (code_of unit).agents) number ≡ Some p → IsFitAgent unit number p.0 p.1
  fit_agent number p at =
      let (first, second) = sides unit.agents (code_of unit).agents number p at in
      let same : 0 + number ≡ number = omega arith in
      let (q, below, is) = subst (λ k. IsEntry unit (unit_size unit) k p.0 p.1) same (entry_at unit 0 unit.agents (functions_size unit.functions) (unit_size unit) number p.0 p.1 (omega arith) first second) in
      fit_entry number p.0 p.1 q first second below is

  has_ranges : ((text : List ℕ) → (is_name text ≡ true ↔ IsSpelling (kinds.Name text) text)) → HasRanges unit (code_of unit)
  has_ranges names =
      let bare = known.text.bare in
      let good : (name : List ℕ) → IsNamed name → is_name name ≡ true = λ name h. (names name).1 h in
      let room : Small (unit_size unit) = omega (arith, known.size, known.few) in
      let functions_bare : Each IsBareFunction unit.functions = each_of IsBareFunction unit.functions bare.functions in
      record {
        bare = bare;
        differ = names_differ unit bare.names;
        clock_names = each_into IsNamed (λ name. is_name name ≡ true) unit.clock_names good known.named.clocks;
        variable_names = each_into (λ (v : VarDecl). IsNamed v.name) (λ (v : VarDecl). is_name v.name ≡ true) unit.variables (λ v h. good v.name h) known.named.variables;
        stream_names = each_into (λ (c : StreamDecl). IsNamed c.name) (λ (c : StreamDecl). is_name c.name ≡ true) unit.streams (λ c h. good c.name h) known.named.streams;
        agent_names = each_into (λ (a : AgentDecl). IsNamed a.name) (λ (a : AgentDecl). is_name a.name ≡ true) unit.agents (λ a h. good a.name h) known.named.agents;
        inits = each_of (λ (v : VarDecl). FitsSigned w32 v.init) unit.variables known.sound.values;
        functions = entries_fit unit.functions 0 (unit_size unit) known.tokens room (omega arith) (omega (arith, known.few)) functions_bare known.values.functions known.function_loops;
        function_limit = omega (arith, entries_count unit.functions 0, bare.function_limit);
        all_agents = sym (agents_count unit 0 unit.agents (functions_size unit.functions));
        agents = fit_agent;
        instrs = each-append Fit (codes_from function_code function_size unit.functions 0) (codes_from agent_code agent_size unit.agents (functions_size unit.functions))
            (functions_fit [] unit.functions 0 (unit_size unit) room (omega arith) functions_bare (omega (arith, bare.function_limit)) known.sound.functions known.narrow.functions)
            (agents_fit unit 0 unit.agents (functions_size unit.functions) (unit_size unit) room (omega arith) asked);
        instr_limit = omega (
          arith,
          length-append (codes_from function_code function_size unit.functions 0) (codes_from agent_code agent_size unit.agents (functions_size unit.functions)),
          functions_count unit.functions 0,
          crew_count unit.agents (functions_size unit.functions),
          known.size,
          known.few,
        );
      }

  pub known_ranges : ((text : List ℕ) → (is_name text ≡ true ↔ IsSpelling (kinds.Name text) text)) → KeepRanges unit (code_of unit)
  known_ranges names = keep_ranges unit (code_of unit) (has_ranges names)
