-- The agents and variables of a program are found by their names, no two of which are the same.
use Rattle.std.proofs.Common.{◌≡◌, ◌∙◌, refl, ap, subst, ℕ, suc, ◌+◌, ◌<◌, true, List, [], ◌∷◌, ◌++◌, length, map, get_or, Some, arith}
use Rattle.std.specs.Prelude.{bytes_eq, slice_get}
use Rattle.std.specs.List.{position_or_len}
use Rattle.std.proofs.lemmas.List.Sums.{position_or_len_is}
use Rattle.std.proofs.lemmas.Option.{slice_get-get_or}
use Rattle.std.proofs.lemmas.Slice.Eq.{bytes_eq-Decides}
use Rattle.psy_lists.proofs.lemmas.Places.{in_front, mapped}
use Rattle.psy_lists.proofs.lemmas.Tests.{not_true, differ}
use Rattle.psy_meaning.specs.Units.{AllDiffer, IsBare}
use Rattle.psy_tree.specs.declared.unit.AgentDecl.{AgentDecl}
use Rattle.psy_tree.specs.declared.unit.Unit.{Unit as Whole}
use Rattle.psy_tree.specs.declared.unit.VarDecl.{VarDecl}
use Rattle.psy_tree.specs.Parts.{agent_at, no_agent, no_variable, variable_at}
use Rattle.psy_audit.specs.Texts.{agent_named, variable_named}

-- ---- lists of names

behind : {X : Type 0} (xs ys : List X) (i : ℕ) (y : X) → slice_get ys i ≡ Some y → slice_get (xs ++ ys) (length xs + i) ≡ Some y
behind [] ys i y at = (let same : i ≡ 0 + i = omega arith in subst (λ k. slice_get ys k ≡ Some y) same at)
behind (x ∷ xs) ys i y at = (let same : suc (length xs + i) ≡ suc (length xs) + i = omega arith in subst (λ k. slice_get (x ∷ (xs ++ ys)) k ≡ Some y) same (behind xs ys i y at))

differ_front : (xs ys : List (List ℕ)) → AllDiffer (xs ++ ys) → AllDiffer xs
differ_front xs ys all i j name at also = all i j name (in_front xs ys i name at) (in_front xs ys j name also)

differ_behind : (xs ys : List (List ℕ)) → AllDiffer (xs ++ ys) → AllDiffer ys
differ_behind xs ys all i j name at also =
    let same = all (length xs + i) (length xs + j) name (behind xs ys i name at) (behind xs ys j name also) in
    omega (arith, same)

-- The item of a name is found where no other has it.
found_at : {X : Type 0} (name : X → List ℕ) (xs : List X) (i : ℕ) (d : X) → AllDiffer (map name xs) → i < length xs → position_or_len (λ x. bytes_eq (name (get_or xs i d)) (name x)) xs ≡ i
found_at name xs i d differ less =
    position_or_len_is (λ x. bytes_eq (name (get_or xs i d)) (name x)) xs i d (omega (arith, less))
    (λ k before. not_true (bytes_eq (name (get_or xs i d)) (name (get_or xs k d))) (λ (same : bytes_eq (name (get_or xs i d)) (name (get_or xs k d)) ≡ true).
    let is = (bytes_eq-Decides (name (get_or xs i d)) (name (get_or xs k d))).0 same in
    let at_k : slice_get (map name xs) k ≡ Some (name (get_or xs k d)) = mapped name xs k (get_or xs k d) (slice_get-get_or xs k d (omega (arith, before, less))) in
    let at_i : slice_get (map name xs) i ≡ Some (name (get_or xs i d)) = mapped name xs i (get_or xs i d) (slice_get-get_or xs i d less) in
    let one = differ k i (name (get_or xs k d)) at_k (at_i ∙ ap Some is) in
    omega (arith, one, before)))
    (λ there. (bytes_eq-Decides (name (get_or xs i d)) (name (get_or xs i d))).1 refl)

module _ (unit : Whole) (bare : IsBare unit) where
  abbrev variable_names : List (List ℕ)
  variable_names = map (λ (v : VarDecl). v.name) unit.variables

  abbrev agent_names : List (List ℕ)
  agent_names = map (λ (a : AgentDecl). a.name) unit.agents

  abbrev stream_names : List (List ℕ)
  stream_names = map (λ s. s.name) unit.streams

  abbrev function_names : List (List ℕ)
  function_names = map (λ f. f.name) unit.functions

  others_differ : AllDiffer (variable_names ++ (stream_names ++ (function_names ++ agent_names)))
  others_differ = differ_behind unit.clock_names (variable_names ++ (stream_names ++ (function_names ++ agent_names))) bare.names

  pub variable_again : (variable : ℕ) → variable < length unit.variables → variable_named unit (variable_at unit variable).name ≡ variable
  variable_again variable less = found_at (λ (v : VarDecl). v.name) unit.variables variable no_variable (differ_front variable_names (stream_names ++ (function_names ++ agent_names)) others_differ) less

  pub agent_again : (agent : ℕ) → agent < length unit.agents → agent_named unit (agent_at unit agent).name ≡ agent
  agent_again agent less =
      found_at (λ (a : AgentDecl). a.name) unit.agents agent no_agent
      (differ_behind function_names agent_names (differ_behind stream_names (function_names ++ agent_names) (differ_behind variable_names (stream_names ++ (function_names ++ agent_names)) others_differ))) less
