-- The number of an input, by its name.
use Rattle.std.proofs.Common.{◌≡◌, ℕ, Bool, true, false, List, map, length, get_or, Option, Some, None, refl, sym, ap, ◌∙◌, arith}
use Rattle.std.specs.Prelude.{◌&&◌, not, bytes_eq, is_none, is_some, slice_get, option_map}
use Rattle.std.specs.List.{position}
use Rattle.std.proofs.lemmas.Bool.{false≢true, false_from_ne_true, and_from, and_parts}
use Rattle.std.proofs.lemmas.List.Folds.{Any-from_list_any, list_any_at}
use Rattle.std.proofs.lemmas.List.{length-map}
use Rattle.std.proofs.lemmas.Option.{same_Some, slice_get-map, slice_get_read, slice_get_within, slice_get-get_or, get_or_from_slice_get}
use Rattle.std.proofs.lemmas.Slice.Eq.{bytes_eq-Decides}
use Rattle.psy_tree.specs.declared.unit.Unit.{Unit as Whole}
use Rattle.psy_tree.specs.declared.unit.VarDecl.{VarDecl}
use Rattle.psy_meaning.specs.Units.{IsBare}
use Rattle.psy_script.proofs.NamePlaces.{variables_differ}
use Rattle.psy_script.proofs.Positions.{position_found, none_found, position_only, position_never}

-- It is an input with this name.
abbrev pub is_named : List ℕ → VarDecl → Bool
is_named name v = is_none v.owner && bytes_eq name v.name

-- The names of variables
abbrev names_of : List VarDecl → List (List ℕ)
names_of variables = map (λ v. v.name) variables

named_at : (variables : List VarDecl) (i : ℕ) (v : VarDecl) → slice_get variables i ≡ Some v → slice_get (names_of variables) i ≡ Some v.name
named_at variables i v at = slice_get-map (λ (x : VarDecl). x.name) variables i ∙ ap (option_map (λ (x : VarDecl). x.name)) at

module _ (unit : Whole) (bare : IsBare unit) where
  -- Two variables with one name are one.
  pub same_variable : (i k : ℕ) (v w : VarDecl) → slice_get unit.variables i ≡ Some v → slice_get unit.variables k ≡ Some w → v.name ≡ w.name → i ≡ k
  same_variable i k v w at_i at_k same =
      variables_differ unit bare i k w.name (named_at unit.variables i v at_i ∙ ap Some same) (named_at unit.variables k w at_k)

  module _ (name : List ℕ) where
    decides : (v : VarDecl) → bytes_eq name v.name ≡ true → name ≡ v.name
    decides v = (bytes_eq-Decides name v.name).0

    -- Where none is an input with this name, no input is found.
    never : ((k : ℕ) (v : VarDecl) → slice_get unit.variables k ≡ Some v → is_none v.owner ≡ true → bytes_eq name v.name ≡ true → ⊥) → ◌≡◌ {A = Option ℕ} None (position (is_named name) unit.variables)
    never absent =
        sym (position_never (is_named name) unit.variables (false_from_ne_true _ (λ any.
        let one = Any-from_list_any (is_named name) unit.variables any in
        let parts = and_parts (is_none one.1.owner) (bytes_eq name one.1.name) one.4 in
        absent one.0 one.1 (slice_get_read unit.variables (length unit.variables) one.0 one.1 refl one.2 (sym one.3)) parts.0 parts.1)))

    -- No variable has the name.
    pub no_variable : position (bytes_eq name) (names_of unit.variables) ≡ None → ◌≡◌ {A = Option ℕ} None (position (is_named name) unit.variables)
    no_variable none =
        never (λ k v at free same.
        let names = names_of unit.variables in
        let own = named_at unit.variables k v at in
        let any = list_any_at (bytes_eq name) names k v.name (slice_get_within names k v.name own) (ap (bytes_eq name) (get_or_from_slice_get names k v.name v.name own) ∙ same) in
        false≢true (sym (none_found (bytes_eq name) names none) ∙ any))

    module _ (i : ℕ) (d : VarDecl) (found : position (bytes_eq name) (names_of unit.variables) ≡ Some i) where
      at : slice_get unit.variables i ≡ Some (get_or unit.variables i d)
      at =
          let there = position_found (bytes_eq name) (names_of unit.variables) i found in
          slice_get-get_or unit.variables i d (omega (arith, slice_get_within (names_of unit.variables) i there.0 there.1, length-map unit.variables (λ (v : VarDecl). v.name)))

      its_name : name ≡ (get_or unit.variables i d).name
      its_name =
          let there = position_found (bytes_eq name) (names_of unit.variables) i found in
          (bytes_eq-Decides name there.0).0 there.2 ∙ same_Some there.0 _ (sym there.1 ∙ named_at unit.variables i _ at)

      -- The variable that has it is an input.
      pub an_input : is_some (get_or unit.variables i d).owner ≡ false → ◌≡◌ {A = Option ℕ} (Some i) (position (is_named name) unit.variables)
      an_input free =
          let v = get_or unit.variables i d in
          sym (position_only (is_named name) unit.variables i v at (and_from _ _ (ap not free) ((bytes_eq-Decides name v.name).1 its_name))
          (λ k w other too. same_variable k i w v other at (sym (decides w (and_parts (is_none w.owner) (bytes_eq name w.name) too).1) ∙ its_name)))

      -- The variable that has it has an owner.
      pub no_input : is_some (get_or unit.variables i d).owner ≡ true → ◌≡◌ {A = Option ℕ} None (position (is_named name) unit.variables)
      no_input owned =
          never (λ k w other free same.
          let v = get_or unit.variables i d in
          let one = same_variable i k v w at other (sym its_name ∙ decides w same) in
          let same_decl = same_Some v w (sym at ∙ ap (slice_get unit.variables) one ∙ other) in
          false≢true (sym (ap not owned) ∙ ap (λ (x : VarDecl). is_none x.owner) same_decl ∙ free))
