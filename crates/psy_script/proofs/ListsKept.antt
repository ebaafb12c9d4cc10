-- The lists of lines, as one line more is read.
use Rattle.std.proofs.Common.{◌≡◌, ◌≢◌, ℕ, zero, suc, Bool, true, false, List, [], ◌∷◌, ◌++◌, map, Some, refl, sym, ap, ◌∙◌, arith}
use Rattle.std.specs.Prelude.{ℤ, if◌then◌else◌, bytes_eq, is_none, option_map, option_to_list, slice_get, slice_set}
use Rattle.std.specs.List.{position}
use Rattle.std.proofs.lemmas.Bool.{false_from_ne_true, and_parts}
use Rattle.std.proofs.lemmas.Option.{none-some, same_Some, slice_get-map}
use Rattle.std.proofs.lemmas.Slice.Eq.{bytes_eq-Decides}
use Rattle.psy_tree.specs.declared.unit.Unit.{Unit as Whole}
use Rattle.psy_tree.specs.declared.unit.VarDecl.{VarDecl}
use Rattle.psy_meaning.specs.Units.{IsBare}
use Rattle.psy_script.specs.Inputs.{Listing, is_listed, list_of, listing_of, listings, lists_in, values_under}
use Rattle.psy_script.proofs.InputNumbers.{is_named, same_variable}
use Rattle.psy_script.proofs.Listed.{listings_more, listed, unlisted, values_last, values_kept}
use Rattle.psy_script.proofs.Positions.{position_found}

-- No lines give each variable an empty list.
pub lists_none : (unit : Whole) → map (λ v. []) unit.variables ≡ lists_in unit []
lists_none unit = by unit.variables
  where
    empty : (b : Bool) → ◌≡◌ {A = List ℤ} [] (if b then [] else [])
    empty true = refl
    empty false = refl

    by : (variables : List VarDecl) → map (λ v. []) variables ≡ map (list_of []) variables
    by [] = refl
    by (v ∷ vs) = λ j. empty (is_none v.owner) j ∷ by vs j

-- What a function gives of a list's elements, where it changed at one place
map_set : {A B : Type 0} (f g : A → B) (xs : List A) (i : ℕ) (x : A) → slice_get xs i ≡ Some x → ((k : ℕ) (y : A) → slice_get xs k ≡ Some y → k ≢ i → f y ≡ g y) → slice_set (map f xs) i (g x) ≡ map g xs
map_set f g [] i x at same = absurd (none-some x at)
map_set {A} f g (y ∷ ys) zero x at same = λ j. g (sym (same_Some y x at) j) ∷ by ys (λ k z there. same (suc k) z there (λ e. absurd (omega (arith, e)))) j
  where
    by : (zs : List A) → ((k : ℕ) (z : A) → slice_get zs k ≡ Some z → f z ≡ g z) → map f zs ≡ map g zs
    by [] same = refl
    by (z ∷ zs) same = λ j. same 0 z refl j ∷ by zs (λ k w there. same (suc k) w there) j
map_set f g (y ∷ ys) (suc i) x at same = λ j. same 0 y refl (λ e. absurd (omega (arith, e))) j ∷ map_set f g ys i x at (λ k z there other. same (suc k) z there (λ e. other (omega (arith, e)))) j

-- The list of an input with a name
list_of_named : (name : List ℕ) (said : List Listing) (v : VarDecl) → is_named name v ≡ true → list_of said v ≡ values_under name said
list_of_named name said v named =
    let parts = and_parts (is_none v.owner) (bytes_eq name v.name) named in
    ap (λ b. if b then values_under v.name said else []) parts.0 ∙ ap (λ n. values_under n said) (sym ((bytes_eq-Decides name v.name).0 parts.1))

module _ (unit : Whole) (before : List (List ℕ)) (lists : List (List ℤ)) (old : lists ≡ lists_in unit before) (l : Listing) (input : ℕ) (found : position (is_named l.name) unit.variables ≡ Some input) where
  -- The list of the input that a line names holds the values under its name.
  list_at : slice_get lists input ≡ Some (values_under l.name (listings before))
  list_at =
      let there = position_found (is_named l.name) unit.variables input found in
      ap (λ ls. slice_get ls input) old ∙ slice_get-map (list_of (listings before)) unit.variables input ∙ ap (option_map (list_of (listings before))) there.1 ∙ ap Some (list_of_named l.name (listings before) there.0 there.2)

  -- It was listed where its list isn't empty.
  pub is_again : slice_get lists input ≢ Some [] → is_listed (listings before) l.name ≡ true
  is_again some = listed l.name before (λ empty. some (list_at ∙ ap Some empty))

  pub is_first : slice_get lists input ≡ Some [] → is_listed (listings before) l.name ≡ false
  is_first empty = unlisted l.name before (same_Some _ _ (sym list_at ∙ empty))

  -- A line that lists it for the first time sets its list.
  pub lists_more : IsBare unit → slice_get lists input ≡ Some [] → (line : List ℕ) → listing_of line ≡ Some l → slice_set lists input l.values ≡ lists_in unit (before ++ line ∷ [])
  lists_more bare empty line says =
      let after = listings before ++ l ∷ [] in
      let more : listings (before ++ line ∷ []) ≡ after = listings_more before line ∙ ap (λ o. listings before ++ option_to_list o) says in
      let there = position_found (is_named l.name) unit.variables input found in
      let v = there.0 in
      let named = (bytes_eq-Decides l.name v.name).0 (and_parts (is_none v.owner) (bytes_eq l.name v.name) there.2).1 in
      let here : list_of after v ≡ l.values = list_of_named l.name after v there.2 ∙ values_last l.name (listings before) l (is_first empty) ((bytes_eq-Decides l.name l.name).1 refl) in
      let other : (k : ℕ) (w : VarDecl) → slice_get unit.variables k ≡ Some w → k ≢ input → list_of (listings before) w ≡ list_of after w =
      λ k w at differs. ap (λ vs. if is_none w.owner then vs else []) (sym (values_kept w.name (listings before) l (false_from_ne_true _ (λ same.
      differs (same_variable unit bare k input w v at there.1 ((bytes_eq-Decides w.name l.name).0 same ∙ named)))))) in
      ap (λ ls. slice_set ls input l.values) old ∙ ap (slice_set (lists_in unit before) input) (sym here) ∙
      map_set (list_of (listings before)) (list_of after) unit.variables input v there.1 other ∙ ap (λ said. map (list_of said) unit.variables) (sym more)
