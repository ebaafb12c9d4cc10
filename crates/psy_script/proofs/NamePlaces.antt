-- Names that differ, and a table of them.
use Rattle.std.proofs.Common.{◌≡◌, ℕ, ◌+◌, ◌<◌, true, false, List, [], ◌∷◌, ◌++◌, map, length, get_or, take, Some, option_map, slice_get, bytes_eq, sym, ap, refl, ◌∙◌, get_or-take, length-take, arith}
use Rattle.std.specs.List.{list_any}
use Rattle.std.proofs.lemmas.Bool.{or_parts, cond-false, false_from_ne_true}
use Rattle.std.proofs.lemmas.List.{map-append, take-map}
use Rattle.std.proofs.lemmas.List.Folds.{list_any_none}
use Rattle.std.proofs.lemmas.Option.{slice_get-get_or, slice_get-map}
use Rattle.std.proofs.lemmas.Slice.Eq.{bytes_eq-Decides}
use Rattle.indexmap.specs.IndexMap.{insert_entry}
use Rattle.psy_tree.proofs.lemmas.Lists.{slice_get-behind}
use Rattle.psy_lists.proofs.lemmas.Places.{in_front}
use Rattle.psy_tree.specs.declared.unit.Unit.{Unit as Whole}
use Rattle.psy_meaning.specs.Units.{AllDiffer, IsBare}

-- ---- parts of a list whose names differ

-- They differ behind a front.
differ_behind : (xs ys : List (List ℕ)) → AllDiffer (xs ++ ys) → AllDiffer ys
differ_behind xs ys all i j name at_i at_j =
    let same : length xs + i ≡ length xs + j = all (length xs + i) (length xs + j) name (slice_get-behind xs ys i ∙ at_i) (slice_get-behind xs ys j ∙ at_j) in
    omega arith

-- They differ in the front.
differ_front : (xs ys : List (List ℕ)) → AllDiffer (xs ++ ys) → AllDiffer xs
differ_front xs ys all i j name at_i at_j = all i j name (in_front xs ys i name at_i) (in_front xs ys j name at_j)

-- The names of a program's variables differ.
pub variables_differ : (unit : Whole) → IsBare unit → AllDiffer (map (λ v. v.name) unit.variables)
variables_differ unit bare = differ_front (map (λ v. v.name) unit.variables) _ (differ_behind unit.clock_names _ bare.names)

-- The names of its agents differ.
pub agents_differ : (unit : Whole) → IsBare unit → AllDiffer (map (λ a. a.name) unit.agents)
agents_differ unit bare =
    differ_behind (map (λ f. f.name) unit.functions) _ (differ_behind (map (λ s. s.name) unit.streams) _ (differ_behind (map (λ v. v.name) unit.variables) _ (differ_behind unit.clock_names _ bare.names)))

-- ---- one more name

-- Where names differ, no earlier place has the name.
another_before : (names : List (List ℕ)) (i k : ℕ) (name d : List ℕ) → AllDiffer names → slice_get names i ≡ Some name → k < i → k < length names → get_or names k d ≡ name → ⊥
another_before names i k name d all at before within same =
    let equal : k ≡ i = all k i name (slice_get-get_or names k d within ∙ ap Some same) at in
    omega arith

-- So it isn't among the earlier ones.
absent_before : (names : List (List ℕ)) (i : ℕ) (name : List ℕ) → AllDiffer names → slice_get names i ≡ Some name → list_any (bytes_eq name) (take i names) ≡ false
absent_before names i name all at =
    let differs = λ (k : ℕ) (d : List ℕ) (under : k < length (take i names)) (same : bytes_eq name (get_or (take i names) k d) ≡ true).
    let before : k < i = omega (arith, length-take i names) in
    let there : get_or names k d ≡ name = sym (get_or-take i names k d before) ∙ sym ((bytes_eq-Decides name (get_or (take i names) k d)).0 same) in
    another_before names i k name d all at before (omega (arith, length-take i names)) there in
    list_any_none (bytes_eq name) (take i names) (λ k d under. false_from_ne_true _ (differs k d under))

-- Where the names of items differ, no earlier item has the name of this one.
pub absent_next : {X : Type 0} (name : X → List ℕ) (items : List X) (i : ℕ) (x : X) → AllDiffer (map name items) → i < length items → x ≡ get_or items i x → list_any (bytes_eq (name x)) (map name (take i items)) ≡ false
absent_next name items i x all within at =
    let there : slice_get (map name items) i ≡ Some (name x) = slice_get-map name items i ∙ ap (option_map name) (slice_get-get_or items i x within ∙ ap Some (sym at)) in
    ap (list_any (bytes_eq (name x))) (sym (take-map name i items)) ∙ absent_before (map name items) i (name x) all there

-- A key that isn't there goes last.
insert_absent : {V : Type 0} (k : List ℕ) (v : V) (es : List (List ℕ × V)) → list_any (bytes_eq k) (map (λ e. e.0) es) ≡ false → insert_entry bytes_eq es k v ≡ es ++ (k, v) ∷ []
insert_absent k v [] none = refl
insert_absent k v (e ∷ es) none =
    let parts : (bytes_eq k e.0 ≡ false) × (list_any (bytes_eq k) (map (λ e. e.0) es) ≡ false) = or_parts (bytes_eq k e.0) _ none in
    cond-false _ _ _ parts.0 ∙ ap (λ rest. e ∷ rest) (insert_absent k v es parts.1)

-- A table of names, after one that isn't there is inserted
pub names_more : {V : Type 0} (es new : List (List ℕ × V)) (k name : List ℕ) (v : V) (names : List (List ℕ)) → new ≡ insert_entry bytes_eq es k v → k ≡ name → map (λ e. e.0) es ≡ names → list_any (bytes_eq name) names ≡ false → map (λ e. e.0) new ≡ names ++ name ∷ []
names_more es new k name v names inserted same view absent =
    let none : list_any (bytes_eq k) (map (λ e. e.0) es) ≡ false = ap (λ k. list_any (bytes_eq k) (map (λ e. e.0) es)) same ∙ ap (list_any (bytes_eq name)) view ∙ absent in
    ap (map (λ e. e.0)) (inserted ∙ insert_absent k v es none) ∙ map-append (λ e. e.0) es ((k, v) ∷ []) ∙ ap (λ names. names ++ k ∷ []) view ∙ ap (λ k. names ++ k ∷ []) same
