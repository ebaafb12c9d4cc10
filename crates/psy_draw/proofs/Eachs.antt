-- What stands at the places of names.
use Rattle.std.proofs.Common.{◌≡◌, ℕ, ◌<◌, Bool, true, false, List, [], ◌∷◌, ◌++◌, Option, None, Some, bytes_eq, cond, drop, length, map, get_or, replicate, set, take, refl, sym, ap, subst, ◌∙◌, append-nil, arith}
use Rattle.std.specs.List.{position}
use Rattle.std.proofs.lemmas.Bool.{false≢true}
use Rattle.std.proofs.lemmas.List.{length-map, get_or-replicate, get_or-set_same, get_or-set_other}
use Rattle.std.proofs.lemmas.List.Quantifiers.{position-Some}
use Rattle.std.proofs.lemmas.Slice.Eq.{bytes_eq-Decides}
use Rattle.psy_lists.proofs.lemmas.Places.{written_back}
use Rattle.psy_draw.specs.Columns.{Dated, Keeps}
use Rattle.psy_draw.specs.declared.column.Column.{Column}
use Rattle.psy_draw.specs.ByName.{AddsAt, Each}

-- A place, and 0 where there is none
place_or : Option ℕ → ℕ
place_or None = 0
place_or (Some k) = k

-- Places that are one
place_is : (a b : ℕ) → ◌≡◌ {A = Option ℕ} (Some a) (Some b) → a ≡ b
unfolding place_or
place_is a b e = ap place_or e

-- A name is itself.
pub itself : (name : List ℕ) → bytes_eq name name ≡ true
itself name = (bytes_eq-Decides name name).1 refl

-- Names at one place are one.
named_at : (names : List (List ℕ)) (name other : List ℕ) (k : ℕ) → position (bytes_eq name) names ≡ Some k → position (bytes_eq other) names ≡ Some k → name ≡ other
named_at names name other k one two =
    (bytes_eq-Decides name (get_or names k [])).0 (position-Some (bytes_eq name) names k [] one).1
    ∙ sym ((bytes_eq-Decides other (get_or names k [])).0 (position-Some (bytes_eq other) names k [] two).1)

-- The name at the place of a name is that one.
pub found_name : (name : List ℕ) (names : List (List ℕ)) (k : ℕ) → position (bytes_eq name) names ≡ Some k → get_or names k [] ≡ name
found_name name names k at = sym ((bytes_eq-Decides name (get_or names k [])).0 (position-Some (bytes_eq name) names k [] at).1)

-- A place is one of as many.
pub place_within : (name : List ℕ) (names : List (List ℕ)) (k n : ℕ) → position (bytes_eq name) names ≡ Some k → n ≡ length names → k < n
place_within name names k n at many = let within = (position-Some (bytes_eq name) names k [] at).0 in omega (arith, within, many)

-- What stands at the place of a name is put there.
pub each_put : {X : Type 0} (P Q : List ℕ → X → Type 0) (none : X) (name : List ℕ) (names : List (List ℕ)) (xs : List X) (k : ℕ) (x : X) → k < length xs
    → position (bytes_eq name) names ≡ Some k → Each P none names xs → Q name x
    → ((other : List ℕ) (y : X) → bytes_eq name other ≡ false → P other y → Q other y) → Each Q none names (set xs k x)
each_put P Q none name names xs k x within at each one others other j there = by (bytes_eq name other) refl
  where
    apart : bytes_eq name other ≡ false → j ≡ k → ⊥
    apart e same =
        let is = named_at names name other k at (subst (λ i. position (bytes_eq other) names ≡ Some i) same there) in
        false≢true (sym e ∙ (bytes_eq-Decides name other).1 is)

    by : (b : Bool) → bytes_eq name other ≡ b → Q other (get_or (set xs k x) j none)
    by true e =
        let same : name ≡ other = (bytes_eq-Decides name other).0 e in
        let places : k ≡ j = place_is k j (sym at ∙ ap (λ n. position (bytes_eq n) names) same ∙ there) in
        subst (λ i. Q other (get_or (set xs k x) i none)) places
        (subst (λ n. Q n (get_or (set xs k x) k none)) same (subst (Q name) (sym (get_or-set_same xs k x none within)) one))
    by false e = subst (Q other) (sym (get_or-set_other xs k j x none (apart e))) (others other (get_or xs j none) e (each other j there))

-- One thing for each name
pub each_same : {X : Type 0} (P : List ℕ → X → Type 0) (none : X) (names : List (List ℕ)) (xs : List X) (n : ℕ) → n ≡ length names → xs ≡ replicate n none
    → ((name : List ℕ) → P name none) → Each P none names xs
each_same P none names xs n many are one name k at =
    let within = (position-Some (bytes_eq name) names k [] at).0 in
    subst (λ ys. P name (get_or ys k none)) (sym are) (subst (P name) (sym (get_or-replicate n k none none (omega (arith, within, many)))) (one name))

-- The values of a name and one more, and those of another
pub said_one : (name : List ℕ) (v : Dated) (more : List Dated) → cond (bytes_eq name name) (v ∷ []) more ≡ v ∷ []
said_one name v more = ap (λ b. cond b (v ∷ []) more) (itself name)

-- To those of another nothing is added.
added_none : (place : ℕ → ℕ) (goes : List Dated → Dated → Bool) (values : List ℕ → List Dated) (name : List ℕ) (v : Dated) (other : List ℕ) (columns : List Column)
    → bytes_eq name other ≡ false → Keeps place goes (values other) columns → Keeps place goes (values other ++ cond (bytes_eq name other) (v ∷ []) []) columns
added_none place goes values name v other columns apart keeps =
    subst (λ b. Keeps place goes (values other ++ cond b (v ∷ []) []) columns) (sym apart)
    (subst (λ vs. Keeps place goes vs columns) (sym (append-nil (values other))) keeps)

-- A value is added to the columns at the place of a name.
each_added : (place : ℕ → ℕ) (goes : List Dated → Dated → Bool) (name : List ℕ) (v : Dated) (names : List (List ℕ)) (old new : List (List Column)) (k : ℕ)
    → k < length old → position (bytes_eq name) names ≡ Some k → AddsAt place goes k v old new → (values : List ℕ → List Dated)
    → Each (λ n cs. Keeps place goes (values n) cs) [] names old
    → Each (λ n cs. Keeps place goes (values n ++ cond (bytes_eq name n) (v ∷ []) []) cs) [] names new
each_added place goes name v names old new k within at adds values each =
    let P : List ℕ → List Column → Type 0 = λ n cs. Keeps place goes (values n) cs in
    let Q : List ℕ → List Column → Type 0 = λ n cs. Keeps place goes (values n ++ cond (bytes_eq name n) (v ∷ []) []) cs in
    let one : Q name adds.0 = subst (λ more. Keeps place goes (values name ++ more) adds.0) (sym (said_one name v [])) (adds.2 (values name) (each name k at)) in
    subst (Each Q [] names) (sym adds.1) (each_put P Q [] name names old k adds.0 within at each one
    (λ other y apart keeps. added_none place goes values name v other y apart keeps))

-- The same of a slice of all columns
pub each_added_back : {X : Type 0} (items : X → List Column) (place : ℕ → ℕ) (goes : List Dated → Dated → Bool) (name : List ℕ) (v : Dated) (names : List (List ℕ))
    (old slice new : List X) (n k : ℕ) → slice ≡ old → n ≡ length old → length old ≡ length names → length new ≡ length slice → position (bytes_eq name) names ≡ Some k
    → AddsAt place goes k v (map items slice) (map items new) → (values : List ℕ → List Dated)
    → Each (λ m cs. Keeps place goes (values m) cs) [] names (map items old)
    → Each (λ m cs. Keeps place goes (values m ++ cond (bytes_eq name m) (v ∷ []) []) cs) [] names (map items (take n (new ++ drop (length new) old)))
each_added_back items place goes name v names old slice new n k is all many as_many at adds values each =
    let within : k < length (map items old) = place_within name names k (length (map items old)) at (length-map old items ∙ many) in
    let back = written_back old new n all (as_many ∙ ap length is) in
    let from_old : AddsAt place goes k v (map items old) (map items new) = subst (λ xs. AddsAt place goes k v (map items xs) (map items new)) is adds in
    subst (λ xs. Each (λ m cs. Keeps place goes (values m ++ cond (bytes_eq name m) (v ∷ []) []) cs) [] names (map items xs)) (sym back)
    (each_added place goes name v names (map items old) (map items new) k within at from_old values each)
