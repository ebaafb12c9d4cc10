-- What is found in a store and a view of the right shape.
use Rattle.std.proofs.Common.{◌≡◌, refl, sym, ap, subst, ◌∙◌, arith}
use Rattle.std.specs.Prelude.{ℕ, zero, suc, ◌+◌, ◌<◌, ◌==◌, Bool, true, false, T, if◌then◌else◌, List, [], ◌∷◌, ◌++◌, map, take, length, slice_get, slice_set, slice_index_or, Option, Some, None, ℤ, pos, negsuc, nat_lt}
use Rattle.psy_code.specs.Views.{View, found_in, past_of, messages_of, without_first, taken_from}
use Rattle.psy_code.specs.Execution.{Copy, copy_of, with_copy, index_in}
use Rattle.psy_tree.specs.Paths.{total}
use Rattle.psy_meaning.specs.Sound.{Scope, HasCopy, HasPast, HasStream}
use Rattle.psy_meaning.specs.Alike.{is_there}
use Rattle.psy_meaning.specs.States.{Store, cells_at, value_at, copy_at, value_or_zero}
use Rattle.psy_meaning.specs.Expressions.{or_none, messages_at}
use Rattle.psy_gen.specs.Emission.{base_of}
use Rattle.psy_gen.proofs.Contexts.{joined}
use Rattle.psy_gen.proofs.Basics.{some_is, no_some}

-- An element in front of others, and behind them
get-front : (xs ys : List ℤ) (j : ℕ) → j < length xs → slice_get (xs ++ ys) j ≡ Some (slice_index_or xs j (pos 0))
get-front [] ys j h = absurd (omega (arith, h))
get-front (x ∷ xs) ys zero h = refl
get-front (x ∷ xs) ys (suc j) h = get-front xs ys j (omega (arith, h))

get-behind : (xs ys : List ℤ) (j : ℕ) → slice_get (xs ++ ys) (length xs + j) ≡ slice_get ys j
get-behind [] ys j = let e : 0 + j ≡ j = omega arith in ap (slice_get ys) e
get-behind (x ∷ xs) ys j = let e : length (x ∷ xs) + j ≡ suc (length xs + j) = omega arith in ap (slice_get (x ∷ (xs ++ ys))) e ∙ get-behind xs ys j

-- The cell of a slot, among those of all slots
cell_by : (slots : List (List ℤ)) (slot c j : ℕ) → slice_get (map length slots) slot ≡ Some c → j < c
    → slice_get (joined slots) (total (take slot (map length slots)) + j) ≡ Some (slice_index_or (slice_index_or slots slot []) j (pos 0))
cell_by [] slot c j e h = no_some c e
cell_by (x ∷ xs) zero c j e h = let z : 0 + j ≡ j = omega arith in ap (slice_get (x ++ joined xs)) z ∙ get-front x (joined xs) j (omega (arith, h, some_is (length x) c e))
cell_by (x ∷ xs) (suc slot) c j e h =
    let z : length x + total (take slot (map length xs)) + j ≡ length x + (total (take slot (map length xs)) + j) = omega arith in
    ap (slice_get (x ++ joined xs)) z ∙ get-behind x (joined xs) (total (take slot (map length xs)) + j) ∙ cell_by xs slot c j e h

pub cell_is : (layout : List ℕ) (store : Store) (slot c j : ℕ) → map length store.slots ≡ layout → slice_get layout slot ≡ Some c → j < c
    → slice_get (joined store.slots) (base_of layout slot + j) ≡ Some (value_at store slot j)
cell_is layout store slot c j shape e h = subst (λ l. slice_get (joined store.slots) (total (take slot l) + j) ≡ Some (value_at store slot j)) shape (cell_by store.slots slot c j (subst (λ l. slice_get l slot ≡ Some c) (sym shape) e) h)

length_by : (slots : List (List ℤ)) (slot c : ℕ) → slice_get (map length slots) slot ≡ Some c → length (slice_index_or slots slot []) ≡ c
length_by [] slot c e = no_some c e
length_by (x ∷ xs) zero c e = some_is (length x) c e
length_by (x ∷ xs) (suc slot) c e = length_by xs slot c e

pub cells_are : (layout : List ℕ) (store : Store) (slot c : ℕ) → map length store.slots ≡ layout → slice_get layout slot ≡ Some c → length (cells_at store slot) ≡ c
cells_are layout store slot c shape e = length_by store.slots slot c (subst (λ l. slice_get l slot ≡ Some c) (sym shape) e)

-- ---- copies

copy_by : (copies : List Copy) (place variable : ℕ) → slice_get (map (λ (c : Copy). c.variable) copies) place ≡ Some variable → copy_of variable copies ≡ Some (value_or_zero (copy_of variable copies))
copy_by [] place variable e = no_some variable e
copy_by (c ∷ cs) place variable e = from (c.variable == variable) refl (λ f. let l = later place f e in copy_by cs l.0 variable l.1)
  where
    later : (place : ℕ) → (c.variable == variable) ≡ false → slice_get (map (λ (c : Copy). c.variable) (c ∷ cs)) place ≡ Some variable → (n : ℕ) × (slice_get (map (λ (c : Copy). c.variable) cs) n ≡ Some variable)
    later zero f e = absurd (grind (arith, f, some_is c.variable variable e))
    later (suc n) f e = (n, e)

    from : (b : Bool) → (c.variable == variable) ≡ b → ((c.variable == variable) ≡ false → copy_of variable cs ≡ Some (value_or_zero (copy_of variable cs)))
        → (if b then Some c.value else copy_of variable cs) ≡ Some (value_or_zero (if b then Some c.value else copy_of variable cs))
    from true f rest = refl
    from false f rest = rest f

pub copy_is : (sc : Scope) (store : Store) (variable : ℕ) → map (λ (c : Copy). c.variable) store.copies ≡ sc.copies → HasCopy sc variable → copy_of variable store.copies ≡ Some (copy_at store variable)
copy_is sc store variable shape (place, e) = copy_by store.copies place variable (subst (λ l. slice_get l place ≡ Some variable) (sym shape) e)

-- ---- views

get-within : (xs : List ℤ) (j : ℕ) → j < length xs → slice_get xs j ≡ Some (value_or_zero (slice_get xs j))
get-within [] j h = absurd (omega (arith, h))
get-within (x ∷ xs) zero h = refl
get-within (x ∷ xs) (suc j) h = get-within xs j (omega (arith, h))

past_by : (pasts : List (List ℤ)) (variable back depth : ℕ) → slice_get (map length pasts) variable ≡ Some depth → back < depth
    → found_in (slice_get pasts variable) (λ values. slice_get values back) ≡ Some (value_or_zero (found_in (slice_get pasts variable) (λ values. slice_get values back)))
past_by [] variable back depth e h = no_some depth e
past_by (x ∷ xs) zero back depth e h = get-within x back (omega (arith, h, some_is (length x) depth e))
past_by (x ∷ xs) (suc variable) back depth e h = past_by xs variable back depth e h

pub past_is : (sc : Scope) (view : View) (variable back : ℕ) → map length view.pasts ≡ sc.depths → HasPast sc variable back → past_of view variable back ≡ Some (value_or_zero (past_of view variable back))
past_is sc view variable back shape (depth, e, h) = past_by view.pasts variable back depth (subst (λ l. slice_get l variable ≡ Some depth) (sym shape) e) h

messages_by : (all : List (Option (List ℤ))) (stream : ℕ) → slice_get (map is_there all) stream ≡ Some true → found_in (slice_get all stream) (λ m. m) ≡ Some (or_none (found_in (slice_get all stream) (λ m. m)))
messages_by [] stream e = no_some true e
messages_by (None ∷ rest) zero e = elim (subst T (sym (some_is false true e)) (tt {0})) [ ]
messages_by (Some m ∷ rest) zero e = refl
messages_by (m ∷ rest) (suc stream) e = messages_by rest stream e

pub messages_are : (sc : Scope) (view : View) (stream : ℕ) → map is_there view.messages ≡ sc.streams → HasStream sc stream → messages_of view stream ≡ Some (messages_at view stream)
messages_are sc view stream shape e = messages_by view.messages stream (subst (λ l. slice_get l stream ≡ Some true) (sym shape) e)

-- A take leaves the streams that are there
there-set : (all : List (Option (List ℤ))) (stream : ℕ) (m : Option (List ℤ)) → slice_get (map is_there all) stream ≡ Some (is_there m) → map is_there (slice_set all stream m) ≡ map is_there all
there-set [] stream m e = refl
there-set (x ∷ rest) zero m e = ap (λ b. b ∷ map is_there rest) (sym (some_is (is_there x) (is_there m) e))
there-set (x ∷ rest) (suc stream) m e = ap (λ l. is_there x ∷ l) (there-set rest stream m e)

pub taken_there : (sc : Scope) (view : View) (stream : ℕ) → map is_there view.messages ≡ sc.streams → HasStream sc stream → map is_there (taken_from view stream).messages ≡ sc.streams
taken_there sc view stream shape e =
    let its = messages_are sc view stream shape e in
    there-set view.messages stream (without_first (messages_of view stream)) (subst (λ l. slice_get l stream ≡ Some true) (sym shape) e ∙ ap (λ o. Some (is_there (without_first o))) (sym its)) ∙ shape

-- ---- indices

pub got_is : (xs : List ℕ) (i x : ℕ) → slice_get xs i ≡ Some x → slice_index_or xs i 0 ≡ x
got_is [] i x e = no_some x e
got_is (y ∷ ys) zero x e = some_is y x e
got_is (y ∷ ys) (suc i) x e = got_is ys i x e

pub index_small : (cells : ℕ) (index : ℤ) (i : ℕ) → index_in cells index ≡ Some i → i < cells
index_small cells (pos j) i e = by (nat_lt j cells) refl e
  where
    by : (b : Bool) → nat_lt j cells ≡ b → (if b then Some j else None) ≡ Some i → i < cells
    by true f g = grind (arith, f, some_is j i g)
    by false f g = no_some i g
index_small cells (negsuc j) i e = no_some i e

-- ---- a value into a cell

set-front : (xs ys : List ℤ) (j : ℕ) (v : ℤ) → j < length xs → slice_set (xs ++ ys) j v ≡ slice_set xs j v ++ ys
set-front [] ys j v h = absurd (omega (arith, h))
set-front (x ∷ xs) ys zero v h = refl
set-front (x ∷ xs) ys (suc j) v h = ap (λ l. x ∷ l) (set-front xs ys j v (omega (arith, h)))

set-behind : (xs ys : List ℤ) (j : ℕ) (v : ℤ) → slice_set (xs ++ ys) (length xs + j) v ≡ xs ++ slice_set ys j v
set-behind [] ys j v = let e : 0 + j ≡ j = omega arith in ap (λ i. slice_set ys i v) e
set-behind (x ∷ xs) ys j v = let e : length (x ∷ xs) + j ≡ suc (length xs + j) = omega arith in ap (λ i. slice_set (x ∷ (xs ++ ys)) i v) e ∙ ap (λ l. x ∷ l) (set-behind xs ys j v)

set_by : (slots : List (List ℤ)) (slot c j : ℕ) (v : ℤ) → slice_get (map length slots) slot ≡ Some c → j < c
    → joined (slice_set slots slot (slice_set (slice_index_or slots slot []) j v)) ≡ slice_set (joined slots) (total (take slot (map length slots)) + j) v
set_by [] slot c j v e h = no_some c e
set_by (x ∷ xs) zero c j v e h = let z : 0 + j ≡ j = omega arith in sym (ap (λ i. slice_set (x ++ joined xs) i v) z ∙ set-front x (joined xs) j v (omega (arith, h, some_is (length x) c e)))
set_by (x ∷ xs) (suc slot) c j v e h =
    let z : length x + total (take slot (map length xs)) + j ≡ length x + (total (take slot (map length xs)) + j) = omega arith in
    ap (λ l. x ++ l) (set_by xs slot c j v e h) ∙ sym (ap (λ i. slice_set (x ++ joined xs) i v) z ∙ set-behind x (joined xs) (total (take slot (map length xs)) + j) v)

pub set_is : (layout : List ℕ) (store : Store) (slot c j : ℕ) (v : ℤ) → map length store.slots ≡ layout → slice_get layout slot ≡ Some c → j < c
    → joined (slice_set store.slots slot (slice_set (cells_at store slot) j v)) ≡ slice_set (joined store.slots) (base_of layout slot + j) v
set_is layout store slot c j v shape e h =
    subst (λ l. joined (slice_set store.slots slot (slice_set (cells_at store slot) j v)) ≡ slice_set (joined store.slots) (total (take slot l) + j) v) shape
    (set_by store.slots slot c j v (subst (λ l. slice_get l slot ≡ Some c) (sym shape) e) h)

set-length : (xs : List ℤ) (j : ℕ) (v : ℤ) → length (slice_set xs j v) ≡ length xs
set-length [] j v = refl
set-length (x ∷ xs) zero v = refl
set-length (x ∷ xs) (suc j) v = ap suc (set-length xs j v)

pub lengths-set : (slots : List (List ℤ)) (slot j : ℕ) (v : ℤ) → map length (slice_set slots slot (slice_set (slice_index_or slots slot []) j v)) ≡ map length slots
lengths-set [] slot j v = refl
lengths-set (x ∷ xs) zero j v = ap (λ n. n ∷ map length xs) (set-length x j v)
lengths-set (x ∷ xs) (suc slot) j v = ap (λ l. length x ∷ l) (lengths-set xs slot j v)

pub variables-set : (copies : List Copy) (variable : ℕ) (v : ℤ) → map (λ (c : Copy). c.variable) (with_copy variable v copies) ≡ map (λ (c : Copy). c.variable) copies
variables-set [] variable v = refl
variables-set (c ∷ cs) variable v = by (c.variable == variable) (variables-set cs variable v)
  where
    by : (b : Bool) → map (λ (c : Copy). c.variable) (with_copy variable v cs) ≡ map (λ (c : Copy). c.variable) cs
        → map (λ (c : Copy). c.variable) (if b then record c { value = v } ∷ cs else c ∷ with_copy variable v cs) ≡ map (λ (c : Copy). c.variable) (c ∷ cs)
    by true e = refl
    by false e = ap (λ l. c.variable ∷ l) e
