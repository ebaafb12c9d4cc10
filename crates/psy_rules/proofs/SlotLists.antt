-- The slots of locals, counted from the first.
use Rattle.std.proofs.Common.{◌≡◌, ℕ, zero, suc, ◌-◌, ◌<◌, ◌≤◌, Bool, false, List, [], ◌∷◌, ◌++◌, map, length, Option, Some, None, refl, sym, ap, ◌∙◌, arith}
use Rattle.std.specs.Prelude.{slice_get, option_map}
use Rattle.std.proofs.lemmas.List.{map-append, length-map}
use Rattle.psy_arith.specs.declared.width.Width.TheVariants.{W32}
use Rattle.psy_tree.specs.declared.raw.Name.{Name}
use Rattle.psy_tree.specs.declared.raw.Local.{Local}
use Rattle.psy_tree.specs.declared.raw.Item.{Item}
use Rattle.psy_tree.specs.declared.raw.Item.TheVariants as item
use Rattle.psy_tree.specs.Scope.{SlotName, scalar, local_slot, slots_of}
use Rattle.psy_tree.specs.Scope.{item_params, item_locals}
use Rattle.psy_tree.specs.Stands.{width_of_slot}
use Rattle.psy_rules.specs.Tables.{slot_names}

get_front : {X : Type 0} (xs ys : List X) (k : ℕ) → k < length xs → slice_get (xs ++ ys) k ≡ slice_get xs k
get_front [] ys k h = absurd (omega arith)
get_front (x ∷ xs) ys zero h = refl
get_front (x ∷ xs) ys (suc k) h = get_front xs ys k (omega arith)

get_back : {X : Type 0} (xs ys : List X) (k : ℕ) → length xs ≤ k → slice_get (xs ++ ys) k ≡ slice_get ys (k - length xs)
get_back [] ys k h = ap (slice_get ys) (omega arith)
get_back (x ∷ xs) ys zero h = absurd (omega arith)
get_back (x ∷ xs) ys (suc k) h = get_back xs ys k (omega arith) ∙ ap (slice_get ys) (omega arith)

pub slots_split : (i : Item) → slots_of i ≡ map scalar (item_params i) ++ map local_slot (item_locals i)
slots_split (item.Clock name by parent shift) = refl
slots_split (item.Temporal name owner clock init depth) = refl
slots_split (item.Input name clock init depth) = refl
slots_split (item.Stream name receiver keep clock) = refl
slots_split (item.Function name params locals stmts) = refl
slots_split (item.Agent name clock processor budget locals body stmts) = refl

get_map : {X Y : Type 0} (f : X → Y) (xs : List X) (k : ℕ) → slice_get (map f xs) k ≡ option_map f (slice_get xs k)
get_map f [] k = refl
get_map f (x ∷ xs) zero = refl
get_map f (x ∷ xs) (suc k) = get_map f xs k

pub slot_of_param : (i : Item) (k : ℕ) → k < length (item_params i) → slice_get (slots_of i) k ≡ option_map scalar (slice_get (item_params i) k)
slot_of_param i k h =
    let len : length (map scalar (item_params i)) ≡ length (item_params i) = length-map (item_params i) scalar in
    ap (λ ss. slice_get ss k) (slots_split i)
    ∙ get_front (map scalar (item_params i)) (map local_slot (item_locals i)) k (omega arith)
    ∙ get_map scalar (item_params i) k

pub slot_of_local : (i : Item) (k : ℕ) → length (item_params i) ≤ k → slice_get (slots_of i) k ≡ option_map local_slot (slice_get (item_locals i) (k - length (item_params i)))
slot_of_local i k h =
    let len : length (map scalar (item_params i)) ≡ length (item_params i) = length-map (item_params i) scalar in
    ap (λ ss. slice_get ss k) (slots_split i)
    ∙ get_back (map scalar (item_params i)) (map local_slot (item_locals i)) k (omega arith)
    ∙ get_map local_slot (item_locals i) (k - length (map scalar (item_params i)))
    ∙ ap (λ n. option_map local_slot (slice_get (item_locals i) (k - n))) len

-- ---- arrays

abbrev pub array_of : SlotName → Bool
array_of s = s.array

scalars : (ns : List Name) (k : ℕ) → k < length ns → option_map array_of (option_map scalar (slice_get ns k)) ≡ Some false
scalars [] k h = absurd (omega arith)
scalars (n ∷ ns) zero h = refl
scalars (n ∷ ns) (suc k) h = scalars ns k (omega arith)

array_of_local : (o : Option Local) → option_map array_of (option_map local_slot o) ≡ option_map (λ l. (local_slot l).array) o
array_of_local None = refl
array_of_local (Some l) = refl

pub slot_at_param : (i : Item) (k : ℕ) → k < length (item_params i) → option_map array_of (slice_get (slots_of i) k) ≡ Some false
slot_at_param i k h = ap (option_map array_of) (slot_of_param i k h) ∙ scalars (item_params i) k h

pub slot_at_local : (i : Item) (k : ℕ) → length (item_params i) ≤ k → option_map array_of (slice_get (slots_of i) k) ≡ option_map (λ l. (local_slot l).array) (slice_get (item_locals i) (k - length (item_params i)))
slot_at_local i k h = ap (option_map array_of) (slot_of_local i k h) ∙ array_of_local (slice_get (item_locals i) (k - length (item_params i)))

-- ---- types

width_of_param : (o : Option Name) → width_of_slot (option_map scalar o) ≡ W32
width_of_param None = refl
width_of_param (Some n) = refl

pub width_at_param : (i : Item) (k : ℕ) → k < length (item_params i) → width_of_slot (slice_get (slots_of i) k) ≡ W32
width_at_param i k h = ap width_of_slot (slot_of_param i k h) ∙ width_of_param (slice_get (item_params i) k)

-- ---- names

names_scalar : (ns : List Name) → map (λ s. s.name) (map scalar ns) ≡ ns
names_scalar [] = refl
names_scalar (n ∷ ns) = ap (λ r. n ∷ r) (names_scalar ns)

names_local : (ls : List Local) → map (λ s. s.name) (map local_slot ls) ≡ map (λ l. (local_slot l).name) ls
names_local [] = refl
names_local (l ∷ ls) = ap (λ r. (local_slot l).name ∷ r) (names_local ls)

pub slot_names_split : (i : Item) → item_params i ++ map (λ l. (local_slot l).name) (item_locals i) ≡ slot_names (slots_of i)
slot_names_split i = sym (ap slot_names (slots_split i) ∙ map-append (λ s. s.name) (map scalar (item_params i)) (map local_slot (item_locals i))
    ∙ ap (λ r. r ++ map (λ s. s.name) (map local_slot (item_locals i))) (names_scalar (item_params i)) ∙ ap (λ r. item_params i ++ r) (names_local (item_locals i)))
