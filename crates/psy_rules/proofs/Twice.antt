-- Names that are declared twice.
use Rattle.std.proofs.Common.{◌≡◌, ℕ, zero, suc, ◌+◌, ◌<◌, ◌≤◌, Bool, true, false, ◌||◌, cond, List, [], ◌∷◌, ◌++◌, map, take, length, get_or, Option, Some, None, refl, sym, ap, ◌∙◌, inl, inr, arith}
use Rattle.std.specs.Prelude.{is_some}
use Rattle.std.specs.Str.{bytes_eq}
use Rattle.std.specs.List.{list_any}
use Rattle.std.proofs.lemmas.List.{take_more, map-append, length-map, length-take}
use Rattle.std.proofs.lemmas.List.Folds.{list_any-append}
use Rattle.std.proofs.lemmas.Bool.{lt-ltb, le-ltb}
use Rattle.std.proofs.lemmas.Bool.Decides.{leb_tells}
use Rattle.psy_clock.specs.declared.clock.Clock.{Clock}
use Rattle.psy_tree.specs.declared.raw.Name.{Name}
use Rattle.psy_tree.specs.declared.raw.Item.{Item}
use Rattle.psy_tree.specs.declared.raw.Item.TheVariants as item
use Rattle.psy_tree.specs.declared.reach.Found.{Found}
use Rattle.psy_tree.specs.declared.reach.Found.TheVariants as found
use Rattle.psy_tree.specs.Scope.{Entry, SlotName, Site, first_named, item_entries, slot_entries, item_name, own_slots, own_item, slots_of, stands_globally}
use Rattle.psy_tree.specs.Places.{NamesSlot}
use Rattle.psy_tree.specs.Rules.{declares, names_slot, sound_parent, sound_clocks, sound, clock_at_fault, sound_found}
use Rattle.psy_rules.specs.Finding.{up_to, item_below, slot_below}
use Rattle.psy_rules.specs.Tables.{StandsFor, HasInner, added}
use Rattle.psy_rules.specs.Clocks.{parent_clock, faulty, clock_of}
use Rattle.psy_rules.specs.Heads.{name_places}
use Rattle.psy_rules.proofs.Tables.{InRange, first_range, or_first, first-added}

up_to_below : (k : ℕ) (o : Option Found) → up_to k o ≡ item_below (k + 1) o
up_to_below k None = refl
up_to_below k (Some (found.Slot j)) = refl
up_to_below k (Some (found.Item j)) = elim (leb_tells j k) [
  | inl h ↦ h.0 ∙ sym (lt-ltb j (k + 1) (omega (arith, h.1)))
  | inr h ↦ h.0 ∙ sym (le-ltb j (k + 1) (omega (arith, h.1)))
]

none_below : (n low high : ℕ) (o : Option Found) → n ≤ low → InRange low high o → item_below n o ≡ false
none_below n low high None h r = refl
none_below n low high (Some (found.Slot j)) h r = refl
none_below n low high (Some (found.Item j)) h r = le-ltb j n (omega (arith, r.0))

below_step : (b : Bool) (n a : ℕ) (o : Option Found) (r : Bool) → a < n → item_below n o ≡ r → item_below n (cond b (Some (found.Item a)) o) ≡ (b || r)
below_step true n a o r h e = lt-ltb a n h
below_step false n a o r h e = e

-- The first declaration of a name has a number below a + k where one of the first k of them has it.
pub first_below : (q : List ℕ) (a k n : ℕ) (xs : List Item) → n ≡ a + k → item_below n (first_named q (item_entries a xs)) ≡ list_any (declares q) (take k xs)
first_below q a zero n xs e = none_below n a (a + length xs) (first_named q (item_entries a xs)) (omega arith) (first_range q a xs)
first_below q a (suc k) n [] e = refl
first_below q a (suc k) n (x ∷ xs) e =
    below_step (bytes_eq q (item_name x).text) n a (first_named q (item_entries (a + 1) xs)) (list_any (declares q) (take k xs)) (omega arith) (first_below q (a + 1) k n xs (omega arith))

SlotRange : ℕ → Option Found → Type 0
SlotRange low None = Unit {0}
SlotRange low (Some (found.Slot j)) = low ≤ j
SlotRange low (Some (found.Item j)) = Unit {0}

slot_none_below : (n low : ℕ) (o : Option Found) → n ≤ low → SlotRange low o → slot_below n o ≡ false
unfolding SlotRange
slot_none_below n low None h r = refl
slot_none_below n low (Some (found.Item j)) h r = refl
slot_none_below n low (Some (found.Slot j)) h r = le-ltb j n (omega (arith, r))

slot_cond : (b : Bool) (low : ℕ) (o : Option Found) → SlotRange (low + 1) o → SlotRange low (cond b (Some (found.Slot low)) o)
unfolding SlotRange
slot_cond true low o r = omega arith
slot_cond false low None r = tt
slot_cond false low (Some (found.Item j)) r = tt
slot_cond false low (Some (found.Slot j)) r = omega (arith, r)

slot_range : (q : List ℕ) (k : ℕ) (ss : List SlotName) → SlotRange k (first_named q (slot_entries k ss))
unfolding SlotRange
slot_range q k [] = tt
slot_range q k (s ∷ ss) = slot_cond (bytes_eq q s.name.text) k (first_named q (slot_entries (k + 1) ss)) (slot_range q (k + 1) ss)

slot_step : (b : Bool) (n a : ℕ) (o : Option Found) (r : Bool) → a < n → slot_below n o ≡ r → slot_below n (cond b (Some (found.Slot a)) o) ≡ (b || r)
slot_step true n a o r h e = lt-ltb a n h
slot_step false n a o r h e = e

first_slot_below : (q : List ℕ) (a k n : ℕ) (ss : List SlotName) → n ≡ a + k → slot_below n (first_named q (slot_entries a ss)) ≡ list_any (names_slot q) (take k ss)
first_slot_below q a zero n ss e = slot_none_below n a (first_named q (slot_entries a ss)) (omega arith) (slot_range q a ss)
first_slot_below q a (suc k) n [] e = refl
first_slot_below q a (suc k) n (s ∷ ss) e =
    slot_step (bytes_eq q s.name.text) n a (first_named q (slot_entries (a + 1) ss)) (list_any (names_slot q) (take k ss)) (omega arith) (first_slot_below q (a + 1) k n ss (omega arith))

or_swap : (a b c d : Bool) → ((a || b) || (c || d)) ≡ ((a || c) || (b || d))
or_swap true b c d = refl
or_swap false true true d = refl
or_swap false true false d = refl
or_swap false false c d = refl

any_either : {X : Type 0} (p r : X → Bool) (xs : List X) → list_any (λ x. p x || r x) xs ≡ (list_any p xs || list_any r xs)
any_either p r [] = refl
any_either p r (x ∷ xs) = ap (λ b. (p x || r x) || b) (any_either p r xs) ∙ or_swap (p x) (r x) (list_any p xs) (list_any r xs)

-- A name that is given again
pub name_twice : (items : List Item) (at : ℕ) (q : List ℕ) (table inner : List Entry) → StandsFor table (item_entries 0 items) → HasInner inner (take at items) →
    (item_below at (first_named q table) || is_some (first_named q inner)) ≡ list_any (λ i. declares q i || list_any (names_slot q) (slots_of i)) (take at items)
name_twice items at q table inner h g =
    ap (λ b. b || is_some (first_named q inner)) (ap (item_below at) (h q) ∙ first_below q 0 at at items (omega arith))
    ∙ ap (λ b. list_any (declares q) (take at items) || b) (g q)
    ∙ sym (any_either (declares q) (λ i. list_any (names_slot q) (slots_of i)) (take at items))

pub slot_twice : (site : Site) (k : ℕ) (q : List ℕ) (g s : Option Found) → g ≡ stands_globally site.items q → s ≡ first_named q (slot_entries 0 (own_slots site)) →
    (up_to site.at g || slot_below k s) ≡ (list_any (declares q) (take (site.at + 1) site.items) || list_any (names_slot q) (take k (own_slots site)))
slot_twice site k q g s eg es =
    ap (λ b. b || slot_below k s) (ap (up_to site.at) eg ∙ up_to_below site.at (stands_globally site.items q) ∙ first_below q 0 (site.at + 1) (site.at + 1) site.items (omega arith))
    ∙ ap (λ b. list_any (declares q) (take (site.at + 1) site.items) || b) (ap (slot_below k) es ∙ first_slot_below q 0 k k (own_slots site) (omega arith))

-- ---- clocks

parent_same : (items : List Item) (table : List Entry) (known : List (Option Clock)) (parent : Option Name) → StandsFor table (item_entries 0 items) → parent_clock table known parent ≡ sound_parent items known parent
parent_same items table known None h = refl
parent_same items table known (Some p) h = ap (sound_found known) (h p.text)

pub fault_same : (site : Site) (table : List Entry) (known : List (Option Clock)) (i : Item) → StandsFor table (item_entries 0 site.items) → known ≡ sound_clocks site.items site.at → own_item site ≡ Some i → faulty table known i ≡ clock_at_fault site (own_item site)
fault_same site table known i h k own = go i ∙ ap (clock_at_fault site) (sym own)
  where
    go : (i : Item) → faulty table known i ≡ clock_at_fault site (Some i)
    go (item.Clock name by parent shift) =
        let e : parent_clock table known parent ≡ sound_parent site.items (sound_clocks site.items site.at) parent = parent_same site.items table known parent h ∙ ap (λ ks. sound_parent site.items ks parent) k in
        rw e
    go (item.Temporal name owner clock init depth) = refl
    go (item.Input name clock init depth) = refl
    go (item.Stream name receiver keep clock) = refl
    go (item.Function name params locals stmts) = refl
    go (item.Agent name clock processor budget locals body stmts) = refl

pub clock_same : (items : List Item) (table : List Entry) (known : List (Option Clock)) (i : Item) → StandsFor table (item_entries 0 items) → clock_of table known i ≡ sound items known i
clock_same items table known (item.Clock name by parent shift) h =
    let e : parent_clock table known parent ≡ sound_parent items known parent = parent_same items table known parent h in
    rw e
clock_same items table known (item.Temporal name owner clock init depth) h = refl
clock_same items table known (item.Input name clock init depth) h = refl
clock_same items table known (item.Stream name receiver keep clock) h = refl
clock_same items table known (item.Function name params locals stmts) h = refl
clock_same items table known (item.Agent name clock processor budget locals body stmts) h = refl

-- ---- loops

name_places-append : (k : ℕ) (xs ys : List Name) → name_places k (xs ++ ys) ≡ name_places k xs ++ name_places (k + length xs) ys
name_places-append k [] ys = ap (λ n. name_places n ys) (omega arith)
name_places-append k (x ∷ xs) ys =
    let e : k + 1 + length xs ≡ k + length (x ∷ xs) = omega arith in
    ap (λ ps. NamesSlot k x ∷ ps) (name_places-append (k + 1) xs ys ∙ ap (λ n. name_places (k + 1) xs ++ name_places n ys) e)

pub names_more : {X : Type 0} (now : X → Name) (xs : List X) (i : ℕ) (x : X) → i < length xs → get_or xs i x ≡ x → name_places 0 (map now (take (i + 1) xs)) ≡ name_places 0 (map now (take i xs)) ++ NamesSlot i (now x) ∷ []
names_more now xs i x h e =
    let len : 0 + length (map now (take i xs)) ≡ i = omega (arith, length-map (take i xs) now, length-take i xs) in
    ap (λ ys. name_places 0 (map now ys)) (take_more xs i x h ∙ ap (λ y. take i xs ++ y ∷ []) e)
    ∙ ap (name_places 0) (map-append now (take i xs) (x ∷ []))
    ∙ name_places-append 0 (map now (take i xs)) (now x ∷ [])
    ∙ ap (λ n. name_places 0 (map now (take i xs)) ++ name_places n (now x ∷ [])) len

some_or : (a : Option Found) (b : Bool) (f : Found) → is_some (or_first a (cond b (Some f) None)) ≡ (is_some a || b)
some_or None true f = refl
some_or None false f = refl
some_or (Some x) b f = refl

or_assoc : (a b c : Bool) → ((a || b) || c) ≡ (a || (b || c))
or_assoc true b c = refl
or_assoc false b c = refl

or_false : (a : Bool) → (a || false) ≡ a
or_false true = refl
or_false false = refl

pub inner_more : {X : Type 0} (p : List ℕ → X → Bool) (xs : List X) (i : ℕ) (x : X) (text q : List ℕ) (what : Found) (old now next : List Entry) → i < length xs → get_or xs i x ≡ x →
    is_some (first_named q now) ≡ (is_some (first_named q old) || list_any (p q) (take i xs)) → next ≡ added now text what → bytes_eq q text ≡ p q x →
    is_some (first_named q next) ≡ (is_some (first_named q old) || list_any (p q) (take (i + 1) xs))
inner_more p xs i x text q what old now next h e inv n same =
    ap (λ t. is_some (first_named q t)) n ∙ ap is_some (first-added q text what now (first_named text now) refl)
    ∙ some_or (first_named q now) (bytes_eq q text) what
    ∙ ap (λ b. is_some (first_named q now) || b) same
    ∙ ap (λ b. b || p q x) inv
    ∙ or_assoc (is_some (first_named q old)) (list_any (p q) (take i xs)) (p q x)
    ∙ ap (λ b. is_some (first_named q old) || b)
    (sym (ap (list_any (p q)) (take_more xs i x h ∙ ap (λ y. take i xs ++ y ∷ []) e) ∙ list_any-append (p q) (take i xs) (x ∷ []) ∙ ap (λ b. list_any (p q) (take i xs) || b) (or_false (p q x))))
