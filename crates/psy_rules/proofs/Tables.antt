-- The table of names finds the first declaration of a name.
use Rattle.std.proofs.Common.{◌≡◌, ℕ, ◌+◌, ◌<◌, ◌≤◌, Bool, true, false, cond, List, [], ◌∷◌, ◌++◌, map, take, drop, length, get_or, Option, Some, None, refl, sym, ap, ◌∙◌, subst, arith}
use Rattle.std.specs.Prelude.{is_some}
use Rattle.std.specs.Str.{bytes_eq}
use Rattle.std.specs.Map.{lookup}
use Rattle.indexmap.specs.IndexMap.{insert_entry}
use Rattle.std.proofs.lemmas.List.{take_more, length-take, map-append, length-map}
use Rattle.std.proofs.lemmas.Bool.{leb-true, leb-false}
use Rattle.std.proofs.lemmas.Slice.Eq.{bytes_eq-Decides}
use Rattle.psy_tree.specs.declared.raw.Item.{Item}
use Rattle.psy_tree.specs.declared.raw.Name.{Name}
use Rattle.psy_tree.specs.declared.reach.Found.{Found}
use Rattle.psy_tree.specs.declared.reach.Found.TheVariants as found
use Rattle.psy_tree.specs.Scope.{Entry, SlotName, Site, scalar, first_named, item_entries, slot_entries, item_name, own_slots, stands_for, stands_globally}
use Rattle.psy_tree.proofs.lemmas.Entries.{item_entries-append, entries_split}
use Rattle.psy_rules.specs.Finding.{up_to}
use Rattle.psy_rules.specs.Tables.{StandsFor, added, as_slots}

abbrev pub entry : List ℕ × Found → Entry
entry e = record { text = e.0; found = e.1 }

pub first_of_pairs : (text : List ℕ) (es : List (List ℕ × Found)) → first_named text (map entry es) ≡ lookup (bytes_eq text) es
first_of_pairs text [] = refl
first_of_pairs text (e ∷ es) = ap (λ o. cond (bytes_eq text e.0) (Some e.1) o) (first_of_pairs text es)

-- The first, or else the second
abbrev pub or_first : Option Found → Option Found → Option Found
or_first None o = o
or_first (Some f) o = Some f

or_cond : (b : Bool) (f : Found) (o p : Option Found) → or_first (cond b (Some f) o) p ≡ cond b (Some f) (or_first o p)
or_cond true f o p = refl
or_cond false f o p = refl

pub first-append : (text : List ℕ) (es fs : List Entry) → first_named text (es ++ fs) ≡ or_first (first_named text es) (first_named text fs)
first-append text [] fs = refl
first-append text (e ∷ es) fs =
    ap (λ o. cond (bytes_eq text e.text) (Some e.found) o) (first-append text es fs)
    ∙ sym (or_cond (bytes_eq text e.text) e.found (first_named text es) (first_named text fs))

or_none : (o : Option Found) → or_first o None ≡ o
or_none None = refl
or_none (Some f) = refl

pub same_bytes : (q n : List ℕ) → bytes_eq q n ≡ true → q ≡ n
same_bytes q n e = (bytes_eq-Decides q n).0 e

none_is : {A : Type 0} (o : Option A) → is_some o ≡ false → o ≡ None
none_is None e = refl
none_is (Some x) e = cc

-- A name that is new goes last.
pub added_new : (table : List Entry) (n : List ℕ) (what : Found) → first_named n table ≡ None → table ++ record { text = n; found = what } ∷ [] ≡ added table n what
added_new table n what e = sym (ap (λ o. cond (is_some o) table (table ++ record { text = n; found = what } ∷ [])) e)

-- A name that has a declaration keeps it.
kept : (q n : List ℕ) (what : Found) (table : List Entry) (g : Found) → first_named n table ≡ Some g → (b : Bool) → bytes_eq q n ≡ b → first_named q table ≡ or_first (first_named q table) (cond b (Some what) None)
kept q n what table g there false e = sym (or_none (first_named q table))
kept q n what table g there true e =
    let same : q ≡ n = same_bytes q n e in
    let found_there : first_named q table ≡ Some g = ap (λ t. first_named t table) same ∙ there in
    rw found_there

pub first-added : (q n : List ℕ) (what : Found) (table : List Entry) (o : Option Found) → first_named n table ≡ o → first_named q (added table n what) ≡ or_first (first_named q table) (cond (bytes_eq q n) (Some what) None)
first-added q n what table None e =
    ap (λ o. first_named q (cond (is_some o) table (table ++ record { text = n; found = what } ∷ []))) e
    ∙ first-append q table (record { text = n; found = what } ∷ [])
first-added q n what table (Some g) e =
    ap (λ o. first_named q (cond (is_some o) table (table ++ record { text = n; found = what } ∷ []))) e
    ∙ kept q n what table g e (bytes_eq q n) refl

-- One more declaration
pub stands-added : (table es : List Entry) (n : List ℕ) (what : Found) → StandsFor table es → StandsFor (added table n what) (es ++ record { text = n; found = what } ∷ [])
stands-added table es n what h q =
    first-added q n what table (first_named n table) refl
    ∙ ap (λ o. or_first o (cond (bytes_eq q n) (Some what) None)) (h q)
    ∙ sym (first-append q es (record { text = n; found = what } ∷ []))

pub slot_entries-append : (k : ℕ) (xs ys : List SlotName) → slot_entries k (xs ++ ys) ≡ slot_entries k xs ++ slot_entries (k + length xs) ys
slot_entries-append k [] ys = ap (λ n. slot_entries n ys) (omega arith)
slot_entries-append k (x ∷ xs) ys =
    let e : k + 1 + length xs ≡ k + length (x ∷ xs) = omega arith in
    ap (λ es. record { text = x.name.text; found = found.Slot k } ∷ es)
    (slot_entries-append (k + 1) xs ys ∙ ap (λ n. slot_entries (k + 1) xs ++ slot_entries n ys) e)

absent_cons : {A : Type 0} (b : Bool) (x : A) (o : Option A) → cond b (Some x) o ≡ None → (b ≡ false) × (o ≡ None)
absent_cons true x o h = cc
absent_cons false x o h = (refl, h)

insert_absent : (k : List ℕ) (v : Found) (es : List (List ℕ × Found)) → lookup (bytes_eq k) es ≡ None → insert_entry bytes_eq es k v ≡ es ++ (k, v) ∷ []
insert_absent k v [] h = refl
insert_absent k v (e ∷ es) h =
    let p : (bytes_eq k e.0 ≡ false) × (lookup (bytes_eq k) es ≡ None) = absent_cons (bytes_eq k e.0) e.1 (lookup (bytes_eq k) es) h in
    ap (λ b. cond b ((e.0, v) ∷ es) (e ∷ insert_entry bytes_eq es k v)) p.0 ∙ ap (λ r. e ∷ r) (insert_absent k v es p.1)

pub add_entry : (es new : List (List ℕ × Found)) (k n : List ℕ) (v : Found) (table : List Entry) → new ≡ insert_entry bytes_eq es k v → k ≡ n → map entry es ≡ table → is_some (first_named n table) ≡ false → map entry new ≡ added table n v
add_entry es new k n v table e same view none =
    let absent : first_named n table ≡ None = none_is (first_named n table) none in
    let missing : lookup (bytes_eq k) es ≡ None = sym (first_of_pairs k es) ∙ ap (first_named k) view ∙ ap (λ t. first_named t table) same ∙ absent in
    ap (map entry) (e ∙ insert_absent k v es missing) ∙ map-append entry es ((k, v) ∷ [])
    ∙ ap (λ t. t ++ record { text = k; found = v } ∷ []) view ∙ ap (λ t. table ++ record { text = t; found = v } ∷ []) same
    ∙ added_new table n v absent

-- ---- where what is found stands

-- A declaration of a number from low on and below high
abbrev pub InRange : ℕ → ℕ → Option Found → Type 0
InRange low high None = Unit {0}
InRange low high (Some (found.Item j)) = (low ≤ j) × (j < high)
InRange low high (Some (found.Slot j)) = ⊥

in_cond : (b : Bool) (low high : ℕ) (o : Option Found) → low < high → InRange low high o → InRange low high (cond b (Some (found.Item low)) o)
in_cond true low high o h r = (omega arith, h)
in_cond false low high o h r = r

in_wider : (low high : ℕ) (o : Option Found) → InRange (low + 1) high o → InRange low high o
in_wider low high None r = tt
in_wider low high (Some (found.Item j)) r = (omega arith, r.1)
in_wider low high (Some (found.Slot j)) r = r

pub first_range : (text : List ℕ) (k : ℕ) (xs : List Item) → InRange k (k + length xs) (first_named text (item_entries k xs))
first_range text k [] = tt
first_range text k (x ∷ xs) =
    let e : k + 1 + length xs ≡ k + length (x ∷ xs) = omega arith in
    let o : Option Found = first_named text (item_entries (k + 1) xs) in
    let r : InRange (k + 1) (k + length (x ∷ xs)) (first_named text (item_entries (k + 1) xs)) =
    (let P : ℕ → Type 0 = λ n. InRange (k + 1) n (first_named text (item_entries (k + 1) xs)) in subst P e (first_range text (k + 1) xs)) in
    in_cond (bytes_eq text (item_name x).text) k (k + length (x ∷ xs)) (first_named text (item_entries (k + 1) xs)) (omega arith) (in_wider k (k + length (x ∷ xs)) (first_named text (item_entries (k + 1) xs)) r)

-- ---- what a name stands for in reach

pick_up : (n m hi : ℕ) (a b c : Option Found) → InRange 0 m a → m ≤ n + 1 → InRange (n + 1) hi c → up_to n (or_first a c) ≡ true → or_first a c ≡ or_first (or_first a b) c
pick_up n m hi (Some f) b c ra le rc h = refl
pick_up n m hi None b None ra le rc h = cc
pick_up n m hi None b (Some (found.Slot j)) ra le rc h = absurd rc
pick_up n m hi None b (Some (found.Item j)) ra le rc h = absurd (omega (arith, leb-true j n h, rc.0))

pick_in : (n m : ℕ) (a b c : Option Found) → InRange 0 m a → m ≤ n + 1 → up_to n (or_first a c) ≡ false → or_first b c ≡ or_first (or_first a b) c
pick_in n m None b c ra le h = refl
pick_in n m (Some (found.Slot j)) b c ra le h = absurd ra
pick_in n m (Some (found.Item j)) b c ra le h = absurd (omega (arith, leb-false j n h, ra.1))

abbrev pub above : Site → List ℕ → Option Found
above site q = first_named q (item_entries 0 (take (site.at + 1) site.items))

abbrev pub beneath : Site → List ℕ → Option Found
beneath site q = first_named q (item_entries (site.at + 1) (drop (site.at + 1) site.items))

abbrev pub inner : Site → List ℕ → Option Found
inner site q = first_named q (slot_entries 0 (own_slots site))

pub stands_parts : (site : Site) (q : List ℕ) → stands_for site q ≡ or_first (or_first (above site q) (inner site q)) (beneath site q)
stands_parts site q =
    first-append q (item_entries 0 (take (site.at + 1) site.items) ++ slot_entries 0 (own_slots site)) (item_entries (site.at + 1) (drop (site.at + 1) site.items))
    ∙ ap (λ o. or_first o (beneath site q)) (first-append q (item_entries 0 (take (site.at + 1) site.items)) (slot_entries 0 (own_slots site)))

global_parts : (site : Site) (q : List ℕ) → site.at < length site.items → stands_globally site.items q ≡ or_first (above site q) (beneath site q)
global_parts site q h =
    ap (first_named q) (entries_split (site.at + 1) site.items (omega arith))
    ∙ first-append q (item_entries 0 (take (site.at + 1) site.items)) (item_entries (site.at + 1) (drop (site.at + 1) site.items))

pub found_above : (site : Site) (q : List ℕ) (g : Option Found) → site.at < length site.items → g ≡ stands_globally site.items q → up_to site.at g ≡ true → g ≡ stands_for site q
found_above site q g h e up =
    let split : g ≡ or_first (above site q) (beneath site q) = e ∙ global_parts site q h in
    let P : Option Found → Type 0 = λ o. up_to site.at o ≡ true in
    split
    ∙ pick_up site.at (0 + length (take (site.at + 1) site.items)) (site.at + 1 + length (drop (site.at + 1) site.items)) (above site q) (inner site q) (beneath site q)
    (first_range q 0 (take (site.at + 1) site.items)) (omega (arith, length-take (site.at + 1) site.items)) (first_range q (site.at + 1) (drop (site.at + 1) site.items)) (subst P split up)
    ∙ sym (stands_parts site q)

pub found_inside : (site : Site) (q : List ℕ) (g : Option Found) → site.at < length site.items → g ≡ stands_globally site.items q → up_to site.at g ≡ false → or_first (inner site q) (beneath site q) ≡ stands_for site q
found_inside site q g h e up =
    let split : g ≡ or_first (above site q) (beneath site q) = e ∙ global_parts site q h in
    let P : Option Found → Type 0 = λ o. up_to site.at o ≡ false in
    pick_in site.at (0 + length (take (site.at + 1) site.items)) (above site q) (inner site q) (beneath site q)
    (first_range q 0 (take (site.at + 1) site.items)) (omega (arith, length-take (site.at + 1) site.items)) (subst P split up)
    ∙ sym (stands_parts site q)

-- Where nothing stands above, what stands for the name in the whole program stands beneath
not_above : (n : ℕ) (a c : Option Found) (m : ℕ) → InRange 0 m a → m ≤ n + 1 → up_to n (or_first a c) ≡ false → or_first a c ≡ c
not_above n None c m ra le h = refl
not_above n (Some (found.Slot j)) c m ra le h = absurd ra
not_above n (Some (found.Item j)) c m ra le h = absurd (omega (arith, leb-false j n h, ra.1))

pub found_inner : (site : Site) (q : List ℕ) (g s : Option Found) (f : Found) → site.at < length site.items → g ≡ stands_globally site.items q → up_to site.at g ≡ false → s ≡ inner site q → s ≡ Some f → Some f ≡ stands_for site q
found_inner site q g s f h e up se some =
    ap (λ o. or_first o (beneath site q)) (sym some ∙ se) ∙ found_inside site q g h e up

pub found_beneath : (site : Site) (q : List ℕ) (g s : Option Found) → site.at < length site.items → g ≡ stands_globally site.items q → up_to site.at g ≡ false → s ≡ inner site q → s ≡ None → g ≡ stands_for site q
found_beneath site q g s h e up se none =
    let split : g ≡ or_first (above site q) (beneath site q) = e ∙ global_parts site q h in
    let P : Option Found → Type 0 = λ o. up_to site.at o ≡ false in
    split ∙ not_above site.at (above site q) (beneath site q) (0 + length (take (site.at + 1) site.items)) (first_range q 0 (take (site.at + 1) site.items)) (omega (arith, length-take (site.at + 1) site.items)) (subst P split up)
    ∙ ap (λ o. or_first o (beneath site q)) (sym none ∙ se) ∙ found_inside site q g h e up

-- ---- one more declaration

pub items_more : (items : List Item) (i : ℕ) (x : Item) → i < length items → get_or items i x ≡ x → item_entries 0 (take (i + 1) items) ≡ item_entries 0 (take i items) ++ record { text = (item_name x).text; found = found.Item i } ∷ []
items_more items i x h e =
    let len : 0 + length (take i items) ≡ i = omega (arith, length-take i items) in
    ap (item_entries 0) (take_more items i x h ∙ ap (λ y. take i items ++ y ∷ []) e)
    ∙ item_entries-append 0 (take i items) (x ∷ [])
    ∙ ap (λ n. item_entries 0 (take i items) ++ item_entries n (x ∷ [])) len

pub stands-items_more : (items : List Item) (i : ℕ) (x : Item) (table new : List Entry) (text : List ℕ) → StandsFor table (item_entries 0 (take i items)) → i < length items → get_or items i x ≡ x → text ≡ (item_name x).text → new ≡ added table text (found.Item i) → StandsFor new (item_entries 0 (take (i + 1) items))
stands-items_more items i x table new text h l e t n q =
    ap (first_named q) (n ∙ ap (λ y. added table y (found.Item i)) t)
    ∙ stands-added table (item_entries 0 (take i items)) (item_name x).text (found.Item i) h q
    ∙ sym (ap (first_named q) (items_more items i x l e))

slots_more : {X : Type 0} (now : X → Name) (names : List X) (i : ℕ) (x : X) → i < length names → get_or names i x ≡ x → slot_entries 0 (as_slots (map now (take (i + 1) names))) ≡ slot_entries 0 (as_slots (map now (take i names))) ++ record { text = (now x).text; found = found.Slot i } ∷ []
slots_more now names i x h e =
    let len1 : length (map now (take i names)) ≡ length (take i names) = length-map (take i names) now in
    let len2 : length (map scalar (map now (take i names))) ≡ length (map now (take i names)) = length-map (map now (take i names)) scalar in
    let len : 0 + length (as_slots (map now (take i names))) ≡ i = omega (arith, length-take i names) in
    ap (λ ns. slot_entries 0 (as_slots (map now ns))) (take_more names i x h ∙ ap (λ y. take i names ++ y ∷ []) e)
    ∙ ap (λ ns. slot_entries 0 (as_slots ns)) (map-append now (take i names) (x ∷ []))
    ∙ ap (slot_entries 0) (map-append scalar (map now (take i names)) (now x ∷ []))
    ∙ slot_entries-append 0 (as_slots (map now (take i names))) (as_slots (now x ∷ []))
    ∙ ap (λ n. slot_entries 0 (as_slots (map now (take i names))) ++ slot_entries n (as_slots (now x ∷ []))) len

pub stands-slots_more : {X : Type 0} (now : X → Name) (names : List X) (i : ℕ) (x : X) (table new : List Entry) → StandsFor table (slot_entries 0 (as_slots (map now (take i names)))) → i < length names → get_or names i x ≡ x → new ≡ added table (now x).text (found.Slot i) → StandsFor new (slot_entries 0 (as_slots (map now (take (i + 1) names))))
stands-slots_more now names i x table new h l e n q =
    ap (first_named q) n
    ∙ stands-added table (slot_entries 0 (as_slots (map now (take i names)))) (now x).text (found.Slot i) h q
    ∙ sym (ap (first_named q) (slots_more now names i x l e))
