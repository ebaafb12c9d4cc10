-- The faults of a declaration.
use Rattle.std.proofs.Common.{◌≡◌, ℕ, ◌+◌, ◌<◌, Bool, true, false, ◌||◌, List, [], ◌∷◌, ◌++◌, map, take, length, Option, Some, refl, sym, ap, ◌∙◌}
use Rattle.std.specs.Prelude.{is_some, slice_get}
use Rattle.std.specs.Str.{bytes_eq}
use Rattle.std.specs.List.{list_any}
use Rattle.std.proofs.lemmas.List.{take_more}
use Rattle.std.proofs.lemmas.Option.{slice_get_within, get_or_from_slice_get}
use Rattle.std.proofs.lemmas.List.Folds.{list_any-append}
use Rattle.psy_tree.specs.declared.raw.Name.{Name}
use Rattle.psy_tree.specs.declared.raw.Item.{Item}
use Rattle.psy_tree.specs.declared.raw.Item.TheVariants as item
use Rattle.psy_tree.specs.declared.reach.Found.TheVariants as found
use Rattle.psy_tree.specs.Scope.{Entry, SlotName, Site, first_named, slot_entries, item_name, own_slots, slots_at, slots_of}
use Rattle.psy_tree.specs.Places.{Place, NamesItem, NamesSlot, Sited, all_at, head_places, body_places, inside_places, slot_places, item_places}
use Rattle.psy_tree.specs.Rules.{names_slot}
use Rattle.psy_tree.proofs.lemmas.Faultless.{head_at}
use Rattle.psy_rules.specs.declared.least.RuleAt.{RuleAt}
use Rattle.psy_rules.specs.Tables.{StandsFor, HasInner, is_inner, slot_names, as_slots}
use Rattle.psy_rules.specs.Heads.{name_places, after_name}
use Rattle.psy_rules.specs.Judged.{judged, judged_all, judged_sited}
use Rattle.psy_rules.proofs.Judging.{judged_all_append}

sited_all : (s : Site) (ps : List Place) (qs : List Sited) (l : Option RuleAt) → judged_sited (all_at s ps ++ qs) l ≡ judged_sited qs (judged_all s ps l)
sited_all s [] qs l = refl
sited_all s (p ∷ ps) qs l = sited_all s ps qs (judged s p l)

sited_only : (s : Site) (ps : List Place) (l : Option RuleAt) → judged_sited (all_at s ps) l ≡ judged_all s ps l
sited_only s [] l = refl
sited_only s (p ∷ ps) l = sited_only s ps (judged s p l)

pub sited_append : (ps qs : List Sited) (l : Option RuleAt) → judged_sited (ps ++ qs) l ≡ judged_sited qs (judged_sited ps l)
sited_append [] qs l = refl
sited_append (p ∷ ps) qs l = sited_append ps qs (judged p.site p.place l)

heads_split : (i : Item) → head_places i ≡ NamesItem (item_name i) ∷ after_name i
heads_split (item.Clock name by parent shift) = refl
heads_split (item.Temporal name owner clock init depth) = refl
heads_split (item.Input name clock init depth) = refl
heads_split (item.Stream name receiver keep clock) = refl
heads_split (item.Function name params locals stmts) = refl
heads_split (item.Agent name clock processor budget locals body stmts) = refl

slot_places_by_name : (k : ℕ) (ss : List SlotName) → slot_places k ss ≡ name_places k (slot_names ss)
slot_places_by_name k [] = refl
slot_places_by_name k (s ∷ ss) = ap (λ ps. NamesSlot k s.name ∷ ps) (slot_places_by_name (k + 1) ss)

abbrev pub body_at : List Item → ℕ → Site
body_at items at = record { items = items; at = at; inside = true }

-- A declaration is judged by its name, its head, the names inside it and its body.
pub item_judged : (items : List Item) (at : ℕ) (i : Item) (names : List Name) (l0 l1 l2 l3 l4 : Option RuleAt) →
    l1 ≡ judged (head_at items at) (NamesItem (item_name i)) l0 → l2 ≡ judged_all (head_at items at) (after_name i) l1 →
    l3 ≡ judged_all (body_at items at) (name_places 0 names) l2 → names ≡ slot_names (slots_of i) → l4 ≡ judged_all (body_at items at) (body_places i) l3 →
    l4 ≡ judged_sited (item_places items at i) l0
item_judged items at i names l0 l1 l2 l3 l4 a b c n d =
    d ∙ ap (judged_all (body_at items at) (body_places i))
    (c ∙ ap (λ ns. judged_all (body_at items at) (name_places 0 ns) l2) n ∙ ap (λ ps. judged_all (body_at items at) ps l2) (sym (slot_places_by_name 0 (slots_of i))))
    ∙ sym (judged_all_append (body_at items at) (slot_places 0 (slots_of i)) (body_places i) l2)
    ∙ ap (judged_all (body_at items at) (inside_places i)) (b ∙ ap (judged_all (head_at items at) (after_name i)) a ∙ ap (λ ps. judged_all (head_at items at) ps l0) (sym (heads_split i)))
    ∙ sym (sited_only (body_at items at) (inside_places i) (judged_all (head_at items at) (head_places i) l0))
    ∙ sym (sited_all (head_at items at) (head_places i) (all_at (body_at items at) (inside_places i)) l0)

slots_by_name : (k : ℕ) (ss : List SlotName) → slot_entries k (as_slots (slot_names ss)) ≡ slot_entries k ss
slots_by_name k [] = refl
slots_by_name k (s ∷ ss) = ap (λ es. record { text = s.name.text; found = found.Slot k } ∷ es) (slots_by_name (k + 1) ss)

-- The table of the names of a declaration's slots is that of the slots in reach inside it.
pub own_table : (items : List Item) (at : ℕ) (i : Item) (names : List Name) (table : List Entry) → slice_get items at ≡ Some i → names ≡ slot_names (slots_of i) → StandsFor table (slot_entries 0 (as_slots names)) →
    StandsFor table (slot_entries 0 (own_slots (body_at items at)))
own_table items at i names table own n h q =
    h q ∙ ap (λ ns. first_named q (slot_entries 0 (as_slots ns))) n ∙ ap (first_named q) (slots_by_name 0 (slots_of i))
    ∙ ap (λ o. first_named q (slot_entries 0 (slots_at o))) (sym own)

any_map : {X Y : Type 0} (p : Y → Bool) (f : X → Y) (xs : List X) → list_any p (map f xs) ≡ list_any (λ x. p (f x)) xs
any_map p f [] = refl
any_map p f (x ∷ xs) = ap (λ b. p (f x) || b) (any_map p f xs)

or_false : (a : Bool) → (a || false) ≡ a
or_false true = refl
or_false false = refl

pub inner_next : {X : Type 0} (now : X → Name) (items : List Item) (at : ℕ) (i : Item) (names : List X) (old new : List Entry) → slice_get items at ≡ Some i → map now names ≡ slot_names (slots_of i) → HasInner old (take at items) →
    ((q : List ℕ) → is_some (first_named q new) ≡ (is_some (first_named q old) || list_any (λ n. bytes_eq q (now n).text) names)) → HasInner new (take (at + 1) items)
inner_next now items at i names old new own n h step q =
    let within : at < length items = slice_get_within items at i own in
    let here : list_any (λ x. bytes_eq q (now x).text) names ≡ list_any (names_slot q) (slots_of i) =
    sym (any_map (λ m. bytes_eq q m.text) now names) ∙ ap (list_any (λ m. bytes_eq q m.text)) n ∙ any_map (λ m. bytes_eq q m.text) (λ s. s.name) (slots_of i) in
    let inner : Item → Bool = λ j. list_any (names_slot q) (slots_of j) in
    step q ∙ ap (λ b. b || list_any (λ x. bytes_eq q (now x).text) names) (h q) ∙ ap (λ b. is_inner q (take at items) || b) here
    ∙ sym (ap (is_inner q) (take_more items at i within ∙ ap (λ y. take at items ++ y ∷ []) (get_or_from_slice_get items at i i own))
    ∙ list_any-append inner (take at items) (i ∷ []) ∙ ap (λ b. is_inner q (take at items) || b) (or_false (inner i)))
