-- What a program without a fault keeps at each of its places.
use Rattle.std.proofs.Common.{◌≡◌, ℕ, zero, suc, ◌+◌, ◌<◌, ◌≤◌, Bool, true, false, cond, ◌&&◌, List, [], ◌∷◌, ◌++◌, take, drop, length, Option, Some, None, refl, sym, ap, ◌∙◌, subst, inl, inr, arith, append-nil}
use Rattle.std.specs.Prelude.{nat_lt, slice_get}
use Rattle.std.proofs.lemmas.Bool.{false≢true, ltb-false, or_parts, false_from_ne_true, not-false}
use Rattle.std.proofs.lemmas.Option.{none-some, same_Some}
use Rattle.psy_tree.specs.declared.raw.Name.{Name}
use Rattle.psy_tree.specs.declared.raw.Lit.{Lit}
use Rattle.psy_tree.specs.declared.raw.Item.{Item}
use Rattle.psy_tree.specs.declared.raw.Raw.{Raw}
use Rattle.psy_tree.specs.declared.rules.RuleKind.{RuleKind}
use Rattle.psy_tree.specs.declared.rules.RuleKind.TheVariants as kind
use Rattle.psy_tree.specs.declared.reach.Asks.{Asks}
use Rattle.psy_tree.specs.declared.reach.Asks.TheVariants as asks
use Rattle.psy_tree.specs.declared.reach.Found.{Found}
use Rattle.psy_tree.specs.declared.reach.Found.TheVariants as found
use Rattle.psy_tree.specs.Scope.{Site, item_entries, first_named, stands_for, stands_globally}
use Rattle.psy_tree.specs.Places.{Place, Uses, Ranges, Sited, token_of, head_places, inside_places, all_at, item_places, places_from, places}
use Rattle.std.specs.Option.{is_none}
use Rattle.psy_tree.specs.Rules.{NoFault, is_fault, is_parent, below, suits_by, unsuited, is_clock, is_agent, is_stream}
use Rattle.psy_tree.specs.Stands.{counting, number_of_item, global_number, number_at, inside_of}
use Rattle.psy_tree.proofs.lemmas.Among.{Among, contains, among_left, among_right}
use Rattle.psy_tree.proofs.lemmas.Entries.{entries_split}
use Rattle.psy_tree.proofs.lemmas.Numbers.{counting-cons}

-- ---- places of a program

abbrev pub head_at : List Item → ℕ → Site
head_at items at = record { items = items; at = at; inside = false }

abbrev sited : Site → Place → Sited
sited s p = record { site = s; place = p }

among_at : (s : Site) (p : Place) (ps : List Place) → Among p ps → Among (sited s p) (all_at s ps)
among_at s p [] h = absurd h
among_at s p (q ∷ ps) (inl e) = inl (ap (sited s) e)
among_at s p (q ∷ ps) (inr h) = inr (among_at s p ps h)

among_from : (items : List Item) (m k : ℕ) (xs : List Item) (i : Item) (s : Sited) → slice_get xs k ≡ Some i → Among s (item_places items (m + k) i) → Among s (places_from items m xs)
among_from items m k [] i s e h = absurd (none-some i e)
among_from items m zero (x ∷ xs) i s e h =
    let here : m + 0 ≡ m = omega arith in
    among_left s (item_places items m x) (places_from items (m + 1) xs) (subst (λ n. Among s (item_places items n x)) here (subst (λ j. Among s (item_places items (m + 0) j)) (sym (same_Some x i e)) h))
among_from items m (suc k) (x ∷ xs) i s e h =
    let next : m + suc k ≡ m + 1 + k = omega arith in
    among_right s (item_places items m x) (places_from items (m + 1) xs) (among_from items (m + 1) k xs i s e (subst (λ n. Among s (item_places items n i)) next h))

-- No rule is broken at a place.
abbrev pub Fine : Site → Place → Type 0
Fine site place = (kind : RuleKind) → is_fault kind site place ≡ false

-- No rule is broken at any of the places.
abbrev pub AllFine : Site → List Place → Type 0
AllFine site ps = (p : Place) → Among p ps → Fine site p

module _ (raw : Raw) (none : NoFault raw) where
  fine_at : (p : Sited) → Among p (places raw) → Fine p.site p.place
  fine_at p there kind = false_from_ne_true (is_fault kind p.site p.place) (λ e. none kind (token_of p.place) (p, contains p (places raw) there, e, refl))

  fine_item : (k : ℕ) (i : Item) (p : Sited) → slice_get raw.items k ≡ Some i → Among p (item_places raw.items k i) → Fine p.site p.place
  fine_item k i p own there =
      let e : k ≡ 0 + k = omega arith in
      fine_at p (inr (among_from raw.items 0 k raw.items i p own (subst (λ n. Among p (item_places raw.items n i)) e there)))

  pub fine_head : (k : ℕ) (i : Item) (place : Place) → slice_get raw.items k ≡ Some i → Among place (head_places i) → Fine (head_at raw.items k) place
  fine_head k i place own there =
      let s = head_at raw.items k in
      fine_item k i (sited s place) own (among_left (sited s place) (all_at s (head_places i)) (all_at (inside_of raw.items k) (inside_places i)) (among_at s place (head_places i) there))

  pub fine_inside : (k : ℕ) (i : Item) (place : Place) → slice_get raw.items k ≡ Some i → Among place (inside_places i) → Fine (inside_of raw.items k) place
  fine_inside k i place own there =
      let s = inside_of raw.items k in
      fine_item k i (sited s place) own (among_right (sited s place) (all_at (head_at raw.items k) (head_places i)) (all_at s (inside_places i)) (among_at s place (inside_places i) there))

  pub fine_quantum : Fine (head_at raw.items 0) (Ranges raw.quantum 1 1000000)
  fine_quantum = fine_at (sited (head_at raw.items 0) (Ranges raw.quantum 1 1000000)) (inl refl)

-- ---- what is kept

pub in_range : (site : Site) (number : Lit) (low high : ℕ) → Fine site (Ranges number low high) → (low ≤ number.value) × (number.value ≤ high)
in_range site number low high h =
    let both = or_parts (nat_lt number.value low) (nat_lt high number.value) (h kind.BadNumber) in
    (ltb-false number.value low both.0, ltb-false high number.value both.1)

-- A name stands for something that is asked for.
pub stands : (site : Site) (name : Name) (what : Asks) → Fine site (Uses name what) → (f : Found) × (stands_for site name.text ≡ Some f) × (suits_by site what f ≡ true)
stands site name what h = by (stands_for site name.text) refl (or_parts (is_none (stands_for site name.text)) (is_parent what && below site (stands_for site name.text)) (h kind.Unknown)).0 (h kind.WrongKind)
  where
    by : (o : Option Found) → stands_for site name.text ≡ o → is_none o ≡ false → unsuited site what o ≡ false → (f : Found) × (stands_for site name.text ≡ Some f) × (suits_by site what f ≡ true)
    by None e some suited = absurd (false≢true (sym some))
    by (Some f) e some suited = (f, e, not-false (suits_by site what f) suited)

-- What is asked for is a declaration that passes the test.
abbrev pub AsksFor : (Option Item → Bool) → Asks → Type 0
AsksFor p what = (site : Site) (f : Found) → suits_by site what f ≡ true → (k : ℕ) × (f ≡ found.Item k) × (p (slice_get site.items k) ≡ true)

pub asks_clock : AsksFor is_clock asks.Clock
asks_clock site (found.Item k) e = (k, refl, e)
asks_clock site (found.Slot k) e = absurd (false≢true e)

pub asks_parent : AsksFor is_clock asks.Parent
asks_parent site (found.Item k) e = (k, refl, e)
asks_parent site (found.Slot k) e = absurd (false≢true e)

pub asks_agent : AsksFor is_agent asks.Agent
asks_agent site (found.Item k) e = (k, refl, e)
asks_agent site (found.Slot k) e = absurd (false≢true e)

pub asks_target : AsksFor is_stream asks.Target
asks_target site (found.Item k) e = (k, refl, e)
asks_target site (found.Slot k) e = absurd (false≢true e)

pub counting_below : (p : Option Item → Bool) (xs : List Item) (k : ℕ) → p None ≡ false → p (slice_get xs k) ≡ true → counting p (take k xs) < counting p xs
counting_below p [] k out is = absurd (false≢true (sym out ∙ is))
counting_below p (x ∷ xs) zero out is = omega (arith, counting-cons p x xs, ap {B = ℕ} (λ b. cond b 1 0) is)
counting_below p (x ∷ xs) (suc k) out is = omega (arith, counting_below p xs k out is, counting-cons p x xs, counting-cons p x (take k xs))

pub number_below : (p : Option Item → Bool) (what : Asks) → p None ≡ false → AsksFor p what → (site : Site) (name : Name) → Fine site (Uses name what) → number_at p site name < counting p site.items
number_below p what out asked site name h =
    let there = stands site name what h in
    let item = asked site there.0 there.2 in
    subst (λ o. number_of_item p site.items o < counting p site.items) (sym (there.1 ∙ ap Some item.1)) (counting_below p site.items item.0 out item.2)

-- In a head a name stands for the first declaration of it.
pub head_stands : (items : List Item) (k : ℕ) (q : List ℕ) → k < length items → stands_for (head_at items k) q ≡ stands_globally items q
head_stands items k q h = ap (first_named q) (ap (λ es. es ++ item_entries (k + 1) (drop (k + 1) items)) (append-nil (item_entries 0 (take (k + 1) items))) ∙ sym (entries_split (k + 1) items (omega arith)))

pub global_below : (p : Option Item → Bool) (what : Asks) → p None ≡ false → AsksFor p what → (items : List Item) (k : ℕ) (name : Name) → k < length items → Fine (head_at items k) (Uses name what) → global_number p items name < counting p items
global_below p what out asked items k name l h =
    subst (λ o. number_of_item p items o < counting p items) (head_stands items k name.text l) (number_below p what out asked (head_at items k) name h)
