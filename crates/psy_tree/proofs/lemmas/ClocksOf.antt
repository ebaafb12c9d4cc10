-- Each clock that a program without a fault declares is sound.
use Rattle.std.proofs.Common.{◌≡◌, ℕ, suc, ◌+◌, ◌*◌, ◌<◌, ◌≤◌, Bool, true, false, cond, ◌&&◌, List, [], ◌∷◌, ◌++◌, map, take, length, Option, Some, None, refl, sym, ap, ap₂, ◌∙◌, inl, inr, arith, mul-le-mul_right}
use Rattle.std.specs.Prelude.{nat_lt, nat_le, is_some, slice_get, option_map, option_to_list, IfSome}
use Rattle.std.specs.List.{All, flat_map}
use Rattle.std.proofs.lemmas.Bool.{false≢true, lt-ltb, le-leb, leb-false, leb-true, ltb-true, ltb-false, or_parts, and_from}
use Rattle.std.proofs.lemmas.Option.{none-some, same_Some, slice_get_within, slice_get-map, get_or_from_slice_get}
use Rattle.std.proofs.lemmas.List.{take_more, take_all, map-append}
use Rattle.std.proofs.lemmas.List.Elements.{All-nil, All-cons}
use Rattle.psy_clock.specs.declared.clock.Clock.{Clock}
use Rattle.psy_clock.specs.Dates.{IsClock, derived}
use Rattle.psy_tree.specs.declared.raw.Name.{Name}
use Rattle.psy_tree.specs.declared.raw.Lit.{Lit}
use Rattle.psy_tree.specs.declared.raw.Item.{Item}
use Rattle.psy_tree.specs.declared.raw.Item.TheVariants as item
use Rattle.psy_tree.specs.declared.raw.Raw.{Raw}
use Rattle.psy_tree.specs.declared.rules.RuleKind.TheVariants as kind
use Rattle.psy_tree.specs.declared.reach.Asks.TheVariants as asks
use Rattle.psy_tree.specs.declared.reach.Found.{Found}
use Rattle.psy_tree.specs.declared.reach.Found.TheVariants as found
use Rattle.psy_tree.specs.Scope.{stands_for, stands_globally}
use Rattle.psy_tree.specs.Places.{Derives, Uses}
use Rattle.std.specs.Option.{is_none}
use Rattle.psy_tree.specs.Rules.{NoFault, is_clock, shift_of, lawful, flat, sound_found, sound_parent, sound, sound_clocks, AreClocks, too_slow, clock_at_fault, below}
use Rattle.psy_tree.specs.Stands.{unit_of, counting}
use Rattle.psy_tree.proofs.lemmas.Clocks.{clocks_more, lawful_more, no_clocks}
use Rattle.psy_tree.proofs.lemmas.Faultless.{Fine, head_at, head_stands, fine_head, stands, asks_parent}
use Rattle.psy_tree.proofs.lemmas.Lists.{slice_get-take, upto}
use Rattle.psy_tree.proofs.lemmas.Numbers.{counting-cons}

-- ---- a derived clock

lawful_some : (o : Option Clock) (n m : ℕ) → is_some o ≡ true → nat_le n m ≡ false → too_slow o n ≡ false → is_some (lawful o n m) ≡ true
lawful_some None n m s a b = absurd (false≢true s)
lawful_some (Some c) n m s a b =
    ap (λ t. is_some (cond t (Some (derived c n m)) None)) (and_from (nat_lt m n) (nat_le (n * c.period) 10000) (lt-ltb m n (leb-false n m a)) (le-leb (n * c.period) 10000 (ltb-false 10000 (n * c.period) b)))

derived_clock : (c : Clock) (n m : ℕ) → IsClock c → m < n → n * c.period ≤ 10000 → IsClock (derived c n m)
derived_clock c n m is below few =
    let more : suc m * c.period ≤ n * c.period = mul-le-mul_right c.period below in
    record { first = omega (arith, is.first, more); period = few }

lawful_clock : (o : Option Clock) (n m : ℕ) → IfSome o IsClock → IfSome (lawful o n m) IsClock
lawful_clock None n m is = tt
lawful_clock (Some c) n m is = by (nat_lt m n) (nat_le (n * c.period) 10000) refl refl
  where
    by : (a b : Bool) → nat_lt m n ≡ a → nat_le (n * c.period) 10000 ≡ b → IfSome (cond (a && b) (Some (derived c n m)) None) IsClock
    by true true e f = derived_clock c n m is (ltb-true m n e) (leb-true (n * c.period) 10000 f)
    by true false e f = tt
    by false b e f = tt

-- ---- the clock of a parent

found_some : (o : Option (Option Clock)) (i : Option Item) → option_map is_some o ≡ option_map (λ x. is_clock (Some x)) i → is_clock i ≡ true → is_some (flat o) ≡ true
found_some None None e is = absurd (false≢true is)
found_some None (Some i) e is = absurd (none-some _ e)
found_some (Some o) None e is = absurd (false≢true is)
found_some (Some o) (Some i) e is = same_Some _ _ e ∙ is

found_clock : (o : Option (Option Clock)) → ((c : Clock) → o ≡ Some (Some c) → IsClock c) → IfSome (flat o) IsClock
found_clock None h = tt
found_clock (Some None) h = tt
found_clock (Some (Some c)) h = h c refl

parent_clock : (items : List Item) (known : List (Option Clock)) (parent : Option Name) → AreClocks known → IfSome (sound_parent items known parent) IsClock
parent_clock items known None h = record { first = omega arith; period = omega arith }
parent_clock items known (Some name) h = by (stands_globally items name.text)
  where
    by : (f : Option Found) → IfSome (sound_found known f) IsClock
    by None = tt
    by (Some (found.Slot k)) = tt
    by (Some (found.Item k)) = found_clock (slice_get known k) (h k)

abbrev clock_here : Item → Bool
clock_here i = is_clock (Some i)

-- Of the first k declarations those that are clocks have a sound one.
abbrev Known : List Item → ℕ → Type 0
Known items k = map is_some (sound_clocks items k) ≡ map clock_here (take k items)

one_more : (items : List Item) (k : ℕ) (i : Item) → slice_get items k ≡ Some i → sound_clocks items k ++ sound items (sound_clocks items k) i ∷ [] ≡ sound_clocks items (k + 1)
one_more items k i own = clocks_more items k i (sound_clocks items k) _ (sound items (sound_clocks items k) i) (slice_get_within items k i own) (get_or_from_slice_get items k i i own) refl refl refl

module _ (raw : Raw) (none : NoFault raw) where
  found_sound : (k j : ℕ) → j < k → Known raw.items k → is_clock (slice_get raw.items j) ≡ true → is_some (flat (slice_get (sound_clocks raw.items k) j)) ≡ true
  found_sound k j h known is =
      found_some (slice_get (sound_clocks raw.items k) j) (slice_get (take k raw.items) j)
      (sym (slice_get-map is_some (sound_clocks raw.items k) j) ∙ ap (λ l. slice_get l j) known ∙ slice_get-map clock_here (take k raw.items) j)
      (ap is_clock (slice_get-take k raw.items j h) ∙ is)

  parent_sound : (k : ℕ) (parent : Name) → k < length raw.items → Fine (head_at raw.items k) (Uses parent asks.Parent) → Known raw.items k → is_some (sound_parent raw.items (sound_clocks raw.items k) (Some parent)) ≡ true
  parent_sound k parent h fine known =
      let site = head_at raw.items k in
      let there = stands site parent asks.Parent fine in
      let item = asks_parent site there.0 there.2 in
      let is : stands_for site parent.text ≡ Some (found.Item item.0) = there.1 ∙ ap Some item.1 in
      let not_below : below site (Some (found.Item item.0)) ≡ false = ap (below site) (sym is) ∙ (or_parts (is_none (stands_for site parent.text)) (below site (stands_for site parent.text)) (fine kind.Unknown)).1 in
      let above : nat_le k item.0 ≡ false = ap (λ b. b && nat_le k item.0) (sym item.2) ∙ not_below in
      ap (λ f. is_some (sound_found (sound_clocks raw.items k) f)) (sym (head_stands raw.items k parent.text h) ∙ is) ∙ found_sound k item.0 (leb-false k item.0 above) known item.2

  clock_sound : (k : ℕ) (name : Name) (by : Lit) (parent : Option Name) (shift : Option Lit) → slice_get raw.items k ≡ Some (item.Clock name by parent shift) → is_some (sound_parent raw.items (sound_clocks raw.items k) parent) ≡ true → is_some (sound raw.items (sound_clocks raw.items k) (item.Clock name by parent shift)) ≡ true
  clock_sound k name by parent shift own there =
      let site = head_at raw.items k in
      let fault : clock_at_fault site (Some (item.Clock name by parent shift)) ≡ false =
      ap (clock_at_fault site) (sym own) ∙ fine_head raw none k (item.Clock name by parent shift) (Derives name) own (inr (inl refl)) kind.BadClock in
      let both = or_parts (nat_le by.value (shift_of shift)) (too_slow (sound_parent raw.items (sound_clocks raw.items k) parent) by.value) fault in
      lawful_some (sound_parent raw.items (sound_clocks raw.items k) parent) by.value (shift_of shift) there both.0 both.1

  sound_is : (k : ℕ) (i : Item) → slice_get raw.items k ≡ Some i → Known raw.items k → is_some (sound raw.items (sound_clocks raw.items k) i) ≡ clock_here i
  sound_is k (item.Clock name by None shift) own known = clock_sound k name by None shift own refl
  sound_is k (item.Clock name by (Some parent) shift) own known =
      clock_sound k name by (Some parent) shift own
      (parent_sound k parent (slice_get_within raw.items k _ own) (fine_head raw none k (item.Clock name by (Some parent) shift) (Uses parent asks.Parent) own (inr (inr (inl refl)))) known)
  sound_is k _ own known = refl

  one_known : (k : ℕ) (i : Item) → slice_get raw.items k ≡ Some i → Known raw.items k → Known raw.items (k + 1)
  one_known k i own known =
      ap (map is_some) (sym (one_more raw.items k i own))
      ∙ map-append is_some (sound_clocks raw.items k) (sound raw.items (sound_clocks raw.items k) i ∷ [])
      ∙ ap₂ (λ bs b. bs ++ b ∷ []) known (sound_is k i own known)
      ∙ sym (map-append clock_here (take k raw.items) (i ∷ []))
      ∙ ap (map clock_here) (sym (take_more raw.items k i (slice_get_within raw.items k i own) ∙ ap (λ j. take k raw.items ++ j ∷ []) (get_or_from_slice_get raw.items k i i own)))

  known : (k : ℕ) → k ≤ length raw.items → Known raw.items k
  known k h = upto raw.items (Known raw.items) refl one_known k h

are_clocks : (items : List Item) (k : ℕ) → k ≤ length items → AreClocks (sound_clocks items k)
are_clocks items k h = upto items (λ n. AreClocks (sound_clocks items n)) (no_clocks [] refl) one k h
  where
    clock : (known : List (Option Clock)) (i : Item) → AreClocks known → IfSome (sound items known i) IsClock
    clock known (item.Clock name by parent shift) are = lawful_clock (sound_parent items known parent) by.value (shift_of shift) (parent_clock items known parent are)
    clock known _ are = tt

    one : (n : ℕ) (i : Item) → slice_get items n ≡ Some i → AreClocks (sound_clocks items n) → AreClocks (sound_clocks items (n + 1))
    one n i own are = lawful_more (sound_clocks items n) (sound_clocks items (n + 1)) (sound items (sound_clocks items n) i) (sym (one_more items n i own)) are (clock (sound_clocks items n) i are)

-- ---- the clocks of the unit

abbrev trues : List Bool → ℕ
trues [] = 0
trues (b ∷ bs) = cond b 1 0 + trues bs

length-options : (os : List (Option Clock)) → length (flat_map option_to_list os) ≡ trues (map is_some os)
length-options [] = refl
length-options (None ∷ os) = omega (arith, length-options os)
length-options (Some c ∷ os) = omega (arith, length-options os)

counting-trues : (p : Option Item → Bool) (xs : List Item) → trues (map (λ i. p (Some i)) xs) ≡ counting p xs
counting-trues p [] = refl
counting-trues p (x ∷ xs) = ap (λ n. cond (p (Some x)) 1 0 + n) (counting-trues p xs) ∙ sym (counting-cons p x xs)

all_options : (os : List (Option Clock)) → AreClocks os → All IsClock (flat_map option_to_list os)
all_options [] h = All-nil IsClock
all_options (None ∷ os) h = all_options os (λ k. h (suc k))
all_options (Some c ∷ os) h = All-cons IsClock c (flat_map option_to_list os) (h 0 c refl) (all_options os (λ k. h (suc k)))

pub clocks_are : (raw : Raw) → All IsClock (unit_of raw).clocks
clocks_are raw = all_options (sound_clocks raw.items (length raw.items)) (are_clocks raw.items (length raw.items) (omega arith))

-- The unit has as many clocks as are declared.
pub clocks_count : (raw : Raw) → NoFault raw → length (unit_of raw).clocks ≡ counting is_clock raw.items
clocks_count raw none =
    length-options (sound_clocks raw.items (length raw.items)) ∙ ap trues (known raw none (length raw.items) (omega arith))
    ∙ ap (λ is. trues (map clock_here is)) (take_all (length raw.items) raw.items (omega arith))
    ∙ counting-trues is_clock raw.items
