-- The declarations of a program, judged one behind the other.
use Rattle.std.proofs.Common.{◌≡◌, ℕ, ◌+◌, ◌<◌, ◌≤◌, false, List, [], ◌∷◌, ◌++◌, take, length, get_or, Option, None, sym, ap, ◌∙◌, arith, append_assoc, append-nil}
use Rattle.std.proofs.lemmas.List.{take_more, take_all, length-take}
use Rattle.psy_base.specs.declared.limits.TheConstants.{QUANTUM}
use Rattle.psy_tree.specs.declared.raw.Item.{Item}
use Rattle.psy_tree.specs.declared.raw.Raw.{Raw}
use Rattle.psy_tree.specs.Places.{Ranges, Sited, item_places, places_from, places}
use Rattle.psy_tree.specs.Rules.{sounds_from, sound_clocks}
use Rattle.psy_rules.specs.declared.least.RuleAt.{RuleAt}
use Rattle.psy_rules.specs.Judged.{judged_sited}
use Rattle.psy_rules.proofs.Items.{sited_append}

-- The places of the declarations from number k on that are there among the whole program's
abbrev pub start : Raw → Sited
start raw = record { site = record { items = raw.items; at = 0; inside = false }; place = Ranges raw.quantum 1 QUANTUM }

-- The places of a program's first n declarations
abbrev pub places_to : Raw → ℕ → List Sited
places_to raw n = start raw ∷ places_from raw.items 0 (take n raw.items)

places_from-append : (items : List Item) (k : ℕ) (xs ys : List Item) → places_from items k (xs ++ ys) ≡ places_from items k xs ++ places_from items (k + length xs) ys
places_from-append items k [] ys = ap (λ n. places_from items n ys) (omega arith)
places_from-append items k (x ∷ xs) ys =
    let e : k + 1 + length xs ≡ k + length (x ∷ xs) = omega arith in
    ap (λ ps. item_places items k x ++ ps) (places_from-append items (k + 1) xs ys ∙ ap (λ n. places_from items (k + 1) xs ++ places_from items n ys) e)
    ∙ sym (append_assoc (item_places items k x) (places_from items (k + 1) xs) (places_from items (k + length (x ∷ xs)) ys))

pub places_more : (raw : Raw) (n : ℕ) (x : Item) → n < length raw.items → get_or raw.items n x ≡ x → places_to raw (n + 1) ≡ places_to raw n ++ item_places raw.items n x
places_more raw n x h e =
    let len : 0 + length (take n raw.items) ≡ n = omega (arith, length-take n raw.items) in
    ap (λ ps. start raw ∷ ps)
    (ap (places_from raw.items 0) (take_more raw.items n x h ∙ ap (λ y. take n raw.items ++ y ∷ []) e)
    ∙ places_from-append raw.items 0 (take n raw.items) (x ∷ [])
    ∙ ap (λ m. places_from raw.items 0 (take n raw.items) ++ places_from raw.items m (x ∷ [])) len
    ∙ ap (λ ps. places_from raw.items 0 (take n raw.items) ++ ps) (append-nil (item_places raw.items n x)))

pub least_more : (raw : Raw) (n : ℕ) (x : Item) (l m : Option RuleAt) → n < length raw.items → get_or raw.items n x ≡ x → l ≡ judged_sited (places_to raw n) None → m ≡ judged_sited (item_places raw.items n x) l → m ≡ judged_sited (places_to raw (n + 1)) None
least_more raw n x l m h e before here =
    here ∙ ap (judged_sited (item_places raw.items n x)) before ∙ sym (sited_append (places_to raw n) (item_places raw.items n x) None)
    ∙ sym (ap (λ ps. judged_sited ps None) (places_more raw n x h e))

pub least_all : (raw : Raw) (n : ℕ) → length raw.items ≤ n → judged_sited (places_to raw n) None ≡ judged_sited (places raw) None
least_all raw n h = ap (λ is. judged_sited (start raw ∷ places_from raw.items 0 is) None) (take_all n raw.items h)

pub clocks_all : (items : List Item) (n m : ℕ) → length items ≤ n → length items ≤ m → sound_clocks items n ≡ sound_clocks items m
clocks_all items n m h g = ap (sounds_from items []) (take_all n items h ∙ sym (take_all m items g))
