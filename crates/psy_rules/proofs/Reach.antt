-- Which declarations a place reaches.
use Rattle.std.proofs.Common.{◌≡◌, ℕ, ◌+◌, ◌<◌, ◌≤◌, Bool, true, false, cond, List, [], ◌∷◌, take, drop, length, Option, Some, None, refl, sym, subst, arith}
use Rattle.std.specs.Str.{bytes_eq}
use Rattle.std.proofs.lemmas.List.{length-take, length-drop}
use Rattle.psy_base.specs.declared.limits.TheConstants.{NAMES}
use Rattle.psy_tree.specs.declared.raw.Item.{Item}
use Rattle.psy_tree.specs.declared.reach.Found.{Found}
use Rattle.psy_tree.specs.declared.reach.Found.TheVariants as found
use Rattle.psy_tree.specs.Scope.{Site, SlotName, first_named, slot_entries, own_slots, stands_for, stands_globally}
use Rattle.psy_tree.specs.Stands.{slot_number}
use Rattle.psy_rules.specs.declared.numbers.Before.{Before}
use Rattle.psy_rules.specs.Numbering.{AreNumbers, before_of, before_in}
use Rattle.psy_rules.proofs.Tables.{InRange, or_first, first_range, above, beneath, inner, stands_parts}

-- A declaration below number m, or a slot below number n
abbrev pub Within : ℕ → ℕ → Option Found → Type 0
Within m n None = Unit {0}
Within m n (Some (found.Item k)) = k < m
Within m n (Some (found.Slot k)) = k < n

within_range : (low high m n : ℕ) (o : Option Found) → high ≤ m → InRange low high o → Within m n o
within_range low high m n None h r = tt
within_range low high m n (Some (found.Item k)) h r = omega (arith, r.1)
within_range low high m n (Some (found.Slot k)) h r = absurd r

within_or : (m n : ℕ) (a b : Option Found) → Within m n a → Within m n b → Within m n (or_first a b)
within_or m n None b p q = q
within_or m n (Some f) b p q = p

within_cond : (b : Bool) (m n k : ℕ) (o : Option Found) → k < n → Within m n o → Within m n (cond b (Some (found.Slot k)) o)
within_cond true m n k o h r = h
within_cond false m n k o h r = r

slots_within : (q : List ℕ) (m n k : ℕ) (ss : List SlotName) → k + length ss ≤ n → Within m n (first_named q (slot_entries k ss))
slots_within q m n k [] h = tt
slots_within q m n k (s ∷ ss) h = within_cond (bytes_eq q s.name.text) m n k (first_named q (slot_entries (k + 1) ss)) (omega arith) (slots_within q m n (k + 1) ss (omega arith))

-- What a name stands for is there.
pub stands_within : (site : Site) (q : List ℕ) → site.at < length site.items → Within (length site.items) (length (own_slots site)) (stands_for site q)
stands_within site q h =
    let m : ℕ = length site.items in
    let P : Option Found → Type 0 = Within (length site.items) (length (own_slots site)) in
    subst P (sym (stands_parts site q))
    (within_or (length site.items) (length (own_slots site)) (or_first (above site q) (inner site q)) (beneath site q)
    (within_or (length site.items) (length (own_slots site)) (above site q) (inner site q)
    (within_range 0 (0 + length (take (site.at + 1) site.items)) (length site.items) (length (own_slots site)) (above site q) (omega (arith, length-take (site.at + 1) site.items)) (first_range q 0 (take (site.at + 1) site.items)))
    (slots_within q (length site.items) (length (own_slots site)) 0 (own_slots site) (omega arith)))
    (within_range (site.at + 1) (site.at + 1 + length (drop (site.at + 1) site.items)) (length site.items) (length (own_slots site)) (beneath site q) (omega (arith, length-drop (site.at + 1) site.items)) (first_range q (site.at + 1) (drop (site.at + 1) site.items))))

pub numbers_within : (items : List Item) (before : List Before) (n : ℕ) (o : Option Found) → AreNumbers items before → Within (length items) n o → before_in before o ≡ before_of items o
numbers_within items before n None h w = refl
numbers_within items before n (Some (found.Slot k)) h w = refl
numbers_within items before n (Some (found.Item k)) h w = h k w

pub slot_within : (m n : ℕ) (o : Option Found) → n ≤ NAMES → Within m n o → slot_number o ≤ NAMES
slot_within m n None h w = omega arith
slot_within m n (Some (found.Item k)) h w = omega arith
slot_within m n (Some (found.Slot k)) h w = omega (arith, w)

pub global_within : (items : List Item) (q : List ℕ) → Within (length items) 0 (stands_globally items q)
global_within items q = within_range 0 (0 + length items) (length items) 0 (stands_globally items q) (omega arith) (first_range q 0 items)
