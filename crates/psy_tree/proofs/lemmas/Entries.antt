-- The entries of a program's declarations, in two parts.
use Rattle.std.proofs.Common.{◌≡◌, ℕ, ◌+◌, ◌≤◌, List, [], ◌∷◌, ◌++◌, take, drop, length, sym, ap, ◌∙◌, arith}
use Rattle.std.proofs.lemmas.List.{take-append-drop, length-take}
use Rattle.psy_tree.specs.declared.raw.Item.{Item}
use Rattle.psy_tree.specs.declared.reach.Found.TheVariants as found
use Rattle.psy_tree.specs.Scope.{item_entries, item_name}

pub item_entries-append : (k : ℕ) (xs ys : List Item) → item_entries k (xs ++ ys) ≡ item_entries k xs ++ item_entries (k + length xs) ys
item_entries-append k [] ys = ap (λ n. item_entries n ys) (omega arith)
item_entries-append k (x ∷ xs) ys =
    let e : k + 1 + length xs ≡ k + length (x ∷ xs) = omega arith in
    ap (λ es. record { text = (item_name x).text; found = found.Item k } ∷ es)
    (item_entries-append (k + 1) xs ys ∙ ap (λ n. item_entries (k + 1) xs ++ item_entries n ys) e)

pub entries_split : (n : ℕ) (items : List Item) → n ≤ length items → item_entries 0 items ≡ item_entries 0 (take n items) ++ item_entries n (drop n items)
entries_split n items h =
    let len : length (take n items) ≡ n = length-take n items ∙ omega arith in
    ap (item_entries 0) (sym (take-append-drop n items)) ∙ item_entries-append 0 (take n items) (drop n items)
    ∙ ap (λ m. item_entries 0 (take n items) ++ item_entries m (drop n items)) (omega arith)
