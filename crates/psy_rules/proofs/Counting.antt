-- Declarations counted by their kinds, and the limits that they pass.
use Rattle.std.proofs.Common.{◌≡◌, ℕ, zero, suc, ◌+◌, ◌<◌, ◌≤◌, Bool, true, false, List, [], ◌∷◌, ◌++◌, map, take, length, get_or, Option, Some, sym, ap, ◌∙◌, arith}
use Rattle.std.specs.Prelude.{slice_get, option_to_list}
use Rattle.std.specs.List.{count_by}
use Rattle.std.proofs.lemmas.List.{length-append, length-map}
use Rattle.std.proofs.lemmas.List.Sums.{count_by_more_yes, count_by_more_no}
use Rattle.psy_tree.specs.declared.raw.Item.{Item}
use Rattle.psy_tree.specs.declared.raw.Item.TheVariants as item
use Rattle.psy_tree.specs.declared.raw.Name.{Name}
use Rattle.psy_tree.specs.declared.raw.Local.{Local}
use Rattle.psy_tree.specs.declared.raw.RawStmt.{RawStmt}
use Rattle.psy_tree.specs.Scope.{slots_of, scalar, local_slot}
use Rattle.psy_tree.specs.Rules.{is_clock, is_agent, is_function, is_stream}
use Rattle.psy_tree.specs.Stands.{counting, is_variable, each_from}
use Rattle.psy_tree.proofs.lemmas.Numbers.{each_from_more}
use Rattle.psy_rules.specs.declared.numbers.Before.{Before}
use Rattle.psy_rules.specs.Numbering.{before_at, before_and, one_if}

count_by_test : (p : Item → Bool) (xs : List Item) (i : ℕ) (x : Item) (b : Bool) → i < length xs → p (get_or xs i x) ≡ b → count_by p (take i xs) + one_if b ≡ count_by p (take (i + 1) xs)
count_by_test p xs i x true h e = omega (arith, count_by_more_yes p xs i x h e)
count_by_test p xs i x false h e = omega (arith, count_by_more_no p xs i x h e)

counting_more : (p : Option Item → Bool) (xs : List Item) (i : ℕ) (x : Item) → i < length xs → get_or xs i x ≡ x → counting p (take i xs) + one_if (p (Some x)) ≡ counting p (take (i + 1) xs)
counting_more p xs i x h e = count_by_test (λ y. p (Some y)) xs i x (p (Some x)) h (ap (λ y. p (Some y)) e)

abbrev built : ℕ → ℕ → ℕ → ℕ → ℕ → Before
built a b c d e = record { clocks = a; agents = b; variables = c; streams = d; functions = e }

same_before : (a b c d e f g h i j : ℕ) → a ≡ f → b ≡ g → c ≡ h → d ≡ i → e ≡ j → built a b c d e ≡ built f g h i j
same_before a b c d e f g h i j p q r s t = cc

pub before_at-more : (xs : List Item) (i : ℕ) (x : Item) → i < length xs → get_or xs i x ≡ x → before_and (before_at xs i) x ≡ before_at xs (i + 1)
before_at-more xs i x h e =
    same_before _ _ _ _ _ _ _ _ _ _
    (counting_more is_clock xs i x h e) (counting_more is_agent xs i x h e) (counting_more is_variable xs i x h e) (counting_more is_stream xs i x h e) (counting_more is_function xs i x h e)

pub slice_get-push : {X : Type 0} (f : ℕ → X) (xs : List X) (x : X) → ((k : ℕ) → k < length xs → slice_get xs k ≡ Some (f k)) → x ≡ f (length xs) → (k : ℕ) → k < length xs + 1 → slice_get (xs ++ x ∷ []) k ≡ Some (f k)
slice_get-push f [] x h e zero l = ap Some e
slice_get-push f [] x h e (suc k) l = absurd (omega arith)
slice_get-push f (y ∷ ys) x h e zero l = h 0 (omega arith)
slice_get-push f (y ∷ ys) x h e (suc k) l = slice_get-push (λ n. f (suc n)) ys x (λ n g. h (suc n) (omega arith)) e k (omega arith)

pub params_few : (i : Item) (name : Name) (params : List Name) (locals : List Local) (stmts : List RawStmt) → i ≡ item.Function name params locals stmts → length params ≤ length (slots_of i)
params_few i name params locals stmts is =
    let e : length (slots_of i) ≡ length (map scalar params ++ map local_slot locals) = ap (λ j. length (slots_of j)) is in
    omega (arith, e, length-append (map scalar params) (map local_slot locals), length-map params scalar)

pub each_from-step : {A : Type 0} (f : ℕ → Item → List A) (xs : List Item) (n : ℕ) (x : Item) (o : Option A) (old new : List A) → n < length xs → get_or xs n x ≡ x → old ≡ each_from f 0 (take n xs) → option_to_list o ≡ f n x → new ≡ old ++ option_to_list o →
    new ≡ each_from f 0 (take (n + 1) xs)
each_from-step f xs n x o old new h e before here is =
    is ∙ ap (λ r. r ++ option_to_list o) before ∙ ap (λ r. each_from f 0 (take n xs) ++ r) (here ∙ ap (f n) (sym e)) ∙ sym (each_from_more f xs n x h)
