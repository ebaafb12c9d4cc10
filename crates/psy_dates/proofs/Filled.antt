-- A ring that is filled with values, a queue with messages, and a list with items, one after the other.
use Rattle.std.proofs.Common.{◌≡◌, ℕ, zero, suc, ◌+◌, ◌<◌, ◌≤◌, true, false, List, [], ◌∷◌, ◌++◌, All, length, get_or, take, Some, refl, sym, ap, subst, ◌∙◌, inl, inr, arith, length-take}
use Rattle.std.specs.Prelude.{slice_get}
use Rattle.std.specs.List.{AllPairs}
use Rattle.std.proofs.lemmas.Bool.{cases_eq, cond-false}
use Rattle.std.proofs.lemmas.List.{get_or-take, get_or_default, length-take-le, take-take, take_more}
use Rattle.std.proofs.lemmas.List.Elements.{All-head, All-tail}
use Rattle.psy_base.specs.declared.message.Message.{Message}
use Rattle.psy_queue.proofs.lemmas.Orders.{before_one_way}
use Rattle.psy_queue.specs.Order.{comes_before, put_in_order}
use Rattle.psy_tree.proofs.lemmas.Lists.{slice_get-behind}

-- One more value in front of the first ones
pub taken_again : {X : Type 0} (n : ℕ) (x : X) (xs : List X) → n ≤ length xs → take (length (take n xs)) (x ∷ take n xs) ≡ take n (x ∷ xs)
taken_again zero x xs l = refl
taken_again (suc n) x xs l = ap (λ k. take k (x ∷ take (suc n) xs)) (length-take-le (suc n) xs l) ∙ ap (λ ys. x ∷ ys) (take-take n (suc n) xs (omega arith))

-- A message that comes before none goes to the end.
put_last : (m : Message) (ns : List Message) → All (λ n. comes_before m n ≡ false) ns → put_in_order m ns ≡ ns ++ m ∷ []
put_last m [] all = refl
put_last m (n ∷ ns) all =
    cond-false (comes_before m n) (m ∷ n ∷ ns) (n ∷ put_in_order m ns) (All-head (λ n. comes_before m n ≡ false) n ns all)
    ∙ ap (λ xs. n ∷ xs) (put_last m ns (All-tail (λ n. comes_before m n ≡ false) n ns all))

-- So each message goes behind those before it, where they stand in order.
pub put_next : (all : List Message) (place : ℕ) (d : Message) → AllPairs (λ m n. comes_before m n ≡ true) all → place < length all → put_in_order (get_or all place d) (take place all) ≡ take (place + 1) all
put_next all place d rise l = put_last (get_or all place d) (take place all) not_before ∙ sym (take_more all place d l)
  where
    not_before : All (λ n. comes_before (get_or all place d) n ≡ false) (take place all)
    not_before k e within =
        let less : k < place = omega (arith, within, length-take place all) in
        let there = before_one_way (get_or all k e) (get_or all place e) (rise k place e less l) in
        subst (λ n. comes_before (get_or all place d) n ≡ false) (sym (get_or-take place all k e less)) (subst (λ m. comes_before m (get_or all k e) ≡ false) (get_or_default all place e d l) there)

-- ---- a list that grows

in_front : {X : Type 0} (xs ys : List X) (k : ℕ) → k < length xs → slice_get (xs ++ ys) k ≡ slice_get xs k
in_front [] ys k l = absurd (omega (arith, l))
in_front (x ∷ xs) ys zero l = refl
in_front (x ∷ xs) ys (suc k) l = in_front xs ys k (omega (arith, l))

-- Each item is what its place says, with one more that is.
pub each_more : {X : Type 0} (f : ℕ → X) (xs ys : List X) (n : ℕ) (x : X) → length xs ≡ n → ys ≡ xs ++ x ∷ [] → x ≡ f n → ((k : ℕ) → k < n → slice_get xs k ≡ Some (f k)) → (k : ℕ) → k < n + 1 → slice_get ys k ≡ Some (f k)
each_more f xs ys n x long made is each k l = ap (λ zs. slice_get zs k) made ∙ elim (cases_eq k n) [
  | inl same ↦ ap (slice_get (xs ++ x ∷ [])) (omega (arith, same, long)) ∙ slice_get-behind xs (x ∷ []) 0 ∙ ap Some (is ∙ ap f (sym same))
  | inr other ↦ in_front xs (x ∷ []) k (omega (arith, l, other, long)) ∙ each k (omega (arith, l, other))
]
