-- What notes add that come one by one.
use Rattle.std.proofs.Common.{◌≡◌, ℕ, ◌+◌, ◌<◌, ◌≤◌, Bool, true, false, ◌&&◌, not, cond, List, [], ◌∷◌, ◌++◌, append_assoc, None, Some, option_map, is_some, length, min, nat_lt, take, get_or, refl, sym, ap, subst, ◌∙◌, arith}
use Rattle.std.specs.List.{count_by, flat_map, list_all, prefix_len, sum_by}
use Rattle.std.proofs.lemmas.Bool.{false≢true}
use Rattle.std.proofs.lemmas.Grind.{common_steps}
use Rattle.std.proofs.lemmas.List.{flat_map_more, take_all, take_more}
use Rattle.std.proofs.lemmas.List.Sums.{sum_by-append}
use Rattle.psy_lists.proofs.lemmas.Tests.{both}
use Rattle.psy_log.specs.declared.note.Note.{Note}
use Rattle.psy_log.specs.declared.note.Note.TheVariants as note
use Rattle.psy_draw.specs.declared.listed.Listed.{Listed}
use Rattle.psy_draw.specs.Gathering.{is_known}
use Rattle.psy_draw.specs.Listing.{first_failing}
use Rattle.psy_draw.specs.Tables.{is_among}

-- Notes, and more behind them
module _ (P : List Note → Type 0) (notes more : List Note) (i : ℕ) where
  -- What holds with one more
  pub one_behind : (n : Note) → i < length more → P ((notes ++ take i more) ++ get_or more i n ∷ []) → P (notes ++ take (i + 1) more)
  one_behind n within p =
      subst P (append_assoc notes (take i more) (get_or more i n ∷ []) ∙ ap (λ front. notes ++ front) (sym (take_more more i n within))) p

  -- What holds of all of them
  pub all_behind : length more ≤ i → P (notes ++ take i more) → P (notes ++ more)
  all_behind all p = subst (λ front. P (notes ++ front)) (take_all i more all) p

-- What one more note tells
pub tells_more : {A : Type 0} (f : Note → List A) (notes : List Note) (n : Note) → flat_map f (notes ++ n ∷ []) ≡ flat_map f notes ++ f n
tells_more f notes n = sym (flat_map_more f [] notes n)

-- One more may count.
pub count_more : {X : Type 0} (p : X → Bool) (xs : List X) (x : X) → count_by p (xs ++ x ∷ []) ≡ count_by p xs + cond (p x) 1 0
count_more {X} p xs x =
    let f : X → ℕ = λ y. cond (p y) 1 0 in
    let one : sum_by f (x ∷ []) ≡ f x = omega arith in
    sum_by-append f xs (x ∷ []) ∙ ap (λ n. sum_by f xs + n) one

-- As far as is counted
pub count_bounded : (most a b k n whole : ℕ) → a ≡ min b most → whole ≡ b + k → n ≡ min (a + k) most → n ≡ min whole most
count_bounded most a b k n whole before all now = omega (arith, before, all, now)

-- Where none is found that isn't so, all are, and what follows from that.
all_from_front : {X : Type 0} (q r : X → Bool) → ((x : X) → q x ≡ true → r x ≡ true) → (xs : List X) → nat_lt (prefix_len q xs) (length xs) ≡ false → list_all r xs ≡ true
all_from_front q r more [] e = refl
all_from_front q r more (x ∷ xs) e = by (q x) refl (all_from_front q r more xs)
  where
    by : (b : Bool) → q x ≡ b → (nat_lt (prefix_len q xs) (length xs) ≡ false → list_all r xs ≡ true) → (r x && list_all r xs) ≡ true
    by true t others =
        let next : nat_lt (1 + prefix_len q xs) (length (x ∷ xs)) ≡ false = ap (λ b. nat_lt (cond b (1 + prefix_len q xs) 0) (length (x ∷ xs))) (sym t) ∙ e in
        let rest : nat_lt (prefix_len q xs) (length xs) ≡ false = grind (arith, common_steps) in
        both (r x) (list_all r xs) (more x t) (others rest)
    by false f others =
        let none : nat_lt 0 (length (x ∷ xs)) ≡ false = ap (λ b. nat_lt (cond b (1 + prefix_len q xs) 0) (length (x ∷ xs))) (sym f) ∙ e in
        let some : nat_lt 0 (length (x ∷ xs)) ≡ true = grind (arith, common_steps) in
        absurd (false≢true (sym none ∙ some))

not_not : (b : Bool) → not (not b) ≡ true → b ≡ true
not_not true e = refl
not_not false e = e

none_found : (b : Bool) (n : ℕ) → option_map (λ k. k + 1) (cond b (Some n) None) ≡ None → b ≡ false
none_found true n e = absurd (false≢true (sym (ap is_some e)))
none_found false n e = refl

-- An agent of a stop that is among those listed is known.
among_known : (listed : Listed) (n : Note) → is_among listed n ≡ true → is_known listed.agents n ≡ true
among_known listed (note.StopOverrun date agent) e = e
among_known listed (note.StopTrap date agent kind) e = e
among_known listed _ e = refl

-- Where all names are listed the agents of all stops are known.
pub all_known : (listed : Listed) (notes : List Note) → first_failing (is_among listed) notes ≡ None → list_all (is_known listed.agents) notes ≡ true
all_known listed notes e =
    let passes : Note → Bool = λ n. not (not (is_among listed n)) in
    all_from_front passes (is_known listed.agents) (λ n t. among_known listed n (not_not (is_among listed n) t)) notes
    (none_found (nat_lt (prefix_len passes notes) (length notes)) (prefix_len passes notes) e)
