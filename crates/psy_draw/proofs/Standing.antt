-- What a column keeps of its values.
use Rattle.std.proofs.Common.{◌≡◌, ℕ, suc, ◌+◌, ◌-◌, ◌^◌, min, ◌⊎◌, ⊎_elim, inl, inr, List, [], ◌∷◌, ◌++◌, length, refl, sym, ap, subst, ◌∙◌, arith, length-append, slice_get, Some}
use Rattle.std.specs.Prelude.{ℤ, ◌≤ℤ◌}
use Rattle.std.specs.Int.{int_min, int_max}
use Rattle.std.specs.Int.RustNames.{int_lt}
use Rattle.std.specs.List.{All, Contains}
use Rattle.std.proofs.lemmas.Bool.{cases_cond}
use Rattle.std.proofs.lemmas.Int.{ints, clamps}
use Rattle.std.proofs.lemmas.List.Elements.{Contains-append_left, Contains-append_right, All-append, All-nil, All-cons}
use Rattle.psy_draw.specs.declared.column.Column.{Column}
use Rattle.psy_draw.specs.Columns.{Dated, StandsAt, StandsFor, dated}

-- The last of a list is in it
contains_last : (values : List ℤ) (v : ℤ) → Contains (values ++ v ∷ []) v
contains_last values v = Contains-append_right values (v ∷ []) v (0, omega arith, refl)

-- One of two is in a list with one more
contains_picked : (values : List ℤ) (v old new : ℤ) → Contains values old → (new ≡ v) ⊎ (new ≡ old) → Contains (values ++ v ∷ []) new
contains_picked values v old new there picked =
    let P : ℤ → Type 0 = λ z. Contains (values ++ v ∷ []) z in
    ⊎_elim (λ e. subst P (sym e) (contains_last values v)) (λ e. subst P (sym e) (Contains-append_left values (v ∷ []) old there)) picked

-- A bound of each, with one more
all_more : (P : ℤ → Type 0) (values : List ℤ) (v : ℤ) → All P values → P v → All P (values ++ v ∷ [])
all_more P values v all one = All-append P values (v ∷ []) all (All-cons P v [] one (All-nil P))

-- It stands for one more value.
pub stands_more : (values : List ℤ) (v : ℤ) (c d : Column) → StandsFor values c → d.first ≡ c.first → d.least ≡ int_min c.least v → d.greatest ≡ int_max c.greatest v → d.last ≡ v → d.more ≡ min (c.more + 1) (2 ^ 32 - 1) → StandsFor (values ++ v ∷ []) d
stands_more values v c d h first least greatest last more =
    let under : d.least ≤ℤ c.least = omega (arith, ints, clamps) in
    let under_one : d.least ≤ℤ v = omega (arith, ints, clamps) in
    let over : c.greatest ≤ℤ d.greatest = omega (arith, ints, clamps) in
    let over_one : v ≤ℤ d.greatest = omega (arith, ints, clamps) in
    let few : c.more ≡ min (length values - 1) (2 ^ 32 - 1) = h.more in
    let some : length values ≡ suc (length h.first.0) = ap length h.first.1 in
    let grown : length (values ++ v ∷ []) ≡ length values + 1 = length-append values (v ∷ []) in
    record {
      first = (h.first.0 ++ v ∷ [], ap (λ xs. xs ++ v ∷ []) h.first.1 ∙ ap (λ f. f ∷ (h.first.0 ++ v ∷ [])) (sym first));
      last = (values, ap (λ l. values ++ l ∷ []) (sym last));
      least = (
        contains_picked values v c.least d.least h.least.0 (⊎_elim (λ e. inl (least ∙ e)) (λ e. inr (least ∙ e)) (cases_cond (int_lt v c.least) v c.least _ refl)),
        all_more (λ z. d.least ≤ℤ z) values v (λ k z within. let one = h.least.1 k z within in omega (arith, ints)) under_one,
      );
      greatest = (
        contains_picked values v c.greatest d.greatest h.greatest.0 (⊎_elim (λ e. inr (greatest ∙ e)) (λ e. inl (greatest ∙ e)) (cases_cond (int_lt v c.greatest) c.greatest v _ refl)),
        all_more (λ z. z ≤ℤ d.greatest) values v (λ k z within. let one = h.greatest.1 k z within in omega (arith, ints)) over_one,
      );
      more = omega arith;
    }

-- It stands at the place of its one value.
pub stands_at_one : (place : ℕ → ℕ) (c : Column) → c.x ≡ place c.date → StandsAt place (dated c.date c.first ∷ []) c
stands_at_one place c at = record { first = ([], refl); at = at }

-- And where more come behind that one
pub stands_at_more : (place : ℕ → ℕ) (values : List Dated) (v : Dated) (c d : Column) → StandsAt place values c → d.x ≡ c.x → d.date ≡ c.date → d.first ≡ c.first → StandsAt place (values ++ v ∷ []) d
stands_at_more place values v c d h x date first = record {
  first = (
    h.first.0 ++ v ∷ [],
    ap (λ xs. xs ++ v ∷ []) h.first.1 ∙ ap (λ t. dated t c.first ∷ (h.first.0 ++ v ∷ [])) (sym date) ∙ ap (λ f. dated d.date f ∷ (h.first.0 ++ v ∷ [])) (sym first),
  );
  at = x ∙ h.at ∙ ap place (sym date);
}

-- The value of a list that a test of its last one speaks of
pub last_got : (columns : List Column) (c : Column) → slice_get (columns ++ c ∷ []) (length (columns ++ c ∷ []) - 1) ≡ Some c
last_got columns c =
    let long : length (columns ++ c ∷ []) ≡ length columns + 1 = length-append columns (c ∷ []) in
    ap (λ n. slice_get (columns ++ c ∷ []) n) (omega (arith, long)) ∙ got columns
  where
    got : (cs : List Column) → slice_get (cs ++ c ∷ []) (length cs) ≡ Some c
    got [] = refl
    got (b ∷ cs) = got cs
