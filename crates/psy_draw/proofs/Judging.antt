-- Whether a value goes into the column of those before it.
use Rattle.std.proofs.Common.{◌≡◌, ◌||◌, ◌&&◌, ◌<◌, ℕ, Bool, true, false, T, Some, List, ◌∷◌, map, nat_le, refl, sym, ap, subst, ◌∙◌, arith}
use Rattle.std.specs.Prelude.{ℤ, ◌≤ℤ◌, int_le}
use Rattle.std.specs.Bool.{Decides}
use Rattle.std.specs.List.{All, list_all}
use Rattle.std.specs.Ordering.{int_eq}
use Rattle.std.proofs.lemmas.Bool.Decides.{Decides-and, Decides-by_and, Decides-int_eq, Decides-like, same_from_decides}
use Rattle.std.proofs.lemmas.Grind.{common_steps}
use Rattle.std.proofs.lemmas.Int.{ints}
use Rattle.std.proofs.lemmas.List.Folds.{list_all-map}
use borrow.Author.Differences.{le-false}
use lib.Signed.{le_z_yes}
use Rattle.psy_draw.specs.declared.column.Column.{Column}
use Rattle.psy_draw.specs.Columns.{Dated, Judges, StandsAt, StandsFor, dated, is_even, is_there, is_there_still, value_of}

-- By its place
pub goes_there : (place : ℕ → ℕ) (piece : List Dated) (c one : Column) → StandsAt place piece c → one.x ≡ place one.date → is_there place piece (dated one.date one.first) ≡ nat_le one.x c.x
goes_there place piece c one at here =
    let v = dated one.date one.first in
    ap (λ p. is_there place p v) at.first.1 ∙ ap (λ n. nat_le n (place c.date)) (sym here) ∙ ap (λ n. nat_le one.x n) (sym at.at)

in_order : (a b : ℤ) → a ≤ℤ b → int_le a b ≡ true
in_order a b h = elim (int_le a b) as (λ v. int_le a b ≡ v → v ≡ true) [
  | true ↦ λ e. refl
  | false ↦ λ e. let over = le-false a b e in absurd (omega (arith, ints, over, h))
] refl

Decides-int_le : (a b : ℤ) → Decides (int_le a b) (a ≤ℤ b)
Decides-int_le a b = (λ e. le_z_yes (subst T (sym e) tt), in_order a b)

-- What holds of all values of a column holds of the first.
first_of : (P : ℤ → Type 0) (values : List ℤ) (c : Column) → StandsFor values c → All P values → P c.first
first_of P values c stands all = let are : All P (c.first ∷ stands.first.0) = subst (All P) stands.first.1 all in are 0 c.first (omega arith)

-- All values of a column are this one.
are_one : (values : List ℤ) (c : Column) (v : ℤ) → StandsFor values c → (c.greatest ≤ℤ c.least) × (v ≡ c.first) → All (λ w. w ≡ v) values
are_one values c v stands one = λ k d within.
    let below = stands.least.1 k d within in
    let above = stands.greatest.1 k d within in
    let least = first_of (λ z. c.least ≤ℤ z) values c stands stands.least.1 in
    let greatest = first_of (λ z. z ≤ℤ c.greatest) values c stands stands.greatest.1 in
    omega (arith, ints, below, above, least, greatest, one.0) ∙ sym one.1

is_one : (values : List ℤ) (c : Column) (v : ℤ) → StandsFor values c → All (λ w. w ≡ v) values → (c.greatest ≤ℤ c.least) × (v ≡ c.first)
is_one values c v stands all =
    let first = first_of (λ z. z ≡ v) values c stands all in
    let least = stands.least.0 in
    let greatest = stands.greatest.0 in
    let low : c.least ≡ v = sym least.2 ∙ all least.0 c.least least.1 in
    let high : c.greatest ≡ v = sym greatest.2 ∙ all greatest.0 c.greatest greatest.1 in
    (omega (arith, ints, low, high), sym first)

-- By its value
pub goes_still : (piece : List Dated) (c : Column) (v : ℤ) → StandsFor (map value_of piece) c → list_all (λ w. int_eq w.value v) piece ≡ (is_even c && int_eq v c.first)
goes_still piece c v stands =
    let values = map value_of piece in
    let one = λ (w : ℤ). int_eq w v in
    sym (list_all-map one value_of piece)
    ∙ same_from_decides {P = All (λ w. w ≡ v) values} _ _ (Decides-by_and one (λ w. w ≡ v) (list_all one) (λ w. Decides-int_eq w v) refl (λ _ _. refl) values)
    (Decides-like _ (are_one values c v stands) (is_one values c v stands) (Decides-and _ _ (Decides-int_le c.greatest c.least) (Decides-int_eq v c.first)))

-- What is told of the value of a variable whose place is behind the column's
pub still_judged : (place : ℕ → ℕ) (last one : Column) (all : Bool) → one.x ≡ place one.date → last.x < one.x → all ≡ (is_even last && int_eq one.first last.first)
    → Judges place (is_there_still place) all (Some last) one
still_judged place last one all here behind is = λ piece stands at.
    let v = dated one.date one.first in
    let not_there : nat_le one.x last.x ≡ false = grind (arith, common_steps) in
    ap (λ b. b || list_all (λ w. int_eq w.value v.value) piece) (goes_there place piece last one at here ∙ not_there) ∙ goes_still piece last one.first stands ∙ sym is
