-- The greatest of some numbers: it depends on which numbers there are, and on nothing else of their list.
use Rattle.std.proofs.Common.{◌≡◌, ℕ, ◌≤◌, max, List, [], ◌∷◌, Option, Some, None, refl, ap, subst, inl, inr, arith}
use Rattle.std.specs.List.{Contains}
use Rattle.std.proofs.lemmas.Bool.{cases_lt}
use Rattle.psy_base.specs.Extremes.{greater, greatest_of}
use Rattle.psy_lists.proofs.lemmas.Members.{contains_none, contains_front, contains_behind, front_or_behind}

-- This is the greatest of the numbers; none where there is no number.
abbrev IsGreatest : List ℕ → Option ℕ → Type 0
IsGreatest numbers None = (n : ℕ) → Contains numbers n → ⊥
IsGreatest numbers (Some greatest) = Contains numbers greatest × ((n : ℕ) → Contains numbers n → n ≤ greatest)

none_above : (first most : ℕ) (numbers : List ℕ) → first ≤ most → ((n : ℕ) → Contains numbers n → n ≤ most) → (n : ℕ) → Contains (first ∷ numbers) n → n ≤ most
none_above first most numbers low rest n c = elim (front_or_behind first numbers n c) [
  | inl e ↦ subst (λ m. m ≤ most) e low
  | inr there ↦ rest n there
]

greater_is : (first : ℕ) (numbers : List ℕ) (o : Option ℕ) → IsGreatest numbers o → IsGreatest (first ∷ numbers) (greater first o)
greater_is first numbers None none = (contains_front first numbers, none_above first first numbers (omega arith) (λ n c. absurd (none n c)))
greater_is first numbers (Some greatest) (there, most) = elim (cases_lt first greatest) [
  | inl less ↦ (
      let e : max first greatest ≡ greatest = omega (arith, less) in
      rw e (contains_behind first numbers greatest there, none_above first greatest numbers (omega (arith, less)) most))
  | inr least ↦ (
      let e : max first greatest ≡ first = omega (arith, least) in
      rw e (contains_front first numbers, none_above first first numbers (omega arith) (λ n c. let low = most n c in omega (arith, low, least))))
]

greatest_is : (numbers : List ℕ) → IsGreatest numbers (greatest_of numbers)
greatest_is [] = contains_none
greatest_is (n ∷ numbers) = greater_is n numbers (greatest_of numbers) (greatest_is numbers)

-- The numbers of one list are those of the other.
abbrev pub AreSame : List ℕ → List ℕ → Type 0
AreSame these those = ((n : ℕ) → Contains these n → Contains those n) × ((n : ℕ) → Contains those n → Contains these n)

same_by : (these those : List ℕ) (o p : Option ℕ) → IsGreatest these o → IsGreatest those p → AreSame these those → o ≡ p
same_by these those None None this that same = refl
same_by these those None (Some q) this that same = absurd (this q (same.1 q that.0))
same_by these those (Some m) None this that same = absurd (that m (same.0 m this.0))
same_by these those (Some m) (Some q) this that same =
    let low = that.1 m (same.0 m this.0) in
    let high = this.1 q (same.1 q that.0) in
    ap Some (omega (arith, low, high))

pub greatest_same : (these those : List ℕ) → AreSame these those → greatest_of these ≡ greatest_of those
greatest_same these those same = same_by these those (greatest_of these) (greatest_of those) (greatest_is these) (greatest_is those) same

-- The greatest of some numbers is one of them.
pub greatest_in : (numbers : List ℕ) (n : ℕ) → greatest_of numbers ≡ Some n → Contains numbers n
greatest_in numbers n e = (let is : IsGreatest numbers (Some n) = subst (IsGreatest numbers) e (greatest_is numbers) in is.0)
