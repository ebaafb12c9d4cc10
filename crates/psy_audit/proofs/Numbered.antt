-- Of stretches in the order of actions, those of one action.
use Rattle.std.proofs.Common.{◌≡◌, ◌∙◌, refl, sym, ap, ℕ, zero, suc, ◌+◌, ◌-◌, ◌<◌, ◌≤◌, ◌==◌, Bool, cond, List, [], ◌∷◌, ◌++◌, inl, inr, arith, subst, length, get_or, take, drop, filter}
use Rattle.std.specs.List.{prefix_len}
use Rattle.std.proofs.lemmas.Bool.{cases_Bool, cases_lt, eqb-false, ne_eqb}
use Rattle.std.proofs.lemmas.List.Quantifiers.{all_pairs_push}
use Rattle.psy_audit.specs.declared.said.Segment.{Segment}
use Rattle.psy_audit.specs.Apart.{AreRising}

-- One of no earlier action than the last of some that rise is of no earlier one than all of them.
pub rising_more : (list : List Segment) (s : Segment) → AreRising list → ((d : Segment) → 0 < length list → (get_or list (length list - 1) d).number ≤ s.number) → AreRising (list ++ s ∷ [])
rising_more list s rising last = all_pairs_push (λ (one other : Segment). one.number ≤ other.number) list s rising (λ k d less.
    (let end : (get_or list (length list - 1) d).number ≤ s.number = last d (omega (arith, less)) in
    elim (cases_lt k (length list - 1)) [
      | inl far ↦ (let this : (get_or list k d).number ≤ (get_or list (length list - 1) d).number = rising k (length list - 1) d far (omega (arith, less)) in omega (arith, this, end))
      | inr near ↦ (let is : length list - 1 ≡ k = omega (arith, less, near) in subst (λ n. (get_or list n d).number ≤ s.number) is end)
    ]))

module _ (number : ℕ) where
  -- A stretch is of the action of the number.
  abbrev is_its : Segment → Bool
  is_its s = s.number == number

  none_later : (list : List Segment) → ((k : ℕ) (d : Segment) → k < length list → number < (get_or list k d).number) → filter is_its list ≡ []
  none_later [] later = refl
  none_later (s ∷ list) later =
      let this : number < s.number = later 0 s (omega arith) in
      ap (λ b. cond b (s ∷ filter is_its list) (filter is_its list)) (ne_eqb s.number number (λ is. omega (arith, this, is)))
      ∙ none_later list (λ k d less. later (suc k) d (omega (arith, less)))

  none_before : (k : ℕ) (list : List Segment) → ((i : ℕ) (d : Segment) → i < k → i < length list → (get_or list i d).number < number)
      → filter is_its list ≡ filter is_its (drop k list)
  none_before zero list earlier = refl
  none_before (suc k) [] earlier = refl
  none_before (suc k) (s ∷ list) earlier =
      let this : s.number < number = earlier 0 s (omega arith) (omega arith) in
      ap (λ b. cond b (s ∷ filter is_its list) (filter is_its list)) (ne_eqb s.number number (λ is. omega (arith, this, is)))
      ∙ none_before k list (λ i d less within. earlier (suc i) d (omega (arith, less)) (omega (arith, within)))

  then_none : (list : List Segment) → AreRising list → ((k : ℕ) (d : Segment) → k < length list → number ≤ (get_or list k d).number)
      → filter is_its list ≡ filter is_its (take (prefix_len is_its list) list)
  then_none [] rising from = refl
  then_none (s ∷ list) rising from =
      let rest : AreRising list = λ i j d low high. rising (suc i) (suc j) d (omega (arith, low)) (omega (arith, high)) in
      let more : filter is_its list ≡ filter is_its (take (prefix_len is_its list) list) = then_none list rest (λ k d less. from (suc k) d (omega (arith, less))) in
      elim (cases_Bool (is_its s)) [
        | inl is ↦ (
            let n = prefix_len is_its list in
            let one : 1 + n ≡ suc n = omega arith in
            ap (λ b. cond b (s ∷ filter is_its list) (filter is_its list)) is ∙ ap (λ xs. s ∷ xs) more
            ∙ sym (ap (λ b. filter is_its (take (cond b (1 + n) 0) (s ∷ list))) is ∙ ap (λ k. filter is_its (take k (s ∷ list))) one
            ∙ ap (λ b. cond b (s ∷ filter is_its (take n list)) (filter is_its (take n list))) is))
        | inr fails ↦ (
            let at : number ≤ s.number = from 0 s (omega arith) in
            let later : number < s.number = omega (arith, at, eqb-false s.number number fails) in
            let none : filter is_its list ≡ [] = none_later list (λ k d less. (let rise : s.number ≤ (get_or list k d).number = rising 0 (suc k) d (omega arith) (omega (arith, less)) in omega (arith, later, rise))) in
            ap (λ b. cond b (s ∷ filter is_its list) (filter is_its list)) fails ∙ none
            ∙ sym (ap (λ b. filter is_its (take (cond b (1 + prefix_len is_its list) 0) (s ∷ list))) fails))
      ]

  rising_from : (list : List Segment) → AreRising list → ((d : Segment) → 0 < length list → number ≤ (get_or list 0 d).number)
      → (i : ℕ) (d : Segment) → i < length list → number ≤ (get_or list i d).number
  rising_from list rising first zero d less = first d less
  rising_from list rising first (suc i) d less =
      let at : number ≤ (get_or list 0 d).number = first d (omega (arith, less)) in
      let rise : (get_or list 0 d).number ≤ (get_or list (suc i) d).number = rising 0 (suc i) d (omega arith) less in
      omega (arith, at, rise)

  behind_place : (place : ℕ) (list : List Segment) → AreRising list → ((d : Segment) → place < length list → number ≤ (get_or list place d).number)
      → filter is_its (drop place list) ≡ filter is_its (take (prefix_len is_its (drop place list)) (drop place list))
  behind_place zero list rising first = then_none list rising (rising_from list rising first)
  behind_place (suc place) [] rising first = refl
  behind_place (suc place) (s ∷ list) rising first =
      behind_place place list (λ i j d low high. rising (suc i) (suc j) d (omega (arith, low)) (omega (arith, high))) (λ d less. first d (omega (arith, less)))

  -- Behind a place before which the last one is of an earlier action, and at which the next one isn't, those of the action stand first.
  pub its_stand : (place : ℕ) (list : List Segment) → AreRising list → place ≤ length list → ((d : Segment) → 0 < place → (get_or list (place - 1) d).number < number)
      → ((d : Segment) → place < length list → number ≤ (get_or list place d).number)
      → filter is_its (take (prefix_len is_its (drop place list)) (drop place list)) ≡ filter is_its list
  its_stand place list rising within before behind =
      let earlier : (i : ℕ) (d : Segment) → i < place → i < length list → (get_or list i d).number < number = λ i d less most. elim (cases_lt i (place - 1)) [
        | inl far ↦ (
            let rise : (get_or list i d).number ≤ (get_or list (place - 1) d).number = rising i (place - 1) d far (omega (arith, within, less)) in
            let last : (get_or list (place - 1) d).number < number = before d (omega (arith, less)) in
            omega (arith, rise, last))
        | inr near ↦ (let is : place - 1 ≡ i = omega (arith, less, near) in subst (λ n. (get_or list n d).number < number) is (before d (omega (arith, less))))
      ] in
      sym (none_before place list earlier ∙ behind_place place list rising behind)
