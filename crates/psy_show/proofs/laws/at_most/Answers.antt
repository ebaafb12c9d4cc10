-- What is left of the proof of `laws::at_most`.
use Rattle.std.proofs.Common.{ℕ, ◌+◌, ◌-◌, ◌<◌, ◌≤◌, ◌||◌, List, ◌++◌, inl, inr, ap, ◌∙◌, leb-true, arith}
use Rattle.std.specs.Prelude.{nat_le}
use Rattle.std.proofs.lemmas.Bool.{cases_Bool, cases_lt, cond-true, cond-false, or_cases}
use Rattle.std.proofs.lemmas.List.Sums.{sum_by-append}
use Rattle.psy_show.specs.Columns.{columns, width}
use Rattle.psy_show.specs.Cutting.{back_behind, back_of, back_within, dots, front_of, front_within}
use Rattle.psy_show.proofs.Within.{columns-dots_back, columns-front_dots}
use Rattle.psy_show.proofs.laws.at_most.Goals as goal

-- What is shown from the place on takes no more columns than there are, where that are two at least
behind_at_most : (room : ℕ) (behind : List ℕ) → 2 ≤ room → columns (back_of room behind) ≤ room
behind_at_most room behind two = elim (cases_Bool (nat_le (columns behind) room)) [
  | inl is ↦ omega (arith, leb-true (columns behind) room is, ap columns (cond-true (nat_le (columns behind) room) behind (front_within (room - 2) behind ++ dots) is))
  | inr not ↦
      omega (arith, columns-front_dots (room - 2) behind, ap columns (cond-false (nat_le (columns behind) room) behind (front_within (room - 2) behind ++ dots) not))
]

-- What is shown before it takes 50 columns at most, where the line has more than are shown.
before_at_most : (before behind : List ℕ) → 100 < columns before + columns behind → columns (front_of before behind) ≤ 50
before_at_most before behind long =
    let short = nat_le (columns before) 50 in
    let whole = nat_le (columns before + columns behind) 100 in
    let cut = dots ++ back_within 48 before in
    elim (cases_Bool (short || whole)) [
      | inl one ↦
          let same = ap columns (cond-true (short || whole) before cut one) in
          elim (or_cases short whole one) [
            | inl is ↦ omega (arith, same, leb-true (columns before) 50 is)
            | inr is ↦ absurd (omega (arith, leb-true (columns before + columns behind) 100 is))
          ]
      | inr neither ↦ omega (arith, ap columns (cond-false (short || whole) before cut neither), columns-dots_back 48 before)
    ]

pub returns : goal.returns
returns c before behind =
    let front = front_of before behind in
    let back = back_behind before behind in
    elim (cases_lt 100 (columns before + columns behind)) [
      | inl long ↦
          let few = before_at_most before behind long in
          omega (arith, sum_by-append width front back, few, behind_at_most (100 - columns front) behind (omega (arith, few)))
      | inr fits ↦
          let whole = c.whole.ensures before behind fits in
          omega (arith, ap columns (ap (λ f. f ++ back) whole.0 ∙ ap (λ b. before ++ b) whole.1), sum_by-append width before behind)
    ]
