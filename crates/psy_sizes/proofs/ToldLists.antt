-- What lists of ways tell: at what a point looks, and how many sends there are at most.
use Rattle.std.proofs.Common.{◌≡◌, ℕ, ◌<◌, ◌≤◌, ◌==◌, ◌&&◌, ◌⊎◌, Bool, true, false, if◌then◌else◌, List, [], ◌∷◌, inl, inr, subst, arith}
use Rattle.std.specs.List.{All, Contains}
use Rattle.std.proofs.lemmas.Bool.{cases_lt}
use Rattle.std.proofs.lemmas.List.Elements.{All-head, All-tail}
use Rattle.psy_base.specs.declared.limits.TheConstants.{SENDS}
use Rattle.psy_base.specs.declared.ways.SendWay.{SendWay}
use Rattle.psy_lists.proofs.lemmas.Members.{contains_behind, contains_front, contains_none, front_or_behind}
use Rattle.psy_meaning.specs.KnownWays.{most_in}

-- A number is one of a list, or it isn't.
pub contains_or_not : (xs : List ℕ) (x : ℕ) → Contains xs x ⊎ (Contains xs x → ⊥)
contains_or_not [] x = inr (contains_none x)
contains_or_not (y ∷ ys) x = elim (contains_or_not ys x) [
  | inl behind ↦ inl (contains_behind y ys x behind)
  | inr none ↦ elim (cases_lt y x) [
    | inl less ↦ inr (λ there. elim (front_or_behind y ys x there) [
      | inl is ↦ absurd (omega (arith, is, less))
      | inr behind ↦ none behind
    ])
    | inr least ↦ elim (cases_lt x y) [
      | inl more ↦ inr (λ there. elim (front_or_behind y ys x there) [
        | inl is ↦ absurd (omega (arith, is, more))
        | inr behind ↦ none behind
      ])
      | inr most ↦ (let same : y ≡ x = omega (arith, least, most) in inl (subst (Contains (y ∷ ys)) same (contains_front y ys)))
    ]
  ]
]

-- Where all sends of a list are cut, the most to a stream is.
pub most_cut : (sends : List SendWay) (to stream : ℕ) → All (λ (way : SendWay). way.most ≤ SENDS) sends → most_in sends to stream ≤ SENDS
most_cut [] to stream all = omega arith
most_cut (w ∷ ws) to stream all = by (w.to == to && w.stream == stream) (most_cut ws to stream (All-tail (λ (way : SendWay). way.most ≤ SENDS) w ws all))
  where
    by : (b : Bool) → most_in ws to stream ≤ SENDS → (if b then w.most else most_in ws to stream) ≤ SENDS
    by true rest = All-head (λ (way : SendWay). way.most ≤ SENDS) w ws all
    by false rest = rest
