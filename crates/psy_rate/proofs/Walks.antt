-- What a round of chosen edges shows.
use Rattle.std.proofs.Common.{◌≡◌, ◌∙◌, ℕ, zero, suc, ◌+◌, ◌-◌, ◌*◌, ◌/◌, ◌%◌, ◌^◌, ◌<◌, ◌≤◌, List, [], ◌∷◌, min, refl, sym, subst, inl, inr, mul_comm, mul-le-mul_left, mul-le-mul_right, le-mul_of_pos_right, add-mul, arith}
use Rattle.std.proofs.lemmas.Bool.{cases_lt}
use Rattle.std.proofs.lemmas.Grind.{div_ceil_times}
use Rattle.psy_base.specs.declared.edge.Edge.{Edge}
use Rattle.psy_base.specs.declared.limits.TheConstants.{BUDGET, NODES}
use Rattle.psy_base.specs.Paths.{weight_of, length_of}
use Rattle.psy_rate.specs.Followed.{IsLoop, IsWeighed}
use Rattle.psy_rate.specs.Lines.{IsClosed}
use Rattle.psy_rate.specs.Trials.{IsPassed}
use Rattle.psy_rate.specs.declared.line.TheConstants.{SCALE}
use Rattle.psy_rate.proofs.Followed.{is_path}

-- It is a closed path.
closed_by : (graph : List Edge) (chosen : List ℕ) (start : ℕ) (path : List Edge) → IsLoop graph chosen start path → IsClosed graph path
closed_by graph chosen start [] loop = absurd (omega (arith, loop.some))
closed_by graph chosen start (e ∷ path) loop =
    let follows = is_path graph chosen start (e ∷ path) loop.followed in
    let from : start ≡ e.from = sym follows.1 in
    ((follows.0, refl, follows.2), loop.back ∙ from)

module _ (graph : List Edge) (chosen : List ℕ) (start weight len : ℕ) (path : List Edge) (is : IsWeighed graph chosen start weight len path) (next : ℕ) (ceil : next ≡ SCALE * weight / len + min 1 (SCALE * weight % len)) where
  bounds : (SCALE * weight ≤ next * len) × (next * len < SCALE * weight + len)
  bounds = subst (λ n. (SCALE * weight ≤ n * len) × (n * len < SCALE * weight + len)) (sym ceil) (div_ceil_times (SCALE * weight) len is.long)

  -- A rate below its weight by its length is passed,
  pub passes : (less : ℕ) → less < next → less * length_of path < SCALE * weight_of path
  passes less below =
      let grows : len * (less + 1) ≤ len * next = mul-le-mul_left len (omega (arith, below)) in
      let turned : len * next ≡ next * len = mul_comm len next in
      let turned' : len * (less + 1) ≡ (less + 1) * len = mul_comm len (less + 1) in
      let one : (less + 1) * len ≡ less * len + 1 * len = add-mul less 1 len in
      let under : less * len < SCALE * weight = omega (arith, bounds.1, grows, turned, turned', one) in
      elim (cases_lt (2 ^ 64 - 1) (length_of path)) [
        | inr near ↦ (
            let same : len ≡ length_of path = omega (arith, is.lasts, near) in
            subst (λ w. less * length_of path < SCALE * w) (sym is.weighs) (subst (λ m. less * m < SCALE * weight) same under))
        | inl far ↦ by less under (omega (arith, is.lasts, far))
      ]
    where
      -- It is so long that no rate but 0 is.
      by : (less : ℕ) → less * len < SCALE * weight → len ≡ 2 ^ 64 - 1 → less * length_of path < SCALE * weight_of path
      by zero under most = omega (arith, under, is.weighs)
      by (suc less) under most =
          let more : len ≤ len * (less + 1) = le-mul_of_pos_right len (omega arith) in
          let turned : len * (less + 1) ≡ (less + 1) * len = mul_comm len (less + 1) in
          let small : SCALE * weight ≤ SCALE * (BUDGET * NODES) = mul-le-mul_left SCALE is.small in
          absurd (omega (arith, more, turned, under, most, small))

  -- and each other isn't.
  pub level : (rate : ℕ) → next ≤ rate → SCALE * weight_of path ≤ rate * length_of path
  level rate above =
      let first : next * len ≤ rate * len = mul-le-mul_right len above in
      let short : rate * len ≤ rate * length_of path = mul-le-mul_left rate (omega (arith, is.lasts)) in
      omega (arith, bounds.0, first, short, is.weighs)

  pub passed : (rate : ℕ) → rate < next → IsPassed graph rate next
  passed rate above = record { above = above; path = path; closed = closed_by graph chosen start path is.round.loop; passes = passes }
