-- From where a place of code is come to, and where a way goes on from it.
use Rattle.std.proofs.Common.{◌≡◌, ℕ, zero, suc, ◌+◌, ◌<◌, ◌≤◌, List, ◌∷◌, Some, refl, subst, inl, inr, arith}
use Rattle.std.specs.Prelude.{slice_get, ◌⊎◌}
use Rattle.std.proofs.lemmas.Bool.{cases_lt}
use Rattle.std.specs.List.{Contains}
use Rattle.psy_code.specs.declared.instr.Instr.{Instr}
use Rattle.psy_code.specs.declared.instr.Instr.TheVariants as instr
use Rattle.psy_meaning.specs.CodeWays.{GoesOn, IsCodeWay, IsOnWay, IsPassed}

module _ (instrs : List Instr) where
  -- ---- ways passed

  pub passed_on : (from place next : ℕ) (i : Instr) → slice_get instrs place ≡ Some i → GoesOn i place next → IsPassed instrs from place
      → IsPassed instrs from next
  passed_on from place next i at on passed = IsPassed.later place next i passed at on

  pub passed_then : (from mid place : ℕ) → IsPassed instrs from mid → IsPassed instrs mid place → IsPassed instrs from place
  passed_then from mid place known IsPassed.first = known
  passed_then from mid place known (IsPassed.later before next i rest at on) = IsPassed.later before next i (passed_then from mid before known rest) at on

  -- Some way from there ends.
  pub record Dies (place : ℕ) : Type 0 where
    pub point : ℕ
    pub places : List ℕ
    pub way : IsCodeWay instrs point place places

  -- A way with these places at its end
  record Longer (from point : ℕ) (places : List ℕ) : Type 0 where
    all : List ℕ
    way : IsCodeWay instrs point from all
    keeps : (q : ℕ) → Contains places q → Contains all q

  in_more : (place q : ℕ) (places : List ℕ) → Contains places q → Contains (place ∷ places) q
  in_more place q places (j, less, e) = (suc j, omega (arith, less), e)

  lengthen : (from place point : ℕ) (places : List ℕ) → IsPassed instrs from place → IsCodeWay instrs point place places → Longer from point places
  lengthen from place point places IsPassed.first way = record { all = places; way = way; keeps = λ q there. there }
  lengthen from place point places (IsPassed.later before next i passed at on) way =
      let l = lengthen from before point (before ∷ places) passed (IsCodeWay.goes before next i places at on way) in
      record { all = l.all; way = l.way; keeps = λ q there. l.keeps q (in_more before q places there) }

  pub dies_later : (from place : ℕ) → IsPassed instrs from place → Dies place → Dies from
  dies_later from place passed d = let l = lengthen from place d.point d.places passed d.way in record { point = d.point; places = l.all; way = l.way }

  first_in : (point place : ℕ) (places : List ℕ) → IsCodeWay instrs point place places → Contains places place
  first_in point place places (IsCodeWay.ends own at) = (0, omega arith, refl)
  first_in point place places (IsCodeWay.goes own next i more at on way) = (0, omega arith, refl)

  pub on_way : (from place : ℕ) (i : Instr) → IsPassed instrs from place → slice_get instrs place ≡ Some i → Dies place → IsOnWay instrs from i
  on_way from place i passed at d =
      let l = lengthen from place d.point d.places passed d.way in
      (d.point, place, l.all, l.way, l.keeps place (first_in d.point place d.places d.way), at)

  -- ---- stretches of code that go on from place to place

  pub record Next (place : ℕ) : Type 0 where
    pub i : Instr
    pub at : slice_get instrs place ≡ Some i
    pub on : GoesOn i place (place + 1)

  abbrev pub Steps : ℕ → ℕ → Type 0
  Steps p r = (q : ℕ) → p ≤ q → q < r → Next q

  pub steps_none : (p : ℕ) → Steps p p
  steps_none p q above below = absurd (omega (arith, above, below))

  pub steps_one : (i : Instr) (p : ℕ) → slice_get instrs p ≡ Some i → GoesOn i p (p + 1) → Steps p (p + 1)
  steps_one i p at on q above below = let same : p ≡ q = omega (arith, above, below) in subst Next same (record { i = i; at = at; on = on })

  pub steps_then : (p m r : ℕ) → Steps p m → Steps m r → Steps p r
  steps_then p m r f g q above below = elim (cases_lt q m) [ inl less ↦ f q above less | inr more ↦ g q more below ]

  pub steps_to : (p r s : ℕ) → r ≡ s → Steps p r → Steps p s
  steps_to p r s e f = subst (Steps p) e f

  pass_by : (d p r : ℕ) → p + d ≡ r → Steps p r → IsPassed instrs p r
  pass_by zero p r e f = let z : p ≡ r = omega (arith, e) in subst (IsPassed instrs p) z IsPassed.first
  pass_by (suc d) p r e f =
      let n = f (p + d) (omega arith) (omega (arith, e)) in
      let last : p + d + 1 ≡ r = omega (arith, e) in
      subst (IsPassed instrs p) last
      (IsPassed.later (p + d) (p + d + 1) n.i (pass_by d p (p + d) refl (λ q above below. f q above (omega (arith, below, e)))) n.at n.on)

  pub steps_pass : (p n : ℕ) → Steps p (p + n) → IsPassed instrs p (p + n)
  steps_pass p n f = pass_by n p (p + n) refl f

  -- ---- stretches of code with branches, loops and ends, within bounds

  module _ (low high : ℕ) (IsPoint : ℕ → Type 0) where
    -- A later place within the bounds is come to from there, or an action ends there.
    pub record Later (place : ℕ) : Type 0 where
      pub next : ℕ
      pub more : place < next
      pub within : next ≤ high
      pub passed : IsPassed instrs place next

    abbrev Fore : ℕ → Type 0
    Fore q = Later q ⊎ ((point : ℕ) × (slice_get instrs q ≡ Some (instr.Advance point)))

    -- It is come to from an earlier place within the bounds, or stands at a point.
    pub record Earlier (place : ℕ) : Type 0 where
      pub before : ℕ
      pub less : before < place
      pub within : low ≤ before
      pub passed : IsPassed instrs before place

    abbrev Back : ℕ → Type 0
    Back q = Earlier q ⊎ IsPoint q

    pub record Flow (p r : ℕ) : Type 0 where
      pub fore : (q : ℕ) → p ≤ q → q < r → Fore q
      pub back : (q : ℕ) → p < q → q ≤ r → Back q

    pub flow_none : (p : ℕ) → Flow p p
    flow_none p = record { fore = λ q above below. absurd (omega (arith, above, below)); back = λ q above below. absurd (omega (arith, above, below)) }

    -- One place, from which the next is come to
    step_once : (q : ℕ) → Next q → IsPassed instrs q (q + 1)
    step_once q n = IsPassed.later q (q + 1) n.i IsPassed.first n.at n.on

    pub flow_steps : (p r : ℕ) → low ≤ p → r ≤ high → Steps p r → Flow p r
    flow_steps p r above below f = record {
      fore = λ q first last. inl (record { next = q + 1; more = omega arith; within = omega (arith, last, below); passed = step_once q (f q first last) });
      back = λ q first last. by q first last;
    }
      where
        by : (q : ℕ) → p < q → q ≤ r → Back q
        by zero first last = absurd (omega (arith, first))
        by (suc q) first last =
            let same : q + 1 ≡ suc q = omega arith in
            inl (record {
              before = q;
              less = omega arith;
              within = omega (arith, first, above);
              passed = subst (IsPassed instrs q) same
                  (step_once q (f q (omega (arith, first)) (omega (arith, last))));
            })

    pub flow_then : (p m r : ℕ) → Flow p m → Flow m r → Flow p r
    flow_then p m r f g = record {
      fore = λ q above below. elim (cases_lt q m) [ inl less ↦ f.fore q above less | inr more ↦ g.fore q more below ];
      back = λ q above below. elim (cases_lt m q) [ inl less ↦ g.back q less below | inr more ↦ f.back q above more ];
    }

    pub flow_to : (p r s : ℕ) → r ≡ s → Flow p r → Flow p s
    flow_to p r s e f = subst (Flow p) e f

    pub flow_advance : (p point : ℕ) → slice_get instrs p ≡ Some (instr.Advance point) → IsPoint (p + 1) → Flow p (p + 1)
    flow_advance p point at there = record {
      fore = λ q above below. (let same : p ≡ q = omega (arith, above, below) in inr
          (point, subst (λ x. slice_get instrs x ≡ Some (instr.Advance point)) same at));
      back = λ q above below. (let same : p + 1 ≡ q = omega (arith, above, below) in inr (subst IsPoint same there));
    }

    -- A place from which a later one is come to, and behind it a place that an earlier one comes to
    pub flow_jump : (p : ℕ) → Later p → Earlier (p + 1) → Flow p (p + 1)
    flow_jump p l e = record {
      fore = λ q above below. (let same : p ≡ q = omega (arith, above, below) in inl (subst Later same l));
      back = λ q above below. (let same : p + 1 ≡ q = omega (arith, above, below) in inl (subst Earlier same e));
    }
