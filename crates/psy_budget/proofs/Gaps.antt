-- Instructions of an action with no stall before them that costs anything.
use Rattle.std.proofs.Common.{◌≡◌, ℕ, zero, suc, ◌+◌, ◌-◌, ◌<◌, ◌≤◌, List, Some, slice_get, sym, ap, ◌∙◌, subst, inl, inr, arith}
use Rattle.std.proofs.lemmas.Option.{slice_get_within, get_or_from_slice_get}
use Rattle.psy_budget.proofs.lemmas.Stalls.{more_stalled}
use Rattle.psy_budget.specs.declared.charge.Stall.{Stall}
use Rattle.psy_budget.specs.Charges.{StallsRise, stalled}
use Rattle.psy_budget.specs.Standing.{IsAtLeast, AreSplit}
use Rattle.psy_budget.proofs.Splits.{one_more, none_more}

module _ (stalls : List Stall) (place action : ℕ) (rise : StallsRise stalls) where
  -- No stall stands before the next k instructions.
  pub none_between : (n k : ℕ) → AreSplit stalls place action n → ((s : Stall) → slice_get stalls place ≡ Some s → s.action ≡ action → s.instr < n + k → ⊥)
      → AreSplit stalls place action (n + k) × (stalled stalls action (n + k) ≡ stalled stalls action n)
  none_between n zero split none = let same : n ≡ n + 0 = omega arith in (subst (AreSplit stalls place action) same split, ap (stalled stalls action) (sym same))
  none_between n (suc k) split none =
      let before : AreSplit stalls place action (n + k) × (stalled stalls action (n + k) ≡ stalled stalls action n) = none_between n k split (λ s at a less. none s at a (omega (arith, less))) in
      let more : AreSplit stalls place action (n + k + 1) × (stalled stalls action (n + k + 1) ≡ stalled stalls action (n + k)) =
      none_more action (n + k) stalls place rise before.0 (λ s at a i. none s at a (omega (arith, i))) in
      let next : n + k + 1 ≡ n + suc k = omega arith in
      (subst (AreSplit stalls place action) next more.0, ap (stalled stalls action) (sym next) ∙ more.1 ∙ before.1)

  module _ (n : ℕ) (split : AreSplit stalls place action n) (s : Stall) (at : slice_get stalls place ≡ Some s) (a : s.action ≡ action) where
    at_least : (t : Stall) → t.action ≡ action → IsAtLeast action n t → n ≤ t.instr
    at_least t b (inl h) = absurd (omega (arith, b, h))
    at_least t b (inr h) = h.1

    -- the next stall of the action stands before no earlier instruction
    pub no_earlier : n ≤ s.instr
    no_earlier = at_least s a (subst (IsAtLeast action n) (get_or_from_slice_get stalls place s s at) (split.others place s (omega arith) (slice_get_within stalls place s at)))

    up_to : AreSplit stalls place action s.instr × (stalled stalls action s.instr ≡ stalled stalls action n)
    up_to =
        let same : n + (s.instr - n) ≡ s.instr = omega (arith, no_earlier) in
        let is : (t : Stall) → slice_get stalls place ≡ Some t → s ≡ t = λ t other. (let e : Some s ≡ Some t = sym at ∙ other in cc) in
        let there : AreSplit stalls place action (n + (s.instr - n)) × (stalled stalls action (n + (s.instr - n)) ≡ stalled stalls action n) =
        none_between n (s.instr - n) split (λ t other _ less. omega (arith, same, less, ap (λ (u : Stall). u.instr) (is t other))) in
        (subst (AreSplit stalls place action) same there.0, ap (stalled stalls action) (sym same) ∙ there.1)

    -- up to the next stall nothing is stalled
    pub none_up_to : stalled stalls action s.instr ≡ stalled stalls action n
    none_up_to = up_to.1

    -- behind it
    pub behind_it : AreSplit stalls (place + 1) action (s.instr + 1)
    behind_it = (one_more action s.instr stalls place s rise up_to.0 at a (omega arith)).0

    -- what it costs
    pub costs_it : stalled stalls action (s.instr + 1) ≡ stalled stalls action n + s.cycles
    costs_it = omega (arith, (one_more action s.instr stalls place s rise up_to.0 at a (omega arith)).1, up_to.1)

  -- No stall of the action follows.
  pub none_follows : (n m : ℕ) → AreSplit stalls place action n → ((s : Stall) → slice_get stalls place ≡ Some s → s.action ≡ action → ⊥) → stalled stalls action m ≤ stalled stalls action n
  none_follows n m split none =
      let far : AreSplit stalls place action (n + m) × (stalled stalls action (n + m) ≡ stalled stalls action n) = none_between n m split (λ s at a _. none s at a) in
      omega (arith, far.1, more_stalled action m (n + m) stalls (omega arith))

-- A place of which all stalls between it and the instruction behind the paid ones cost nothing.
pub record CostNothing (stalls : List Stall) (place action paid : ℕ) : Type 0 where
  pub instr : ℕ
  pub more : paid + 1 ≤ instr
  pub split : AreSplit stalls place action instr
  pub same : stalled stalls action instr ≡ stalled stalls action (paid + 1)

module _ (stalls : List Stall) (place action paid : ℕ) (rise : StallsRise stalls) (nothing : CostNothing stalls place action paid) where
  -- no fewer are stalled before instructions behind the paid ones
  no_fewer : (k m : ℕ) → stalled stalls action m ≤ stalled stalls action (paid + 1) → paid + k + 1 ≤ m → stalled stalls action (paid + k + 1) ≡ stalled stalls action (paid + 1)
  no_fewer k m no_more within = omega (arith, no_more, more_stalled action (paid + 1) (paid + k + 1) stalls (omega arith), more_stalled action (paid + k + 1) m stalls within)

  -- with no stall of the action at the place, nothing is stalled any more
  pub never : ((s : Stall) → slice_get stalls place ≡ Some s → s.action ≡ action → ⊥) → (k : ℕ) → stalled stalls action (paid + k + 1) ≡ stalled stalls action (paid + 1)
  never none k = no_fewer k (paid + k + 1) (omega (arith, none_follows stalls place action rise nothing.instr (paid + k + 1) nothing.split none, nothing.same)) (omega arith)

  module _ (s : Stall) (at : slice_get stalls place ≡ Some s) (a : s.action ≡ action) where
    pub behind_paid : paid + 1 ≤ s.instr
    behind_paid = omega (arith, nothing.more, no_earlier stalls place action rise nothing.instr nothing.split s at a)

    -- with one there, not up to it
    pub not_before : (k : ℕ) → paid + k + 1 ≤ s.instr → stalled stalls action (paid + k + 1) ≡ stalled stalls action (paid + 1)
    not_before k less = no_fewer k s.instr (omega (arith, none_up_to stalls place action rise nothing.instr nothing.split s at a, nothing.same)) less

    -- and behind it as much more as it costs
    pub more_behind : stalled stalls action (s.instr + 1) ≡ stalled stalls action (paid + 1) + s.cycles
    more_behind = omega (arith, costs_it stalls place action rise nothing.instr nothing.split s at a, nothing.same)

    -- a stall of no cycles is nothing
    pub nothing_more : s.cycles ≡ 0 → CostNothing stalls (place + 1) action paid
    nothing_more none = record {
      instr = s.instr + 1;
      more = omega (arith, behind_paid);
      split = behind_it stalls place action rise nothing.instr nothing.split s at a;
      same = omega (arith, more_behind, none);
    }
