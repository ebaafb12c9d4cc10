-- What each cycle of an action goes to, by its number.
use Rattle.std.proofs.Common.{◌≡◌, ◌⊎◌, ℕ, zero, suc, ◌+◌, ◌-◌, ◌<◌, ◌≤◌, List, refl, sym, ap, ◌∙◌, subst, inl, inr, arith, add-one}
use Rattle.std.specs.Prelude.{◌≢◌, ◌↔◌}
use Rattle.std.proofs.lemmas.Bool.{cases_lt, cases_order}
use Rattle.std.proofs.lemmas.Bool.Decides.{nat_tests}
use Rattle.psy_budget.proofs.lemmas.Stalls.{none_stalled, more_stalled}
use Rattle.psy_budget.specs.declared.charge.Stall.{Stall}
use Rattle.psy_budget.specs.declared.charge.Tick.{Tick}
use Rattle.psy_budget.specs.declared.charge.Tick.TheVariants as tick
use Rattle.psy_budget.specs.Charges.{Charged, Pays, stalled, cycle_of, tick_of, after_tick, ticked}

paid_stalled : tick.Paid ≡ tick.Stalled → ⊥
paid_stalled e = cc

stalled_spent : tick.Stalled ≡ tick.Spent → ⊥
stalled_spent e = cc

paid_spent : tick.Paid ≡ tick.Spent → ⊥
paid_spent e = cc

zero_plus : (n : ℕ) → 0 + n ≡ n
zero_plus n = omega arith

suc_plus : (k n : ℕ) → suc k + n ≡ suc (k + n)
suc_plus k n = omega arith

module _ (stalls : List Stall) (started budget : ℕ) where
  abbrev action : ℕ
  action = started - 1

  -- the charge after some cycles, of which some paid an instruction
  abbrev pub charge : ℕ → ℕ → Charged
  charge consumed paid = record { stalls = stalls; started = started; budget = budget; consumed = consumed; paid = paid }

  abbrev first : Charged
  first = charge 0 0

  pub next_tick : (u p : ℕ) → u < budget → ((tick_of (charge u p) ≡ tick.Stalled) × (u < cycle_of stalls action p)) ⊎ ((tick_of (charge u p) ≡ tick.Paid) × (cycle_of stalls action p ≤ u))
  next_tick u p less = grind (arith, nat_tests)

  last_tick : (p : ℕ) → tick_of (charge budget p) ≡ tick.Spent
  last_tick p = grind (arith, nat_tests)

  -- how many instructions are paid after u cycles
  pub record IsReached (u p : ℕ) : Type 0 where
    pub is : ticked first u ≡ charge u p
    pub before : p + stalled stalls action p ≤ u
    pub up_to : u ≤ cycle_of stalls action p

  one_more : (u p : ℕ) → u < budget → IsReached u p → (q : ℕ) × IsReached (suc u) q
  one_more u p less r =
      elim (next_tick u p less) [
        | inl h ↦ (
          p,
          record {
            is = ap (λ (d : Charged). after_tick d (tick_of d)) r.is ∙ ap (after_tick (charge u p)) h.0 ∙ ap (λ n. charge n p) (add-one u);
            before = omega (arith, r.before);
            up_to = omega (arith, h.1);
          },
        )
        | inr h ↦ (
          p + 1,
          record {
            is = ap (λ (d : Charged). after_tick d (tick_of d)) r.is ∙ ap (after_tick (charge u p)) h.0 ∙ ap (λ n. charge n (p + 1)) (add-one u);
            before = omega (arith, h.1);
            up_to = omega (arith, r.up_to, more_stalled action (p + 1) (p + 1 + 1) stalls (omega arith));
          },
        )
      ]

  pub reached : (u : ℕ) → u ≤ budget → (p : ℕ) × IsReached u p
  reached zero less = (0, record { is = refl; before = omega (arith, none_stalled action stalls); up_to = omega arith })
  reached (suc u) less = let r : (p : ℕ) × IsReached u p = reached u (omega (arith, less)) in one_more u r.0 (omega (arith, less)) r.1

  -- the instruction that a cycle pays is the one that is next
  next_paid : (u p instr : ℕ) → IsReached u p → u ≡ cycle_of stalls action instr → p ≡ instr
  next_paid u p instr r e = elim (cases_order p instr) [
    | inl same ↦ same
    | inr other ↦ elim other [
      | inl first ↦ absurd (omega (arith, r.up_to, e, first, more_stalled action (p + 1) (instr + 1) stalls (omega (arith, first))))
      | inr last ↦ absurd (omega (arith, r.before, e, last, more_stalled action (instr + 1) p stalls (omega (arith, last))))
    ]
  ]

  -- the charge after u cycles, seen by what is reached
  reached_tick : (u p : ℕ) (t : Tick) → IsReached u p → tick_of (charge u p) ≡ t → tick_of (ticked first u) ≡ t
  reached_tick u p t r e = ap tick_of r.is ∙ e

  ticked_reached : (u p : ℕ) (t : Tick) → IsReached u p → tick_of (ticked first u) ≡ t → tick_of (charge u p) ≡ t
  ticked_reached u p t r e = sym (ap tick_of r.is) ∙ e

  reached_paid : (u p : ℕ) → IsReached u p → (ticked first u).paid ≡ p
  reached_paid u p r = ap (λ (d : Charged). d.paid) r.is

  pays_then : (u p instr : ℕ) → u < budget → IsReached u p → Pays (ticked first u) instr → u ≡ cycle_of stalls action instr
  pays_then u p instr less r h =
      let same : p ≡ instr = sym (reached_paid u p r) ∙ h.1 in
      let e : tick_of (charge u p) ≡ tick.Paid = ticked_reached u p tick.Paid r h.0 in
      subst (λ i. u ≡ cycle_of stalls action i) same (elim (next_tick u p less) [
        | inl wrong ↦ absurd (paid_stalled (sym e ∙ wrong.0))
        | inr right ↦ omega (arith, right.1, r.up_to)
      ])

  pays_where : (u p instr : ℕ) → u < budget → IsReached u p → u ≡ cycle_of stalls action instr → Pays (ticked first u) instr
  pays_where u p instr less r e =
      let same : p ≡ instr = next_paid u p instr r e in (
        elim (next_tick u p less) [
          | inl wrong ↦ absurd (omega (arith, wrong.1, e, ap (cycle_of stalls action) same))
          | inr right ↦ reached_tick u p tick.Paid r right.0
        ],
        reached_paid u p r ∙ same,
      )

  pub pays : (u instr : ℕ) → u < budget → Pays (ticked first u) instr ↔ (u ≡ cycle_of stalls action instr)
  pays u instr less = let r : (p : ℕ) × IsReached u p = reached u (omega (arith, less)) in (pays_then u r.0 instr less r.1, pays_where u r.0 instr less r.1)

  stalls_then : (u instr : ℕ) → u < budget → tick_of (ticked first u) ≡ tick.Stalled → u ≡ cycle_of stalls action instr → ⊥
  stalls_then u instr less h e = let r : (p : ℕ) × IsReached u p = reached u (omega (arith, less)) in paid_stalled (sym (pays_where u r.0 instr less r.1 e).0 ∙ h)

  stalls_where : (u : ℕ) → u < budget → ((instr : ℕ) → u ≢ cycle_of stalls action instr) → tick_of (ticked first u) ≡ tick.Stalled
  stalls_where u less none =
      let r : (p : ℕ) × IsReached u p = reached u (omega (arith, less)) in
      elim (next_tick u r.0 less) [
        | inl right ↦ reached_tick u r.0 tick.Stalled r.1 right.0
        | inr wrong ↦ absurd (none r.0 (omega (arith, wrong.1, r.1.up_to)))
      ]

  pub stalls_else : (u : ℕ) → u < budget → (tick_of (ticked first u) ≡ tick.Stalled) ↔ ((instr : ℕ) → u ≢ cycle_of stalls action instr)
  stalls_else u less = (λ h instr e. stalls_then u instr less h e, stalls_where u less)

  -- from the budget on nothing changes
  stays : (p : ℕ) → ticked first budget ≡ charge budget p → (k : ℕ) → ticked first (k + budget) ≡ charge budget p
  stays p e zero = ap (ticked first) (zero_plus budget) ∙ e
  stays p e (suc k) =
      ap (ticked first) (suc_plus k budget) ∙ ap (λ (d : Charged). after_tick d (tick_of d)) (stays p e k) ∙ ap (after_tick (charge budget p)) (last_tick p)

  spent_then : (u : ℕ) → tick_of (ticked first u) ≡ tick.Spent → budget ≤ u
  spent_then u h = elim (cases_lt u budget) [
    | inl less ↦
        let r : (p : ℕ) × IsReached u p = reached u (omega (arith, less)) in
        let e : tick_of (charge u r.0) ≡ tick.Spent = ticked_reached u r.0 tick.Spent r.1 h in
        elim (next_tick u r.0 less) [ inl wrong ↦ absurd (stalled_spent (sym wrong.0 ∙ e)) | inr wrong ↦ absurd (paid_spent (sym wrong.0 ∙ e)) ]
    | inr more ↦ more
  ]

  spent_where : (u : ℕ) → budget ≤ u → tick_of (ticked first u) ≡ tick.Spent
  spent_where u more =
      let r : (p : ℕ) × IsReached budget p = reached budget (omega arith) in
      let e : u - budget + budget ≡ u = omega (arith, more) in
      ap (λ n. tick_of (ticked first n)) (sym e) ∙ ap tick_of (stays r.0 r.1.is (u - budget)) ∙ last_tick r.0

  pub spent : (u : ℕ) → (tick_of (ticked first u) ≡ tick.Spent) ↔ (budget ≤ u)
  spent u = (spent_then u, spent_where u)
