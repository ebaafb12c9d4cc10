-- What is due: a date, a cycle, or a unit of one that was begun; and what is due behind it.
use Rattle.std.proofs.Common.{◌≡◌, ◌≢◌, refl, sym, ap, ◌∙◌, subst, inl, inr, arith}
use Rattle.std.specs.Prelude.{◌⊎◌, ℕ, zero, suc, ◌+◌, ◌*◌, ◌<◌, ◌≤◌, ◌==◌, Bool, true, false, if◌then◌else◌}
use Rattle.std.proofs.lemmas.Bool.{cases_lt, eq-eqb, eqb-false, eqb-true, ne_eqb}
use Rattle.std.proofs.lemmas.Nat.{mul-le}
use Rattle.psy_kernel.specs.declared.stage.Stage.{Stage}
use Rattle.psy_kernel.specs.declared.stage.Stage.TheVariants.{DateDue, CycleDue, UnitDue, Over}
use Rattle.psy_kernel.specs.Progress.{Progress, next_processor, stage_of}
use Rattle.psy_kernel.specs.Standing.{InTick}
use Rattle.psy_kernel.proofs.Ticks.{IsInside, inside_tick}

-- ---- what is due tells how far the run is

-- The stage where these tests hold
abbrev stage_by : Bool → Bool → Bool → ℕ → ℕ → ℕ → Stage
stage_by over filled whole date cycle processor = if over then Over else if filled then DateDue date else if whole then CycleDue cycle else UnitDue cycle processor

date_by : (over filled whole : Bool) (date cycle processor : ℕ) → stage_by over filled whole date cycle processor ≡ DateDue date → (over ≡ false) × (filled ≡ true)
date_by true filled whole date cycle processor e = absurd (cc)
date_by false true whole date cycle processor e = (refl, refl)
date_by false false true date cycle processor e = absurd (cc)
date_by false false false date cycle processor e = absurd (cc)

cycle_by : (over filled whole : Bool) (date cycle processor : ℕ) → stage_by over filled whole date cycle processor ≡ CycleDue cycle → (over ≡ false) × (filled ≡ false) × (whole ≡ true)
cycle_by true filled whole date cycle processor e = absurd (cc)
cycle_by false true whole date cycle processor e = absurd (cc)
cycle_by false false true date cycle processor e = (refl, refl, refl)
cycle_by false false false date cycle processor e = absurd (cc)

unit_by : (over filled whole : Bool) (date cycle processor : ℕ) → stage_by over filled whole date cycle processor ≡ UnitDue cycle processor → (over ≡ false) × (filled ≡ false)
unit_by true filled whole date cycle processor e = absurd (cc)
unit_by false true whole date cycle processor e = absurd (cc)
unit_by false false true date cycle processor e = absurd (cc)
unit_by false false false date cycle processor e = (refl, refl)

over_by : (over filled whole : Bool) (date cycle processor : ℕ) → stage_by over filled whole date cycle processor ≡ Over → over ≡ true
over_by true filled whole date cycle processor e = refl
over_by false true whole date cycle processor e = absurd (cc)
over_by false false true date cycle processor e = absurd (cc)
over_by false false false date cycle processor e = absurd (cc)

-- Date `until` was done where the run is over.
pub over_due : (p : Progress) → stage_of p ≡ Over → p.dates ≡ p.plan.until + 1
over_due p due =
    eqb-true p.dates (p.plan.until + 1) (over_by (p.dates == p.plan.until + 1) (p.cycles == p.dates * p.plan.unit.quantum) (p.units == 0) p.dates p.cycles (next_processor p) due)

-- The cycles fill whole ticks where a date is due.
pub date_due : (p : Progress) → stage_of p ≡ DateDue p.dates → (p.dates ≢ p.plan.until + 1) × (p.cycles ≡ p.dates * p.plan.unit.quantum)
date_due p due =
    let tests = date_by (p.dates == p.plan.until + 1) (p.cycles == p.dates * p.plan.unit.quantum) (p.units == 0) p.dates p.cycles (next_processor p) due in
    (eqb-false p.dates (p.plan.until + 1) tests.0, eqb-true p.cycles (p.dates * p.plan.unit.quantum) tests.1)

pub cycle_due : (p : Progress) → stage_of p ≡ CycleDue p.cycles → (p.dates ≢ p.plan.until + 1) × (p.cycles ≢ p.dates * p.plan.unit.quantum) × (p.units ≡ 0)
cycle_due p due =
    let tests = cycle_by (p.dates == p.plan.until + 1) (p.cycles == p.dates * p.plan.unit.quantum) (p.units == 0) p.dates p.cycles (next_processor p) due in
    (eqb-false p.dates (p.plan.until + 1) tests.0, eqb-false p.cycles (p.dates * p.plan.unit.quantum) tests.1, eqb-true p.units 0 tests.2)

pub unit_due : (p : Progress) → (stage_of p ≡ CycleDue p.cycles) ⊎ (stage_of p ≡ UnitDue p.cycles (next_processor p)) → (p.dates ≢ p.plan.until + 1) × (p.cycles ≢ p.dates * p.plan.unit.quantum)
unit_due p due = elim due [
  | inl whole ↦ (let w = cycle_due p whole in (w.0, w.1))
  | inr begun ↦ (
      let tests = unit_by (p.dates == p.plan.until + 1) (p.cycles == p.dates * p.plan.unit.quantum) (p.units == 0) p.dates p.cycles (next_processor p) begun in
      (eqb-false p.dates (p.plan.until + 1) tests.0, eqb-false p.cycles (p.dates * p.plan.unit.quantum) tests.1))
]

-- ---- and the other way round

pub date_is : (p : Progress) → p.dates ≢ p.plan.until + 1 → p.cycles ≡ p.dates * p.plan.unit.quantum → stage_of p ≡ DateDue p.dates
date_is p more filled = rw (ne_eqb p.dates (p.plan.until + 1) more, eq-eqb p.cycles (p.dates * p.plan.unit.quantum) filled) refl

pub cycle_is : (p : Progress) → p.dates ≢ p.plan.until + 1 → p.cycles ≢ p.dates * p.plan.unit.quantum → p.units ≡ 0 → stage_of p ≡ CycleDue p.cycles
cycle_is p more other whole = rw (ne_eqb p.dates (p.plan.until + 1) more, ne_eqb p.cycles (p.dates * p.plan.unit.quantum) other, eq-eqb p.units 0 whole) refl

pub unit_is : (p : Progress) → p.dates ≢ p.plan.until + 1 → p.cycles ≢ p.dates * p.plan.unit.quantum → p.units ≢ 0 → stage_of p ≡ UnitDue p.cycles (next_processor p)
unit_is p more other part = rw (ne_eqb p.dates (p.plan.until + 1) more, ne_eqb p.cycles (p.dates * p.plan.unit.quantum) other, ne_eqb p.units 0 part) refl

-- ---- between two dates

pub early_until : (quantum until dates cycles : ℕ) → InTick quantum until dates cycles → dates ≢ until + 1 → dates ≤ until
early_until quantum until zero cycles h more = omega arith
early_until quantum until (suc date) cycles h more = (let within : date ≤ until = h.0 in omega (arith, within, more))

tick_high : (quantum until dates cycles : ℕ) → InTick quantum until dates cycles → cycles ≤ dates * quantum
tick_high quantum until zero cycles h = omega (arith, h)
tick_high quantum until (suc date) cycles h =
    let e : date + 1 ≡ suc date = omega arith in
    subst (λ n. cycles ≤ n * quantum) e h.2

-- Where a cycle is due or begun, it stands between a date and the next one.
pub inside_date : (quantum until dates cycles : ℕ) → InTick quantum until dates cycles → (dates ≢ until + 1) × (cycles ≢ dates * quantum) → (date : ℕ) × IsInside quantum until dates cycles date
inside_date quantum until dates cycles h due = inside_tick quantum until dates cycles h (early_until quantum until dates cycles h due.0) (below cycles (dates * quantum) (tick_high quantum until dates cycles h) due.1)
  where
    below : (a b : ℕ) → a ≤ b → (a ≡ b → ⊥) → a < b
    below a b h other = grind (arith, h, other)

-- ---- what is due behind cycles of a tick

later_tick : (date t quantum n : ℕ) → date + 2 ≤ t → 1 ≤ quantum → n ≤ (date + 1) * quantum → n ≡ t * quantum → ⊥
later_tick date t quantum n more some low e =
    let a = mul-le (date + 2) quantum t quantum more (omega arith) in
    let b : (date + 2) * quantum ≡ (date + 1) * quantum + quantum = grind arith in
    omega (arith, a, b, some, low, e)

earlier_tick : (date t quantum n : ℕ) → t ≤ date → date * quantum < n → n ≡ t * quantum → ⊥
earlier_tick date t quantum n less low e = let a = mul-le t quantum date quantum less (omega arith) in omega (arith, a, low, e)

module _ (p : Progress) (date : ℕ) (inside : IsInside p.plan.unit.quantum p.plan.until p.dates p.cycles date) (some : 1 ≤ p.plan.unit.quantum) (cycles : ℕ) (above : p.cycles < cycles) (high : cycles ≤ (date + 1) * p.plan.unit.quantum) where
  not_the_end : p.dates ≢ p.plan.until + 1
  not_the_end e = absurd (omega (arith, inside.0, inside.1, e))

  same_tick : (t : ℕ) → cycles ≡ t * p.plan.unit.quantum → t ≡ p.dates
  same_tick t e = elim (cases_lt date t) [
    | inr less ↦ absurd (earlier_tick date t p.plan.unit.quantum cycles less (omega (arith, inside.2, above)) e)
    | inl more ↦ elim (cases_lt (date + 1) t) [
      | inl past ↦ absurd (later_tick date t p.plan.unit.quantum cycles (omega (arith, past)) some high e)
      | inr low ↦ omega (arith, more, low, inside.0)
    ]
  ]

  pub filled : (t : ℕ) → cycles ≡ t * p.plan.unit.quantum → stage_of (record p { cycles = cycles }) ≡ DateDue t
  filled t e =
      let same = same_tick t e in
      date_is (record p { cycles = cycles }) not_the_end (e ∙ ap (λ n. n * p.plan.unit.quantum) same) ∙ ap DateDue (sym same)

  pub not_filled : (cycles ≢ p.dates * p.plan.unit.quantum) → p.units ≡ 0 → stage_of (record p { cycles = cycles }) ≡ CycleDue cycles
  not_filled none whole = cycle_is (record p { cycles = cycles }) not_the_end none whole
