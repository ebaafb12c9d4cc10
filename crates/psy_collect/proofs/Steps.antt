-- The steps of a run: which is due, and how many are left.
use Rattle.std.proofs.Common.{◌≡◌, ◌≢◌, ◌∙◌, refl, sym, ap, subst, ℕ, ◌+◌, ◌-◌, ◌*◌, ◌/◌, ◌^◌, ◌<◌, ◌≤◌, ◌==◌, Bool, true, false, List, [], ◌∷◌, Option, None, length, get_or, eqb-true, inl, inr, arith}
use Rattle.std.specs.Prelude.{◌⊎◌, if◌then◌else◌, IfSome}
use Rattle.std.specs.List.{list_any}
use Rattle.std.proofs.lemmas.Bool.{cases_Bool, cases_lt}
use Rattle.std.proofs.lemmas.Bool.Decides.{nat_tests}
use Rattle.std.proofs.lemmas.List.{get_or_past}
use Rattle.std.proofs.lemmas.Nat.{div-mul-add, mul-le}
use Rattle.psy_audit.specs.declared.said.Act.{Act}
use Rattle.psy_base.specs.declared.limits.TheConstants.{QUANTUM}
use Rattle.psy_collect.specs.Collected.{IsRunning, doing_of, steps_left}
use Rattle.psy_collect.specs.declared.kept.Kept.{Kept}
use Rattle.psy_collect.proofs.Turns.{as_many}
use Rattle.psy_history.specs.Actions.{Action}
use Rattle.psy_history.specs.History.{history}
use Rattle.psy_history.specs.Processors.{processor_at, processors}
use Rattle.psy_history.specs.Schedule.{Turn, is_of, units}
use Rattle.psy_kernel.specs.Progress.{Progress, after_unit, cycles_on, had_unit, order, stage_of, system, turns_so_far, up_to_date}
use Rattle.psy_kernel.specs.declared.stage.Stage.TheVariants.{CycleDue, DateDue, UnitDue}

-- ---- what is due

pub date_due : (p : Progress) (date : ℕ) → stage_of p ≡ DateDue date → (date ≡ p.dates) × (p.cycles ≡ p.dates * p.plan.unit.quantum)
date_due p date e = (grind (arith, nat_tests), grind (arith, nat_tests))

pub cycle_due : (p : Progress) (cycle : ℕ) → stage_of p ≡ CycleDue cycle → p.cycles ≢ p.dates * p.plan.unit.quantum
cycle_due p cycle e = grind (arith, nat_tests)

pub unit_due : (p : Progress) (cycle processor : ℕ) → stage_of p ≡ UnitDue cycle processor → p.cycles ≢ p.dates * p.plan.unit.quantum
unit_due p cycle processor e = grind (arith, nat_tests)

pub either_due : (p : Progress) (cycle processor : ℕ) → (stage_of p ≡ CycleDue cycle) ⊎ (stage_of p ≡ UnitDue cycle processor) → p.cycles ≢ p.dates * p.plan.unit.quantum
either_due p cycle processor (inl e) = cycle_due p cycle e
either_due p cycle processor (inr e) = unit_due p cycle processor e

pub cycle_whole : (p : Progress) (cycle : ℕ) → stage_of p ≡ CycleDue cycle → p.units ≡ 0
cycle_whole p cycle e = grind (arith, nat_tests)

-- ---- the date of a cycle

module _ (dates cycle quantum : ℕ) (inside : cycle < dates * quantum) where
  -- Before a cycle some date was done.
  pub some_dates : 1 ≤ dates
  some_dates = elim (cases_lt 0 dates) [
    | inl some ↦ omega (arith, some)
    | inr none ↦ (let zero_is : dates ≡ 0 = omega (arith, none) in absurd (omega (arith, inside, ap (λ d. d * quantum) zero_is)))
  ]

  parts : dates * quantum ≡ (dates - 1) * quantum + quantum
  parts = (let date_is : dates ≡ dates - 1 + 1 = omega (arith, some_dates) in ap (λ d. d * quantum) date_is ∙ (let e : (dates - 1 + 1) * quantum ≡ (dates - 1) * quantum + quantum = omega arith in e))

  module _ (low : dates * quantum ≤ cycle + quantum) where
    -- It comes behind the one done last.
    pub behind_last : (dates - 1) * quantum ≤ cycle
    behind_last = omega (arith, low, parts)

    -- It sees the dates that were done.
    pub in_date : cycle / quantum + 1 ≡ dates
    in_date =
        let rest : cycle ≡ (dates - 1) * quantum + (cycle - (dates - 1) * quantum) = omega (arith, behind_last) in
        let q : cycle / quantum ≡ dates - 1 = ap (λ n. n / quantum) rest ∙ div-mul-add (dates - 1) quantum (cycle - (dates - 1) * quantum) (omega (arith, behind_last, inside, parts)) in
        omega (arith, q, some_dates)

-- ---- where a unit is due

module _ (p : Progress) (k : Kept) (running : IsRunning p k) (due : p.cycles ≢ p.dates * p.plan.unit.quantum) where
  pub inside : p.cycles < p.dates * p.plan.unit.quantum
  inside = grind (arith, due, running.high)

  pub within : p.cycles < p.plan.until * p.plan.unit.quantum
  within = (let most = mul-le p.dates p.plan.unit.quantum p.plan.until p.plan.unit.quantum running.early (omega arith) in omega (arith, inside, most))

  left_by : (test : Bool) → (p.units + 1 == processors p.plan.unit) ≡ test
      → steps_left (record (if test then record p { cycles = p.cycles + 1; units = 0 } else record p { units = p.units + 1 }) { last = (after_unit p).last }) < steps_left p
  left_by true e =
      let n = processors p.plan.unit in
      let last = eqb-true (p.units + 1) n e in
      let a = p.plan.until * p.plan.unit.quantum - (p.cycles + 1) in
      let one : p.plan.until * p.plan.unit.quantum - p.cycles ≡ a + 1 = omega (arith, within) in
      let more : (p.plan.until * p.plan.unit.quantum - p.cycles) * n ≡ a * n + n = ap (λ m. m * n) one ∙ (let e : (a + 1) * n ≡ a * n + n = omega arith in e) in
      omega (arith, last, more, running.begun)
  left_by false e = omega (arith, running.begun)

  -- With a unit fewer steps are left.
  pub fewer : steps_left (after_unit p) < steps_left p
  fewer = left_by (p.units + 1 == processors p.plan.unit) refl

-- Behind all cycles before the next date fewer steps are left.
pub fewer_cycles : (p : Progress) (k : Kept) → IsRunning p k → p.cycles ≢ p.dates * p.plan.unit.quantum → steps_left (up_to_date p) < steps_left p
fewer_cycles p k running due =
    let n = processors p.plan.unit in
    let end = p.plan.until * p.plan.unit.quantum in
    let date = p.dates * p.plan.unit.quantum in
    let most = mul-le p.dates p.plan.unit.quantum p.plan.until p.plan.unit.quantum running.early (omega arith) in
    let more : (end - date) + 1 ≤ end - p.cycles = omega (arith, inside p k running due, most) in
    let product = mul-le ((end - date) + 1) n (end - p.cycles) n more (omega arith) in
    let parts : ((end - date) + 1) * n ≡ (end - date) * n + n = omega arith in
    omega (arith, product, parts, running.begun)

-- ---- bounds

units_few : (agent number : ℕ) (turns : List (Option Turn)) → units agent number turns ≤ length turns
units_few agent number [] = omega arith
units_few agent number (turn ∷ turns) =
    let rest = units_few agent number turns in
    elim (cases_Bool (is_of agent number turn)) [ inl t ↦ rw t (omega (arith, rest)) | inr t ↦ rw t (omega (arith, rest)) ]

doing_few : (turns : List (Option Turn)) (actions : List Action) (bound : ℕ) → length turns < bound → IfSome (doing_of turns actions) (λ (a : Act). a.work < bound)
doing_few turns [] bound less = tt
doing_few turns (r ∷ before) bound less = (let most = units_few r.agent r.number turns in omega (arith, most, less))

pub on_few : (p : Progress) (processor : ℕ) → cycles_on p processor ≤ p.cycles + 1
on_few p processor = by (list_any (λ n. n == processor) (had_unit p))
  where
    by : (b : Bool) → (if b then p.cycles + 1 else p.cycles) ≤ p.cycles + 1
    by true = omega arith
    by false = omega arith

-- The cycles of a run are few.
pub few_cycles : (p : Progress) (until : ℕ) → until ≡ p.plan.until → until < 2 ^ 32 → p.plan.unit.quantum ≤ QUANTUM → p.plan.until * p.plan.unit.quantum < 2 ^ 62
few_cycles p until is few small = (let most = mul-le p.plan.until p.plan.unit.quantum (2 ^ 32) QUANTUM (omega (arith, is, few)) small in omega (arith, most))

-- So are those of an agent's last action.
pub few_works : (p : Progress) (k : Kept) (running : IsRunning p k) → p.cycles + 1 < 2 ^ 63 → (agent : ℕ) → IfSome (get_or k.doing agent None) (λ (a : Act). a.work < 2 ^ 63)
few_works p k running small agent = elim (cases_lt agent (length p.plan.unit.agents)) [
  | inl less ↦
      subst (λ o. IfSome o (λ (a : Act). a.work < 2 ^ 63)) (sym (running.collected.acts.last agent less))
      (doing_few (turns_so_far p agent) (history (system p) p.dates agent) (2 ^ 63)
      (let long = as_many (system p) (order p) (processor_at p.plan.unit agent) (cycles_on p (processor_at p.plan.unit agent)) in
      let few = on_few p (processor_at p.plan.unit agent) in omega (arith, long, few, small)))
  | inr past ↦ subst (λ o. IfSome o (λ (a : Act). a.work < 2 ^ 63)) (sym (get_or_past k.doing agent None (omega (arith, past, running.collected.acts.count)))) tt
]

-- A unit leaves the plan.
pub same_plan : (p : Progress) → (after_unit p).plan ≡ p.plan
same_plan p = by (p.units + 1 == processors p.plan.unit)
  where
    by : (test : Bool) → (if test then record p { cycles = p.cycles + 1; units = 0 } else record p { units = p.units + 1 }).plan ≡ p.plan
    by true = refl
    by false = refl
