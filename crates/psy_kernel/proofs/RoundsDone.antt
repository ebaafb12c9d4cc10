-- The units of a round: an action is over with the cycle where it is with one of them.
use Rattle.std.proofs.Common.{◌≡◌, refl, sym, ◌∙◌, subst, arith}
use Rattle.std.specs.Prelude.{ℕ, ◌+◌, ◌-◌, ◌<◌, true, false, List, get_or}
use Rattle.std.proofs.lemmas.List.{get_or_default}
use Rattle.psy_history.specs.Processors.{processor_at, processors}
use Rattle.psy_history.specs.Schedule.{is_pending}
use Rattle.psy_history.specs.Scheduled.{turns_of}
use Rattle.psy_history.specs.Scripts.{IsScript, round_of}
use Rattle.psy_kernel.specs.Progress.{Progress, next_processor, order, system}
use Rattle.psy_kernel.specs.Slices.{IsOverBy, IsOverFor, counted_on}
use Rattle.psy_kernel.proofs.RoundsInForce.{lists_as_many, lists_round}
use Rattle.psy_kernel.proofs.WholeCycles.{part_done}

-- The processor at a place of the round
abbrev pub at_place : Progress → ℕ → ℕ
at_place p place = get_or (round_of p.plan.unit p.script p.cycles) place 0

pub over_by : (p : Progress) (processor cycles : ℕ) → IsOverFor p processor cycles → IsOverBy p cycles
over_by p processor cycles w = (
  w.0,
  w.1,
  w.3,
  subst (λ q. is_pending (turns_of (system p) (order p) (cycles - 1) q) w.1 ≡ true) (sym w.2) w.4,
  subst (λ q. is_pending (turns_of (system p) (order p) cycles q) w.1 ≡ false) (sym w.2) w.5,
)

module _ (p : Progress) (whole : p.units ≡ 0) where
  -- an action is over with the unit of the processor at a place
  pub unit_over : (n : ℕ) → n < processors p.plan.unit → IsOverFor (counted_on n p) (next_processor (counted_on n p)) ((counted_on n p).cycles + 1) → IsOverFor p (at_place p n) (p.cycles + 1)
  unit_over n less over = subst (λ (q : Progress). IsOverFor q (next_processor q) (q.cycles + 1)) (part_done p whole n less) over

  pub unit_not : (n : ℕ) → n < processors p.plan.unit → (IsOverFor (counted_on n p) (next_processor (counted_on n p)) ((counted_on n p).cycles + 1) → ⊥) → IsOverFor p (at_place p n) (p.cycles + 1) → ⊥
  unit_not n less not = subst (λ (q : Progress). IsOverFor q (next_processor q) (q.cycles + 1) → ⊥) (part_done p whole n less) not

  -- with none of all units
  pub none_over : IsScript p.plan.unit p.script → ((unit_agent : ℕ) → processor_at p.plan.unit unit_agent < processors p.plan.unit)
      → ((place : ℕ) → place < processors p.plan.unit → IsOverFor p (at_place p place) (p.cycles + 1) → ⊥) → IsOverBy p (p.cycles + 1) → ⊥
  none_over script homes goes w =
      let round : List ℕ = round_of p.plan.unit p.script p.cycles in
      let lists = lists_round p.plan.unit p.script p.cycles script in
      let home : ℕ = processor_at p.plan.unit w.0 in
      let there = lists.each home (homes w.0) in
      let here : at_place p there.0 ≡ home = get_or_default round there.0 0 home there.1 ∙ there.2 in
      goes there.0 (omega (arith, there.1, lists_as_many (processors p.plan.unit) round lists))
      (subst (λ q. IsOverFor p q (p.cycles + 1)) (sym here) (w.0, w.1, refl, w.2, w.3, w.4))
