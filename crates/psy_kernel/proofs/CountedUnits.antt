-- How many cycles of each processor were done, unit by unit.
use Rattle.std.proofs.Common.{◌≡◌, refl, sym, ap, ◌∙◌, subst, inl, inr, eqb-true}
use Rattle.std.specs.Prelude.{ℕ, ◌+◌, ◌<◌, ◌==◌, Bool, true, false, if◌then◌else◌, List, take}
use Rattle.std.specs.List.{list_any}
use Rattle.std.proofs.lemmas.Bool.{cases_eq, eq-eqb, ne_eqb}
use Rattle.psy_ready.specs.Choice.{ListsEach}
use Rattle.psy_history.specs.Processors.{processors}
use Rattle.psy_history.specs.Scripts.{IsScript, round_of}
use Rattle.psy_kernel.specs.Progress.{Progress, after_unit, cycles_on, next_processor}
use Rattle.psy_kernel.proofs.RoundsInForce.{lists_round}
use Rattle.psy_kernel.proofs.Units.{all_have, as_before, has_it, next_known, not_yet}

-- One more cycle where a processor had its unit
abbrev pub with_unit : ℕ → Bool → ℕ
with_unit cycles had = if had then cycles + 1 else cycles

-- Where no cycle was begun, each did those that were done whole.
pub whole : (p : Progress) (processor : ℕ) → p.units ≡ 0 → cycles_on p processor ≡ p.cycles
whole p processor none = ap (λ n. with_unit p.cycles (list_any (λ q. q == processor) (take n (round_of p.plan.unit p.script p.cycles)))) none

module _ (p : Progress) (script : IsScript p.plan.unit p.script) (begun : p.units < processors p.plan.unit) where
  abbrev count : ℕ
  count = processors p.plan.unit

  abbrev round : List ℕ
  round = round_of p.plan.unit p.script p.cycles

  lists : ListsEach count round
  lists = lists_round p.plan.unit p.script p.cycles script

  pub known : next_processor p < count
  known = next_known count round lists p.units begun

  pub own : cycles_on p (next_processor p) ≡ p.cycles
  own = ap (with_unit p.cycles) (not_yet count round lists p.units begun)

  -- whether a processor had its unit, with one more
  abbrev had : ℕ → Bool
  had processor = list_any (λ q. q == processor) (take (p.units + 1) round)

  -- so many cycles more than those of a processor
  abbrev then_on : ℕ → ℕ
  then_on processor = if processor == next_processor p then p.cycles + 1 else cycles_on p processor

  next_then : (processor : ℕ) → processor ≡ next_processor p → then_on processor ≡ p.cycles + 1
  next_then processor same = ap (λ b. if b then p.cycles + 1 else cycles_on p processor) (eq-eqb processor (next_processor p) same)

  other_then : (processor : ℕ) → (processor ≡ next_processor p → ⊥) → then_on processor ≡ with_unit p.cycles (had processor)
  other_then processor other =
      ap (λ b. if b then p.cycles + 1 else cycles_on p processor) (ne_eqb processor (next_processor p) other)
      ∙ ap (with_unit p.cycles) (sym (as_before count round lists p.units begun processor other))

  -- with one unit more, which doesn't end the cycle
  inside : (processor : ℕ) → with_unit p.cycles (had processor) ≡ then_on processor
  inside processor = elim (cases_eq processor (next_processor p)) [
    | inl same ↦
        subst (λ q. with_unit p.cycles (had q) ≡ p.cycles + 1) (sym same) (ap (with_unit p.cycles) (has_it count round lists p.units begun))
        ∙ sym (next_then processor same)
    | inr other ↦ sym (other_then processor other)
  ]

  -- which ends it
  ends : p.units + 1 ≡ count → (processor : ℕ) → processor < count → p.cycles + 1 ≡ then_on processor
  ends last processor less = elim (cases_eq processor (next_processor p)) [
    | inl same ↦ sym (next_then processor same)
    | inr other ↦ sym (other_then processor other ∙ ap (with_unit p.cycles) (all_have count round lists p.units begun last processor less))
  ]

  pub more : (processor : ℕ) → processor < count → cycles_on (after_unit p) processor ≡ then_on processor
  more processor less = by (p.units + 1 == count) refl
    where
      by : (test : Bool) → (p.units + 1 == count) ≡ test
          → cycles_on (record (if test then record p { cycles = p.cycles + 1; units = 0 } else record p { units = p.units + 1 }) { last = (after_unit p).last }) processor ≡ then_on processor
      by true e = ends (eqb-true (p.units + 1) count e) processor less
      by false e = inside processor
