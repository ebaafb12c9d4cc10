-- The size of a variable's ring, by the most of its dates that may pass.
use Rattle.std.proofs.Common.{◌≡◌, ℕ, ◌+◌, ◌-◌, ◌≤◌, ◌↔◌, List, Some, length, get_or, refl, sym, ap, ◌∙◌, inl, inr, arith}
use Rattle.std.specs.Prelude.{slice_get}
use Rattle.std.proofs.lemmas.Option.{same_Some}
use Rattle.psy_clock.specs.declared.clock.Clock.{Clock}
use Rattle.psy_tree.specs.declared.unit.Unit.{Unit as Whole}
use Rattle.psy_tree.specs.declared.unit.VarDecl.{VarDecl}
use Rattle.psy_meaning.specs.KnownWays.{Ways}
use Rattle.psy_meaning.specs.RingSizes.{IsRingSize, MayPass, dates_between}
use Rattle.psy_sizes.specs.Passing.{HasDatesBefore}
use Rattle.psy_base.specs.Extremes.{IsMost}
use Rattle.psy_sizes.proofs.Passed.{most_alike}
use Rattle.psy_sizes.proofs.Sharing.{no_clock}

module _ (unit : Whole) (ways : Ways) (nexts : List (List (List ℕ))) (variable : ℕ) (decl : VarDecl) (declared : slice_get unit.variables variable ≡ Some decl) (clock : Clock) (clock_is : clock ≡ get_or unit.clocks decl.clock no_clock) where
  may_pass : (n : ℕ) → HasDatesBefore unit ways nexts variable clock (length unit.agents) n ↔ MayPass unit ways nexts variable n
  may_pass n = (
    λ (number, less, (point, date, due, looks, is_due, is)). (number, point, date, due, decl, less, looks, is_due, declared, is ∙ ap (λ c. dates_between c date (date + due - 1)) clock_is),
    λ (number, point, date, due, other, less, looks, is_due, got, is). (
        let same : other ≡ decl = same_Some other decl (sym got ∙ declared) in
        let clocks : get_or unit.clocks other.clock no_clock ≡ clock = ap (λ v. get_or unit.clocks v.clock no_clock) same ∙ sym clock_is in
        (number, less, (point, date, due, looks, is_due, is ∙ ap (λ c. dates_between c date (date + due - 1)) clocks))
        ),
  )

  pub ring_size : (most : ℕ) → IsMost (HasDatesBefore unit ways nexts variable clock (length unit.agents)) most → IsRingSize unit ways nexts variable (decl.depth + most)
  ring_size most h =
      let its = most_alike (HasDatesBefore unit ways nexts variable clock (length unit.agents)) (MayPass unit ways nexts variable) most may_pass h in
      record { most = most; one = its.one; all = its.all; decl = decl; declared = declared; sum = refl }

not_less : (unit : Whole) (ways : Ways) (nexts : List (List (List ℕ))) (variable size other : ℕ) → (a : IsRingSize unit ways nexts variable size) → (b : IsRingSize unit ways nexts variable other) → a.most ≤ b.most
not_less unit ways nexts variable size other a b = elim a.one [ inl none ↦ omega (arith, none) | inr has ↦ b.all a.most has ]

-- A variable's ring has one size.
pub one_size : (unit : Whole) (ways : Ways) (nexts : List (List (List ℕ))) (variable size other : ℕ) → IsRingSize unit ways nexts variable size → IsRingSize unit ways nexts variable other → size ≡ other
one_size unit ways nexts variable size other a b =
    let same : a.decl ≡ b.decl = same_Some a.decl b.decl (sym a.declared ∙ b.declared) in
    let depths : a.decl.depth ≡ b.decl.depth = ap (λ v. v.depth) same in
    omega (arith, depths, a.sum, b.sum, not_less unit ways nexts variable size other a b, not_less unit ways nexts variable other size b a)
