-- What is left of the proof of `variables::rings`.
use Rattle.std.proofs.Common.{◌≡◌, ◌⊎◌, ℕ, ◌<◌, ◌≤◌, List, [], ◌∷◌, ◌++◌, length, length-append, get_or, Err, IfErr, sym, ap, subst, inr, arith, rules}
use Rattle.std.specs.List.{All}
use Rattle.std.proofs.lemmas.List.Elements.{All-push, All-weaker}
use Rattle.psy_base.specs.declared.limits.TheConstants.{RING}
use Rattle.psy_lists.proofs.lemmas.Places.{each_more}
use Rattle.psy_tree.specs.declared.unit.Unit.{Unit as Whole}
use Rattle.psy_meaning.specs.KnownWays.{Listed, Ways}
use Rattle.psy_meaning.specs.RingSizes.{IsRingSize}
use Rattle.psy_sizes.specs.declared.fault.SizeFault.{SizeFault}
use Rattle.psy_sizes.specs.declared.fault.SizeFault.TheVariants.{LargeRing, Memory}
use Rattle.psy_sizes.specs.Faults.{IsFaultBy}
use Rattle.psy_sizes.proofs.AllRings.{AreRingsBefore, all_rings, first_large}
use Rattle.psy_sizes.proofs.variables.rings.Goals as goal

-- The sizes that were found are those of the variables so far.
so_far : (unit : Whole) (ways : Ways) (nexts : List (List (List ℕ))) (sizes : List ℕ) (variable : ℕ) → length sizes ≡ variable → ((before d : ℕ) → before < variable → IsRingSize unit ways nexts before (get_or sizes before d)) →
    All (λ n. (1 ≤ n) × (n ≤ RING)) sizes → AreRingsBefore unit ways nexts variable sizes
so_far unit ways nexts sizes variable count each small = record {
  count = count;
  each = each;
  small = All-weaker (λ n. (1 ≤ n) × (n ≤ RING)) (λ n. n ≤ RING) (λ n h. h.1) sizes small;
}

pub returns-in_err-ring-clause-cause : goal.returns-in_err-ring-clause-cause
returns-in_err-ring-clause-cause c =
    let unit = c.args.unit.now in
    let fault = c.in_err-ring.field-0.0 in
    let variable = c.variables.variable in
    let kept = c.variables.invariant in
    let ways : Ways = Listed c.args.ways.now in
    let nexts = c.args.ways.now.nexts in
    let Q : SizeFault → Type 0 = λ f. (f ≡ Memory) ⊎ IsFaultBy unit ways nexts f in
    let (size, its, passes) = c.in_err-ring.ensures.large in
    let large : IsFaultBy unit ways nexts (LargeRing variable) = first_large unit ways nexts c.variables.sizes variable size (so_far unit ways nexts c.variables.sizes variable kept.count kept.each kept.small) its passes in
    let is : Q fault = inr (subst (IsFaultBy unit ways nexts) (sym c.in_err-ring.ensures.fault) large) in
    let e : c.from_residual.result ≡ Err fault = search rules in
    subst (λ r. IfErr r Q) (sym e) is

pub variables-preserved : goal.variables-preserved
variables-preserved c =
    let unit = c.args.unit.now in
    let old = c.variables.sizes in
    let new = c.push.new.list in
    let size = c.in_ok-ring.field-0 in
    let pushed : new ≡ old ++ size ∷ [] = c.in_ok-push.ensures in
    let count : length new ≡ length (old ++ size ∷ []) = ap length pushed in
    let Each : ℕ → ℕ → Type 0 = λ variable n. IsRingSize unit (Listed c.args.ways.now) c.args.ways.now.nexts variable n in
    let Fit : ℕ → Type 0 = λ n. (1 ≤ n) × (n ≤ RING) in
    record {
      count = omega (arith, count, c.variables.invariant.count, length-append old (size ∷ []));
      each = each_more Each old new size c.variables.variable c.variables.invariant.count c.variables.invariant.each c.in_ok-ring.ensures.size pushed;
      small = subst (All Fit) (sym pushed) (All-push Fit old size c.variables.invariant.small c.in_ok-ring.ensures.small);
    }

pub returns-clause-rings : goal.returns-clause-rings
returns-clause-rings c =
    let unit = c.args.unit.now in
    let ways : Ways = Listed c.args.ways.now in
    let nexts = c.args.ways.now.nexts in
    let sizes = c.variables.sizes in
    let kept = c.variables.invariant in
    let all : c.variables.variable ≡ length unit.variables = omega (arith, kept.count, c.variables-test.false, c.variables.auto.variable-end, c.len-variable-end.ensures) in
    all_rings unit ways nexts sizes (subst (λ k. AreRingsBefore unit ways nexts k sizes) all (so_far unit ways nexts sizes c.variables.variable kept.count kept.each kept.small))
