-- What is left of the proof of `charge::passed_below`.
use Rattle.std.proofs.Common.{◌≡◌, ℕ, ◌+◌, ◌-◌, ◌<◌, ◌≤◌, List, Some, get_or, slice_get, subst, ap, ◌∙◌, arith}
use Rattle.std.proofs.lemmas.Option.{slice_get_within, get_or_from_slice_get, slice_get-get_or}
use Rattle.psy_budget.specs.declared.charge.Stall.{Stall}
use Rattle.psy_budget.specs.Charges.{StallsRise}
use Rattle.psy_budget.specs.Standing.{AreSplit}
use Rattle.psy_budget.proofs.Gaps.{behind_it, none_between}
use Rattle.psy_budget.proofs.charge.passed_below.Goals as goal

abbrev nothing : Stall
nothing = record { agent = 0; action = 0; instr = 0; cycles = 0 }

pub stalls-preserved : goal.stalls-preserved
stalls-preserved c =
    let s : Stall = get_or c.args.stalls.now c.stalls.place nothing in (
      s.instr + 1,
      omega (arith, c.if-stalls-place-2.true),
      behind_it c.args.stalls.now c.stalls.place c.args.action c.requires.rise c.stalls.invariant.0 c.stalls.invariant.2 s (slice_get-get_or c.args.stalls.now c.stalls.place nothing c.stalls-test.true) c.if-stalls-place.true,
    )

-- where no stall of the action below the instruction stands at the place
ends : (stalls : List Stall) (place action instr : ℕ) → StallsRise stalls → (n : ℕ) × (n ≤ instr) × AreSplit stalls place action n
    → ((s : Stall) → slice_get stalls place ≡ Some s → s.action ≡ action → s.instr < instr → ⊥) → AreSplit stalls place action instr
ends stalls place action instr rise reached none =
    let same : reached.0 + (instr - reached.0) ≡ instr = omega (arith, reached.1) in
    subst (AreSplit stalls place action) same (none_between stalls place action rise reached.0 (instr - reached.0) reached.2 (λ s at a less. none s at a (omega (arith, same, less)))).0

pub returns-else-stalls-place-2 : goal.returns-else-stalls-place-2
returns-else-stalls-place-2 c = ends c.args.stalls.now c.stalls.place c.args.action c.args.instr c.requires.rise c.stalls.invariant
    (λ s at _ less. omega (arith, less, c.if-stalls-place-2.false, ap (λ (t : Stall). t.instr) (get_or_from_slice_get c.args.stalls.now c.stalls.place s nothing at)))

pub returns-else-stalls-place : goal.returns-else-stalls-place
returns-else-stalls-place c = ends c.args.stalls.now c.stalls.place c.args.action c.args.instr c.requires.rise c.stalls.invariant
    (λ s at a _. c.if-stalls-place.false (ap (λ (t : Stall). t.action) (get_or_from_slice_get c.args.stalls.now c.stalls.place s nothing at) ∙ a))

pub returns-after-stalls : goal.returns-after-stalls
returns-after-stalls c = ends c.args.stalls.now c.stalls.place c.args.action c.args.instr c.requires.rise c.stalls.invariant
    (λ s at _ _. omega (arith, c.stalls-test.false, slice_get_within c.args.stalls.now c.stalls.place s at))
