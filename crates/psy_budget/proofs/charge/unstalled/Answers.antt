-- What is left of the proof of `charge::unstalled`.
use Rattle.std.proofs.Common.{◌≡◌, ◌+◌, ◌≤◌, refl, List, Some, get_or, slice_get, ap, ◌∙◌, arith}
use Rattle.std.proofs.lemmas.Option.{slice_get_within, get_or_from_slice_get, slice_get-get_or}
use Rattle.psy_budget.specs.declared.charge.Stall.{Stall}
use Rattle.psy_budget.specs.Charges.{stalled}
use Rattle.psy_budget.proofs.Gaps.{never, behind_paid, not_before, more_behind, nothing_more}
use Rattle.psy_budget.proofs.charge.unstalled.Goals as goal

abbrev nothing : Stall
nothing = record { agent = 0; action = 0; instr = 0; cycles = 0 }

pub stalls-init : goal.stalls-init
stalls-init c = record { instr = c.args.paid + 1; more = omega arith; split = c.requires.split; same = refl }

pub overflow_sub-stalls : goal.overflow_sub-stalls
overflow_sub-stalls c =
    omega (arith, behind_paid c.args.stalls.now c.stalls.place c.args.action c.args.paid c.requires.rise c.stalls.invariant (get_or c.args.stalls.now c.stalls.place nothing) (slice_get-get_or c.args.stalls.now c.stalls.place nothing c.stalls-test.true) c.if-stalls-place.true)

pub returns-then-stalls-place-gt0-clause-same : goal.returns-then-stalls-place-gt0-clause-same
returns-then-stalls-place-gt0-clause-same c k less =
    not_before c.args.stalls.now c.stalls.place c.args.action c.args.paid c.requires.rise c.stalls.invariant (get_or c.args.stalls.now c.stalls.place nothing) (slice_get-get_or c.args.stalls.now c.stalls.place nothing c.stalls-test.true) c.if-stalls-place.true k
    (omega (arith, less, c.min.ensures))

pub returns-then-stalls-place-gt0-clause-next : goal.returns-then-stalls-place-gt0-clause-next
returns-then-stalls-place-gt0-clause-next c less =
    let stalls : List Stall = c.args.stalls.now in
    let s : Stall = get_or stalls c.stalls.place nothing in
    let at : slice_get stalls c.stalls.place ≡ Some s = slice_get-get_or stalls c.stalls.place nothing c.stalls-test.true in
    let behind : c.args.paid + 1 ≤ s.instr = behind_paid stalls c.stalls.place c.args.action c.args.paid c.requires.rise c.stalls.invariant s at c.if-stalls-place.true in
    let is : c.args.paid + c.min.result + 1 ≡ s.instr + 1 = omega (arith, less, c.min.ensures, behind) in
    omega (arith, ap (stalled stalls c.args.action) is, more_behind stalls c.stalls.place c.args.action c.args.paid c.requires.rise c.stalls.invariant s at c.if-stalls-place.true, c.if-stalls-place-gt0.true)

pub stalls-preserved : goal.stalls-preserved
stalls-preserved c =
    nothing_more c.args.stalls.now c.stalls.place c.args.action c.args.paid c.requires.rise c.stalls.invariant (get_or c.args.stalls.now c.stalls.place nothing) (slice_get-get_or c.args.stalls.now c.stalls.place nothing c.stalls-test.true) c.if-stalls-place.true
    (omega (arith, c.if-stalls-place-gt0.false))

pub returns-else-stalls-place-clause-same : goal.returns-else-stalls-place-clause-same
returns-else-stalls-place-clause-same c k less =
    never c.args.stalls.now c.stalls.place c.args.action c.args.paid c.requires.rise c.stalls.invariant
    (λ s at a. c.if-stalls-place.false (ap (λ (t : Stall). t.action) (get_or_from_slice_get c.args.stalls.now c.stalls.place s nothing at) ∙ a)) k

pub returns-after-stalls-clause-same : goal.returns-after-stalls-clause-same
returns-after-stalls-clause-same c k less =
    never c.args.stalls.now c.stalls.place c.args.action c.args.paid c.requires.rise c.stalls.invariant
    (λ s at _. omega (arith, c.stalls-test.false, slice_get_within c.args.stalls.now c.stalls.place s at)) k
