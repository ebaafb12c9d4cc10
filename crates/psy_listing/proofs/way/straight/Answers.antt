-- What is left of the proof of `way::straight`.
use Rattle.std.proofs.Common.{◌≡◌, ◌∙◌, ◌-◌, ◌+◌, suc, Some, length, refl, sym, arith}
use Rattle.std.specs.Prelude.{slice_get}
use Rattle.std.proofs.lemmas.Option.{slice_get_read}
use Rattle.psy_listing.specs.Straight.{straight_way}
use Rattle.psy_listing.proofs.Ways.{all_of, on_to}
use Rattle.psy_listing.proofs.way.straight.Goals as goal

pub returns-in-None : goal.returns-in-None
returns-in-None c =
    let instrs = c.args.instrs.now in
    let n = length instrs - c.steps.counter in
    let more = length instrs - (c.steps.counter + 1) in
    let left : n ≡ suc more = omega (arith, c.steps-test.true) in
    let look = c.in-Some.ensures.lookup in
    let at : slice_get instrs c.steps.place ≡ Some c.in-Some.instr.now = slice_get_read instrs (length instrs) c.steps.place c.in-Some.instr.now refl
    look.3.0 look.1 in
    all_of instrs c.steps.place n more c.in-Some.instr.now left at c.steps.places c.push.new.self (straight_way instrs c.args.from)
    (sym c.next_place.ensures ∙ c.in-None.is) c.in_ok-push.ensures.ok c.steps.invariant

pub steps-preserved : goal.steps-preserved
steps-preserved c =
    let instrs = c.args.instrs.now in
    let n = length instrs - c.steps.counter in
    let more = length instrs - (c.steps.counter + 1) in
    let left : n ≡ suc more = omega (arith, c.steps-test.true) in
    let look = c.in-Some.ensures.lookup in
    let at : slice_get instrs c.steps.place ≡ Some c.in-Some.instr.now = slice_get_read instrs (length instrs) c.steps.place c.in-Some.instr.now refl
    look.3.0 look.1 in
    on_to instrs c.steps.place n more c.in-Some.instr.now left at c.steps.places c.push.new.self (straight_way instrs c.args.from)
    c.in-Some-next_place.next (sym c.next_place.ensures ∙ c.in-Some-next_place.is) c.in_ok-push.ensures.ok c.steps.invariant
