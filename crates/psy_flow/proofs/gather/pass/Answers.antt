-- What is left of the proof of `gather::pass`.
use Rattle.std.proofs.Common.{◌≡◌, ◌+◌, ◌-◌, subst, arith}
use Rattle.psy_flow.proofs.Gathered.{IsPassingBack, passing_more, passing_none}
use Rattle.psy_flow.proofs.gather.pass.Goals as goal

pub places-init : goal.places-init
places-init c = passing_none c.args.instrs.now c.args.row.now

pub places-preserved : goal.places-preserved
places-preserved c =
    let instrs = c.args.instrs.now in
    let now = c.gather_at-more in
    let place = c.places.place - 1 in
    let next : c.places.place ≡ place + 1 = omega (arith, c.places-test.true) in
    let kept : IsPassingBack instrs c.args.row.now c.places.row c.places.more (place + 1) = subst (IsPassingBack instrs c.args.row.now c.places.row c.places.more) next c.places.invariant in
    passing_more instrs c.args.row.now c.places.row now.new.row c.places.more now.result place kept now.ensures.gathered now.ensures.more now.ensures.same now.ensures.still
