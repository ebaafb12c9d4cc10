-- What is left of the proof of `ready::first_place`.
use Rattle.std.proofs.Common.{◌≡◌, ℕ, ◌+◌, Some, length, sym, ap, ◌∙◌, subst, arith}
use Rattle.std.proofs.lemmas.List.{get_or_default}
use Rattle.std.proofs.lemmas.Option.{slice_get_within}
use Rattle.psy_ready.specs.declared.ready.Pending.{Pending}
use Rattle.psy_ready.specs.Standing.{IsFirstPlace}
use Rattle.psy_ready.proofs.Places.{IsLeast, least_more, least_is_first}
use Rattle.psy_ready.proofs.ready.first_place.Goals as goal

pub loop-pending-preserved : goal.loop-pending-preserved
loop-pending-preserved c =
    let n : ℕ = c.loop-pending.pending-index in
    subst (IsLeast c.args.due.now c.args.order.now (n + 1)) (sym c.min-least.ensures) (least_more c.args.due.now c.args.order.now n c.loop-pending.least c.place_in.result c.loop-pending.invariant
    (λ d. c.place_in.ensures ∙ ap (λ (p : Pending). Some p.agent) (get_or_default c.args.due.now n _ d c.loop-pending-test.true)) c.requires.once)

pub returns : goal.returns
returns c =
    let all : c.loop-pending.pending-index ≡ length c.args.due.now = omega (arith, c.loop-pending-test.false, c.loop-pending.auto.pending-index-end) in
    let is : IsFirstPlace c.args.due.now c.args.order.now c.loop-pending.least =
    least_is_first c.args.due.now c.args.order.now c.loop-pending.pending-index c.loop-pending.least c.loop-pending.invariant all c.requires.some in
    record { place = is; within = slice_get_within c.args.order.now c.loop-pending.least is.one.agent is.at }
