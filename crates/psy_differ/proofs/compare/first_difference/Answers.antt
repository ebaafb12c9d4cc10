-- What is left of the proof of `compare::first_difference`.
use Rattle.std.proofs.Common.{◌≡◌, map, take, sym, subst, ◌∙◌, arith}
use Rattle.std.proofs.lemmas.List.{length-map}
use Rattle.psy_log.specs.Forms.{line_of}
use Rattle.psy_differ.proofs.Lines.{differ_at_end, same_more}
use Rattle.psy_differ.proofs.compare.first_difference.Goals as goal

pub loop-place-preserved : goal.loop-place-preserved
loop-place-preserved c =
    same_more c.args.first.now c.args.second.now c.loop-place.place _ _ (omega (arith, c.loop-place-test.true, c.min-shared.ensures))
    (omega (arith, c.loop-place-test.true, c.min-shared.ensures)) c.loop-place.invariant (c.have_same_line.ensures.0 c.if-not-have_same_line.false)

pub returns-else-first-second-clause-some : goal.returns-else-first-second-clause-some
returns-else-first-second-clause-some c =
    let first = length-map c.args.first.now line_of in
    let second = length-map c.args.second.now line_of in
    let at : c.loop-place.place ≡ c.min-shared.result = omega (arith, c.loop-place-test.false, c.loop-place.auto.place-end) in
    differ_at_end (map line_of c.args.first.now) (map line_of c.args.second.now) c.min-shared.result (omega (arith, first, second, c.min-shared.ensures))
    (λ e. c.if-first-second.false (sym first ∙ e ∙ second))
    (subst (λ k. take k (map line_of c.args.first.now) ≡ take k (map line_of c.args.second.now)) at c.loop-place.invariant)
