-- What is left of the proof of `next::next_points`.
use Rattle.std.proofs.Common.{List, Bool, false, length, sym, ap, subst, ◌∙◌, arith}
use Rattle.std.specs.Prelude.{replicate}
use Rattle.std.specs.List.{All}
use Rattle.std.proofs.lemmas.List.{length-replicate}
use Rattle.std.proofs.lemmas.Result.{IfOk-weaker}
use Rattle.psy_meaning.specs.Rest.{rest}
use Rattle.psy_meaning.specs.Flow.{Rises}
use Rattle.psy_flow.specs.Reach.{marked, pieces_reach, numbers_of}
use Rattle.psy_flow.proofs.MarkedNumbers.{numbers_rise, length-marked}
use Rattle.psy_meaning.specs.Kept.{IsAdvanceOf}
use Rattle.psy_flow.proofs.NextPoints.{marks_are, points_of, few_points, numbers_next, some_next, inner_next}
use Rattle.psy_flow.proofs.next.next_points.Goals as goal

pub reach_from-requires : goal.reach_from-requires
reach_from-requires c =
    let (unit, number, its) = c.requires.text in
    rw c.as_slice.ensures (omega (arith, points_of unit number c.args.agent.now its (c.known.ensures unit number c.args.agent.now its), c.requires.point))

pub marked_numbers-requires : goal.marked_numbers-requires
marked_numbers-requires c =
    let (unit, number, its) = c.requires.text in
    let also = pieces_reach (rest c.as_slice.result.now c.args.point) in
    let marks : List Bool = replicate (length c.args.agent.now.points) false in
    let all = c.as_slice-2.ensures ∙ c.reach_from.ensures ∙ ap (λ ms. marked ms also) (c.in_ok-marks.ensures ∙ ap (λ n. replicate n false) c.len.ensures) in
    rw all (omega (arith, length-marked 0 marks also, length-replicate (length c.args.agent.now.points) false, few_points unit number c.args.agent.now its (c.known.ensures unit number c.args.agent.now its)))

pub returns-clause-rising : goal.returns-clause-rising
returns-clause-rising c = IfOk-weaker c.marked_numbers.result _ Rises (λ points e. subst Rises (sym e) (numbers_rise c.as_slice-2.result.now)) c.marked_numbers.ensures

pub returns-clause-some : goal.returns-clause-some
returns-clause-some c =
    let agent = c.args.agent.now in
    let (unit, number, its) = c.requires.text in
    IfOk-weaker c.marked_numbers.result _ _ (λ points e. some_next unit number agent its (c.known.ensures unit number agent its) c.args.point points (e ∙ ap numbers_of (marks_are agent c.args.point _ _ _ _ _ c.as_slice-2.ensures c.reach_from.ensures c.in_ok-marks.ensures c.len.ensures c.as_slice.ensures))) c.marked_numbers.ensures

pub returns-clause-within : goal.returns-clause-within
returns-clause-within c =
    let agent = c.args.agent.now in
    let (unit, number, its) = c.requires.text in
    IfOk-weaker c.marked_numbers.result _ (All (IsAdvanceOf agent)) (λ points e. inner_next unit number agent its (c.known.ensures unit number agent its) c.args.point points (e ∙ ap numbers_of (marks_are agent c.args.point _ _ _ _ _ c.as_slice-2.ensures c.reach_from.ensures c.in_ok-marks.ensures c.len.ensures c.as_slice.ensures))) c.marked_numbers.ensures

pub returns-clause-next : goal.returns-clause-next
returns-clause-next c =
    let agent = c.args.agent.now in
    IfOk-weaker c.marked_numbers.result _ _ (λ points e unit number its to. numbers_next unit number agent its (c.known.ensures unit number agent its) c.args.point points (e ∙ ap numbers_of (marks_are agent c.args.point _ _ _ _ _ c.as_slice-2.ensures c.reach_from.ensures c.in_ok-marks.ensures c.len.ensures c.as_slice.ensures)) to) c.marked_numbers.ensures
