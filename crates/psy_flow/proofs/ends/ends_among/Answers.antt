-- What is left of the proof of `ends::ends_among`.
use Rattle.std.proofs.Common.{◌≡◌, List, Bool, false, get_or, replicate, sym, ap, subst, ◌∙◌, arith}
use Rattle.std.proofs.lemmas.List.{length-replicate}
use Rattle.std.proofs.lemmas.List.Elements.{Contains-get_or}
use Rattle.std.proofs.lemmas.Result.{IfOk-weaker}
use Rattle.psy_meaning.specs.CodeWays.{AreCodeNexts}
use Rattle.psy_flow.specs.Reach.{marked, numbers_of}
use Rattle.psy_flow.proofs.CodeEnds.{nexts_are, some_ends}
use Rattle.psy_flow.proofs.MarkedNumbers.{length-marked}
use Rattle.psy_flow.proofs.ends.ends_among.Goals as goal

pub mark_ends-requires : goal.mark_ends-requires
mark_ends-requires c =
    let instrs = c.args.instrs.now in
    let places = c.args.places.now in
    λ k d less. c.requires.inside (get_or places k d) ((c.requires.passed.each (get_or places k d)).0 (Contains-get_or places k d less))

pub marked_numbers-requires : goal.marked_numbers-requires
marked_numbers-requires c =
    let also = some_ends c.args.instrs.now c.args.places.now in
    let marks : List Bool = replicate c.args.points false in
    let all : c.as_slice.result.now ≡ marked marks also = c.as_slice.ensures ∙ c.mark_ends.ensures ∙ ap (λ ms. marked ms also) c.in_ok-reached.ensures in
    rw all (omega (arith, length-marked 0 marks also, length-replicate c.args.points false, c.requires.few))

pub returns : goal.returns
returns c =
    let instrs = c.args.instrs.now in
    let places = c.args.places.now in
    let marks : List Bool = replicate c.args.points false in
    let all : c.as_slice.result.now ≡ marked marks (some_ends instrs places) =
    c.as_slice.ensures ∙ c.mark_ends.ensures ∙ ap (λ ms. marked ms (some_ends instrs places)) c.in_ok-reached.ensures in
    IfOk-weaker c.marked_numbers.result _ (AreCodeNexts instrs c.args.from) (λ numbers e. subst (AreCodeNexts instrs c.args.from) (sym (e ∙ ap numbers_of all)) (nexts_are instrs c.args.from places c.requires.passed c.args.points c.requires.named)) c.marked_numbers.ensures
