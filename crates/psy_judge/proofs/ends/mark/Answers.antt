-- What is left of the proof of `ends::mark`.
use Rattle.std.proofs.Common.{◌≡◌, ◌<◌, Bool, true, false, List, Some, get_or, length, sym, ap, subst, ◌∙◌, arith}
use Rattle.std.specs.Prelude.{slice_get}
use Rattle.std.proofs.lemmas.Option.{slice_get-get_or}
use Rattle.psy_judge.specs.declared.walked.Onward.{Onward}
use Rattle.psy_judge.specs.Ending.{IsFoundEnd, IsPass, ends_by}
use Rattle.psy_judge.specs.Walked.{onward_of}
use Rattle.psy_judge.proofs.EndsFound.{found_more, pass_marked, pass_more, pass_none}
use Rattle.psy_judge.proofs.ends.mark.Goals as goal

pub returns-then-seen-clause-pass : goal.returns-then-seen-clause-pass
returns-then-seen-clause-pass c =
    pass_marked c.args.instrs.now c.args.marks.now c.args.place (ap (λ (ms : List Bool). get_or ms c.args.place false) (sym c.as_slice.ensures) ∙ c.if-seen.true)

pub returns-then-not-ends-clause-pass : goal.returns-then-not-ends-clause-pass
returns-then-not-ends-clause-pass c =
    let instrs = c.args.instrs.now in
    let marks = c.args.marks.now in
    let place = c.args.place in
    let i = c.index-instrs-place.result in
    let at : slice_get instrs place ≡ Some i = slice_get-get_or instrs place i c.requires.place ∙ ap Some (sym c.index-instrs-place.is) in
    let says : c.ends.result ≡ ends_by i (onward_of i place) marks =
    c.ends.ensures ∙ ap (λ (to : Onward). ends_by i to c.as_slice-2.result.now) c.goes_on.ensures ∙ ap (λ (ms : List Bool). ends_by i (onward_of i place) ms) c.as_slice-2.ensures in
    pass_none instrs marks place i at (sym says ∙ c.if-not-ends.true)

pub returns-clause-found : goal.returns-clause-found
returns-clause-found c =
    let instrs = c.args.instrs.now in
    let marks = c.args.marks.now in
    let place = c.args.place in
    let i = c.index-instrs-place.result in
    let at : slice_get instrs place ≡ Some i = slice_get-get_or instrs place i c.requires.place ∙ ap Some (sym c.index-instrs-place.is) in
    let says : c.ends.result ≡ ends_by i (onward_of i place) marks =
    c.ends.ensures ∙ ap (λ (to : Onward). ends_by i to c.as_slice-2.result.now) c.goes_on.ensures ∙ ap (λ (ms : List Bool). ends_by i (onward_of i place) ms) c.as_slice-2.ensures in
    subst (λ (ms : List Bool). IsFoundEnd instrs ms) (sym c.set.ensures) (found_more instrs marks place i c.requires.found at (sym says ∙ c.if-not-ends.false))

pub returns-clause-pass : goal.returns-clause-pass
returns-clause-pass c =
    let instrs = c.args.instrs.now in
    let marks = c.args.marks.now in
    let place = c.args.place in
    let less : place < length marks = omega (arith, c.requires.place, c.requires.found.size) in
    subst (λ (ms : List Bool). IsPass instrs (λ q. q ≡ place) marks ms true) (sym c.set.ensures)
    (pass_more instrs marks place less (ap (λ (ms : List Bool). get_or ms place false) (sym c.as_slice.ensures) ∙ c.if-seen.false))
