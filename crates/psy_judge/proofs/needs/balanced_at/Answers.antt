-- What is left of the proof of `needs::balanced_at`.
use Rattle.std.proofs.Common.{◌≡◌, Bool, List, Some, get_or, sym, ap, subst, ◌∙◌}
use Rattle.std.specs.Prelude.{slice_get}
use Rattle.std.proofs.lemmas.Option.{slice_get-get_or}
use Rattle.psy_code.specs.declared.instr.Instr.{Instr}
use Rattle.psy_flow.specs.Heights.{IsBalanced}
use Rattle.psy_judge.specs.declared.heights.Top.{Top}
use Rattle.psy_judge.specs.Deciding.{balanced_by}
use Rattle.psy_judge.specs.Highest.{top_at}
use Rattle.psy_judge.specs.Judged.{Judges}
use Rattle.psy_judge.proofs.CallsJudged.{balanced_tells, top_is}
use Rattle.psy_judge.proofs.needs.balanced_at.Goals as goal

pub returns : goal.returns
returns c owner tops =
    let code = c.args.code.now in
    let place = c.args.place in
    let row = c.args.row.now in
    let i = c.index-as_slice-place.result in
    let at : slice_get code.instrs place ≡ Some i = slice_get-get_or code.instrs place i c.requires.place ∙ ap Some (sym (c.index-as_slice-place.is ∙ ap (λ (is : List Instr). get_or is place i) c.as_slice.ensures)) in
    subst (λ (b : Bool). Judges b (IsBalanced code owner place)) (sym (c.balanced.ensures ∙ ap (λ (t : Top). balanced_by i c.steps_at.result t) c.top_of.ensures))
    (balanced_tells code owner place i at c.steps_at.result c.steps_at.ensures (top_at row place) (top_is code owner row place tops c.requires.place))
