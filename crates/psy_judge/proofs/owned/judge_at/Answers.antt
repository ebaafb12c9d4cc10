-- What is left of the proof of `owned::judge_at`.
use Rattle.std.proofs.Common.{◌≡◌, List, Some, get_or, length, sym, ap, subst, ◌∙◌}
use Rattle.std.specs.Prelude.{◌&&◌, slice_get}
use Rattle.std.proofs.lemmas.Option.{slice_get-get_or}
use Rattle.psy_code.specs.declared.instr.Instr.{Instr}
use Rattle.psy_flow.specs.Needs.{cells_of}
use Rattle.psy_judge.specs.declared.walked.Onward.{Onward}
use Rattle.psy_judge.specs.Deciding.{framed_by, owner_of, stays_by, used_by}
use Rattle.psy_judge.specs.Judged.{IsFirst}
use Rattle.psy_judge.specs.Judging.{IsEarlier, KeepsFor}
use Rattle.psy_judge.specs.Walked.{onward_of}
use Rattle.psy_judge.proofs.OwnersJudged.{first_same, place_first}
use Rattle.psy_judge.proofs.OwnersReady.{needs_known}
use Rattle.psy_judge.proofs.owned.judge_at.Goals as goal

pub returns : goal.returns
returns c =
    let unit = c.args.unit.now in
    let code = c.args.code.now in
    let owner = owner_of c.args.whose in
    let place = c.args.place in
    let needs = c.args.needs.now in
    let i = c.index-as_slice-place.result in
    let on = c.steps_at-on.result in
    let at : slice_get code.instrs place ≡ Some i = slice_get-get_or code.instrs place i c.requires.place ∙ ap Some (sym (c.index-as_slice-place.is ∙ ap (λ (is : List Instr). get_or is place i) c.as_slice.ensures)) in
    let inside : c.stays-inside.result ≡ stays_by (onward_of i place) (length code.instrs) =
    c.stays-inside.ensures ∙ ap (λ (to : Onward). stays_by to c.len-count.result) c.goes_on.ensures ∙ ap (λ n. stays_by (onward_of i place) n) c.len-count.ensures in
    let frames = c.fits_frames.ensures
    ∙ ap (λ n. framed_by n c.counters_of-counters.result i && used_by code needs owner i) c.cells_of-cells.ensures
    ∙ ap (λ n. framed_by (cells_of code owner) n i && used_by code needs owner i) c.counters_of-counters.ensures in
    subst (IsFirst (KeepsFor unit code (IsEarlier code owner) owner place))
    (sym (c.first_of.ensures ∙ first_same c.stays-inside.result c.args.alone c.level.result c.fits_frames.result c.named.result c.ordered.result c.led.result _ _ _ _ _ _ inside c.level.ensures frames c.named.ensures c.ordered.ensures c.led.ensures))
    (place_first unit code owner place i at c.requires.reached on c.steps_at-on.ensures needs c.args.top c.args.alone c.args.ends (needs_known code owner needs c.requires.needs) c.requires.top c.requires.alone c.requires.ends)
