-- What is left of the proof of `circles::step_at`.
use Rattle.std.proofs.Common.{◌≡◌, List, Some, get_or, sym, ap, subst, ◌∙◌}
use Rattle.std.specs.Prelude.{Option, slice_get}
use Rattle.std.proofs.lemmas.Option.{slice_get-get_or}
use Rattle.psy_code.specs.declared.instr.Instr.{Instr}
use Rattle.psy_judge.specs.declared.circles.Stand.{Stand}
use Rattle.psy_judge.specs.Climbing.{LeadsTo, first_some, stand_along}
use Rattle.psy_judge.proofs.ClimbedBack.{step_leads}
use Rattle.psy_judge.proofs.circles.step_at.Goals as goal

pub returns : goal.returns
returns c from low way =
    let code = c.args.code.now in
    let place = c.args.place in
    let i = c.index-as_slice-place.result in
    let jump = c.steps_at-on.result.jump in
    let at : slice_get code.instrs place ≡ Some i = slice_get-get_or code.instrs place i c.requires.place ∙ ap Some (sym (c.index-as_slice-place.is ∙ ap (λ (is : List Instr). get_or is place i) c.as_slice.ensures)) in
    subst (LeadsTo code from low)
    (sym (c.first_some.ensures ∙ ap (λ (o : Option Stand). first_some o c.stand_along-next.result) c.stand_along-jump.ensures
    ∙ ap (λ (o : Option Stand). first_some (stand_along jump c.args.to c.args.height) o) c.stand_along-next.ensures))
    (step_leads code from low place c.args.height c.args.to i c.steps_at-on.result at c.steps_at-on.ensures way)
