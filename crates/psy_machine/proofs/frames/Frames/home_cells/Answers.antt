-- What is left of the proof of `frames::Frames::home_cells`.
use Rattle.std.proofs.Common.{length, take, ap, sym, ◌∙◌}
use Rattle.std.proofs.lemmas.List.{length-take-le}
use Rattle.psy_machine.proofs.Laid.{home_is}
use Rattle.psy_machine.proofs.frames.Frames.home_cells.Goals as goal

pub slice_bounds-result-end : goal.slice_bounds-result-end
slice_bounds-result-end c =
    let f = c.self.inside in
    let home = home_is f c.args.self.now c.self.view_is c.self.invariant in
    sym (ap (λ cells. length (take f.home_end.cells cells)) c.deref.ensures.value ∙ length-take-le f.home_end.cells f.cells.items home.0)

pub returns : goal.returns
returns c =
    let f = c.self.inside in
    let home = home_is f c.args.self.now c.self.view_is c.self.invariant in
    ap (take f.home_end.cells) c.deref.ensures.value ∙ sym home.1
