-- What is left of the proof of `ends::mark_ends`.
use Rattle.std.proofs.Common.{◌+◌, ◌||◌, [], get_or, take, refl, sym, ap, ◌∙◌}
use Rattle.std.proofs.lemmas.List.{take_all}
use Rattle.std.proofs.lemmas.List.Folds.{list_any_more}
use Rattle.psy_flow.specs.Reach.{marked}
use Rattle.psy_flow.specs.Walks.{ends_there}
use Rattle.psy_flow.proofs.CodeEnds.{some_ends}
use Rattle.psy_flow.proofs.Marks.{marked_both, marked_none, marked_same}
use Rattle.psy_flow.proofs.ends.mark_ends.Goals as goal

pub places-init : goal.places-init
places-init c = sym (marked_none c.args.reached.now (some_ends c.args.instrs.now []) (λ point. refl))

pub mark_end_at-requires : goal.mark_end_at-requires
mark_end_at-requires c = c.requires c.places.place-index 0 c.places-test.true

pub places-preserved : goal.places-preserved
places-preserved c =
    let instrs = c.args.instrs.now in
    let places = c.args.places.now in
    let reached = c.args.reached.now in
    let i = c.places.place-index in
    let before = some_ends instrs (take i places) in
    c.mark_end_at.ensures
    ∙ ap (λ ms. marked ms (λ point. ends_there instrs point (get_or places i 0))) c.places.invariant
    ∙ marked_both reached before (λ point. ends_there instrs point (get_or places i 0))
    ∙ marked_same reached (λ point. before point || ends_there instrs point (get_or places i 0)) (some_ends instrs (take (i + 1) places)) (λ point. sym (list_any_more (ends_there instrs point) places i 0 c.places-test.true))

pub returns : goal.returns
returns c =
    let instrs = c.args.instrs.now in
    c.places.invariant ∙ ap (λ places. marked c.args.reached.now (some_ends instrs places)) (take_all c.places.place-index c.args.places.now c.places-test.false)
