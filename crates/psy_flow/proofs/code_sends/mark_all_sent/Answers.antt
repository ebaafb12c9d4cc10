-- What is left of the proof of `code_sends::mark_all_sent`.
use Rattle.std.proofs.Common.{◌+◌, ◌||◌, [], get_or, take, refl, sym, ap, ◌∙◌}
use Rattle.std.proofs.lemmas.List.{take_all}
use Rattle.std.proofs.lemmas.List.Folds.{list_any_more}
use Rattle.psy_flow.specs.CodeLists.{sends_there}
use Rattle.psy_flow.specs.Reach.{marked}
use Rattle.psy_flow.proofs.CodeSendCounts.{some_sends}
use Rattle.psy_flow.proofs.Marks.{marked_both, marked_none, marked_same}
use Rattle.psy_flow.proofs.code_sends.mark_all_sent.Goals as goal

pub places-init : goal.places-init
places-init c = sym (marked_none c.args.sent.now (some_sends c.args.instrs.now []) (λ stream. refl))

pub mark_sent_at-requires : goal.mark_sent_at-requires
mark_sent_at-requires c = c.requires c.places.place-index 0 c.places-test.true

pub places-preserved : goal.places-preserved
places-preserved c =
    let instrs = c.args.instrs.now in
    let places = c.args.places.now in
    let sent = c.args.sent.now in
    let i = c.places.place-index in
    let before = some_sends instrs (take i places) in
    c.mark_sent_at.ensures
    ∙ ap (λ ms. marked ms (λ stream. sends_there instrs stream (get_or places i 0))) c.places.invariant
    ∙ marked_both sent before (λ stream. sends_there instrs stream (get_or places i 0))
    ∙ marked_same sent (λ stream. before stream || sends_there instrs stream (get_or places i 0)) (some_sends instrs (take (i + 1) places)) (λ stream. sym (list_any_more (sends_there instrs stream) places i 0 c.places-test.true))

pub returns : goal.returns
returns c =
    let instrs = c.args.instrs.now in
    c.places.invariant ∙ ap (λ places. marked c.args.sent.now (some_sends instrs places)) (take_all c.places.place-index c.args.places.now c.places-test.false)
