-- What is left of the proof of `programs::drawn_with`.
use Rattle.std.proofs.Common.{[], ◌∷◌, subst}
use Rattle.psy_view.specs.Asked.{TimelineWith}
use Rattle.psy_view.specs.Pairing.{IsRunMatched}
use Rattle.psy_view.specs.Reading.{names_in}
use Rattle.psy_view.specs.Views.{IsFed, ViewOf}
use Rattle.psy_view.proofs.PlanLemmas.{shown_as}
use Rattle.psy_view.proofs.TimelineLemmas.{drawn_by, undrawn_by}
use Rattle.psy_view.proofs.programs.drawn_with.Goals as goal

pub returns-in-Of : goal.returns-in-Of
returns-in-Of c =
    let log = c.args.names.log.now in
    let program = c.args.names.program.now in
    let inputs = c.args.names.inputs.now in
    let bytes = c.args.bytes.now in
    let text = c.args.text.now in
    let fed = c.args.fed.now in
    let window = c.args.selection.window in
    let names = names_in c.args.selection in
    let notes = c.in-Of.pair.notes.items in
    let unit = c.in-Of.pair.program.unit in
    let own = subst (IsRunMatched log program bytes text) c.in-Of.is c.in_ok-matched.ensures in
    shown_as (IsFed log inputs window names notes unit fed) (ViewOf (TimelineWith log program inputs window names) (bytes ∷ text ∷ fed ∷ []))
    c.drawn_by.result c.drawn_by.ensures (drawn_by log program window names bytes text inputs fed notes unit own.0)

pub returns-in-Told : goal.returns-in-Told
returns-in-Told c =
    let names = c.args.names in
    let said = subst (IsRunMatched names.log.now names.program.now c.args.bytes.now c.args.text.now) c.in-Told.is c.in_ok-matched.ensures in
    undrawn_by _ _ _ _ _ _ _ _ _ _ said.0 said.1
