-- What is left of the proof of `programs::drawn_of`.
use Rattle.std.proofs.Common.{[], ◌∷◌, subst}
use Rattle.psy_match.specs.Knowledge.{knowledge_in}
use Rattle.psy_view.specs.Asked.{TimelineOf}
use Rattle.psy_view.specs.Pairing.{IsRunMatched}
use Rattle.psy_view.specs.Reading.{names_in}
use Rattle.psy_view.specs.Views.{IsShown, ViewOf}
use Rattle.psy_view.proofs.PlanLemmas.{shown_as}
use Rattle.psy_view.proofs.TimelineLemmas.{drawn_of, undrawn_of}
use Rattle.psy_view.proofs.programs.drawn_of.Goals as goal

pub returns-in-Of : goal.returns-in-Of
returns-in-Of c =
    let name = c.args.name.now in
    let program = c.args.program.now in
    let bytes = c.args.bytes.now in
    let text = c.args.text.now in
    let window = c.args.selection.window in
    let names = names_in c.args.selection in
    let notes = c.in-Of.pair.notes.items in
    let unit = c.in-Of.pair.program.unit in
    let own = subst (IsRunMatched name program bytes text) c.in-Of.is c.in_ok-matched.ensures in
    shown_as (IsShown name window (knowledge_in unit notes) names notes) (ViewOf (TimelineOf name program window names) (bytes ∷ text ∷ []))
    c.drawn_alone.result c.drawn_alone.ensures (drawn_of name program window names bytes text notes unit own.0)

pub returns-in-Told : goal.returns-in-Told
returns-in-Told c =
    let said = subst (IsRunMatched c.args.name.now c.args.program.now c.args.bytes.now c.args.text.now) c.in-Told.is c.in_ok-matched.ensures in
    undrawn_of _ _ _ _ _ _ _ _ said.0 said.1
