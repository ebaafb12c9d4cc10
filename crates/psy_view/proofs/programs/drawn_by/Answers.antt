-- What is left of the proof of `programs::drawn_by`.
use Rattle.std.proofs.Common.{◌≡◌, ◌∙◌, ◌++◌, List, ap, subst}
use Rattle.psy_log.specs.declared.note.Note.{Note}
use Rattle.psy_draw.specs.Dates.{last_date}
use Rattle.psy_match.specs.Feeding.{AreFed, all_input_values}
use Rattle.psy_match.specs.Knowledge.{knowledge_in}
use Rattle.psy_view.specs.Pairing.{AreRead}
use Rattle.psy_view.specs.Reading.{names_in}
use Rattle.psy_view.specs.Views.{IsFed, IsShown, no_inputs}
use Rattle.psy_view.proofs.PairLemmas.{at_one}
use Rattle.psy_view.proofs.PlanLemmas.{shown_as}
use Rattle.psy_view.proofs.TimelineLemmas.{fed_shown}
use Rattle.psy_view.proofs.programs.drawn_by.Goals as goal

pub returns-in-Told : goal.returns-in-Told
returns-in-Told c =
    let unit = c.args.pair.now.program.unit in
    let fed = c.args.fed.now in
    let inputs = c.args.names.inputs.now in
    let told = c.in-Told.told in
    let said = subst (AreRead unit inputs fed) c.in-Told.is c.in_ok-came.ensures in
    at_one (IsFed c.args.names.log.now inputs c.args.selection.window (names_in c.args.selection) c.args.pair.now.notes.items unit fed)
    told.status told.text.items said.0 (no_inputs said.1.0 told.text.items said.1.1 said.1.2)

pub returns : goal.returns
returns c =
    let unit = c.args.pair.now.program.unit in
    let notes = c.args.pair.now.notes.items in
    let fed = c.args.fed.now in
    let log = c.args.names.log.now in
    let inputs = c.args.names.inputs.now in
    let window = c.args.selection.window in
    let names = names_in c.args.selection in
    let lists = c.in-Of.inputs.lists in
    let more = c.in_ok-more.more.items in
    let are = subst (AreRead unit inputs fed) c.in-Of.is c.in_ok-came.ensures in
    let dated = c.last_date.ensures ∙ ap last_date c.as_slice-notes.ensures.value in
    let feed : AreFed unit lists notes more =
    record { values = c.in_ok-more.ensures.values ∙ ap (all_input_values unit lists) dated; alone = c.in_ok-more.ensures.alone } in
    let law = c.fed_alike.ensures in
    let all : c.in_ok-all.all.items ≡ notes ++ more =
    c.in_ok-all.ensures ∙ ap (λ (ns : List Note). ns ++ c.as_slice.result.now) c.as_slice-notes.ensures.value
    ∙ ap (λ (ns : List Note). notes ++ ns) c.as_slice.ensures.value in
    let told = c.as_slice-notes.result.now in
    let drawn = c.as_slice-2.result.now in
    shown_as (IsShown log window (knowledge_in unit told) names drawn) (IsFed log inputs window names notes unit fed)
    c.shown_by.result c.shown_by.ensures
    (λ status text is. fed_shown log inputs window names notes more unit fed lists are feed (law.last unit lists notes more feed)
    (law.unlisted unit lists notes more c.requires.own feed) (law.unasked unit lists notes more names feed) status text
    (subst (λ (ns : List Note). IsShown log window (knowledge_in unit notes) names ns status text) (c.as_slice-2.ensures.value ∙ all)
    (subst (λ (ns : List Note). IsShown log window (knowledge_in unit ns) names drawn status text) c.as_slice-notes.ensures.value is)))
