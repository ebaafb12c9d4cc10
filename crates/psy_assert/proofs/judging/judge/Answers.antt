-- What is left of the proof of `judging::judge`.
use Rattle.std.proofs.Common.{ap, rules, w32, ◌∙◌}
use mir.Val.{SFits}
use Rattle.psy_assert.specs.Verdicts.{failing, newest}
use Rattle.psy_assert.proofs.ByClaim.{clean, by_no_message, by_no_stop, by_some_message, by_values}
use Rattle.psy_assert.proofs.judging.judge.Goals as goal

pub returns-in-Values : goal.returns-in-Values
returns-in-Values c =
    let a = c.args.assertion.now in
    let notes = c.args.notes.now in
    let variable = c.in-Values.variable.now in
    let fits : SFits w32 c.in-Values.value = search rules in
    c.of_values.ensures
    ∙ by_values a notes c.in-Values.variable c.in-Values.relation c.in-Values.value c.in-Values.is _ _ _
    (c.failing.ensures ∙ ap (λ v. failing c.in-Values.relation v c.newest.result) (clean c.in-Values.value fits)
    ∙ ap (failing c.in-Values.relation c.in-Values.value) (c.newest.ensures ∙ ap (λ d. newest variable d notes) c.first.ensures)) c.first_sought.ensures
    (c.newest-in-Values.ensures ∙ ap (λ d. newest variable d notes) c.last.ensures)

pub returns-in-NoStop : goal.returns-in-NoStop
returns-in-NoStop c = c.broken_by.ensures ∙ by_no_stop c.args.assertion.now c.args.notes.now c.in-NoStop.is _ c.first_sought-in-NoStop.ensures

pub returns-in-NoMessage : goal.returns-in-NoMessage
returns-in-NoMessage c =
    c.broken_by-in-NoMessage.ensures ∙ by_no_message c.args.assertion.now c.args.notes.now c.in-NoMessage.stream c.in-NoMessage.is _ c.first_sought-in-NoMessage.ensures

pub returns-in-SomeMessage : goal.returns-in-SomeMessage
returns-in-SomeMessage c =
    c.kept_by.ensures ∙ by_some_message c.args.assertion.now c.args.notes.now c.in-SomeMessage.stream c.in-SomeMessage.is _ c.first_sought-in-SomeMessage.ensures
