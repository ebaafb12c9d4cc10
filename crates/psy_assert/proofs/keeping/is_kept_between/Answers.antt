-- What is left of the proof of `keeping::is_kept_between`.
use Rattle.std.proofs.Common.{◌∙◌, ap, None, is_some, rules, w32}
use mir.Val.{SFits}
use Rattle.psy_assert.specs.declared.sum.Sum.{Sum}
use Rattle.psy_assert.specs.Sums.{stands_so}
use Rattle.psy_assert.proofs.ByClaim.{clean}
use Rattle.psy_assert.proofs.Kept.{no_message_kept, no_stop_kept, some_message_kept, values_are_kept}
use Rattle.psy_assert.proofs.keeping.is_kept_between.Goals as goal

nothing : Sum
nothing = record { extent = None; newest = None }

pub returns-in-Values : goal.returns-in-Values
returns-in-Values c =
    let relation = c.in-Values.relation in
    let value = c.in-Values.value in
    let fits : SFits w32 value = search rules in
    c.are_all.ensures
    ∙ values_are_kept c.args.assertion.now c.args.notes.now c.is_found-found.result c.is_found-found.ensures c.args.named.now c.args.first c.args.last
    c.requires.named c.requires.first c.requires.last c.in-Values.variable relation value c.in-Values.is c.stands_so-begins.result c.is_some-told.result nothing
    (c.stands_so-begins.ensures ∙ ap (λ v. stands_so relation v c.newest.result) (clean value fits) ∙ ap (stands_so relation value) (c.newest.ensures nothing))
    (c.is_some-told.ensures ∙ ap is_some (c.newest-in-Values.ensures nothing))

pub returns-in-NoStop : goal.returns-in-NoStop
returns-in-NoStop c = no_stop_kept c.args.assertion.now c.args.notes.now c.is_found-found.result c.is_found-found.ensures c.in-NoStop.is

pub returns-in-NoMessage : goal.returns-in-NoMessage
returns-in-NoMessage c = no_message_kept c.args.assertion.now c.args.notes.now c.is_found-found.result c.is_found-found.ensures c.in-NoMessage.stream c.in-NoMessage.is

pub returns-in-SomeMessage : goal.returns-in-SomeMessage
returns-in-SomeMessage c = some_message_kept c.args.assertion.now c.args.notes.now c.is_found-found.result c.is_found-found.ensures c.in-SomeMessage.stream c.in-SomeMessage.is
