-- What is left of the proof of `slip::advice`.
use Rattle.std.proofs.Common.{ℕ, List, Option, ap, ◌∙◌}
use Rattle.psy_tree.specs.declared.token.Token.{Token}
use Rattle.psy_expect.specs.declared.around.Around.{Around}
use Rattle.psy_expect.specs.declared.hint.Hint.{Hint}
use Rattle.psy_expect.specs.declared.terminal.Terminal.{Terminal}
use Rattle.psy_expect.specs.Advice.{advice_told, brace_told}
use Rattle.psy_expect.specs.Arounds.{around}
use Rattle.psy_expect.specs.Braces.{open_brace}
use Rattle.psy_expect.specs.Hints.{hint_of}
use Rattle.psy_expect.proofs.slip.advice.Goals as goal

pub returns : goal.returns
returns c =
    let here = around c.args.tokens c.args.at in
    let told = c.in_ok-tried.tried.told.items in
    let mends = c.in_ok-tried.tried.mends.items in
    let extra = c.in_ok-tried.tried.is_extra in
    let is = c.stands_around-around.ensures ∙ ap (λ (ts : List Token). around ts c.args.at) c.as_slice.ensures in
    let tried = rw is at (rw c.cut_to.ensures at c.in_ok-tried.ensures) in
    let hint =
    c.hint_of-hint.ensures
    ∙ ap (λ (a : Around). hint_of a c.as_slice-3.result.now c.as_slice-4.result.now extra) is
    ∙ ap (λ (ts : List Terminal). hint_of here ts c.as_slice-4.result.now extra) c.as_slice-3.ensures.value
    ∙ ap (λ (ts : List Terminal). hint_of here told ts extra) c.as_slice-4.ensures.value in
    let lines = rw c.new-text.ensures.items at c.in_ok-add_advice.ensures in
    let front = c.open_brace-brace.ensures ∙ ap (λ (ts : List Token). open_brace ts) (c.as_slice-2.ensures ∙ c.cut_to.ensures) in
    let brace =
    c.brace_told.ensures
    ∙ ap (λ (h : Option Hint). brace_told h c.open_brace-brace.result) hint
    ∙ ap (λ (b : Option ℕ). brace_told (hint_of here told mends extra) b) front in
    (told, mends, extra, tried, lines ∙ ap (λ (h : Option Hint). advice_told h told mends) hint, brace)
