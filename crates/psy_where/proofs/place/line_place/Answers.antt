-- What is left of the proof of `place::line_place`.
use Rattle.std.proofs.Common.{ap, ◌∙◌}
use Rattle.std.specs.List.{prefix_len}
use Rattle.std.proofs.lemmas.List.{take_rest}
use Rattle.psy_tree.specs.Lexemes.{is_in_line}
use Rattle.psy_where.proofs.LinesWalked.{Walks-more}
use Rattle.psy_where.proofs.place.line_place.Goals as goal

pub loop-place-preserved : goal.loop-place-preserved
loop-place-preserved c =
    let text = c.args.text.now in
    let place = c.loop-place.place in
    Walks-more text c.args.number c.loop-place.line place c.line_len.result c.loop-place.invariant c.loop-place-test.true c.if-line-number.false (c.line_len.ensures.value ∙ ap (prefix_len is_in_line) (take_rest text place))
