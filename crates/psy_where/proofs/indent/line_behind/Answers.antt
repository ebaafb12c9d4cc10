-- What is left of the proof of `indent::line_behind`.
use Rattle.std.proofs.Common.{ℕ, ◌-◌, length, take, sym, ap, ◌∙◌}
use Rattle.std.specs.List.{suffix_len}
use Rattle.std.proofs.lemmas.List.{take_rest}
use Rattle.psy_tree.specs.Lexemes.{is_in_line}
use Rattle.psy_where.specs.Indents.{line_from}
use Rattle.psy_where.proofs.PairsFound.{new_line, same_line}
use Rattle.psy_where.proofs.indent.line_behind.Goals as goal

pub returns-then-back-between : goal.returns-then-back-between
returns-then-back-between c =
    let between = take_rest (take c.args.place c.args.text.now) c.args.seen in
    let all = ap (suffix_len is_in_line) (sym between) ∙ sym c.back_len-back.ensures.value ∙ c.if-back-between.true ∙ ap length between in
    c.requires.line ∙ ap (line_from c.args.text.now) (sym (same_line c.args.text.now c.args.seen c.args.place c.requires.order c.requires.within all))

pub returns-else-back-between : goal.returns-else-back-between
returns-else-back-between c =
    let between = take_rest (take c.args.place c.args.text.now) c.args.seen in
    let is = c.back_len-back.ensures.value ∙ ap (suffix_len is_in_line) between in
    c.line_from.ensures ∙ ap (λ (n : ℕ). line_from c.args.text.now (c.args.place - n)) is
    ∙ ap (line_from c.args.text.now) (sym (new_line c.args.text.now c.args.seen c.args.place c.requires.order c.requires.within
    (λ all. c.if-back-between.false (is ∙ all ∙ ap length (sym between)))))
