-- What is left of the proof of `line::cut_line`.
use Rattle.std.proofs.Common.{◌≡◌, ◌<◌, false, not, ◌==◌, ◌∷◌, ◌++◌, length, drop, sym, ap, ◌∙◌, arith}
use Rattle.std.proofs.lemmas.Bool.{eqb-false}
use Rattle.std.proofs.lemmas.List.Sums.{prefix_len-le-length}
use Rattle.std.specs.List.{list_any}
use Rattle.psy_text.proofs.LinesCut.{lines_of-last, lines_of-feed, lines_of-cut}
use Rattle.psy_text.specs.Lines.{lines_of}
use Rattle.psy_text.proofs.Firsts.{none_before}
use Rattle.psy_text.proofs.line.cut_line.Goals as goal

pub split_at-requires : goal.split_at-requires
split_at-requires c = rw c.line_len.ensures.value (prefix_len-le-length (λ b. not (b == 10)) c.args.text.now)

pub returns-in-Some : goal.returns-in-Some
returns-in-Some c =
    let text = c.args.text.now in
    let front = c.split_at.result.0.now in
    let rest = c.in-Some.rest.now in
    let none : list_any (λ b. b == 10) front ≡ false = rw (c.split_at.ensures.front, c.line_len.ensures.value) (none_before (λ b. b == 10) text) in
    let behind = c.in-Some.ensures.cases.0 in (
      lines_of-cut text front rest c.without_return.result.now c.in-Some.field-0-0.now
          (c.split_at.ensures.by_index.0 ∙ ap (λ bytes. front ++ bytes) behind)
          (ap (λ n. drop n text) (sym c.line_len.ensures.value) ∙ sym c.split_at.ensures.back ∙ behind)
          (λ more. lines_of-feed front more none ∙ ap (λ line. line ∷ lines_of more) (sym c.without_return.ensures)),
      omega (arith, c.in-Some.ensures.cases.1, c.split_at.ensures.back_len),
    )

pub returns-in-None : goal.returns-in-None
returns-in-None c =
    let text = c.args.text.now in
    let some : 0 < length text = omega (arith, eqb-false (length text) 0 (sym c.if-is_empty.ensures)) in
    let none : list_any (λ b. b == 10) c.split_at.result.0.now ≡ false = rw (c.split_at.ensures.front, c.line_len.ensures.value) (none_before (λ b. b == 10) text) in (
      lines_of-last text c.split_at.result.0.now c.split_at.result.1.now c.split_at.ensures.by_index.0 c.in-None.ensures.cases some none,
      omega (arith, c.in-None.ensures.cases),
    )
