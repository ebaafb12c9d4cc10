-- What is left of the proof of `word::cut_word`.
use Rattle.std.proofs.Common.{◌<◌, not, length, drop, sym, ap, ◌∙◌, arith}
use Rattle.std.proofs.lemmas.Bool.{eqb-true, eqb-false}
use Rattle.std.proofs.lemmas.List.Sums.{prefix_len-le-length}
use Rattle.psy_text.specs.Words.{is_gap}
use Rattle.psy_text.proofs.WordsCut.{words_of-none, words_of-cut}
use Rattle.psy_text.proofs.word.cut_word.Goals as goal

pub split_at-requires : goal.split_at-requires
split_at-requires c = rw c.gaps_len.ensures (prefix_len-le-length is_gap c.args.line.now)

pub returns-then-is_empty : goal.returns-then-is_empty
returns-then-is_empty c =
    let line = c.args.line.now in
    let words = c.split_at.result.1.now in
    words_of-none line words (c.split_at.ensures.back ∙ ap (λ n. drop n line) c.gaps_len.ensures) (eqb-true (length words) 0 (sym c.if-is_empty.ensures))

pub split_at-requires-2 : goal.split_at-requires-2
split_at-requires-2 c = rw c.unbroken_len.ensures (prefix_len-le-length (λ b. not (is_gap b)) c.split_at.result.1.now)

pub returns : goal.returns
returns c =
    let line = c.args.line.now in
    let words = c.split_at.result.1.now in
    let some : 0 < length words = omega (arith, eqb-false (length words) 0 (sym c.if-is_empty.ensures)) in
    let cut = words_of-cut line words (c.split_at.ensures.back ∙ ap (λ n. drop n line) c.gaps_len.ensures) some in (
      rw (c.split_at-2.ensures.front, c.split_at-2.ensures.back, c.unbroken_len.ensures) cut.0,
      omega (arith, cut.1, c.unbroken_len.ensures, c.split_at.ensures.back_len, c.split_at-2.ensures.back_len),
    )
