-- What is left of the proof of `filled::first_word`.
use Rattle.std.proofs.Common.{◌∷◌, ◌++◌, ap, ◌∙◌}
use Rattle.psy_text.proofs.lemmas.Runs.{Cuts-longest, Cuts-once, Each-longest}
use Rattle.psy_notes.specs.Reading.{is_plain}
use Rattle.psy_notes.proofs.filled.first_word.Goals as goal

pub returns-in_err-behind-clause-none : goal.returns-in_err-behind-clause-none
returns-in_err-behind-clause-none c = λ u other more plain is.
    let text = c.args.text.now in
    let word = c.split_at.result.0.now in
    let rest = c.split_at.result.1.now in
    let each = Each-longest is_plain text word c.word_len.result c.word_len.ensures.value c.split_at.ensures.front in
    let cuts = Cuts-longest is_plain text word rest c.word_len.result c.word_len.ensures.value c.split_at.ensures.front c.split_at.ensures.back in
    let once = Cuts-once is_plain text word other rest (c.args.end ∷ more) each plain cuts (is, c.requires) in
    c.in_err-behind.ensures more once.1

pub returns-clause-some : goal.returns-clause-some
returns-clause-some c =
    let text = c.args.text.now in
    let word = c.split_at.result.0.now in
    let rest = c.split_at.result.1.now in
    let cuts = Cuts-longest is_plain text word rest c.word_len.result c.word_len.ensures.value c.split_at.ensures.front c.split_at.ensures.back in (
      Each-longest is_plain text word c.word_len.result c.word_len.ensures.value c.split_at.ensures.front,
      cuts.0 ∙ ap (λ bytes. word ++ bytes) c.in_ok-behind.ensures,
    )
