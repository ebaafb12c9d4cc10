-- What is left of the proof of `served::meaning_of_unread`.
use Rattle.std.proofs.Common.{ℕ, List, [], ◌∷◌, ◌++◌, Global, map, string_bytes, sym, ap, subst, ◌∙◌}
use Rattle.psy_notes.specs.Lines.{IsLineOf}
use Rattle.psy_where.specs.Explained.{sentence_line}
use Rattle.psy_where.specs.Plains.{plain_sentence}
use Rattle.psy_words.specs.Options.{option_told}
use Rattle.psy_serve.specs.Behind.{told}
use Rattle.psy_serve.proofs.served.meaning_of_unread.Goals as goal

pub returns : goal.returns
returns c =
    let line = c.in_ok-feed.line.now in
    let words = map (string_bytes {Z = Global}) c.args.words.now in
    let name = c.in_ok-name.name.now in
    let plain = c.in_ok-plain.plain in
    let last = c.in_ok-feed.ensures.cases.0 ∙ ap (λ b. line ++ b ∷ []) c.if-feed-ne10.false in
    let said = subst (λ (bytes : List ℕ). IsLineOf bytes c.in_ok-note.note) last c.in_ok-note.ensures.some in
    let meaning = c.in-Ok.ensures ∙ ap (λ (n : List ℕ). sentence_line n (plain_sentence plain)) c.as_bytes-file.ensures.value in
    let option = c.as_slice.ensures.value ∙ (c.in-Ok-option_told.ensures ∙ ap (λ (n : List ℕ). option_told words n) c.as_bytes-file.ensures.value) in
    told line name c.in_ok-more.more.items plain last (sym c.in_ok-name.ensures) (c.in_ok-note.note, said, sym c.in_ok-plain.ensures)
    (c.in_ok-more.ensures ∙ (ap (λ (b : List ℕ). c.in-Ok.meaning.items ++ b) option ∙ ap (λ (b : List ℕ). b ++ option_told words name) meaning))
