-- What is left of the proof of `answer::explain`.
use Rattle.std.proofs.Common.{ℕ, Vec, Global, refl, sym, ap, ◌∙◌}
use Rattle.psy_where.specs.Explained.{of_plain, of_lack, of_written, sentence_line}
use Rattle.psy_where.proofs.Explaining.{explains_placed}
use Rattle.psy_where.proofs.NoteLines.{note_read, nothing_told}
use Rattle.psy_where.proofs.answer.explain.Goals as goal

pub returns-in-Some-told_of-clause-explains : goal.returns-in-Some-told_of-clause-explains
returns-in-Some-told_of-clause-explains c =
    let said = note_read c.args.line.now c.in_ok-whole.whole.items c.as_slice.result.now c.in-Some.note c.as_slice.ensures.value c.in_ok-whole.ensures c.in-Some.ensures.some in
    explains_placed (λ (v : Vec ℕ Global). v.items) c.args.name.now c.args.text.now c.args.line.now c.in-Some-told_of.told.refusal c.in-Some-told_of.told.sentence.now
    c.placed.result (c.in-Some.note, said, c.in-Some-told_of.ensures.some) c.placed.ensures.placed

pub returns-in-Some-plain_of-clause-explains : goal.returns-in-Some-plain_of-clause-explains
returns-in-Some-plain_of-clause-explains c =
    let said = note_read c.args.line.now c.in_ok-whole.whole.items c.as_slice.result.now c.in-Some.note c.as_slice.ensures.value c.in_ok-whole.ensures c.in-Some.ensures.some in
    of_plain c.in-Some-plain_of.plain (c.in-Some.note, said, sym c.in-Some-plain_of.ensures)
    (c.in_ok-sentence_line.ensures ∙ ap (sentence_line c.args.name.now) c.plain_sentence.ensures)

pub returns-in-Some-lack_of-clause-explains : goal.returns-in-Some-lack_of-clause-explains
returns-in-Some-lack_of-clause-explains c =
    let said = note_read c.args.line.now c.in_ok-whole.whole.items c.as_slice.result.now c.in-Some.note c.as_slice.ensures.value c.in_ok-whole.ensures c.in-Some.ensures.some in
    of_lack c.in-Some-lack_of.lack (c.in-Some.note, said, sym c.in-Some-lack_of.ensures) c.in_ok-lack_line.ensures

pub returns-in-Some-written_of-clause-explains : goal.returns-in-Some-written_of-clause-explains
returns-in-Some-written_of-clause-explains c =
    let said = note_read c.args.line.now c.in_ok-whole.whole.items c.as_slice.result.now c.in-Some.note c.as_slice.ensures.value c.in_ok-whole.ensures c.in-Some.ensures.some in
    of_written c.in-Some-written_of.written (c.in-Some.note, said, sym c.in-Some-written_of.ensures) c.in_ok-written_line.ensures

pub returns-clause-refusal : goal.returns-clause-refusal
returns-clause-refusal c none =
    let said = note_read c.args.line.now c.in_ok-whole.whole.items c.as_slice.result.now c.in-Some.note c.as_slice.ensures.value c.in_ok-whole.ensures c.in-Some.ensures.some in
    nothing_told c.one_line.ensures c.args.line.now c.in-Some.note said (c.in_default-told_of.ensures.none refl)
    c.in_default-plain_of.ensures c.in_default-lack_of.ensures c.in_default-written_of.ensures
