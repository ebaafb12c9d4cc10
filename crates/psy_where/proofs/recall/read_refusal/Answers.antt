-- What is left of the proof of `recall::read_refusal`.
use Rattle.std.proofs.Common.{refl}
use Rattle.psy_where.proofs.NoteLines.{no_refusal_told, note_read}
use Rattle.psy_where.proofs.recall.read_refusal.Goals as goal

pub returns-in_default-told_of-clause-refusal : goal.returns-in_default-told_of-clause-refusal
returns-in_default-told_of-clause-refusal c none =
    let said = note_read c.args.line.now c.in_ok-whole.whole.items c.as_slice.result.now c.in-Some.note c.as_slice.ensures.value c.in_ok-whole.ensures c.in-Some.ensures.some in
    no_refusal_told c.one_line.ensures c.args.line.now c.in-Some.note said (c.in_default-told_of.ensures.none refl)
