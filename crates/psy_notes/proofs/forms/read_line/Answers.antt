-- What is left of the proof of `forms::read_line`.
use Rattle.std.proofs.Common.{◌∙◌, [], refl, sym, append-nil}
use Rattle.psy_log.specs.Forms.{line_of}
use Rattle.psy_notes.proofs.OneLine.{no_whole, whole_line}
use Rattle.psy_notes.proofs.forms.read_line.Goals as goal

pub returns-in_err-note-clause-none : goal.returns-in_err-note-clause-none
returns-in_err-note-clause-none c = λ none note is.
    c.in_err-note.ensures.none refl note [] is.told is.form (is.written ∙ sym (append-nil (line_of note)))

pub returns-then-is_empty-clause-some : goal.returns-then-is_empty-clause-some
returns-then-is_empty-clause-some c =
    let read = c.in_ok-note.ensures.some in
    whole_line c.args.line.now c.in_ok-note.rest.now c.in_ok-note.note read.0 read.1 read.2 c.if-is_empty.ensures

pub returns-else-is_empty-clause-none : goal.returns-else-is_empty-clause-none
returns-else-is_empty-clause-none c = λ none note is.
    let read = c.in_ok-note.ensures.some in
    no_whole c.args.line.now c.in_ok-note.rest.now c.in_ok-note.note note read.0 read.1 read.2 c.if-is_empty.ensures is
