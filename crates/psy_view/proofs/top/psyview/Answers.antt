-- What is left of the proof of `top::psyview`.
use Rattle.std.proofs.Common.{None, subst}
use Rattle.psy_view.specs.Answer.{no_words, of_itself}
use Rattle.psy_view.specs.Asked.{Asks}
use Rattle.psy_view.specs.Outcome.{may_answer}
use Rattle.psy_view.proofs.TopLemmas.{of_reply, ends_answered, ends_done, ends_listed, ends_read, ends_write, ends_cut_short, ends_for_memory}
use Rattle.psy_view.proofs.ExportLemmas.{export_answered, export_done, export_listed, export_read, export_write, export_cut_short, export_memory}
use Rattle.psy_view.proofs.top.psyview.Goals as goal

pub returns-in-Some-clause-answered : goal.returns-in-Some-clause-answered
returns-in-Some-clause-answered g c = ends_answered _ _ 0 0 _ _ _ _ _ _ _ (may_answer _ _ (of_itself _ c.in-Some.ensures)) c.say.ensures.said

pub returns-in-Some-clause-done : goal.returns-in-Some-clause-done
returns-in-Some-clause-done g c = ends_done _ _ _ _ _ _ _ _ _ _ _ (may_answer _ _ (of_itself _ c.in-Some.ensures)) c.say.ensures.said

pub returns-in-Some-clause-words : goal.returns-in-Some-clause-words
returns-in-Some-clause-words g c nothing = absurd (nothing.1 _ c.in-Some.ensures)

pub returns-in-Some-clause-listed : goal.returns-in-Some-clause-listed
returns-in-Some-clause-listed g c = ends_listed _ None 0 0 _ _ _ _ _ _ _ (may_answer _ _ (of_itself _ c.in-Some.ensures)) c.say.ensures.said

pub returns-in-Some-clause-cut_short : goal.returns-in-Some-clause-cut_short
returns-in-Some-clause-cut_short g c = ends_cut_short _ _ _ _ _ _ _ _ _ _ _ (may_answer _ _ (of_itself _ c.in-Some.ensures)) c.say.ensures.said

pub returns-in_default-read_words-clause-answered : goal.returns-in_default-read_words-clause-answered
returns-in_default-read_words-clause-answered g c = ends_answered _ _ 0 0 _ _ _ _ _ _ _ (may_answer _ _ (no_words c.refuse.ensures.said.0 (c.in_default-read_words.ensures, c.in_default.ensures) c.refuse.ensures.said.1)) c.refuse.ensures.said.2

pub returns-in_default-read_words-clause-done : goal.returns-in_default-read_words-clause-done
returns-in_default-read_words-clause-done g c = ends_done _ _ _ _ _ _ _ _ _ _ _ (may_answer _ _ (no_words c.refuse.ensures.said.0 (c.in_default-read_words.ensures, c.in_default.ensures) c.refuse.ensures.said.1)) c.refuse.ensures.said.2

pub returns-in_default-read_words-clause-cut_short : goal.returns-in_default-read_words-clause-cut_short
returns-in_default-read_words-clause-cut_short g c = ends_cut_short _ _ _ _ _ _ _ _ _ _ _ (may_answer _ _ (no_words c.refuse.ensures.said.0 (c.in_default-read_words.ensures, c.in_default.ensures) c.refuse.ensures.said.1)) c.refuse.ensures.said.2

pub returns-in-Some-wanted-clause-answered : goal.returns-in-Some-wanted-clause-answered
returns-in-Some-wanted-clause-answered g c = export_answered _ _ _ _ _ _ _ _ _ _ (subst (Asks _) c.in-Some-wanted.ensures c.in-Some-read_words.ensures) _ c.exported.ensures.ends

pub returns-in-Some-wanted-clause-done : goal.returns-in-Some-wanted-clause-done
returns-in-Some-wanted-clause-done g c = export_done _ _ _ _ _ _ _ _ _ _ (subst (Asks _) c.in-Some-wanted.ensures c.in-Some-read_words.ensures) _ c.exported.ensures.ends

pub returns-in-Some-wanted-clause-listed : goal.returns-in-Some-wanted-clause-listed
returns-in-Some-wanted-clause-listed g c = export_listed _ _ _ _ _ _ _ _ _ _ (subst (Asks _) c.in-Some-wanted.ensures c.in-Some-read_words.ensures) _ c.exported.ensures.ends

pub returns-in-Some-wanted-clause-read : goal.returns-in-Some-wanted-clause-read
returns-in-Some-wanted-clause-read g c = export_read _ _ _ _ _ _ _ _ _ _ (subst (Asks _) c.in-Some-wanted.ensures c.in-Some-read_words.ensures) _ c.exported.ensures.ends

pub returns-in-Some-wanted-clause-write : goal.returns-in-Some-wanted-clause-write
returns-in-Some-wanted-clause-write g c = export_write _ _ _ _ _ _ _ _ _ _ (subst (Asks _) c.in-Some-wanted.ensures c.in-Some-read_words.ensures) _ c.exported.ensures.ends

pub returns-in-Some-wanted-clause-cut_short : goal.returns-in-Some-wanted-clause-cut_short
returns-in-Some-wanted-clause-cut_short g c = export_cut_short _ _ _ _ _ _ _ _ _ _ (subst (Asks _) c.in-Some-wanted.ensures c.in-Some-read_words.ensures) _ c.exported.ensures.ends

pub returns-in-Some-wanted-clause-memory : goal.returns-in-Some-wanted-clause-memory
returns-in-Some-wanted-clause-memory g c = export_memory _ _ _ _ _ _ _ _ _ _ (subst (Asks _) c.in-Some-wanted.ensures c.in-Some-read_words.ensures) _ c.exported.ensures.ends

pub returns-in-Some-wanted-clause-words : goal.returns-in-Some-wanted-clause-words
returns-in-Some-wanted-clause-words g c nothing = absurd (nothing.0 _ c.in-Some-read_words.ensures)

pub returns-in-Ok-clause-answered : goal.returns-in-Ok-clause-answered
returns-in-Ok-clause-answered g c = ends_answered _ _ _ _ _ _ _ _ _ _ _ (of_reply _ _ _ _ _ _ _ c.in-Some-read_words.ensures c.in-Ok.ensures.replies) (rw c.as_slice.ensures.value at c.say-in-Ok.ensures.said)

pub returns-in-Ok-clause-done : goal.returns-in-Ok-clause-done
returns-in-Ok-clause-done g c = ends_done _ _ _ _ _ _ _ _ _ _ _ (of_reply _ _ _ _ _ _ _ c.in-Some-read_words.ensures c.in-Ok.ensures.replies) (rw c.as_slice.ensures.value at c.say-in-Ok.ensures.said)

pub returns-in-Ok-clause-listed : goal.returns-in-Ok-clause-listed
returns-in-Ok-clause-listed g c = ends_listed _ _ _ _ _ _ _ _ _ _ _ (of_reply _ _ _ _ _ _ _ c.in-Some-read_words.ensures c.in-Ok.ensures.replies) (rw c.as_slice.ensures.value at c.say-in-Ok.ensures.said)

pub returns-in-Ok-clause-read : goal.returns-in-Ok-clause-read
returns-in-Ok-clause-read g c = ends_read _ _ _ _ _ _ _ _ _ _ _ (of_reply _ _ _ _ _ _ _ c.in-Some-read_words.ensures c.in-Ok.ensures.replies) (rw c.as_slice.ensures.value at c.say-in-Ok.ensures.said)

pub returns-in-Ok-clause-write : goal.returns-in-Ok-clause-write
returns-in-Ok-clause-write g c four = (ends_write _ _ _ _ _ _ _ _ _ _ _ (of_reply _ _ _ _ _ _ _ c.in-Some-read_words.ensures c.in-Ok.ensures.replies) (rw c.as_slice.ensures.value at c.say-in-Ok.ensures.said) four).0

pub returns-in-Ok-clause-memory : goal.returns-in-Ok-clause-memory
returns-in-Ok-clause-memory g c = ends_for_memory _ _ _ _ _ _ _ _ _ _ _ (of_reply _ _ _ _ _ _ _ c.in-Some-read_words.ensures c.in-Ok.ensures.replies) (rw c.as_slice.ensures.value at c.say-in-Ok.ensures.said)

pub returns-in-Ok-clause-cut_short : goal.returns-in-Ok-clause-cut_short
returns-in-Ok-clause-cut_short g c = ends_cut_short _ _ _ _ _ _ _ _ _ _ _ (of_reply _ _ _ _ _ _ _ c.in-Some-read_words.ensures c.in-Ok.ensures.replies) (rw c.as_slice.ensures.value at c.say-in-Ok.ensures.said)
