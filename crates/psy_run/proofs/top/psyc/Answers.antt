-- What is left of the proof of `top::psyc`.
use Rattle.psy_run.specs.Services.{Executed, Ran, Resumed, Saved, Traced}
use Rattle.psy_run.proofs.TopLemmas.{ends_answered, ends_complete, ends_done, ends_words, ends_listed, ends_read, ends_cut_short, ends_for_memory, ends_left, ends_over, ends_none_left, ends_headline}
use Rattle.psy_run.proofs.top.psyc.Goals as goal

pub returns-clause-answered : goal.returns-clause-answered
returns-clause-answered g c = ends_answered _ _ _ _ _ _ _ c.answer.ensures.ends

pub returns-clause-complete : goal.returns-clause-complete
returns-clause-complete g c = ends_complete c.one_answer.ensures.same _ _ _ _ _ _ _ c.answer.ensures.ends

pub returns-clause-done : goal.returns-clause-done
returns-clause-done g c = ends_done _ _ _ _ _ _ _ c.answer.ensures.ends

pub returns-clause-words : goal.returns-clause-words
returns-clause-words g c = ends_words _ _ _ _ _ _ _ c.answer.ensures.ends

pub returns-clause-listed : goal.returns-clause-listed
returns-clause-listed g c = ends_listed _ _ _ _ _ _ _ c.answer.ensures.ends

pub returns-clause-read : goal.returns-clause-read
returns-clause-read g c = ends_read _ _ _ _ _ _ _ c.answer.ensures.ends

pub returns-clause-write : goal.returns-clause-write
returns-clause-write g c four = (ends_cut_short _ _ _ _ _ _ _ c.answer.ensures.ends four).0

pub returns-clause-cut_short : goal.returns-clause-cut_short
returns-clause-cut_short g c four = (ends_cut_short _ _ _ _ _ _ _ c.answer.ensures.ends four).1

pub returns-clause-memory : goal.returns-clause-memory
returns-clause-memory g c = ends_for_memory _ _ _ _ _ _ _ c.answer.ensures.ends

pub returns-clause-left : goal.returns-clause-left
returns-clause-left g c = ends_left _ _ _ _ _ _ _ c.answer.ensures.ends

pub returns-clause-borne_out : goal.returns-clause-borne_out
returns-clause-borne_out g c zero =
    let (done, gives, grew, leaves, bounded) = ends_left _ _ _ _ _ _ _ c.answer.ensures.ends zero in
    (done, gives, grew, c.borne_out.ensures _ _ done gives)

pub returns-clause-over : goal.returns-clause-over
returns-clause-over g c = ends_over _ _ _ _ _ _ _ c.answer.ensures.ends

pub returns-clause-none_left : goal.returns-clause-none_left
returns-clause-none_left g c = ends_none_left _ _ _ _ _ _ _ c.answer.ensures.ends

pub returns-clause-headline : goal.returns-clause-headline
returns-clause-headline g c files unit nexts sizes until lists said = ends_headline c.one_answer.ensures.same c.bounded.ensures _ _ _ _ _ _ _ c.answer.ensures.ends files (Ran unit nexts sizes until lists said)

pub returns-clause-executed : goal.returns-clause-executed
returns-clause-executed g c files unit code nexts sizes until lists said = ends_headline c.one_answer.ensures.same c.bounded.ensures _ _ _ _ _ _ _ c.answer.ensures.ends files (Executed unit code nexts sizes until lists said)

pub returns-clause-traced : goal.returns-clause-traced
returns-clause-traced g c files unit nexts sizes until lists said = ends_headline c.one_answer.ensures.same c.bounded.ensures _ _ _ _ _ _ _ c.answer.ensures.ends files (Traced unit nexts sizes until lists said)

pub returns-clause-saved : goal.returns-clause-saved
returns-clause-saved g c files unit nexts sizes date lists said = ends_headline c.one_answer.ensures.same c.bounded.ensures _ _ _ _ _ _ _ c.answer.ensures.ends files (Saved unit nexts sizes date lists said)

pub returns-clause-resumed : goal.returns-clause-resumed
returns-clause-resumed g c files unit nexts sizes until state lists said = ends_headline c.one_answer.ensures.same c.bounded.ensures _ _ _ _ _ _ _ c.answer.ensures.ends files (Resumed unit nexts sizes until state lists said)
