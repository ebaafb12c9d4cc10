-- What is left of the proof of `top::answer`.
use Rattle.std.proofs.Common.{sym, subst}
use Rattle.psy_run.specs.Outcome.{Ends}
use Rattle.psy_run.specs.Services.{service_of}
use Rattle.psy_run.proofs.MeaningText.{some_left}
use Rattle.psy_run.proofs.TopLemmas.{ends_stopped, ends_served, ends_unwritten}
use Rattle.psy_run.proofs.LongFiles.{limit_passed}
use Rattle.psy_run.proofs.FaultLemmas.{unfailed_answer}
use Rattle.psy_run.proofs.top.answer.Goals as goal

pub returns-in-Err-clause-ends : goal.returns-in-Err-clause-ends
returns-in-Err-clause-ends g c =
    subst (Ends _ _ _ _ _ _) (sym c.requires.empty)
    (ends_stopped _ _ _ _ _ _ c.in-Err.stop c.in-Err.ensures.err c.in-Err.ensures.asked c.refuse.ensures.refused c.refuse.ensures.unread c.refuse.ensures.memory)

pub returns-in-Ok-serve-clause-ends : goal.returns-in-Ok-serve-clause-ends
returns-in-Ok-serve-clause-ends g c = ends_served _ _ _ _ _ _ (service_of c.in-Ok.served) c.in-Ok.ensures.ok c.in-Ok-serve.ensures.written c.in-Ok-serve.ensures.over c.in-Ok-serve.ensures.bounded

pub returns-in-Err-serve-clause-ends : goal.returns-in-Err-serve-clause-ends
returns-in-Err-serve-clause-ends g c = ends_unwritten _ _ _ _ _ _ (service_of c.in-Ok.served) c.in-Ok.ensures.ok (some_left c.in-Ok.served c.in-Ok.ensures.can) c.in-Err-serve.ensures.bounded c.in-Err-serve.ensures.failed c.in-Err-serve.ensures.written c.in-Err-serve.ensures.over

pub returns-in-Err-clause-limit : goal.returns-in-Err-clause-limit
returns-in-Err-clause-limit g c = limit_passed _ _ _ _ _ _ _ _ _ _ c.in-Err.stop c.in-Err.ensures.err c.in-Err.ensures.long c.refuse.ensures.refused c.refuse.ensures.unread c.refuse.ensures.memory

pub returns-in-Err-clause-unfailed_reads : goal.returns-in-Err-clause-unfailed_reads
returns-in-Err-clause-unfailed_reads g c = unfailed_answer _ _ _ _ _ _ _ c.in-Err.stop c.in-Err.ensures.unread c.refuse.ensures.unread
