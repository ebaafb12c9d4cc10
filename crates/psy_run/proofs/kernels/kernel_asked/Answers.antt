-- What is left of the proof of `kernels::kernel_asked`.
use Rattle.std.proofs.Common.{map, string_bytes}
use Rattle.psy_run.specs.Answer.{answering}
use Rattle.psy_run.specs.Outcome.{CanServe}
use Rattle.psy_run.specs.Services.{service_of}
use Rattle.psy_run.proofs.KernelPlans.{asked_has}
use Rattle.psy_run.proofs.kernels.kernel_asked.Goals as goal

pub returns-in-Ok-clause-booted : goal.returns-in-Ok-clause-booted
returns-in-Ok-clause-booted g c = asked_has CanServe _ _ _ (λ kernel can. can.0) c.in-Ok.ensures.can c.of_run.ensures.ran

pub returns-in-Ok-clause-planned : goal.returns-in-Ok-clause-planned
returns-in-Ok-clause-planned g c = asked_has CanServe _ _ _ (λ kernel can. can.1) c.in-Ok.ensures.can c.of_run.ensures.ran

pub returns-in-Ok-clause-its_inputs : goal.returns-in-Ok-clause-its_inputs
returns-in-Ok-clause-its_inputs g c = asked_has CanServe _ _ _ (λ kernel can. can.2) c.in-Ok.ensures.can c.of_run.ensures.ran

pub returns-in-Ok-clause-its_script : goal.returns-in-Ok-clause-its_script
returns-in-Ok-clause-its_script g c = asked_has CanServe _ _ _ (λ kernel can. can.3) c.in-Ok.ensures.can c.of_run.ensures.ran

pub returns-in-Ok-clause-given : goal.returns-in-Ok-clause-given
returns-in-Ok-clause-given g c =
    let comes = answering (map string_bytes c.args.words.now) (g.F.Shelf.files c.args.shelf.now) in
    asked_has (λ done. comes.gives (service_of done)) _ _ _ (λ kernel gives. gives) c.in-Ok.ensures.ok c.of_run.ensures.ran

pub returns-in-Ok-clause-other : goal.returns-in-Ok-clause-other
returns-in-Ok-clause-other g c none = (c.in-Ok.served, c.of_run.ensures.other none, c.in-Ok.ensures.ok)
