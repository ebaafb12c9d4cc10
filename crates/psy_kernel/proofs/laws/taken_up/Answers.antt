-- What is left of the proof of `laws::taken_up`.
use Rattle.psy_kernel.proofs.DatesDue.{AreRunLaws}
use Rattle.psy_kernel.proofs.TakenUp.{taken_up}
use Rattle.psy_kernel.proofs.laws.taken_up.Goals as goal

laws_of : (c : goal.After-given) → AreRunLaws
laws_of c = record {
  well = c.fitting.ensures;
  opened = c.openings.ensures.run;
  lawful = c.regular.ensures.lawful;
  none = c.openings.ensures.none;
  silent = c.openings.ensures.silent;
  waits = c.openings.ensures.waits;
}

pub returns : goal.returns
returns c p is inputs script none quiet first =
    taken_up (laws_of c) c.regular.ensures.sends c.regular.ensures.runs c.lasting.ensures.ended c.given.ensures.unstarted p is inputs none quiet first
