-- What is left of the proof of `laws::saved`.
use Rattle.psy_code.specs.declared.code.Code.{Code}
use Rattle.psy_history.proofs.HeldWindow.{AreNear}
use Rattle.psy_history.proofs.LeftStates.{may_resume}
use Rattle.psy_history.proofs.RunActions.{AreRunLaws}
use Rattle.psy_history.proofs.SentMessages.{AreClockLaws}
use Rattle.psy_history.proofs.laws.saved.Goals as goal

laws_of : (c : goal.After-deeds) (code : Code) → AreRunLaws code
laws_of c code = record {
  lasted = λ its s t n. c.lasting.ensures.lasted code its s t n;
  ended = λ its s t n point. c.lasting.ensures.ended code its s t n point;
  late = c.distances.ensures.late;
  again = c.distances.ensures.again;
}

clock_laws : (c : goal.After-deeds) → AreClockLaws
clock_laws c = record { late = c.distances.ensures.late; from_late = c.distances.ensures.from_late }

near_laws : (c : goal.After-deeds) → AreNear
near_laws c = record { late = c.distances.ensures.late; after = c.distances.ensures.near; from = c.distances.ensures.from_near }

pub returns : goal.returns
returns c s ways code sizes order date save quiet =
    may_resume s ways code (laws_of c code) (clock_laws c) (near_laws c) sizes order date save quiet (c.regular.ensures.lawful s ways code save.run) (c.regular.ensures.runs s ways code save.run)
    (λ date stream size less is small. c.queue_sizes.ensures.held s ways code save.run date stream size less is small) save.queues
