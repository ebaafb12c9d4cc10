-- What is left of the proof of `laws::queue_sizes`.
use Rattle.psy_code.specs.declared.code.Code.{Code}
use Rattle.psy_history.proofs.HeldWindow.{AreNear}
use Rattle.psy_history.proofs.RunActions.{AreRunLaws}
use Rattle.psy_history.proofs.RunQueues.{most_within, queue_within}
use Rattle.psy_history.proofs.SentMessages.{AreClockLaws}
use Rattle.psy_history.proofs.laws.queue_sizes.Goals as goal

laws_of : (c : goal.After-regular) (code : Code) → AreRunLaws code
laws_of c code = record {
  lasted = λ its s t n. c.lasting.ensures.lasted code its s t n;
  ended = λ its s t n point. c.lasting.ensures.ended code its s t n point;
  late = c.distances.ensures.late;
  again = c.distances.ensures.again;
}

clock_laws : (c : goal.After-regular) → AreClockLaws
clock_laws c = record { late = c.distances.ensures.late; from_late = c.distances.ensures.from_late }

near_laws : (c : goal.After-regular) → AreNear
near_laws c = record { late = c.distances.ensures.late; after = c.distances.ensures.near; from = c.distances.ensures.from_near }

pub returns-clause-held : goal.returns-clause-held
returns-clause-held c s ways code run date stream size less is small = queue_within s ways code (laws_of c code) (clock_laws c) (near_laws c) run stream size less is small date

pub returns-clause-most : goal.returns-clause-most
returns-clause-most c s ways code run until stream size less is small = most_within s ways code (laws_of c code) (clock_laws c) (near_laws c) run stream size less is small until
