-- What is left of the proof of `laws::regular`.
use Rattle.psy_code.specs.declared.code.Code.{Code}
use Rattle.psy_history.proofs.RunActions.{AreRunLaws}
use Rattle.psy_history.proofs.RunHistories.{all_sent, lawful}
use Rattle.psy_history.proofs.RunsWithin.{all_run}
use Rattle.psy_history.proofs.laws.regular.Goals as goal

laws_of : (c : goal.After-distances) (code : Code) → AreRunLaws code
laws_of c code = record {
  lasted = λ its s t n. c.lasting.ensures.lasted code its s t n;
  ended = λ its s t n point. c.lasting.ensures.ended code its s t n point;
  late = c.distances.ensures.late;
  again = c.distances.ensures.again;
}

pub returns-clause-lawful : goal.returns-clause-lawful
returns-clause-lawful c s ways code run = lawful s ways code (laws_of c code) run

pub returns-clause-runs : goal.returns-clause-runs
returns-clause-runs c s ways code run = all_run s ways code (laws_of c code) run

pub returns-clause-sends : goal.returns-clause-sends
returns-clause-sends c s ways code run = all_sent s ways code (laws_of c code) run
