-- What is left of the proof of `laws::reaches`.
use Rattle.std.proofs.Common.{refl}
use Rattle.std.proofs.lemmas.List.Elements.{All-contains}
use Rattle.psy_code.specs.Execution.{call_of}
use Rattle.psy_history.specs.History.{history}
use Rattle.psy_history.specs.Regular.{Runs}
use Rattle.psy_history.proofs.Reached.{reach_alike, reach_date, reach_idle, reach_none, reach_stalled}
use Rattle.psy_history.proofs.Reaches.{reach_paid}
use Rattle.psy_history.proofs.laws.reaches.Goals as goal

pub returns-clause-none : goal.returns-clause-none
returns-clause-none c s h variable = reach_none s h variable

pub returns-clause-idle : goal.returns-clause-idle
returns-clause-idle c s turns h processor variable = reach_idle s turns h variable processor

pub returns-clause-same : goal.returns-clause-same
returns-clause-same c s turns others h variable same = reach_alike s turns others h variable same

pub returns-clause-stalled : goal.returns-clause-stalled
returns-clause-stalled c s turns dates agent variable r lawful there none = reach_stalled s turns (history s dates) variable r none

pub returns-clause-paid : goal.returns-clause-paid
returns-clause-paid c s ways code run turns dates agent variable instr r state there running has paid =
    let lawful = c.regular.ensures.lawful s ways code run in
    let runs = All-contains (Runs s ways code) (history s dates agent) r (c.regular.ensures.runs s ways code run dates agent) there in
    reach_paid s ways code run lawful dates agent r there runs instr state running paid turns variable has (call_of code state.machine) refl

pub returns-clause-date : goal.returns-clause-date
returns-clause-date c s order date cycles variable lawful some within = reach_date s order date cycles variable some within
