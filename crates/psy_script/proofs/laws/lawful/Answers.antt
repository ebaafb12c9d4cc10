-- What is left of the proof of `laws::lawful`.
use Rattle.psy_script.proofs.InputFaults.{inputs_of_lists}
use Rattle.psy_script.proofs.RisingScripts.{script_of_text}
use Rattle.psy_script.proofs.laws.lawful.Goals as goal

pub returns-clause-inputs : goal.returns-clause-inputs
returns-clause-inputs c = inputs_of_lists

pub returns-clause-script : goal.returns-clause-script
returns-clause-script c = script_of_text
