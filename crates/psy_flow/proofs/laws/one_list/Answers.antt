-- What is left of the proof of `laws::one_list`.
use Rattle.psy_flow.proofs.OneList.{all_nexts_one, one_of_code, one_of_text}
use Rattle.psy_flow.proofs.laws.one_list.Goals as goal

pub returns-clause-text : goal.returns-clause-text
returns-clause-text c = one_of_text

pub returns-clause-code : goal.returns-clause-code
returns-clause-code c = one_of_code

pub returns-clause-nexts : goal.returns-clause-nexts
returns-clause-nexts c = all_nexts_one
