-- What is left of the proof of `code_lists::code_ways`.
use Rattle.psy_flow.proofs.Judged.{all_mosts}
use Rattle.psy_flow.proofs.code_lists.code_ways.Goals as goal

pub returns-clause-judged : goal.returns-clause-judged
returns-clause-judged c = all_mosts c.args.unit.now c.args.code.now c.in_ok-paths.paths.nexts c.in_ok-paths.ensures.nexts c.in_ok-sends.ensures.judged
