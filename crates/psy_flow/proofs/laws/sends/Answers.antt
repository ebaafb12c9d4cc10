-- What is left of the proof of `laws::sends`.
use Rattle.psy_flow.proofs.Cuts.{one_most}
use Rattle.psy_flow.proofs.Silent.{some_most}
use Rattle.psy_flow.proofs.laws.sends.Goals as goal

pub returns-clause-some : goal.returns-clause-some
returns-clause-some c unit number agent from to stream its = some_most unit number agent (c.known.ensures unit number agent its) from to stream

pub returns-clause-one : goal.returns-clause-one
returns-clause-one c unit number agent from to stream n m its = one_most unit.functions agent from to stream n m
