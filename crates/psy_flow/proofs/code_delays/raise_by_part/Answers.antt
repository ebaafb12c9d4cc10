-- What is left of the proof of `code_delays::raise_by_part`.
use Rattle.psy_flow.proofs.RaisedTo.{raised_no_part, raised_part}
use Rattle.psy_flow.proofs.code_delays.raise_by_part.Goals as goal

pub returns-in-Sent : goal.returns-in-Sent
returns-in-Sent c = raised_part c.args.unit.now c.args.part c.in-Sent.stream c.in-Sent.after c.in-Sent.clock c.delay.result c.args.delays.now _ c.in-Sent.is c.delay.ensures c.raise_to.ensures

pub returns-in_default : goal.returns-in_default
returns-in_default c = raised_no_part c.args.unit.now c.args.part c.args.delays.now c.in_default.not-Sent
