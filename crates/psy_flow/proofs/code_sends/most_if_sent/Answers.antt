-- What is left of the proof of `code_sends::most_if_sent`.
use Rattle.psy_flow.proofs.CodeSendCounts.{most_of_none}
use Rattle.psy_flow.proofs.code_sends.most_if_sent.Goals as goal

pub returns-then-not-sent-stream-clause-most : goal.returns-then-not-sent-stream-clause-most
returns-then-not-sent-stream-clause-most c =
    most_of_none c.args.instrs.now c.args.from c.args.places.now c.requires.passed c.args.sent.now c.requires.sent.0 c.requires.sent.1 c.args.to c.args.stream c.requires.stream c.if-not-sent-stream.true c.args.budget c.requires.goes
