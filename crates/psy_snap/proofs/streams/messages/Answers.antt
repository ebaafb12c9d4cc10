-- What is left of the proof of `streams::messages`.
use Rattle.std.proofs.Common.{arith, replicate}
use Rattle.std.proofs.lemmas.List.{get_or-replicate, length-replicate}
use Rattle.std.proofs.lemmas.Result.{err_from_is_err_and}
use Rattle.psy_snap.specs.Cuts.{message_asks}
use Rattle.psy_snap.specs.Reading.{message_at}
use Rattle.psy_snap.proofs.Loops.{goes_on, stops, is_done}
use Rattle.psy_snap.proofs.streams.messages.Goals as goal

pub returns-in_err-rest : goal.returns-in_err-rest
returns-in_err-rest c =
    let p = err_from_is_err_and c.from_residual.result c.from_residual.ensures.1 in
    let asks = message_asks c.args.agents in
    rw (p.1, p.2) (stops c.in_err-rest.field-0.0 (message_at c.args.agents c.args.date c.args.begun) (replicate c.args.count asks) c.messages.counter asks _ _ _
    (omega (arith, c.messages-test.true, length-replicate c.args.count asks)) (get_or-replicate c.args.count c.messages.counter asks asks c.messages-test.true) c.in_err-rest.ensures c.messages.invariant)

pub messages-preserved : goal.messages-preserved
messages-preserved c =
    let asks = message_asks c.args.agents in
    goes_on (message_at c.args.agents c.args.date c.args.begun) (replicate c.args.count asks) c.messages.counter asks _ _ _ _ _
    (omega (arith, c.messages-test.true, length-replicate c.args.count asks)) (get_or-replicate c.args.count c.messages.counter asks asks c.messages-test.true) c.in_ok-rest.ensures c.messages.invariant

pub returns : goal.returns
returns c =
    let asks = message_asks c.args.agents in
    is_done (message_at c.args.agents c.args.date c.args.begun) (replicate c.args.count asks) c.messages.counter _ _ _
    (omega (arith, c.messages-test.false, length-replicate c.args.count asks)) c.messages.invariant
