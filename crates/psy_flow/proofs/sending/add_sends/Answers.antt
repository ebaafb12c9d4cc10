-- What is left of the proof of `sending::add_sends`.
use Rattle.std.proofs.Common.{◌≡◌, ◌+◌, length, ap, subst, arith}
use Rattle.std.specs.List.{Contains}
use Rattle.psy_meaning.specs.Flow.{IsMostSends}
use Rattle.psy_flow.specs.Listed.{AreSendsUpTo}
use Rattle.psy_flow.specs.Texts.{streams_in}
use Rattle.psy_flow.proofs.Cuts.{one_most}
use Rattle.psy_flow.proofs.Longer.{same_are}
use Rattle.psy_flow.proofs.SendsUpTo.{next_end}
use Rattle.psy_flow.proofs.TextMarks.{length-marked_at, unmarked}
use Rattle.psy_flow.proofs.sending.add_sends.Goals as goal

pub bounds-sent-stream : goal.bounds-sent-stream
bounds-sent-stream c = omega (arith, ap length c.requires.sent, length-marked_at c.args.streams (streams_in c.args.agent.now.stmts), c.streams-test.true)

pub add_stream-requires-clause-sent : goal.add_stream-requires-clause-sent
add_stream-requires-clause-sent c not unit number point way its sends same =
    let agent = c.args.agent.now in
    let stream = c.streams.stream in
    unmarked c.args.streams (streams_in agent.stmts) c.args.sent.now stream c.requires.sent (omega (arith, c.streams-test.true)) not
    (subst (Contains (streams_in agent.stmts)) same (c.texts.ensures.sends unit number agent point way its sends))

pub streams-preserved : goal.streams-preserved
streams-preserved c = record {
  count = omega (arith, c.add_stream.ensures.as_many, c.streams.invariant.count);
  sends = λ unit number its before. c.in_ok-add_stream.ensures.sends unit number its (c.streams.invariant.sends unit number its before);
}

pub returns-clause-sends : goal.returns-clause-sends
returns-clause-sends c unit number its same before =
    let agent = c.args.agent.now in
    let to = c.args.to in
    let stream = c.streams.stream in
    let all : stream ≡ c.args.streams = omega (arith, c.streams-test.false, c.streams.auto.stream-end) in
    same_are agent (λ point. AreSendsUpTo (IsMostSends unit.functions agent point) to stream) (λ point. AreSendsUpTo (IsMostSends unit.functions agent point) (to + 1) 0) c.streams.lists
    (λ point list less was. next_end (IsMostSends unit.functions agent point) (one_most unit.functions agent point) to stream list
    (λ way sent. omega (arith, (c.named.ensures.sends unit number agent point way its sent).0, same, all)) was)
    (c.streams.invariant.sends unit number its before)
