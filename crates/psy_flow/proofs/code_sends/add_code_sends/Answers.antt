-- What is left of the proof of `code_sends::add_code_sends`.
use Rattle.std.proofs.Common.{◌≡◌, ◌+◌, ℕ, length, sym, subst, arith}
use Rattle.psy_meaning.specs.CodeWays.{IsMostCodeSends}
use Rattle.psy_flow.specs.CodeLists.{HaveMostsTo}
use Rattle.psy_flow.specs.Listed.{AreSendsUpTo}
use Rattle.psy_flow.proofs.CodeSendCounts.{one_most_code}
use Rattle.psy_flow.proofs.Judged.{one_more_most}
use Rattle.psy_flow.proofs.SendsUpTo.{sends_more}
use Rattle.psy_flow.proofs.code_sends.add_code_sends.Goals as goal

pub streams-preserved : goal.streams-preserved
streams-preserved c =
    let instrs = c.args.instrs.now in
    let stream = c.streams.stream in
    let Most = λ (to : ℕ) (stream : ℕ). IsMostCodeSends instrs c.args.from to stream c.args.budget in
    record {
      count = c.most_if_sent-most.ensures.count;
      ways = λ before. subst (AreSendsUpTo Most c.args.to (stream + 1)) (sym c.in_ok-push_some.ensures)
          (sends_more Most (λ to s. one_most_code instrs c.args.from to s c.args.budget) c.args.to stream c.most_if_sent-most.result c.streams.ways (c.streams.invariant.ways before) c.most_if_sent-most.ensures.most);
      judged = one_more_most instrs c.args.from c.args.budget stream c.args.to c.most_if_sent-most.result c.streams.invariant.judged c.most_if_sent-most.ensures.most;
    }

pub returns-clause-ways : goal.returns-clause-ways
returns-clause-ways c before =
    let instrs = c.args.instrs.now in
    let all : c.streams.stream ≡ length c.args.sent.now = omega (arith, c.streams-test.false, c.streams.auto.stream-end) in
    subst (λ n. AreSendsUpTo (λ to stream. IsMostCodeSends instrs c.args.from to stream c.args.budget) c.args.to n c.streams.ways) all (c.streams.invariant.ways before)

pub returns-clause-judged : goal.returns-clause-judged
returns-clause-judged c =
    let all : c.streams.stream ≡ length c.args.sent.now = omega (arith, c.streams-test.false, c.streams.auto.stream-end) in
    subst (λ n. HaveMostsTo c.args.instrs.now c.args.from c.args.budget n c.args.to) all c.streams.invariant.judged
