-- What is left of the proof of `delays::delays`.
use Rattle.std.proofs.Common.{◌≡◌, [], ◌∷◌, length, length-append, ap, arith}
use Rattle.psy_meaning.specs.Sendings.{longest_delay}
use Rattle.psy_flow.proofs.WayRows.{each_after}
use Rattle.psy_flow.proofs.delays.delays.Goals as goal

pub streams-preserved : goal.streams-preserved
streams-preserved c =
    let unit = c.args.unit.now in
    let kept = c.streams.invariant in
    let delay = c.longest.result in
    record {
      count = omega (arith, ap length c.in_ok-push.ensures, length-append c.streams.delays (delay ∷ []), kept.count);
      each = each_after (λ stream n. n ≡ longest_delay unit stream) c.streams.delays _ delay c.streams.stream c.in_ok-push.ensures kept.count kept.each c.longest.ensures;
    }

pub returns : goal.returns
returns c =
    let kept = c.streams.invariant in
    record {
      count = omega (arith, kept.count, c.streams-test.false, c.streams.auto.stream-end, c.len-stream-end.ensures);
      each = kept.each;
    }
