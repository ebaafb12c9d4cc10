-- What is left of the proof of `tail::Tail::begin`.
use Rattle.std.proofs.Common.{sym, arith}
use Rattle.psy_last.proofs.tail.Tail.begin.Goals as goal

pub returns : goal.returns
returns c =
    let kept = c.add.ensures.kept (omega arith) in
    record {
      short = λ few. sym kept.1;
      count = λ few. sym kept.0;
      long = λ much. absurd (omega (arith, kept.0, much));
      over = c.add.ensures.over;
    }
