-- What is left of the proof of `tail::Tail::extend`.
use Rattle.std.proofs.Common.{ℕ, List, take, sym, subst}
use Rattle.std.specs.List.{fold}
use Rattle.std.proofs.lemmas.List.Sums.{fold_more}
use Rattle.psy_last.specs.Lasts.{with_byte}
use Rattle.psy_last.specs.Tails.{IsTail}
use Rattle.psy_last.proofs.tail.Tail.extend.Goals as goal

pub each-preserved : goal.each-preserved
each-preserved c line is =
    let bytes = c.args.bytes.now in
    let i = c.each.byte-index in
    subst (λ (l : List ℕ). IsTail c.push.new.self l) (sym (fold_more with_byte line bytes i 0 c.each-test.true))
    (c.push.ensures (fold with_byte line (take i bytes)) (c.each.invariant line is))
