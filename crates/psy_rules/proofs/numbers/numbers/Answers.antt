-- What is left of the proof of `numbers::numbers`.
use Rattle.std.proofs.Common.{◌+◌, ◌∷◌, [], length, sym, ap, ◌∙◌, arith}
use Rattle.std.specs.Prelude.{slice_get}
use Rattle.std.proofs.lemmas.List.{length-append}
use Rattle.psy_rules.specs.Numbering.{before_at, before_and}
use Rattle.psy_rules.proofs.Counting.{before_at-more, slice_get-push}
use Rattle.psy_rules.proofs.numbers.numbers.Goals as goal

pub loop-item-preserved : goal.loop-item-preserved
loop-item-preserved c = record {
  length = ap length c.in_ok-push.ensures.items ∙ length-append c.loop-item.numbers.items (c.loop-item.before ∷ []) ∙ ap (λ n. n + 1) c.loop-item.invariant.length;
  each = λ k h.
      ap (λ ns. slice_get ns k) c.in_ok-push.ensures.items
      ∙ slice_get-push (before_at c.args.items.now) c.loop-item.numbers.items c.loop-item.before
      (λ n g. c.loop-item.invariant.each n (omega (arith, c.loop-item.invariant.length)))
      (c.loop-item.invariant.before ∙ ap (before_at c.args.items.now) (sym c.loop-item.invariant.length))
      k (omega (arith, c.loop-item.invariant.length));
  before = c.and-before.ensures ∙ ap (λ b. before_and b c.item-item.result) c.loop-item.invariant.before
      ∙ before_at-more c.args.items.now c.loop-item.item-index c.item-item.result c.loop-item-test.true (sym c.item-item.is);
}
