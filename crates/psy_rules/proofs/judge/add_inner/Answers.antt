-- What is left of the proof of `judge::add_inner`.
use Rattle.std.proofs.Common.{sym, refl}
use Rattle.std.specs.Str.{bytes_eq}
use Rattle.psy_tree.specs.declared.reach.Found.TheVariants.{Slot}
use Rattle.psy_rules.proofs.Twice.{inner_more}
use Rattle.psy_rules.proofs.judge.add_inner.Goals as goal

pub loop-name-preserved : goal.loop-name-preserved
loop-name-preserved c text =
    inner_more (λ t n. bytes_eq t n.now.text) c.args.names.now c.loop-name.name-index c.name-item.result c.name-item.result.now.text text (Slot 0) c.args.inner.now c.loop-name.inner c.add.new.self
    c.loop-name-test.true (sym c.name-item.is) (c.loop-name.invariant text) c.in_ok-add.ensures refl
