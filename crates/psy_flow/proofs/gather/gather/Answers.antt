-- What is left of the proof of `gather::gather`.
use Rattle.std.proofs.Common.{refl}
use Rattle.psy_flow.proofs.Gathered.{gathered_all, gathered_none, gathered_on}
use Rattle.psy_flow.proofs.gather.gather.Goals as goal

pub passes-init : goal.passes-init
passes-init c = gathered_none c.args.instrs.now c.args.row.now

pub returns-then-not-pass : goal.returns-then-not-pass
returns-then-not-pass c =
    gathered_all c.args.instrs.now c.args.row.now c.pass.new.row
    (gathered_on c.args.instrs.now c.args.row.now c.passes.row c.pass.new.row c.passes.invariant c.pass.ensures.gathered) (c.if-not-pass.ensures.still refl)

pub passes-preserved : goal.passes-preserved
passes-preserved c = gathered_on c.args.instrs.now c.args.row.now c.passes.row c.pass.new.row c.passes.invariant c.pass.ensures.gathered
