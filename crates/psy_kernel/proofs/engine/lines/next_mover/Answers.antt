-- What is left of the proof of `engine::lines::next_mover`.
use Rattle.std.proofs.Common.{◌<◌, get_or, arith}
use Rattle.psy_kernel.proofs.Skipped.{skips_all, skips_none, skips_one, skips_to}
use Rattle.psy_kernel.proofs.engine.lines.next_mover.Goals as goal

pub movers-init : goal.movers-init
movers-init c = skips_none c.args.movers.now c.args.agents c.args.place

pub movers-preserved : goal.movers-preserved
movers-preserved c = skips_one c.args.movers.now c.args.agents c.args.place c.movers.at c.movers.invariant c.movers-test.true c.if-agent-place.false

pub returns-then-agent-place : goal.returns-then-agent-place
returns-then-agent-place c =
    let known : get_or c.args.movers.now c.movers.at 0 < c.args.agents = c.requires.known c.movers.at 0 c.movers-test.true in
    record {
      within = (c.if-agent-place.true, omega (arith, known));
      between = skips_to c.args.movers.now c.args.agents c.args.place c.movers.at c.movers.invariant c.movers-test.true;
    }

pub returns : goal.returns
returns c = record {
  within = (c.requires.within, omega arith);
  between = skips_all c.args.movers.now c.args.agents c.args.place c.movers.at c.movers.invariant c.movers-test.false;
}
