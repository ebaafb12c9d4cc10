-- What is left of the proof of `cycles::keep_cycle`.
use Rattle.std.proofs.Common.{◌<◌, refl, subst, sym}
use Rattle.psy_collect.specs.Collected.{steps_left}
use Rattle.psy_collect.proofs.Skipped.{skipped}
use Rattle.psy_collect.proofs.Steps.{cycle_due, cycle_whole, fewer, fewer_cycles, inside}
use Rattle.psy_collect.proofs.cycles.keep_cycle.Goals as goal

pub returns-then-is_idle-clause-running : goal.returns-then-is_idle-clause-running
returns-then-is_idle-clause-running c =
    let p = c.args.kernel.now in
    let k = c.args.kept.now in
    skipped p k c.requires.running (cycle_whole p c.args.cycle c.requires.due) (inside p k c.requires.running (cycle_due p c.args.cycle c.requires.due)) (c.if-is_idle.ensures.idle refl k c.requires.running)
    c.tick.new.self c.tick.ensures.state

pub returns-then-is_idle-clause-goes : goal.returns-then-is_idle-clause-goes
returns-then-is_idle-clause-goes c =
    let p = c.args.kernel.now in
    subst (λ q. steps_left q < steps_left p) (sym c.tick.ensures.state) (fewer_cycles p c.args.kept.now c.requires.running (cycle_due p c.args.cycle c.requires.due))

pub returns-clause-goes : goal.returns-clause-goes
returns-clause-goes c =
    let p = c.args.kernel.now in
    subst (λ q. steps_left q < steps_left p) (sym c.keep_unit.ensures.state) (fewer p c.args.kept.now c.requires.running (cycle_due p c.args.cycle c.requires.due))
