-- What is left of the proof of `units::keep_unit`.
use Rattle.std.proofs.Common.{◌∙◌, ap, subst, sym, arith}
use Rattle.psy_collect.specs.Collected.{IsRunning}
use Rattle.psy_collect.specs.Keeping.{turned_by}
use Rattle.psy_collect.proofs.UnitDone.{unit_done}
use Rattle.psy_collect.proofs.Steps.{either_due, few_cycles, few_works, same_plan, within}
use Rattle.psy_collect.proofs.units.keep_unit.Goals as goal

pub keep_turn-requires-clause-early : goal.keep_turn-requires-clause-early
keep_turn-requires-clause-early c =
    let p = c.args.kernel.now in
    let low = within p c.args.kept.now c.requires.running (either_due p c.args.cycle _ c.requires.due) in
    let most = few_cycles p c.until_of-until.result (c.until_of-until.ensures.value ∙ ap (λ q. q.until) c.plan.ensures.plan) c.until_of-until.ensures.few c.plan.ensures.fits.fits.bare.quantum.1 in
    omega (arith, c.requires.cycle, low, most)

pub keep_turn-requires-clause-few : goal.keep_turn-requires-clause-few
keep_turn-requires-clause-few c =
    let p = c.args.kernel.now in
    let low = within p c.args.kept.now c.requires.running (either_due p c.args.cycle _ c.requires.due) in
    let most = few_cycles p c.until_of-until.result (c.until_of-until.ensures.value ∙ ap (λ q. q.until) c.plan.ensures.plan) c.until_of-until.ensures.few c.plan.ensures.fits.fits.bare.quantum.1 in
    few_works p c.args.kept.now c.requires.running (omega (arith, low, most))

pub returns-clause-running : goal.returns-clause-running
returns-clause-running c =
    let p = c.args.kernel.now in
    let k = c.args.kept.now in
    let script = c.plan.ensures.script in
    let begun = c.requires.running.begun in
    let plan_is = c.plan-2.ensures.plan ∙ ap (λ q. q.plan) c.unit.ensures.state ∙ same_plan p in
    subst (IsRunning c.unit.new.self)
    (sym (c.in_ok-keep_turn.ensures ∙ ap (λ u. turned_by u.unit c.args.cycle c.ran-ran.result c.seen-seen.result k) plan_is ∙ ap (λ n. turned_by p.plan.unit n c.ran-ran.result c.seen-seen.result k) c.requires.cycle))
    (unit_done p k c.requires.running c.plan.ensures.fits c.plan.ensures.inputs script c.fitting.ensures c.regular.ensures.lawful c.on_time.ensures.earlier c.regular.ensures.runs (either_due p c.args.cycle _ c.requires.due)
    (c.units.ensures.known p script begun) (c.units.ensures.own p script begun) (λ n less. c.units.ensures.more p n script begun less) (c.one_of_them.ensures.one p.plan.unit)
    c.unit.new.self c.unit.ensures.state c.ran-ran.result c.seen-seen.result c.ran-ran.ensures c.seen-seen.ensures)
