-- What is left of the proof of `kernel::Kernel::open`.
use Rattle.std.proofs.Common.{◌<◌, None, refl, sym, ap, subst, ◌∙◌}
use Rattle.std.specs.List.{AllPairs, range_with_len}
use Rattle.psy_history.specs.declared.told.Round.{Round}
use Rattle.psy_kernel.specs.Kernels.{AreTurned}
use Rattle.psy_kernel.proofs.OpenedKernels.{stands_behind}
use Rattle.psy_kernel.proofs.kernel.Kernel.open.Goals as goal

pub turned_at-turned-requires : goal.turned_at-turned-requires
turned_at-turned-requires c = subst (AllPairs (λ (r q : Round). r.cycle < q.cycle)) (sym c.as_slice.ensures) c.requires.script.rounds_rise

pub invariant_of-result : goal.invariant_of-result
invariant_of-result c =
    let plan = c.args.plan in
    let cycles = c.cycles_before-cycles.result in
    let turned = c.turned_at-turned.result in
    stands_behind (record { engine = c.in_ok-engine.engine; cycles = cycles; units = 0; declared = c.in_ok-declared.declared; turned = turned; last = None }) plan c.args.inputs.lists c.args.script c.args.opening c.requires.plan c.requires.script c.requires.shape.near
    c.in_ok-engine.ensures c.cycles_before-cycles.ensures refl (c.in_ok-declared.ensures ∙ ap (range_with_len 0) c.processors_of.ensures.exact)
    (subst (λ rounds. AreTurned rounds turned cycles) c.as_slice.ensures c.turned_at-turned.ensures) refl
