-- What is left of the proof of `kernel::Kernel::boot`.
use Rattle.std.proofs.Common.{◌<◌, None, refl, sym, ap, subst, ◌∙◌}
use Rattle.std.specs.List.{AllPairs, range_with_len}
use Rattle.psy_history.specs.declared.told.Round.{Round}
use Rattle.psy_kernel.specs.Kernels.{AreTurned}
use Rattle.psy_kernel.proofs.Kernels.{stands_first}
use Rattle.psy_kernel.proofs.kernel.Kernel.boot.Goals as goal

pub turned_first-turned-requires : goal.turned_first-turned-requires
turned_first-turned-requires c = subst (AllPairs (λ (r q : Round). r.cycle < q.cycle)) (sym c.as_slice.ensures) c.requires.script.rounds_rise

pub invariant_of-result : goal.invariant_of-result
invariant_of-result c =
    let plan = c.args.plan in
    let turned = c.turned_first-turned.result in
    stands_first (record { engine = c.in_ok-engine.engine; cycles = 0; units = 0; declared = c.in_ok-declared.declared; turned = turned; last = None }) plan c.args.inputs.lists c.args.script c.requires.plan c.requires.script
    c.in_ok-engine.ensures refl refl (c.in_ok-declared.ensures ∙ ap (range_with_len 0) c.processors_of.ensures.exact)
    (subst (λ rounds. AreTurned rounds turned 0) c.as_slice.ensures c.turned_first-turned.ensures) refl
