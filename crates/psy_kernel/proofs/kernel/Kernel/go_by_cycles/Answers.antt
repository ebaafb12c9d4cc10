-- What is left of the proof of `kernel::Kernel::go_by_cycles`.
use Rattle.std.proofs.Common.{◌≡◌, ℕ, ◌+◌, ◌≤◌, ap, sym, subst, ◌∙◌, inl, inr, arith}
use Rattle.std.proofs.lemmas.Bool.{cases_eq}
use Rattle.psy_kernel.specs.declared.stage.Stage.TheVariants.{CycleDue}
use Rattle.psy_kernel.specs.Progress.{Progress, counted_cycle, stage_of}
use Rattle.psy_kernel.specs.Slices.{Changes}
use Rattle.psy_kernel.proofs.Stages.{cycle_due, cycle_is}
use Rattle.psy_kernel.proofs.kernel.Kernel.go_by_cycles.Goals as goal

pub cycles-preserved : goal.cycles-preserved
cycles-preserved c =
    let first : Progress = c.args.self.now in
    let p : Progress = c.cycles.self in
    let after : Progress → Progress = counted_cycle in
    let steady : (between : ℕ) → Changes p between → Changes first between = λ between. subst (λ (q : Progress). Changes q between) c.cycles.invariant.kept in
    let not_now : Changes p (p.cycles + 1) → ⊥ = c.change.ensures.steady c.if-change.false in
    let w = cycle_due p c.cycles.invariant.due in
    let same : c.change.new.self.cycles ≡ p.cycles + 1 = ap (λ (q : Progress). q.cycles) c.change.ensures.state in
    record {
      kept = c.change.ensures.state ∙ ap after c.cycles.invariant.kept ∙ ap (λ n. record first { cycles = n }) (sym same);
      due = ap stage_of c.change.ensures.state ∙ cycle_is (record p { cycles = p.cycles + 1 }) w.0 (λ e. not_now (inl e)) w.2 ∙ ap CycleDue (sym same);
      no_less = omega (arith, c.cycles.invariant.no_less, same);
      steady = λ between above below changes. elim (cases_eq between (p.cycles + 1)) [
        | inl here ↦ not_now (subst (λ n. Changes p n) here (subst (λ (q : Progress). Changes q between) (sym c.cycles.invariant.kept) changes))
        | inr other ↦ c.cycles.invariant.steady between above (let lower : between ≤ p.cycles = grind (arith, below, same, other) in lower) changes
      ];
    }

pub returns-then-change-clause-end : goal.returns-then-change-clause-end
returns-then-change-clause-end c =
    let first : Progress = c.args.self.now in
    let p : Progress = c.cycles.self in
    let same : c.change.new.self.cycles ≡ p.cycles + 1 = ap (λ (q : Progress). q.cycles) c.change.ensures.state in
    record {
      some = omega (arith, c.cycles.invariant.no_less, same);
      changes = subst (λ n. Changes first n) (sym same) (subst (λ (q : Progress). Changes q (p.cycles + 1)) c.cycles.invariant.kept (c.change.ensures.changes c.if-change.true));
      first = λ between above below. c.cycles.invariant.steady between above (omega (arith, below, same));
    }
