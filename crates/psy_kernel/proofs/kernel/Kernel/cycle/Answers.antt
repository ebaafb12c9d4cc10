-- What is left of the proof of `kernel::Kernel::cycle`.
use Rattle.std.proofs.Common.{◌≡◌, ◌≢◌, ℕ, ◌*◌, ap, sym, subst, ◌∙◌}
use Rattle.psy_kernel.specs.declared.stage.Stage.TheVariants.{CycleDue, DateDue}
use Rattle.psy_kernel.specs.Progress.{Progress, counted_cycle, stage_of}
use Rattle.psy_kernel.proofs.kernel.Kernel.cycle.Goals as goal

pub round-requires : goal.round-requires
round-requires c = subst (λ (p : Progress). stage_of p ≡ CycleDue p.cycles) (sym c.rest.ensures) c.requires

pub returns-clause-state : goal.returns-clause-state
returns-clause-state c = let next : Progress → Progress = counted_cycle in c.round.ensures.state ∙ ap next c.rest.ensures

pub returns-clause-filled : goal.returns-clause-filled
returns-clause-filled c =
    subst (λ (p : Progress). (t : ℕ) → c.round.new.self.cycles ≡ t * p.plan.unit.quantum → stage_of c.round.new.self ≡ DateDue t) c.rest.ensures c.round.ensures.filled

pub returns-clause-inside : goal.returns-clause-inside
returns-clause-inside c =
    subst (λ (p : Progress). ((t : ℕ) → c.round.new.self.cycles ≢ t * p.plan.unit.quantum) → stage_of c.round.new.self ≡ CycleDue c.round.new.self.cycles) c.rest.ensures c.round.ensures.inside
