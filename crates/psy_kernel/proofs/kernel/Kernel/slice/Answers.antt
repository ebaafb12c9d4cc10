-- What is left of the proof of `kernel::Kernel::slice`.
use Rattle.std.proofs.Common.{◌≡◌, ◌≢◌, ℕ, ◌*◌, ◌<◌, ◌≤◌, ap, sym, subst, ◌∙◌}
use Rattle.psy_kernel.specs.declared.stage.Stage.TheVariants.{CycleDue, DateDue}
use Rattle.psy_kernel.specs.Progress.{Progress, stage_of}
use Rattle.psy_kernel.specs.Slices.{IsSliceEnd}
use Rattle.psy_kernel.proofs.SliceEnds.{end_rested}
use Rattle.psy_kernel.proofs.kernel.Kernel.slice.Goals as goal

pub leader-requires : goal.leader-requires
leader-requires c = subst (λ (p : Progress). stage_of p ≡ CycleDue p.cycles) (sym c.rest.ensures) c.requires

pub follow-requires-clause-due : goal.follow-requires-clause-due
follow-requires-clause-due c = subst (λ (p : Progress). stage_of p ≡ CycleDue p.cycles) (sym c.rest.ensures) c.requires

pub returns-in-Some-clause-state : goal.returns-in-Some-clause-state
returns-in-Some-clause-state c = c.follow.ensures.state ∙ ap (λ (p : Progress). record p { cycles = c.follow.new.self.cycles }) c.rest.ensures

pub returns-in-Some-clause-end : goal.returns-in-Some-clause-end
returns-in-Some-clause-end c = end_rested c.args.self.now c.follow.new.self.cycles (subst (λ (p : Progress). IsSliceEnd p c.follow.new.self.cycles) c.rest.ensures c.follow.ensures.end)

pub returns-in-Some-clause-count : goal.returns-in-Some-clause-count
returns-in-Some-clause-count c =
    subst (λ (p : Progress). (p.cycles < c.follow.new.self.cycles) × (c.follow.new.self.cycles ≤ p.dates * p.plan.unit.quantum)) c.rest.ensures (c.follow.ensures.end.some, c.follow.ensures.within)

pub returns-in-Some-clause-filled : goal.returns-in-Some-clause-filled
returns-in-Some-clause-filled c =
    subst (λ (p : Progress). (t : ℕ) → c.follow.new.self.cycles ≡ t * p.plan.unit.quantum → stage_of c.follow.new.self ≡ DateDue t) c.rest.ensures c.follow.ensures.filled

pub returns-in-Some-clause-inside : goal.returns-in-Some-clause-inside
returns-in-Some-clause-inside c =
    subst (λ (p : Progress). ((t : ℕ) → c.follow.new.self.cycles ≢ t * p.plan.unit.quantum) → stage_of c.follow.new.self ≡ CycleDue c.follow.new.self.cycles) c.rest.ensures c.follow.ensures.inside

pub go_by_cycles-requires : goal.go_by_cycles-requires
go_by_cycles-requires c = record { due = subst (λ (p : Progress). stage_of p ≡ CycleDue p.cycles) (sym c.rest.ensures) c.requires }

pub returns-in-None-clause-state : goal.returns-in-None-clause-state
returns-in-None-clause-state c = c.go_by_cycles.ensures.state ∙ ap (λ (p : Progress). record p { cycles = c.go_by_cycles.new.self.cycles }) c.rest.ensures

pub returns-in-None-clause-end : goal.returns-in-None-clause-end
returns-in-None-clause-end c = end_rested c.args.self.now c.go_by_cycles.new.self.cycles (subst (λ (p : Progress). IsSliceEnd p c.go_by_cycles.new.self.cycles) c.rest.ensures c.go_by_cycles.ensures.end)

pub returns-in-None-clause-count : goal.returns-in-None-clause-count
returns-in-None-clause-count c =
    subst (λ (p : Progress). (p.cycles < c.go_by_cycles.new.self.cycles) × (c.go_by_cycles.new.self.cycles ≤ p.dates * p.plan.unit.quantum)) c.rest.ensures
    (c.go_by_cycles.ensures.end.some, c.go_by_cycles.ensures.within)

pub returns-in-None-clause-filled : goal.returns-in-None-clause-filled
returns-in-None-clause-filled c =
    subst (λ (p : Progress). (t : ℕ) → c.go_by_cycles.new.self.cycles ≡ t * p.plan.unit.quantum → stage_of c.go_by_cycles.new.self ≡ DateDue t) c.rest.ensures c.go_by_cycles.ensures.filled

pub returns-in-None-clause-inside : goal.returns-in-None-clause-inside
returns-in-None-clause-inside c =
    subst (λ (p : Progress). ((t : ℕ) → c.go_by_cycles.new.self.cycles ≢ t * p.plan.unit.quantum) → stage_of c.go_by_cycles.new.self ≡ CycleDue c.go_by_cycles.new.self.cycles) c.rest.ensures c.go_by_cycles.ensures.inside
