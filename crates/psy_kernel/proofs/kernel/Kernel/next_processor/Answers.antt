-- What is left of the proof of `kernel::Kernel::next_processor`.
use Rattle.std.proofs.Common.{◌<◌, get_or, length, ap, sym, subst, ◌∙◌}
use Rattle.psy_history.specs.Processors.{processors}
use Rattle.psy_kernel.specs.Progress.{Progress, next_processor}
use Rattle.psy_kernel.proofs.Units.{next_within, round_is, unit_place}
use Rattle.psy_kernel.proofs.kernel.Kernel.next_processor.Goals as goal

pub bounds-round-self-inside : goal.bounds-round-self-inside
bounds-round-self-inside c =
    let is = round_is c.self.inside c.self.invariant c.as_slice.result.now c.as_slice.ensures.value c.rounds.result.now c.rounds.ensures c.round_by-round.result.now c.round_by-round.ensures in
    subst (λ round. c.self.inside.units < length round) (sym is) (unit_place c.self.inside c.self.invariant)

pub returns-clause-next : goal.returns-clause-next
returns-clause-next c =
    let is = round_is c.self.inside c.self.invariant c.as_slice.result.now c.as_slice.ensures.value c.rounds.result.now c.rounds.ensures c.round_by-round.result.now c.round_by-round.ensures in
    ap (λ round. get_or round c.self.inside.units 0) is ∙ ap (λ (p : Progress). next_processor p) c.self.view_is

pub returns-clause-known : goal.returns-clause-known
returns-clause-known c =
    let is = round_is c.self.inside c.self.invariant c.as_slice.result.now c.as_slice.ensures.value c.rounds.result.now c.rounds.ensures c.round_by-round.result.now c.round_by-round.ensures in
    subst (λ (p : Progress). get_or c.round_by-round.result.now c.self.inside.units 0 < processors p.plan.unit) c.self.view_is
    (subst (λ round. get_or round c.self.inside.units 0 < processors c.self.inside.engine.plan.unit) (sym is) (next_within c.self.inside c.self.invariant))
