-- What is left of the proof of `kernel::Kernel::round`.
use Rattle.std.proofs.Common.{◌≡◌, ℕ, suc, ◌+◌, ◌*◌, ◌≤◌, ◌<◌, ◌⊎◌, IsFalse, IsTrue, ap, sym, subst, ◌∙◌, inl, inr, arith}
use Rattle.std.proofs.lemmas.Bool.{cases_eq}
use Rattle.psy_history.specs.Processors.{processors}
use Rattle.psy_history.specs.Scripts.{IsScript}
use Rattle.psy_kernel.specs.declared.stage.Stage.TheVariants.{CycleDue, UnitDue}
use Rattle.psy_kernel.specs.Progress.{Progress, counted_cycle, counted, next_processor, stage_of}
use Rattle.psy_kernel.specs.Slices.{IsOverFor, counted_on}
use Rattle.psy_kernel.proofs.RoundsDone.{at_place, none_over, over_by, unit_not, unit_over}
use Rattle.psy_kernel.proofs.Sliced.{before_date, early_in, fills, goes_on}
use Rattle.psy_kernel.proofs.Stages.{cycle_due}
use Rattle.psy_kernel.proofs.WholeCycles.{part_due, whole_done}
use Rattle.psy_kernel.proofs.kernel.Kernel.round.Goals.{then-step, else-step}
use Rattle.psy_kernel.proofs.kernel.Kernel.round.Goals as goal

pub step-requires : goal.step-requires
step-requires c =
    let p : Progress = c.args.self.now in
    let count : processors c.self.inside.engine.plan.unit ≡ processors p.plan.unit = ap (λ (q : Progress). processors q.plan.unit) c.self.view_is in
    let whole = cycle_due p c.requires in
    let less : c.units.counter < processors p.plan.unit = omega (arith, c.units-test.true, c.processors-end.ensures, count) in
    subst (λ (q : Progress). (stage_of q ≡ CycleDue q.cycles) ⊎ (stage_of q ≡ UnitDue q.cycles (next_processor q))) (sym c.units.invariant.state) (part_due p c.requires c.units.counter less)

pub units-preserved : goal.units-preserved
units-preserved c =
    let p : Progress = c.args.self.now in
    let count : processors c.self.inside.engine.plan.unit ≡ processors p.plan.unit = ap (λ (q : Progress). processors q.plan.unit) c.self.view_is in
    let whole = cycle_due p c.requires in
    let n : ℕ = c.units.counter in
    let one_more : suc n ≡ n + 1 = omega arith in
    let less : n < processors p.plan.unit = omega (arith, c.units-test.true, c.processors-end.ensures, count) in
    let over_now : IsTrue c.step.result → IsOverFor p (at_place p n) (p.cycles + 1) = λ yes. unit_over p whole.2 n less (subst (λ (q : Progress). IsOverFor q (next_processor q) (q.cycles + 1)) c.units.invariant.state (c.step.ensures.over yes)) in
    let goes_now : IsFalse c.step.result → IsOverFor p (at_place p n) (p.cycles + 1) → ⊥ = λ no. unit_not p whole.2 n less (subst (λ (q : Progress). IsOverFor q (next_processor q) (q.cycles + 1) → ⊥) c.units.invariant.state (c.step.ensures.goes no)) in
    record {
      state = c.step.ensures.state ∙ ap (λ (q : Progress). counted q) c.units.invariant.state ∙ ap (λ m. counted_on m p) one_more;
      over = λ yes. elim c.if-step.branch [
        | then-step w ↦ over_by p (at_place p n) (p.cycles + 1) (over_now w.if-step.true)
        | else-step w ↦ c.units.invariant.over (sym w.over-is ∙ yes)
      ];
      goes = λ no place below. elim c.if-step.branch [
        | then-step w ↦ λ over. absurd (let wrong = sym w.over-is ∙ no in cc)
        | else-step w ↦ elim (cases_eq place n) [
          | inl here ↦ subst (λ m. IsOverFor p (at_place p m) (p.cycles + 1) → ⊥) (sym here) (goes_now w.if-step.false)
          | inr other ↦ c.units.invariant.goes (sym w.over-is ∙ no) place (let lower : place < n = grind (arith, below, other) in lower)
        ]
      ];
    }

pub returns-clause-state : goal.returns-clause-state
returns-clause-state c =
    let p : Progress = c.args.self.now in
    let count : processors c.self.inside.engine.plan.unit ≡ processors p.plan.unit = ap (λ (q : Progress). processors q.plan.unit) c.self.view_is in
    let whole = cycle_due p c.requires in
    let all : c.units.counter ≡ processors p.plan.unit = omega (arith, c.units-test.false, c.units.auto.counter-end, c.processors-end.ensures, count) in
    let some : 1 ≤ c.units.counter = omega (arith, all, count, c.self.invariant.units) in
    let state : c.units.self ≡ counted_cycle p = c.units.invariant.state ∙ whole_done p whole.2 c.units.counter all some in
    let cycles : c.units.self.cycles ≡ p.cycles + 1 = ap (λ (q : Progress). q.cycles) state in
    state

pub returns-clause-over : goal.returns-clause-over
returns-clause-over c = c.units.invariant.over

pub returns-clause-goes : goal.returns-clause-goes
returns-clause-goes c =
    let p : Progress = c.args.self.now in
    let count : processors c.self.inside.engine.plan.unit ≡ processors p.plan.unit = ap (λ (q : Progress). processors q.plan.unit) c.self.view_is in
    let whole = cycle_due p c.requires in
    let all : c.units.counter ≡ processors p.plan.unit = omega (arith, c.units-test.false, c.units.auto.counter-end, c.processors-end.ensures, count) in
    let some : 1 ≤ c.units.counter = omega (arith, all, count, c.self.invariant.units) in
    let state : c.units.self ≡ counted_cycle p = c.units.invariant.state ∙ whole_done p whole.2 c.units.counter all some in
    let cycles : c.units.self.cycles ≡ p.cycles + 1 = ap (λ (q : Progress). q.cycles) state in
    λ no.
    none_over p whole.2 (subst (λ (q : Progress). IsScript q.plan.unit q.script) c.self.view_is c.self.invariant.script) (c.one_of_them.ensures.one p.plan.unit)
    (λ place below. c.units.invariant.goes no place (omega (arith, below, all)))

pub returns-clause-early : goal.returns-clause-early
returns-clause-early c = subst (λ (q : Progress). q.dates ≤ q.plan.until) c.self.view_is (early_in c.self.inside c.self.invariant c.args.self.now c.self.view_is c.requires)

pub returns-clause-within : goal.returns-clause-within
returns-clause-within c =
    let p : Progress = c.args.self.now in
    let count : processors c.self.inside.engine.plan.unit ≡ processors p.plan.unit = ap (λ (q : Progress). processors q.plan.unit) c.self.view_is in
    let whole = cycle_due p c.requires in
    let all : c.units.counter ≡ processors p.plan.unit = omega (arith, c.units-test.false, c.units.auto.counter-end, c.processors-end.ensures, count) in
    let some : 1 ≤ c.units.counter = omega (arith, all, count, c.self.invariant.units) in
    let state : c.units.self ≡ counted_cycle p = c.units.invariant.state ∙ whole_done p whole.2 c.units.counter all some in
    let cycles : c.units.self.cycles ≡ p.cycles + 1 = ap (λ (q : Progress). q.cycles) state in
    let before = before_date c.self.inside c.self.invariant p c.self.view_is c.requires in
    let high = subst (λ (q : Progress). q.cycles < q.dates * q.plan.unit.quantum) c.self.view_is before in
    omega (arith, cycles, high)

pub returns-clause-filled : goal.returns-clause-filled
returns-clause-filled c = λ t filled_is.
    (let p : Progress = c.args.self.now in
    let count : processors c.self.inside.engine.plan.unit ≡ processors p.plan.unit = ap (λ (q : Progress). processors q.plan.unit) c.self.view_is in
    let whole = cycle_due p c.requires in
    let all : c.units.counter ≡ processors p.plan.unit = omega (arith, c.units-test.false, c.units.auto.counter-end, c.processors-end.ensures, count) in
    let some : 1 ≤ c.units.counter = omega (arith, all, count, c.self.invariant.units) in
    let state : c.units.self ≡ counted_cycle p = c.units.invariant.state ∙ whole_done p whole.2 c.units.counter all some in
    let cycles : c.units.self.cycles ≡ p.cycles + 1 = ap (λ (q : Progress). q.cycles) state in
    let before = before_date c.self.inside c.self.invariant p c.self.view_is c.requires in
    let high = subst (λ (q : Progress). q.cycles < q.dates * q.plan.unit.quantum) c.self.view_is before in
    ap (λ (q : Progress). stage_of q) state ∙ fills c.self.inside c.self.invariant p c.self.view_is c.requires (p.cycles + 1) (omega arith) (omega (arith, high)) t (sym cycles ∙ filled_is))

pub returns-clause-inside : goal.returns-clause-inside
returns-clause-inside c = λ none.
    (let p : Progress = c.args.self.now in
    let count : processors c.self.inside.engine.plan.unit ≡ processors p.plan.unit = ap (λ (q : Progress). processors q.plan.unit) c.self.view_is in
    let whole = cycle_due p c.requires in
    let all : c.units.counter ≡ processors p.plan.unit = omega (arith, c.units-test.false, c.units.auto.counter-end, c.processors-end.ensures, count) in
    let some : 1 ≤ c.units.counter = omega (arith, all, count, c.self.invariant.units) in
    let state : c.units.self ≡ counted_cycle p = c.units.invariant.state ∙ whole_done p whole.2 c.units.counter all some in
    let cycles : c.units.self.cycles ≡ p.cycles + 1 = ap (λ (q : Progress). q.cycles) state in
    let before = before_date c.self.inside c.self.invariant p c.self.view_is c.requires in
    let high = subst (λ (q : Progress). q.cycles < q.dates * q.plan.unit.quantum) c.self.view_is before in
    ap (λ (q : Progress). stage_of q) state ∙ goes_on c.self.inside c.self.invariant p c.self.view_is c.requires (p.cycles + 1) (omega arith) (omega (arith, high)) (λ t e. none t (cycles ∙ e)) ∙ ap CycleDue (sym cycles))
