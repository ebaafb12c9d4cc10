-- What is left of the proof of `engine::stretch::stretch`.
use Rattle.std.proofs.Common.{◌≡◌, ℕ, ◌+◌, ◌-◌, ◌≤◌, refl, sym, ◌∙◌, subst, arith}
use Rattle.psy_budget.specs.declared.charge.Tick.TheVariants as tick
use Rattle.psy_budget.specs.Charges.{IsStretch}
use Rattle.psy_machine.specs.declared.machine.Step.TheVariants as step
use Rattle.psy_kernel.proofs.Bursts.{none_kept}
use Rattle.psy_kernel.proofs.Stretched.{AreLaws, Begins, IsFree, after_all, charged_behind, charged_then, done_all, kept_behind, kept_then, moves, none_charged, others_behind, over_behind, part, part_pays, some_done}
use Rattle.psy_kernel.proofs.engine.stretch.stretch.Goals.{After-free-free, then-parts-test+else-not-spent, else-parts-test}
use Rattle.psy_kernel.proofs.engine.stretch.stretch.Goals as goal

-- Both are taken away
less_both : (a b c : ℕ) → a - (b + c) ≡ a - b - c
less_both a b c = omega arith

pub parts-init : goal.parts-init
parts-init c = record {
  within = omega arith;
  kept = none_kept (Begins c.args.runner.now.charge) c.args.plan.now c.args.start c.args.date c.args.most c.args.runner.now.machine c.args.eyes.now c.args.reaches.now.items c.requires.of;
  charged = none_charged c.args.plan.now c.args.start c.args.date c.args.most c.args.runner.now.machine c.args.eyes.now c.args.runner.now.charge;
  figure = refl;
}

-- The stall is behind, and what is free fits
free_now : (c : After-free-free)
    → IsFree c.args.plan.now c.args.start c.args.date c.args.most c.args.runner.now.machine c.args.eyes.now c.args.reaches.now.items c.args.runner.now.charge (c.parts.cycles + c.skip-cycles.result) c.parts.runner.machine c.parts.eyes c.parts.reaches.items
    c.skip-cycles.new.self c.free-free.result
free_now c =
    let laws : AreLaws = record { further = c.stretches.ensures.further; stalled = c.stretches.ensures.stalled } in
    let kept = c.parts.invariant.kept in
    let charged = c.parts.invariant.charged in
    let skipped = c.skip-cycles.ensures in
    record {
      kept = kept_then laws kept c.parts-test.true c.parts.runner.charge charged c.skip-cycles.result skipped.count c.skip-cycles.new.self skipped.charge;
      charged = charged_then laws kept c.parts-test.true c.parts.runner.charge charged c.skip-cycles.result skipped.count c.skip-cycles.new.self skipped.charge;
      fits = omega (arith, c.parts-test.true, skipped.count.within, c.free-free.ensures.within);
      all = c.free-free.ensures.all;
    }

pub parts-preserved : goal.parts-preserved
parts-preserved c =
    let laws : AreLaws = record { further = c.stretches.ensures.further; stalled = c.stretches.ensures.stalled } in
    let free = free_now (goal.at.parts-preserved c).After-free-free in
    let done = c.burst-done in
    record {
      within = omega (arith, free.fits, done.ensures.count);
      kept = kept_behind laws free done.result.count done.ensures.count c.pay.new.self c.pay.ensures done.new.machine done.new.eyes done.new.reaches.items done.result.step done.ensures.leaves
          done.ensures.of done.ensures.reaching done.ensures.same_taken done.ensures.same_outbox done.ensures.scene done.ensures.size done.ensures.taking done.ensures.others (done.ensures.whole c.in-Went.is) c.in-Went.is;
      charged = charged_behind laws free done.result.count done.ensures.count c.pay.new.self c.pay.ensures;
      figure = c.parts.invariant.figure;
    }

pub parts-smaller : goal.parts-smaller
parts-smaller c =
    let laws : AreLaws = record { further = c.stretches.ensures.further; stalled = c.stretches.ensures.stalled } in
    let free = free_now (goal.at.parts-smaller c).After-free-free in
    let whole = c.burst-done.ensures.whole c.in-Went.is in
    let more = moves c.parts.runner.charge (c.args.most - c.parts.cycles) c.skip-cycles.result c.free-free.result (sym c.spent.ensures ∙ c.if-not-spent.true) (omega (arith, c.parts-test.true)) c.skip-cycles.ensures.count
    (subst (λ x. IsStretch x tick.Paid (c.args.most - c.parts.cycles - c.skip-cycles.result) c.free-free.result) c.skip-cycles.ensures.charge
    (subst (λ n. IsStretch c.skip-cycles.new.self tick.Paid n c.free-free.result) (less_both c.args.most c.parts.cycles c.skip-cycles.result) c.free-free.ensures)) in
    omega (arith, free.fits, whole, more, c.burst-done.ensures.count)

pub burst-done-requires-clause-given : goal.burst-done-requires-clause-given
burst-done-requires-clause-given c =
    let laws : AreLaws = record { further = c.stretches.ensures.further; stalled = c.stretches.ensures.stalled } in
    let free = free_now (goal.at.burst-done-requires-clause-given c).After-free-free in
    let w = c.requires.given in
    (w.0, w.1, w.2, w.3, w.4 + (c.parts.cycles + c.skip-cycles.result), part laws free w.0 w.1 w.2 w.3 w.4 (w.5, (w.6, w.7)), part_pays laws free w.0 w.1 w.2 w.3 w.4 (w.5, (w.6, w.7)))

pub pay-requires : goal.pay-requires
pay-requires c = λ k less. c.free-free.ensures.all k (omega (arith, less, c.burst-done.ensures.count))

pub returns-in-Ended-clause-passes : goal.returns-in-Ended-clause-passes
returns-in-Ended-clause-passes c = λ opening inputs stalls r had may begun less.
    let laws : AreLaws = record { further = c.stretches.ensures.further; stalled = c.stretches.ensures.stalled } in
    let free = free_now (goal.at.returns-in-Ended-clause-passes c).After-free-free in
    let done = c.burst-done in
    over_behind laws free done.result.count done.ensures.count c.pay.new.self c.pay.ensures done.new.machine done.new.eyes done.new.reaches.items done.result.step done.ensures.leaves
    opening inputs stalls r had (may, (begun, less)) (step.Ended c.in-Ended.point) c.in-Ended.is (λ e. cc)

pub returns-in-Ended-clause-others : goal.returns-in-Ended-clause-others
returns-in-Ended-clause-others c = λ stream other.
    let laws : AreLaws = record { further = c.stretches.ensures.further; stalled = c.stretches.ensures.stalled } in
    let free = free_now (goal.at.returns-in-Ended-clause-others c).After-free-free in
    let done = c.burst-done in
    others_behind laws free done.result.count done.ensures.count c.pay.new.self c.pay.ensures done.new.machine done.new.eyes done.new.reaches.items done.result.step done.ensures.leaves
    done.ensures.of done.ensures.reaching done.ensures.same_taken done.ensures.same_outbox done.ensures.scene done.ensures.size done.ensures.taking done.ensures.others stream other

pub returns-in-Trapped-clause-passes : goal.returns-in-Trapped-clause-passes
returns-in-Trapped-clause-passes c = λ opening inputs stalls r had may begun less.
    let laws : AreLaws = record { further = c.stretches.ensures.further; stalled = c.stretches.ensures.stalled } in
    let free = free_now (goal.at.returns-in-Trapped-clause-passes c).After-free-free in
    let done = c.burst-done in
    over_behind laws free done.result.count done.ensures.count c.pay.new.self c.pay.ensures done.new.machine done.new.eyes done.new.reaches.items done.result.step done.ensures.leaves
    opening inputs stalls r had (may, (begun, less)) (step.Trapped c.in-Trapped.kind) c.in-Trapped.is (λ e. cc)

pub returns-in-Trapped-clause-others : goal.returns-in-Trapped-clause-others
returns-in-Trapped-clause-others c = λ stream other.
    let laws : AreLaws = record { further = c.stretches.ensures.further; stalled = c.stretches.ensures.stalled } in
    let free = free_now (goal.at.returns-in-Trapped-clause-others c).After-free-free in
    let done = c.burst-done in
    others_behind laws free done.result.count done.ensures.count c.pay.new.self c.pay.ensures done.new.machine done.new.eyes done.new.reaches.items done.result.step done.ensures.leaves
    done.ensures.of done.ensures.reaching done.ensures.same_taken done.ensures.same_outbox done.ensures.scene done.ensures.size done.ensures.taking done.ensures.others stream other

pub returns-clause-count : goal.returns-clause-count
returns-clause-count c =
    let g = c.requires.given in
    let some : 1 ≤ c.parts.cycles = elim c.parts-test.branch [
      | then-parts-test+else-not-spent w ↦ some_done c.args.plan.now c.args.start c.args.date c.args.most c.args.runner.now.machine c.args.eyes.now c.args.runner.now.charge g.0 g.1 g.2 g.3 g.4 (g.5, (g.6, g.7)) c.parts.cycles c.parts.runner.charge c.parts.invariant.charged
          (sym w.spent.ensures ∙ w.if-not-spent.false)
      | else-parts-test w ↦ omega (arith, c.requires.some, w.parts-test.false)
    ] in
    (some, c.parts.invariant.within)

pub returns-clause-passes : goal.returns-clause-passes
returns-clause-passes c = λ opening inputs stalls r had may begun less.
    let g = c.requires.given in
    let some : 1 ≤ c.parts.cycles = elim c.parts-test.branch [
      | then-parts-test+else-not-spent w ↦ some_done c.args.plan.now c.args.start c.args.date c.args.most c.args.runner.now.machine c.args.eyes.now c.args.runner.now.charge g.0 g.1 g.2 g.3 g.4 (g.5, (g.6, g.7)) c.parts.cycles c.parts.runner.charge c.parts.invariant.charged
          (sym w.spent.ensures ∙ w.if-not-spent.false)
      | else-parts-test w ↦ omega (arith, c.requires.some, w.parts-test.false)
    ] in
    let laws : AreLaws = record { further = c.stretches.ensures.further; stalled = c.stretches.ensures.stalled } in
    let kept = c.parts.invariant.kept in
    let charged = c.parts.invariant.charged in
    record {
      after = after_all laws kept c.parts.runner.charge charged some opening inputs stalls r had (may, (begun, less)) c.going.result c.going.ensures;
      did = done_all laws kept c.parts.runner.charge charged some opening inputs stalls r had (may, (begun, less)) c.going.result c.going.ensures;
      reached = kept.reached opening inputs stalls r had (may, (begun, less));
    }
