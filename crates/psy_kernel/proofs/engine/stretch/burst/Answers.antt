-- What is left of the proof of `engine::stretch::burst`.
use Rattle.std.proofs.Common.{◌≡◌, ℕ, ◌+◌, ◌≤◌, refl, subst, arith}
use Rattle.psy_dates.specs.Plans.{opened_of}
use Rattle.psy_machine.specs.declared.machine.Step.TheVariants as step
use Rattle.psy_machine.specs.Stepping.{Answers}
use Rattle.psy_kernel.specs.Stretches.{IsOnWay}
use Rattle.psy_kernel.proofs.Bursts.{Pays, able, done, near, none_kept, one_kept, others_now, over, permitted, reached_now, still_kept}
use Rattle.psy_kernel.proofs.engine.stretch.burst.Goals as goal

pub steps-init : goal.steps-init
steps-init c = record {
  within = omega arith;
  kept = none_kept (Pays c.args.most) c.args.plan.now c.args.start c.args.date c.args.most c.args.machine.now c.args.eyes.now c.args.reaches.now.items c.requires.of;
}

pub step-step-requires-clause-able : goal.step-step-requires-clause-able
step-step-requires-clause-able c = let w = c.requires.given in able (still_kept c.steps.invariant.kept) c.steps-test.true refl w.0 w.1 w.2 w.3 w.4 (w.5, w.6)

pub step-step-requires-clause-permitted : goal.step-step-requires-clause-permitted
step-step-requires-clause-permitted c = let w = c.requires.given in permitted (still_kept c.steps.invariant.kept) c.steps-test.true refl w.0 w.1 w.2 w.3 w.4 (w.5, w.6)

pub note-requires-clause-near : goal.note-requires-clause-near
note-requires-clause-near c = let w = c.requires.given in near (still_kept c.steps.invariant.kept) c.steps-test.true refl w.0 w.1 w.2 w.3 w.4 (w.5, w.6) c.step-step.new.look c.step-step.ensures.window

pub steps-preserved : goal.steps-preserved
steps-preserved c = record {
  within = omega (arith, c.steps-test.true);
  kept = one_kept (still_kept c.steps.invariant.kept) c.steps-test.true refl c.step-step.new.look c.step-step.ensures.window c.step-step.ensures.kept c.note.new.reaches.items c.note.ensures.reaching c.note.ensures.reached c.step-step.new.self c.step-step.ensures.machine (subst (Answers _) c.in-Went.is c.step-step.ensures.answer);
}

pub returns-in-Ended-clause-leaves : goal.returns-in-Ended-clause-leaves
returns-in-Ended-clause-leaves c = λ opening inputs stalls r had may pays.
    let kept = still_kept c.steps.invariant.kept in
    let more = c.steps-test.true in
    let next = c.step-step.new in
    let did = c.step-step.ensures in
    let answers = subst (Answers _) c.in-Ended.is did.answer in
    let reached = reached_now kept more refl next.look did.window did.kept c.note.new.reaches.items c.note.ensures.reaching c.note.ensures.reached opening inputs stalls r had (may, pays) in
    record {
      on_way = λ went. cc;
      reached = reached;
      over = λ other. record {
        after = over kept more refl opening inputs stalls r had (may, pays) next.look did.window did.kept next.self did.machine (step.Ended c.in-Ended.point) answers;
        did = done kept more refl opening inputs stalls r had (may, pays) next.look did.window did.kept next.self did.machine (step.Ended c.in-Ended.point) answers;
        reached = reached;
      };
    }

pub returns-in-Ended-clause-others : goal.returns-in-Ended-clause-others
returns-in-Ended-clause-others c = λ stream other.
    others_now (still_kept c.steps.invariant.kept) c.steps-test.true refl c.step-step.new.look c.step-step.ensures.window c.step-step.ensures.kept c.note.new.reaches.items c.note.ensures.reaching c.note.ensures.reached stream other

pub returns-in-Trapped-clause-leaves : goal.returns-in-Trapped-clause-leaves
returns-in-Trapped-clause-leaves c = λ opening inputs stalls r had may pays.
    let kept = still_kept c.steps.invariant.kept in
    let more = c.steps-test.true in
    let next = c.step-step.new in
    let did = c.step-step.ensures in
    let answers = subst (Answers _) c.in-Trapped.is did.answer in
    let reached = reached_now kept more refl next.look did.window did.kept c.note.new.reaches.items c.note.ensures.reaching c.note.ensures.reached opening inputs stalls r had (may, pays) in
    record {
      on_way = λ went. cc;
      reached = reached;
      over = λ other. record {
        after = over kept more refl opening inputs stalls r had (may, pays) next.look did.window did.kept next.self did.machine (step.Trapped c.in-Trapped.kind) answers;
        did = done kept more refl opening inputs stalls r had (may, pays) next.look did.window did.kept next.self did.machine (step.Trapped c.in-Trapped.kind) answers;
        reached = reached;
      };
    }

pub returns-in-Trapped-clause-others : goal.returns-in-Trapped-clause-others
returns-in-Trapped-clause-others c = λ stream other.
    others_now (still_kept c.steps.invariant.kept) c.steps-test.true refl c.step-step.new.look c.step-step.ensures.window c.step-step.ensures.kept c.note.new.reaches.items c.note.ensures.reaching c.note.ensures.reached stream other

-- All of them are done
all_done : (count most : ℕ) → count ≤ most → most ≤ count → count ≡ most
all_done count most a b = omega (arith, a, b)

pub returns-clause-leaves : goal.returns-clause-leaves
returns-clause-leaves c = λ opening inputs stalls r had may pays.
    let kept = c.steps.invariant.kept in
    record {
      on_way = λ went. subst (λ n. IsOnWay (opened_of c.args.plan.now opening inputs stalls) c.args.plan.now.code r (had + n) c.steps.machine c.steps.eyes.outbox.now.sends c.steps.eyes.taken.now.items)
          (all_done c.steps.count c.args.most c.steps.invariant.within c.steps-test.false) (kept.on_way opening inputs stalls r had (may, pays));
      reached = kept.reached opening inputs stalls r had (may, pays);
      over = λ other. absurd (other refl);
    }
