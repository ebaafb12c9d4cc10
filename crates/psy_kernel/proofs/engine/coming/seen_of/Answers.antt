-- What is left of the proof of `engine::coming::seen_of`.
use Rattle.std.proofs.Common.{Some, get_or, sym, ap, subst, ◌∙◌}
use Rattle.psy_clock.specs.Dates.{count}
use Rattle.psy_code.specs.Views.{past_of}
use Rattle.psy_dates.specs.Plans.{opened_of}
use Rattle.psy_history.specs.Actions.{publishing}
use Rattle.psy_kernel.specs.Acting.{IsLookIn}
use Rattle.psy_history.specs.Rings.{slot_of}
use Rattle.psy_kernel.proofs.engine.coming.seen_of.Goals as goal

pub see-requires-clause-known : goal.see-requires-clause-known
see-requires-clause-known c =
    let w = c.requires.may in
    let s = opened_of c.args.plan.now w.0 w.1 w.2 in
    w.5.known c.in-Some.variable c.in-Some.back (subst (IsLookIn s c.args.plan.now.code w.3 w.4) c.in-Some.is (c.look_of.ensures s w.3 w.4 w.5.charged w.5.running))

pub see-requires-clause-shown : goal.see-requires-clause-shown
see-requires-clause-shown c =
    let w = c.requires.may in
    let s = opened_of c.args.plan.now w.0 w.1 w.2 in
    w.5.shown c.in-Some.variable c.in-Some.back (subst (IsLookIn s c.args.plan.now.code w.3 w.4) c.in-Some.is (c.look_of.ensures s w.3 w.4 w.5.charged w.5.running))

pub returns-in-Some : goal.returns-in-Some
returns-in-Some c = λ opening inputs stalls r had may.
    let plan = c.args.plan.now in
    let s = opened_of plan opening inputs stalls in
    let variable = c.in-Some.variable in
    let back = c.in-Some.back in
    let seen = c.see.result in
    let its = c.see.ensures in
    let look = subst (IsLookIn s plan.code r had) c.in-Some.is (c.look_of.ensures s r had may.charged may.running) in (
      subst (λ v. IsLookIn s plan.code r had (Some (v, seen.back))) (sym its.variable) (subst (λ b. IsLookIn s plan.code r had (Some (variable, b))) (sym its.back) look),
      record {
        slot = its.slot ∙ ap (λ date. slot_of (get_or plan.sizes.rings variable 0) (count (publishing s variable) date) back) may.started
            ∙ ap (λ v. slot_of (get_or plan.sizes.rings v 0) (count (publishing s v) r.start) back) (sym its.variable)
            ∙ ap (slot_of (get_or plan.sizes.rings seen.variable 0) (count (publishing s seen.variable) r.start)) (sym its.back);
        value = ap (λ v. past_of r.view v seen.back) its.variable ∙ ap (past_of r.view variable) its.back ∙ sym (may.alike variable back look) ∙ its.value;
      },
    )
