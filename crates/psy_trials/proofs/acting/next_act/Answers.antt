-- What is left of the proof of `acting::next_act`.
use Rattle.std.proofs.Common.{◌∙◌, subst}
use Rattle.psy_trials.specs.Actions.{HasCopies, RestsAfter}
use Rattle.psy_trials.proofs.Actions.{after_end, has_copy}
use Rattle.psy_trials.proofs.acting.next_act.Goals as goal

pub copy-requires : goal.copy-requires
copy-requires c =
    let after = after_end _ _ _ _ _ _ c.in_default.not-Went c.in_ok-end.ensures.behind in
    has_copy c.args.unit.now c.args.scene.now.agent c.args.scene.now.variable c.execute.new.machine.machine c.requires.owned
    (subst (λ n. HasCopies c.args.unit.now n c.execute.new.machine.machine) (c.loop-executed.invariant.agent ∙ c.requires.agent) after.0)

pub returns-in_default : goal.returns-in_default
returns-in_default c =
    let after = after_end _ _ _ _ _ _ c.in_default.not-Went c.in_ok-end.ensures.behind in
    record {
      of = c.in_ok-end.ensures.of;
      agent = c.in_ok-end.ensures.agent ∙ c.loop-executed.invariant.agent;
      rests = subst (λ n. RestsAfter c.args.unit.now c.args.code.now n c.in_ok-end.end c.execute.new.machine.machine) c.loop-executed.invariant.agent after.1;
    }
