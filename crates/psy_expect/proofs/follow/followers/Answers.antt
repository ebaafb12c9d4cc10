-- What is left of the proof of `follow::followers`.
use Rattle.std.proofs.Common.{refl, sym, subst, ◌∙◌, [], List}
use Rattle.psy_expect.specs.declared.terminal.Terminal.{Terminal}
use Rattle.psy_expect.specs.Terminals.{MayFollow, Picks, none}
use Rattle.psy_expect.proofs.Picked.{picks_yes, picks_no}
use Rattle.psy_expect.proofs.follow.followers.Goals as goal
use Rattle.psy_expect.proofs.follow.followers.Goals.{then-branch+in_ok-push, else-branch}

pub each-init : goal.each-init
each-init c = record { kept = refl; picked = subst (λ (ts : List Terminal). Picks (MayFollow c.args.front.now) [] ts) (sym c.new-told.ensures.items) none }

pub each-preserved : goal.each-preserved
each-preserved c = record {
  kept = c.in_ok-may_follow.ensures.same ∙ c.each.invariant.kept;
  picked =
      let tells = rw c.each.invariant.kept at c.in_ok-may_follow.ensures.tells in
      elim c.if-branch.branch [
        | then-branch+in_ok-push w ↦
            rw w.told-is (rw w.in_ok-push.ensures.items (picks_yes (MayFollow c.args.front.now) c.args.among.now _ c.each.terminal-index _ _ c.each-test.true w.if-branch.true tells c.each.invariant.picked))
        | else-branch w ↦ rw w.told-is (picks_no (MayFollow c.args.front.now) c.args.among.now _ c.each.terminal-index _ _ c.each-test.true w.if-branch.false tells c.each.invariant.picked)
      ];
}
