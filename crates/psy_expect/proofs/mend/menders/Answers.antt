-- What is left of the proof of `mend::menders`.
use Rattle.std.proofs.Common.{refl, sym, subst, ◌∙◌, [], List}
use Rattle.psy_expect.specs.declared.terminal.Terminal.{Terminal}
use Rattle.psy_expect.specs.Mending.{Mends}
use Rattle.psy_expect.specs.Terminals.{Picks, none}
use Rattle.psy_expect.proofs.Picked.{picks_yes, picks_no}
use Rattle.psy_expect.proofs.mend.menders.Goals as goal
use Rattle.psy_expect.proofs.mend.menders.Goals.{then-branch+in_ok-push, else-branch}

pub each-init : goal.each-init
each-init c = record { kept = refl; picked = subst (λ (ts : List Terminal). Picks (Mends c.args.front.now c.args.around) [] ts) (sym c.new-mends.ensures.items) none }

pub each-preserved : goal.each-preserved
each-preserved c = record {
  kept = c.in_ok-mends_it.ensures.same ∙ c.each.invariant.kept;
  picked =
      let tells = rw c.each.invariant.kept at c.in_ok-mends_it.ensures.tells in
      elim c.if-branch.branch [
        | then-branch+in_ok-push w ↦
            rw w.mends-is (rw w.in_ok-push.ensures.items (picks_yes (Mends c.args.front.now c.args.around) c.args.among.now _ c.each.terminal-index _ _ c.each-test.true w.if-branch.true tells c.each.invariant.picked))
        | else-branch w ↦ rw w.mends-is (picks_no (Mends c.args.front.now c.args.around) c.args.among.now _ c.each.terminal-index _ _ c.each-test.true w.if-branch.false tells c.each.invariant.picked)
      ];
}
