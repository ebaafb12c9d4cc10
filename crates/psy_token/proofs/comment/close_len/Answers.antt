-- What is left of the proof of `comment::close_len`.
use Rattle.std.proofs.Common.{ap, sym, ◌∙◌, ◌+◌}
use Rattle.std.proofs.lemmas.List.{take_rest}
use Rattle.psy_token.specs.Reading.{next_is}
use Rattle.psy_token.proofs.Comments.{close_len-passed}
use Rattle.psy_token.proofs.Booleans.{and-false, first-false}
use Rattle.psy_token.proofs.comment.close_len.Goals as goal
use Rattle.psy_token.proofs.comment.close_len.Goals.{else-inside-at-eq42-via-then-inside-at-eq42+else-next_is, else-inside-at-eq42-via-else-inside-at-eq42}

pub loop-at-preserved : goal.loop-at-preserved
loop-at-preserved c =
    close_len-passed c.args.inside.now c.loop-at.at c.loop-at-test.true
    (elim c.else-inside-at-eq42.branch [
      | else-inside-at-eq42-via-then-inside-at-eq42+else-next_is w ↦
          and-false _ _ (ap (next_is 47) (sym (take_rest c.args.inside.now (c.loop-at.at + 1))) ∙ sym w.next_is.ensures.value ∙ w.if-next_is.false)
      | else-inside-at-eq42-via-else-inside-at-eq42 w ↦ first-false _ _ _ w.if-inside-at-eq42.false
    ])
    c.loop-at.invariant
