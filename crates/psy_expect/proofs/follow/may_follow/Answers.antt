-- What is left of the proof of `follow::may_follow`.
use Rattle.std.proofs.Common.{◌∙◌}
use Rattle.psy_expect.proofs.Followed.{may_follow_by}
use Rattle.psy_expect.proofs.follow.may_follow.Goals as goal

pub returns-clause-tells : goal.returns-clause-tells
returns-clause-tells c =
    may_follow_by c.args.front.now c.as_slice.result.now c.in_ok-token_of.field-0 c.args.terminal c.in_ok-is_front.is_front
    (c.as_slice.ensures ∙ c.in_ok-push.ensures.ok) c.in_ok-token_of.ensures.is c.in_ok-is_front.ensures
