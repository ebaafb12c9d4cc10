-- What is left of the proof of `enters::enter_where`.
use Rattle.std.proofs.Common.{◌+◌, ◌≤◌, Bool, [], length, subst}
use Rattle.std.specs.Prelude.{if◌then◌else◌}
use Rattle.psy_history.specs.Visible.{messages_from}
use Rattle.psy_dates.specs.Plans.{system_of}
use Rattle.psy_dates.proofs.enters.enter_where.Goals as goal

pub enter_sends-requires-clause-room : goal.enter_sends-requires-clause-room
enter_sends-requires-clause-room c stream queue is =
    subst (λ (ends : Bool). length (if ends then messages_from (system_of c.args.plan.now [] (λ agent. [])) stream c.args.agent c.args.end 0 c.args.sends.now else []) + length queue.messages ≤ queue.size) c.if-ends.true (c.requires.room stream queue is)
