-- What each loop of `enters::enter_sends` keeps.
use Rattle.std.proofs.Common.{ℕ, [], List, drop}
use Rattle.psy_base.specs.declared.message.Message.{Message}
use Rattle.psy_queue.specs.Order.{Queued}
use Rattle.psy_history.specs.Visible.{messages_from}
use Rattle.psy_dates.specs.Messages.{HaveEntered, HaveRoom}
use Rattle.psy_dates.specs.Plans.{system_of}
use Rattle.psy_dates.proofs.enters.enter_sends.Given as goal

abbrev pub invariant-sends : goal.invariant-sends
invariant-sends l =
    let left : ℕ → List Message = λ stream. messages_from (system_of l.plan [] (λ agent. [])) stream l.agent l.end l.number (drop l.number l.sends) in
    record {
      room : HaveRoom left l.queues;
      enters : (after : List Queued) → HaveEntered left l.queues after → HaveEntered (λ stream. messages_from (system_of l.plan [] (λ agent. [])) stream l.agent l.end 0 l.sends) l.fn.queues after;
    }
