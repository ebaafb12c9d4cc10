-- What is left of the proof of `enters::enter_sends`.
use Rattle.std.proofs.Common.{◌≡◌, ℕ, ◌+◌, ◌<◌, ◌≤◌, [], ◌∷◌, List, Some, drop, length, get_or, sym, ap, subst, ◌∙◌, arith}
use Rattle.std.specs.Prelude.{slice_get, slice_set, pos}
use Rattle.std.proofs.lemmas.Option.{slice_get-get_or}
use Rattle.psy_base.specs.declared.message.Message.{Message}
use Rattle.psy_code.specs.declared.look.Sent.{Sent}
use Rattle.psy_queue.specs.Order.{Queued, put_in_order}
use Rattle.psy_history.specs.Actions.{System}
use Rattle.psy_history.specs.Visible.{message_of, messages_from}
use Rattle.psy_dates.specs.Messages.{HaveRoom, with_entered}
use Rattle.psy_dates.specs.Plans.{system_of}
use Rattle.psy_dates.proofs.Entering.{enters_first, left_is, room_at, room_left, with_first}
use Rattle.psy_dates.proofs.lemmas.Sets.{get_set_other, get_set_there}
use Rattle.psy_dates.proofs.enters.enter_sends.Goals as goal

abbrev none : Sent
none = record { stream = 0; value = pos 0; after = 0; clock = 0 }

-- What is left to enter has room, told by its first message and the rest
room_told : (s : System) (agent end : ℕ) (sends : List Sent) (number : ℕ) (queues : List Queued) → number < length sends → HaveRoom (λ stream. messages_from s stream agent end number (drop number sends)) queues
    → HaveRoom (with_first (get_or sends number none).stream (message_of s agent end number (get_or sends number none)) (λ to. messages_from s to agent end (number + 1) (drop (number + 1) sends))) queues
room_told s agent end sends number queues l room stream queue is = subst (λ xs. length xs + length queue.messages ≤ queue.size) (left_is s agent end sends none number stream l) (room stream queue is)

pub enter-requires : goal.enter-requires
enter-requires c =
    let s = system_of c.args.plan.now [] (λ agent. []) in
    let sends = c.args.sends.now in
    let number = c.sends.number in
    let sent = get_or sends number none in
    let within : sent.stream < length c.sends.queues = omega (arith, (c.requires.sent number none c.sends-test.true).stream, c.sends.auto.queues, c.requires.queued) in
    room_at sent.stream (message_of s c.args.agent c.args.end number sent) (λ to. messages_from s to c.args.agent c.args.end (number + 1) (drop (number + 1) sends)) c.sends.queues _ (slice_get-get_or c.sends.queues sent.stream c.index-queues-sent.result within)
    (room_told s c.args.agent c.args.end sends number c.sends.queues c.sends-test.true c.sends.invariant.room)

pub sends-preserved : goal.sends-preserved
sends-preserved c =
    let s = system_of c.args.plan.now [] (λ agent. []) in
    let sends = c.args.sends.now in
    let number = c.sends.number in
    let sent = get_or sends number none in
    let m = message_of s c.args.agent c.args.end number sent in
    let rest : ℕ → List Message = λ to. messages_from s to c.args.agent c.args.end (number + 1) (drop (number + 1) sends) in
    let within : sent.stream < length c.sends.queues = omega (arith, (c.requires.sent number none c.sends-test.true).stream, c.sends.auto.queues, c.requires.queued) in
    let queue : Queued = get_or c.sends.queues sent.stream c.index-queues-sent.result in
    let at : slice_get c.sends.queues sent.stream ≡ Some queue = slice_get-get_or c.sends.queues sent.stream c.index-queues-sent.result within in
    let new : c.enter.new.self ≡ with_entered (m ∷ []) queue = c.enter.ensures ∙ ap (λ (m : Message). record queue { messages = put_in_order m queue.messages }) c.message_of.ensures in
    let after : List Queued = slice_set c.sends.queues sent.stream c.enter.new.self in
    let there : slice_get after sent.stream ≡ Some (with_entered (m ∷ []) queue) = get_set_there c.sends.queues sent.stream c.enter.new.self within ∙ ap Some new in
    let others : (stream : ℕ) → (stream ≡ sent.stream → ⊥) → slice_get after stream ≡ slice_get c.sends.queues stream = λ stream other. get_set_other c.sends.queues sent.stream stream c.enter.new.self other in
    record {
      room = room_left sent.stream m rest c.sends.queues queue at after there others (room_told s c.args.agent c.args.end sends number c.sends.queues c.sends-test.true c.sends.invariant.room);
      enters = λ last on. c.sends.invariant.enters last (λ stream held is.
          enters_first sent.stream m rest c.sends.queues queue at after there others last on stream held is ∙ ap (λ xs. Some (with_entered xs held)) (sym (left_is s c.args.agent c.args.end sends none number stream c.sends-test.true)));
    }
