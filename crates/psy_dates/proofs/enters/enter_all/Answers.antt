-- What is left of the proof of `enters::enter_all`.
use Rattle.std.proofs.Common.{◌≡◌, ℕ, ◌+◌, ◌-◌, ◌<◌, List, [], All, length, get_or, sym, ap, subst, ◌∙◌, arith}
use Rattle.std.specs.Prelude.{if◌then◌else◌}
use Rattle.std.proofs.lemmas.List.{get_or_default}
use Rattle.psy_base.specs.declared.message.Message.{Message}
use Rattle.psy_meaning.specs.Kept.{IsSentOf}
use Rattle.psy_history.specs.Visible.{messages_from}
use Rattle.psy_dates.specs.Messages.{sends_of, sent_from}
use Rattle.psy_dates.specs.Movers.{ends_in}
use Rattle.psy_dates.specs.Plans.{system_of}
use Rattle.psy_dates.proofs.Entering.{all_entered, both_told, enters_both, enters_next, none_entered, room_for_rest, room_for_some, room_next}
use Rattle.psy_dates.proofs.lemmas.Names.{named_next}
use Rattle.psy_dates.proofs.enters.enter_all.Goals as goal

pub movers-init : goal.movers-init
movers-init c = none_entered (system_of c.args.plan.now [] (λ agent. [])) c.args.date c.args.seats.now c.args.outboxes.now (length c.args.plan.now.unit.agents) c.args.movers.now c.args.queues.now c.requires.movers c.requires.room

pub enter_where-requires-clause-sent : goal.enter_where-requires-clause-sent
enter_where-requires-clause-sent c ends =
    let agent = get_or c.args.movers.now c.movers.place 0 in
    let boxed : agent < length c.args.outboxes.now = c.requires.known c.movers.place 0 c.movers-test.true in
    let sends : c.sends.result.now ≡ sends_of c.args.outboxes.now agent = c.sends.ensures.sends ∙ ap (λ o. o.sends) (c.index-outboxes-agent.is ∙ get_or_default c.args.outboxes.now agent _ _ boxed) in
    subst (All (IsSentOf c.args.plan.now.unit)) (sym sends) (c.requires.sent agent (sym c.ends_there-ends.ensures ∙ ends))

pub enter_where-requires-clause-room : goal.enter_where-requires-clause-room
enter_where-requires-clause-room c =
    let s = system_of c.args.plan.now [] (λ agent. []) in
    let end = length c.args.plan.now.unit.agents in
    let names = c.args.movers.now in
    let agent = get_or names c.movers.place 0 in
    let boxed : agent < length c.args.outboxes.now = c.requires.known c.movers.place 0 c.movers-test.true in
    let sends : c.sends.result.now ≡ sends_of c.args.outboxes.now agent = c.sends.ensures.sends ∙ ap (λ o. o.sends) (c.index-outboxes-agent.is ∙ get_or_default c.args.outboxes.now agent _ _ boxed) in
    let within : agent < end = omega (arith, boxed, c.requires.boxed) in
    room_for_some _ _ _ (both_told s c.args.date c.args.seats.now c.args.outboxes.now agent end c.ends_there-ends.result c.sends.result.now within c.ends_there-ends.ensures sends)
    c.movers.queues c.movers.queues (room_next s c.args.date c.args.seats.now c.args.outboxes.now end names c.movers.place c.args.queues.now c.movers.queues c.movers.invariant c.movers-test.true)

pub movers-preserved : goal.movers-preserved
movers-preserved c =
    let s = system_of c.args.plan.now [] (λ agent. []) in
    let date = c.args.date in
    let seats = c.args.seats.now in
    let outboxes = c.args.outboxes.now in
    let end = length c.args.plan.now.unit.agents in
    let names = c.args.movers.now in
    let agent = get_or names c.movers.place 0 in
    let boxed : agent < length outboxes = c.requires.known c.movers.place 0 c.movers-test.true in
    let sends : c.sends.result.now ≡ sends_of outboxes agent = c.sends.ensures.sends ∙ ap (λ o. o.sends) (c.index-outboxes-agent.is ∙ get_or_default outboxes agent _ _ boxed) in
    let within : agent < end = omega (arith, boxed, c.requires.boxed) in
    let both = both_told s date seats outboxes agent end c.ends_there-ends.result c.sends.result.now within c.ends_there-ends.ensures sends in
    let some : ℕ → List Message = λ stream. if c.ends_there-ends.result then messages_from s stream agent date 0 c.sends.result.now else [] in
    let rest : ℕ → List Message = sent_from s date seats outboxes (agent + 1) (end - (agent + 1)) in
    let same : length c.enter_where.new.queues ≡ length c.movers.queues = c.enter_where.auto.queues in
    let before = c.movers.invariant in
    record {
      next = agent + 1;
      within = omega (arith, within);
      room = room_for_rest some rest _ both c.movers.queues c.enter_where.new.queues same c.enter_where.ensures (room_next s date seats outboxes end names c.movers.place c.args.queues.now c.movers.queues before c.movers-test.true);
      enters = λ last on. enters_next s date seats outboxes end names c.movers.place c.args.queues.now c.movers.queues before c.movers-test.true last (enters_both some rest _ both c.movers.queues c.enter_where.new.queues same c.enter_where.ensures last on);
      left = (named_next (ends_in date seats) end before.next names c.movers.place c.movers-test.true before.left).3;
    }

pub returns : goal.returns
returns c = all_entered (system_of c.args.plan.now [] (λ agent. [])) c.args.date c.args.seats.now c.args.outboxes.now (length c.args.plan.now.unit.agents) c.args.movers.now c.movers.place c.args.queues.now c.movers.queues c.movers.invariant c.movers-test.false
