-- What is left of the proof of `engine::lines::tell_message`.
use Rattle.std.proofs.Common.{◌≡◌, ◌+◌, ◌<◌, ℕ, nat_le, nat_lt, filter, length, Some, w32, to_z, of_z, refl, sym, ap, ◌∙◌, arith}
use Rattle.std.proofs.lemmas.Int.{to_z-of_z}
use Rattle.psy_base.specs.declared.message.Message.{Message}
use Rattle.psy_log.specs.Forms.{message_line}
use Rattle.psy_kernel.proofs.ShownMessages.{seen_counted, seen_few, shown_at}
use Rattle.psy_kernel.proofs.engine.lines.tell_message.Goals as goal

pub returns-then-at-from-clause-told : goal.returns-then-at-from-clause-told
returns-then-at-from-clause-told c = (
  omega (arith, c.if-at-from.true, c.from.ensures, c.from-2.ensures, c.from-3.ensures, c.seen_before.ensures, c.seen-seen.ensures, seen_counted c.args.date c.args.queue.now.messages),
  refl,
)

pub prove-unreachable-requires : goal.prove-unreachable-requires
prove-unreachable-requires c = omega (arith, c.if-prove.true, c.held-held.ensures.number, c.seen-seen.ensures, seen_few c.args.date c.args.queue.now.messages)

pub returns-clause-told : goal.returns-clause-told
returns-clause-told c =
    let messages = c.args.queue.now.messages in
    let at : ℕ = c.from.result + c.from-2.result in
    let place : at ≡ length (filter (λ (m : Message). nat_lt m.visible c.args.date) messages) + c.args.shown = omega (arith, c.from.ensures, c.from-2.ensures, c.seen_before.ensures) in
    let small : at < length (filter (λ (m : Message). nat_le m.visible c.args.date) messages) = omega (arith, c.if-at-from.false, c.from-3.ensures, c.seen-seen.ensures) in
    let found = shown_at c.args.date messages c.args.shown at c.held-held.ensures.order place small in
    let value : c.value.result ≡ found.0.value = (let both : Some c.value.result ≡ Some found.0.value = sym c.value.ensures ∙ found.2 in cc) in
    let bits : to_z w32 (of_z w32 c.value.result) ≡ c.value.result = grind (arith, to_z-of_z) in
    (found.0, found.1, c.set.ensures ∙ ap (message_line c.args.date c.args.name.now) bits ∙ ap (message_line c.args.date c.args.name.now) value)
