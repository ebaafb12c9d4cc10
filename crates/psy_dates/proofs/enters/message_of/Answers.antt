-- What is left of the proof of `enters::message_of`.
use Rattle.std.proofs.Common.{◌<◌, ◌≤◌, ◌+◌, ◌*◌, sym, subst, arith}
use Rattle.std.proofs.lemmas.Nat.{mul-le}
use Rattle.psy_dates.proofs.enters.message_of.Goals as goal

pub after-requires-clause-early : goal.after-requires-clause-early
after-requires-clause-early c =
    let clock = c.clock_of.result in
    let sent = c.args.sent in
    let near : c.from_date-visible.result < c.args.end + (sent.after + 1) * clock.period =
    subst (λ d. d < c.args.end + (sent.after + 1) * clock.period) (sym c.from_date-visible.ensures.value) (c.distances.ensures.from_near clock c.args.end sent.after c.clock_of.ensures.lawful) in
    let most : (sent.after + 1) * clock.period ≤ 1025 * 10000 = mul-le (sent.after + 1) clock.period 1025 10000 (omega (arith, c.requires.sent.after)) c.clock_of.ensures.lawful.period in
    omega (arith, near, most, c.requires.early)
