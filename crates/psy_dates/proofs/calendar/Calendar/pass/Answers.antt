-- What is left of the proof of `calendar::Calendar::pass`.
use Rattle.std.proofs.Common.{◌<◌, All, subst, arith}
use Rattle.psy_dates.proofs.Calendars.{all_later}
use Rattle.psy_dates.proofs.calendar.Calendar.pass.Goals as goal

pub returns-then-self-date-clause-nexts : goal.returns-then-self-date-clause-nexts
returns-then-self-date-clause-nexts c =
    let late : All (λ next. c.args.date < next) c.self.inside.nexts.items = λ k d l. omega (arith, c.if-self-date.true, c.self.invariant k d l) in
    all_later c.dates.ensures.below c.args.clocks.now c.requires.clocks c.args.date c.args.self.now c.requires.nexts (subst (All (λ next. c.args.date < next)) c.self.view_is late)
