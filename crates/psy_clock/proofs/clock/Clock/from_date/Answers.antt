-- What is left of the proof of `clock::Clock::from_date`.
use Rattle.std.proofs.Common.{rules, arith}
use Rattle.psy_clock.proofs.Counts.{count_below-le, from_is}
use Rattle.psy_clock.proofs.clock.Clock.from_date.Goals as goal

pub overflow_add-count_before : goal.overflow_add-count_before
overflow_add-count_before c = omega (arith, count_below-le c.args.self c.args.t)

pub at-requires-clause-few : goal.at-requires-clause-few
at-requires-clause-few c = omega (arith, count_below-le c.args.self c.args.t)

pub returns-clause-from : goal.returns-clause-from
returns-clause-from c = (from_is c.args.self c.args.t c.args.k _ c.requires.clock).1 (search rules)
