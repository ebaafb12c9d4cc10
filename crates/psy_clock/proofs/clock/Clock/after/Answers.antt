-- What is left of the proof of `clock::Clock::after`.
use Rattle.std.proofs.Common.{rules, arith}
use Rattle.psy_clock.proofs.Counts.{count-le, after_is}
use Rattle.psy_clock.proofs.clock.Clock.after.Goals as goal

pub overflow_add-count_to : goal.overflow_add-count_to
overflow_add-count_to c = omega (arith, count-le c.args.self c.args.t)

pub at-requires-clause-few : goal.at-requires-clause-few
at-requires-clause-few c = omega (arith, count-le c.args.self c.args.t)

pub returns-clause-after : goal.returns-clause-after
returns-clause-after c = (after_is c.args.self c.args.t c.args.k _ c.requires.clock c.requires.some).1 (search rules)
