-- What is left of the proof of `clock::Clock::count_to`.
use Rattle.std.proofs.Common.{◌≡◌, ◌+◌, ◌-◌, ◌/◌, sym, arith}
use Rattle.psy_clock.specs.Dates.{count}
use Rattle.psy_clock.proofs.Counts.{count-early, count-late}
use Rattle.psy_clock.proofs.clock.Clock.count_to.Goals as goal

pub returns-then-t-first : goal.returns-then-t-first
returns-then-t-first c = sym (count-early c.args.self c.args.t c.requires.clock (omega arith))

pub returns : goal.returns
returns c =
    let e : count c.args.self c.args.t ≡ (c.args.t - c.args.self.first) / c.args.self.period + 1 = count-late c.args.self c.args.t c.requires.clock (omega arith) in
    cc
