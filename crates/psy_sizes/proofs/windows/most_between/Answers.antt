-- What is left of the proof of `windows::most_between`.
use Rattle.std.proofs.Common.{◌+◌, ◌-◌, ◌/◌, ap, sym, subst, ◌∙◌, arith}
use Rattle.psy_base.specs.Extremes.{IsGreatest}
use Rattle.psy_sizes.specs.Windows.{HasDates}
use Rattle.psy_sizes.proofs.Distances.{gap, gap_found, most_dates, no_dates}
use Rattle.psy_sizes.proofs.windows.most_between.Goals as goal

pub returns-then-due-nearest : goal.returns-then-due-nearest
returns-then-due-nearest c cycle h inner =
    let clock = c.args.clock in
    let near = gap_found c.from-shared.result c.args.shared c.from-period.result clock.period c.from.result clock.first c.args.phase c.from-shared.ensures c.from-period.ensures c.from.ensures c.requires.clock.first in
    no_dates clock c.requires.clock (λ t i. c.dates.ensures.count clock t i c.requires.clock) cycle c.args.phase c.args.shared h inner c.args.due (omega (arith, near, c.if-due-nearest.true))

pub returns : goal.returns
returns c cycle h inner =
    let clock = c.args.clock in
    let due = c.args.due in
    let near = gap_found c.from-shared.result c.args.shared c.from-period.result clock.period c.from.result clock.first c.args.phase c.from-shared.ensures c.from-period.ensures c.from.ensures c.requires.clock.first in
    let far = gap c.args.shared (c.args.phase + (clock.period - clock.first)) in
    subst (IsGreatest (HasDates clock cycle c.args.phase due)) (sym (ap (λ n. (due - 1 - n) / c.from-period.result + 1) near ∙ ap (λ n. (due - 1 - far) / n + 1) c.from-period.ensures))
    (most_dates clock c.requires.clock (λ t i. c.dates.ensures.count clock t i c.requires.clock) cycle c.args.phase c.args.shared h inner due (omega (arith, near, c.if-due-nearest.false)))
