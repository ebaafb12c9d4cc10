-- What is left of the proof of `faults::is_published`.
use Rattle.std.proofs.Common.{◌∙◌, length, nat_le, ap}
use Rattle.psy_clock.specs.Dates.{count}
use Rattle.psy_audit.specs.Tables.{judge}
use Rattle.psy_audit.specs.Traces.{publishing_in}
use Rattle.psy_audit.proofs.faults.is_published.Goals as goal

pub returns : goal.returns
returns c =
    let t = c.args.table.now in
    c.are_published.ensures ∙ ap (nat_le (count (publishing_in (judge t) c.args.variable) t.plan.now.until)) (ap length c.publications_of.ensures)
