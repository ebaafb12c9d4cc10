-- What is left of the proof of `table::segments_near`.
use Rattle.std.proofs.Common.{◌∙◌, ◌==◌, filter, ap}
use Rattle.psy_audit.specs.declared.rows.AgentRow.{AgentRow}
use Rattle.psy_audit.specs.declared.said.Segment.{Segment}
use Rattle.psy_audit.proofs.Firsts.{row_found, row_missed}
use Rattle.psy_audit.proofs.table.segments_near.Goals as goal

pub returns-in-Some : goal.returns-in-Some
returns-in-Some c =
    c.near.ensures ∙ ap (λ (r : AgentRow). filter (λ (s : Segment). s.number == c.args.number) r.segments) (row_found c.args.table.now c.requires.table c.args.agent c.in-Some.row.now c.requires.agent c.in-Some.ensures.value)

pub returns-in-None : goal.returns-in-None
returns-in-None c =
    ap (λ (r : AgentRow). filter (λ (s : Segment). s.number == c.args.number) r.segments) (row_missed c.args.table.now c.requires.table c.args.agent c.requires.agent c.in-None.ensures.value)
