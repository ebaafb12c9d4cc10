-- What is left of the proof of `part::add_parts`.
use Rattle.std.specs.Prelude.{◌==◌}
use Rattle.psy_history.specs.Processors.{processor_at}
use Rattle.psy_report.specs.Agents.{part_text}
use Rattle.psy_report.proofs.Own.{own_line_more}
use Rattle.psy_report.proofs.part.add_parts.Goals as goal

pub agents-preserved : goal.agents-preserved
agents-preserved c =
    let unit = c.args.known.unit.now in
    let load = c.args.load in
    own_line_more (part_text c.args.form.now unit c.args.known.measures.now load.within) (λ agent. processor_at unit agent == load.processor)
    c.args.out.now.items c.agents.out.items c.add_part.new.out.items c.agents.agent c.agents.invariant c.in_ok-add_part.ensures
