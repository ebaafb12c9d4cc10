-- What each loop of `part::add_parts` keeps.
use Rattle.std.proofs.Common.{◌≡◌, ◌++◌}
use Rattle.std.specs.Prelude.{◌==◌}
use Rattle.psy_history.specs.Processors.{processor_at}
use Rattle.psy_report.specs.Agents.{part_text}
use Rattle.psy_report.proofs.Own.{own_below}
use Rattle.psy_report.proofs.part.add_parts.Given as goal

abbrev pub invariant-agents : goal.invariant-agents
invariant-agents l =
    l.out.items ≡ l.fn.out.items ++ own_below (part_text l.form l.known.unit.now l.known.measures.now l.load.within)
    (λ agent. processor_at l.known.unit.now agent == l.load.processor) l.agent
