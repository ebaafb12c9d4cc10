-- What is left of the proof of `turns::is_served`.
use Rattle.std.proofs.Common.{◌<◌, ◌==◌, sym, subst}
use Rattle.std.specs.List.{list_any}
use Rattle.std.proofs.lemmas.Bool.{and_parts, eqb-true}
use Rattle.psy_history.specs.Processors.{processor_at, processors}
use Rattle.psy_audit.specs.declared.said.Act.{Act}
use Rattle.psy_audit.specs.Traces.{acts_of}
use Rattle.psy_audit.proofs.Turning.{home_few}
use Rattle.psy_audit.proofs.turns.is_served.Goals as goal

pub is_turn-requires-clause-processor : goal.is_turn-requires-clause-processor
is_turn-requires-clause-processor c =
    let t = c.args.table.now in
    let s = c.args.segment.now in
    let unit = t.plan.now.unit in
    let parts = and_parts (processor_at unit s.agent == s.processor) (list_any (λ (a : Act). a.number == s.number) (acts_of s.agent t.lines.now)) (sym c.if-is_of_act.ensures) in
    subst (λ p. p < processors unit) (eqb-true (processor_at unit s.agent) s.processor parts.0) (home_few unit s.agent)
