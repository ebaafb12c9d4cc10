-- What is left of the proof of `verdict::wrong_in`.
use Rattle.std.proofs.Common.{◌∙◌, ◌==◌, List, map, filter, ap}
use Rattle.std.specs.List.{range_with_len}
use Rattle.psy_audit.specs.declared.said.Publication.{Publication}
use Rattle.psy_audit.specs.Judging.{untied}
use Rattle.psy_audit.specs.Rows.{row_in}
use Rattle.psy_audit.specs.Traces.{publications_of}
use Rattle.psy_audit.proofs.Plans.{has_rings}
use Rattle.psy_audit.proofs.verdict.wrong_in.Goals as goal

pub agents_of-agents-requires : goal.agents_of-agents-requires
agents_of-agents-requires c = c.requires.plan.fits.bare

pub variables_of-variables-requires : goal.variables_of-variables-requires
variables_of-variables-requires c = c.requires.plan.fits.bare

pub first_wrong-requires-clause-table : goal.first_wrong-requires-clause-table
first_wrong-requires-clause-table c =
    let plan = c.args.plan.now in
    let lines = c.args.lines.now in
    record {
      rings = has_rings plan c.requires.plan;
      script = c.requires.script;
      declared = c.as_slice-order.ensures ∙ c.in_ok-declared.ensures ∙ ap (range_with_len 0) c.agents_of-agents.ensures;
      rows = c.in_ok-rows.ensures lines c.requires.acts (c.as_slice-stretches.ensures ∙ c.in_ok-segments.ensures)
          ∙ ap (λ n. map (row_in (untied plan) lines) (range_with_len 0 n)) c.agents_of-agents.ensures;
      publications = c.in_ok-published.ensures
          ∙ ap (λ (xs : List Publication). map (λ variable. filter (λ (p : Publication). p.variable == variable) xs) (range_with_len 0 c.variables_of-variables.result))
          (c.as_slice-told.ensures ∙ c.in_ok-publications.ensures)
          ∙ ap (λ n. map (λ variable. publications_of variable lines) (range_with_len 0 n)) c.variables_of-variables.ensures;
    }
