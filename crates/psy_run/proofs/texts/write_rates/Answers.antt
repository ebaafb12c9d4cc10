-- What is left of the proof of `texts::write_rates`.
use Rattle.std.proofs.Common.{◌∙◌, List, ℕ, arith}
use Rattle.psy_log.specs.Forms.{rate_line}
use Rattle.psy_rate.specs.declared.line.Rate.{Rate}
use Rattle.psy_tree.specs.declared.unit.AgentDecl.{AgentDecl}
use Rattle.psy_run.specs.Texts.{rate_lines}
use Rattle.psy_run.proofs.CutLemmas.{cut_line, grew_line, grew_lines}
use Rattle.psy_run.proofs.TextLemmas.{named_at, paired_length}
use Rattle.psy_run.proofs.texts.write_rates.Goals as goal

-- The line above a demand, under a name
abbrev line_under : List ℕ → Rate → List ℕ
line_under name line = rate_line name line.rate line.intercept

pub returns-in-Err-clause-wrote : goal.returns-in-Err-clause-wrote
returns-in-Err-clause-wrote g c =
    let at = named_at (λ (d : AgentDecl). d.name) line_under c.args.agents.now c.args.lines.now c.agents.number _ (record { rate = 0; intercept = 0 }) _ (omega (arith, c.agents-test.true, c.min-count.ensures)) c.bytes.ensures c.index-agents-number.is in
    cut_line (rate_lines c.args.agents.now c.args.lines.now) _ _ _ c.agents.number _ at c.agents.invariant.grew _ c.in-Err.ensures.wrote

pub agents-preserved : goal.agents-preserved
agents-preserved g c =
    let at = named_at (λ (d : AgentDecl). d.name) line_under c.args.agents.now c.args.lines.now c.agents.number _ (record { rate = 0; intercept = 0 }) _ (omega (arith, c.agents-test.true, c.min-count.ensures)) c.bytes.ensures c.index-agents-number.is in
    record {
      unfailed = c.in_default.ensures.unfailed ∙ c.agents.invariant.unfailed;
      grew = grew_line (rate_lines c.args.agents.now c.args.lines.now) _ _ _ c.agents.number _ at c.agents.invariant.grew c.in_default.ensures.wrote;
    }

pub returns-clause-wrote : goal.returns-clause-wrote
returns-clause-wrote g c =
    grew_lines (rate_lines c.args.agents.now c.args.lines.now) _ _ c.agents.number
    (omega (arith, c.agents-test.false, c.agents.auto.number-end, c.min-count.ensures, paired_length (λ (d : AgentDecl). line_under d.name) c.args.agents.now c.args.lines.now)) c.agents.invariant.grew
