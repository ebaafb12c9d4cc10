-- What is left of the proof of `texts::write_rings`.
use Rattle.std.proofs.Common.{◌∙◌, arith}
use Rattle.psy_log.specs.Forms.{variable_size_line}
use Rattle.psy_tree.specs.declared.unit.VarDecl.{VarDecl}
use Rattle.psy_run.specs.Texts.{ring_lines}
use Rattle.psy_run.proofs.CutLemmas.{cut_line, grew_line, grew_lines}
use Rattle.psy_run.proofs.TextLemmas.{named_at, paired_length}
use Rattle.psy_run.proofs.texts.write_rings.Goals as goal

pub returns-in-Err-clause-wrote : goal.returns-in-Err-clause-wrote
returns-in-Err-clause-wrote g c =
    let at = named_at (λ (d : VarDecl). d.name) variable_size_line c.args.variables.now c.args.rings.now c.variables.number _ 0 _ (omega (arith, c.variables-test.true, c.min-count.ensures)) c.bytes.ensures c.index-variables-number.is in
    cut_line (ring_lines c.args.variables.now c.args.rings.now) _ _ _ c.variables.number _ at c.variables.invariant.grew _ c.in-Err.ensures.wrote

pub variables-preserved : goal.variables-preserved
variables-preserved g c =
    let at = named_at (λ (d : VarDecl). d.name) variable_size_line c.args.variables.now c.args.rings.now c.variables.number _ 0 _ (omega (arith, c.variables-test.true, c.min-count.ensures)) c.bytes.ensures c.index-variables-number.is in
    record {
      unfailed = c.in_default.ensures.unfailed ∙ c.variables.invariant.unfailed;
      grew = grew_line (ring_lines c.args.variables.now c.args.rings.now) _ _ _ c.variables.number _ at c.variables.invariant.grew c.in_default.ensures.wrote;
    }

pub returns-clause-wrote : goal.returns-clause-wrote
returns-clause-wrote g c =
    grew_lines (ring_lines c.args.variables.now c.args.rings.now) _ _ c.variables.number
    (omega (arith, c.variables-test.false, c.variables.auto.number-end, c.min-count.ensures, paired_length (λ (d : VarDecl). variable_size_line d.name) c.args.variables.now c.args.rings.now)) c.variables.invariant.grew
