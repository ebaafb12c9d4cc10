-- What is left of the proof of `texts::write_check`.
use Rattle.psy_run.specs.Texts.{check_lines}
use Rattle.psy_run.proofs.CutLemmas.{wrote_cut, wrote_text}
use Rattle.psy_run.proofs.texts.write_check.Goals as goal

pub returns-clause-written : goal.returns-clause-written
returns-clause-written g c = wrote_text _ _ c.write_check_lines.result (check_lines c.args.unit.now c.args.sizes.now c.args.lines.now c.args.extent) c.write_check_lines.ensures.wrote

pub returns-clause-cut : goal.returns-clause-cut
returns-clause-cut g c = wrote_cut _ _ c.write_check_lines.result (check_lines c.args.unit.now c.args.sizes.now c.args.lines.now c.args.extent) c.write_check_lines.ensures.wrote
