-- What is left of the proof of `feeding::fed_of`.
use Rattle.std.proofs.Common.{◌≡◌, Err, Some, ap, sym, subst}
use Rattle.std.specs.Prelude.{codes}
use Rattle.psy_log.specs.Forms.{line_of, refused_line}
use Rattle.psy_script.specs.Faults.{line_number}
use Rattle.psy_view.specs.Views.{RefusesInputs, at_line, many_lines}
use Rattle.psy_view.proofs.PlanLemmas.{line_by}
use Rattle.psy_view.proofs.feeding.fed_of.Goals as goal

pub returns-in_ok-refused-in-Err-Line : goal.returns-in_ok-refused-in-Err-Line
returns-in_ok-refused-in-Err-Line c =
    let kind = c.in-Err-Line.kind in
    let line = c.in-Err-Line.line in
    let told = line_of c.refused_at.result in
    let is : told ≡ refused_line (codes "inputs") (line_number kind) (Some line) =
    line_by _ _ _ _ told c.in-Err-Line.kind-is c.in-Err-Line.line-is c.refused_at.ensures.line in
    let refuses = subst (RefusesInputs c.args.unit.now c.args.fed.now) (sym is)
    (at_line kind line (c.in-Err-Line.ensures.fault kind line (ap Err c.in-Err-Line.field-0-is))) in
    (c.in_ok-refused-in-Err-Line.ensures.status, (told, refuses, c.in_ok-refused-in-Err-Line.ensures.told))

pub returns-in_ok-refused-in-Err-Lines : goal.returns-in_ok-refused-in-Err-Lines
returns-in_ok-refused-in-Err-Lines c =
    let told = line_of c.too_many_lines.result in
    let refuses = subst (RefusesInputs c.args.unit.now c.args.fed.now) (sym c.too_many_lines.ensures.line)
    (many_lines (c.in-Err-Lines.ensures.lines (ap Err c.in-Err-Lines.field-0-is))) in
    (c.in_ok-refused-in-Err-Lines.ensures.status, (told, refuses, c.in_ok-refused-in-Err-Lines.ensures.told))
