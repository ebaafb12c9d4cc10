-- What is left of the proof of `table::publications_of`.
use Rattle.std.proofs.Common.{◌∙◌}
use Rattle.psy_audit.proofs.Firsts.{publications_found, publications_missed}
use Rattle.psy_audit.proofs.table.publications_of.Goals as goal

pub returns-in-Some : goal.returns-in-Some
returns-in-Some c =
    c.as_slice.ensures ∙ publications_found c.args.table.now c.requires.table c.args.variable c.in-Some.publications.now c.requires.variable c.in-Some.ensures.value

pub returns-in-None : goal.returns-in-None
returns-in-None c = publications_missed c.args.table.now c.requires.table c.args.variable c.requires.variable c.in-None.ensures.value
