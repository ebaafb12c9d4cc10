-- What each loop of `tables::rows::publications_of` keeps.
use Rattle.std.proofs.Common.{◌≡◌, ◌==◌, take}
use Rattle.std.specs.Prelude.{filter}
use Rattle.psy_audit.specs.declared.said.Publication.{Publication}
use Rattle.psy_audit.proofs.tables.rows.publications_of.Given as goal

-- Those among the items so far
abbrev pub invariant-publications : goal.invariant-publications
invariant-publications l = l.its ≡ filter (λ (x : Publication). x.variable == l.variable) (take l.publication-index l.publications)
