-- What each loop of `tables::rows::publications_by_variable` keeps.
use Rattle.std.proofs.Common.{◌≡◌, ◌==◌}
use Rattle.std.specs.Prelude.{filter, map}
use Rattle.std.specs.List.{range_with_len}
use Rattle.psy_audit.specs.declared.said.Publication.{Publication}
use Rattle.psy_audit.proofs.tables.rows.publications_by_variable.Given as goal

-- The rows so far
abbrev pub invariant-variables : goal.invariant-variables
invariant-variables l = l.rows ≡ map (λ n. filter (λ (x : Publication). x.variable == n) l.publications) (range_with_len 0 l.variable)
