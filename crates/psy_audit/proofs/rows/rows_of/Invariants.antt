-- What each loop of `rows::rows_of` keeps.
use Rattle.std.proofs.Common.{◌≡◌, map}
use Rattle.std.specs.List.{range_with_len}
use Rattle.psy_audit.specs.Judging.{untied}
use Rattle.psy_audit.specs.Rows.{row_in}
use Rattle.psy_audit.specs.Traces.{Lines, acts, segments}
use Rattle.psy_audit.proofs.rows.rows_of.Given as goal

-- The rows so far
abbrev pub invariant-agents : goal.invariant-agents
invariant-agents l = (all : Lines) → l.acts ≡ acts all → l.segments ≡ segments all → l.rows ≡ map (row_in (untied l.plan) all) (range_with_len 0 l.agent)
