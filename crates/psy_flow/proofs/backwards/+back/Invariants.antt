-- What each loop of `backwards::+back` keeps.
use Rattle.std.proofs.Common.{◌≡◌, ◌++◌, drop, reverse}
use Rattle.psy_meaning.specs.Rest.{rests_of_list}
use Rattle.psy_flow.specs.Costs.{counts_then}
use Rattle.psy_flow.specs.Tops.{called, and_on, capped_tops, stmts_tops}
use Rattle.psy_flow.proofs.backwards.+back.Given as goal

abbrev pub invariant-back-each : goal.invariant-back-each
invariant-back-each l = record {
  whole : l.behind ≡ capped_tops l.gauge (and_on (stmts_tops l.gauge l.wanted (called l.row) (drop l.place l.stmts)) l.fn.last);
  listed : l.counts.items ≡ l.fn.counts.items ++ reverse (counts_then l.gauge l.wanted (called l.row) (rests_of_list (drop l.place l.stmts)) l.fn.last);
}
