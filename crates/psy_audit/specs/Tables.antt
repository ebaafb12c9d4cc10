-- What the judge of a trace has at hand.
use Rattle.std.specs.Prelude.{◌≡◌, map, length}
use Rattle.std.specs.List.{range_with_len}
use Rattle.psy_history.specs.Scripts.{IsScript}
use Rattle.psy_audit.specs.declared.table.Table.{Table}
use Rattle.psy_audit.specs.Judging.{HasRings, judged_of}
use Rattle.psy_audit.specs.Rows.{row_in}
use Rattle.psy_audit.specs.Traces.{Judged, publications_of}

-- What the trace is judged by
abbrev pub judge : Table → Judged
judge t = judged_of t.plan.now t.script.now

-- Its tables are those of the trace, and its plan and its script are what they have to be.
pub record IsTable (t : Table) : Type 0 where
  pub rings : HasRings t.plan.now
  pub script : IsScript t.plan.now.unit t.script.now
  pub declared : t.declared.now ≡ range_with_len 0 (length t.plan.now.unit.agents)
  pub rows : t.rows.now ≡ map (row_in (judge t) t.lines.now) (range_with_len 0 (length t.plan.now.unit.agents))
  pub publications : t.publications.now ≡ map (λ variable. publications_of variable t.lines.now) (range_with_len 0 (length t.plan.now.unit.variables))
