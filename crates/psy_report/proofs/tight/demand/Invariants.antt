-- What each loop of `tight::demand` keeps.
use Rattle.std.proofs.Common.{◌≡◌, ◌*◌, ◌^◌, ◌≤◌, sum_by}
use Rattle.std.specs.List.{range_with_len}
use Rattle.psy_tree.specs.Parts.{homes}
use Rattle.psy_report.specs.Tightness.{demand_of}
use Rattle.psy_report.proofs.tight.demand.Given as goal

abbrev pub invariant-agents : goal.invariant-agents
invariant-agents l = record {
  sum : l.sum ≡ sum_by (demand_of l.lists (homes l.unit) l.processor l.within) (range_with_len 0 l.agent);
  small : l.sum ≤ l.agent * 2 ^ 50;
}
