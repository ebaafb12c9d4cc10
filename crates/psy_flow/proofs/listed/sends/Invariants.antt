-- What each loop of `listed::sends` keeps.
use Rattle.std.proofs.Common.{◌≡◌, ℕ, List, length, slice_get, Some}
use Rattle.psy_base.specs.declared.ways.SendWay.{SendWay}
use Rattle.psy_flow.proofs.WayRows.{AllSendsAt}
use Rattle.psy_flow.proofs.listed.sends.Given as goal

abbrev pub invariant-agents : goal.invariant-agents
invariant-agents l = record {
  sends : length l.sends ≡ l.number;
  each : (number : ℕ) (lists : List (List SendWay)) → slice_get l.sends number ≡ Some lists → AllSendsAt l.unit number lists;
}
