-- What each loop of `worst_costs::worsts` keeps.
use Rattle.std.proofs.Common.{◌≡◌, ℕ, List, length, slice_get, Some}
use Rattle.psy_tree.specs.declared.unit.AgentDecl.{AgentDecl}
use Rattle.psy_flow.specs.Costs.{AreCosts}
use Rattle.psy_flow.proofs.worst_costs.worsts.Given as goal

abbrev pub invariant-agents : goal.invariant-agents
invariant-agents l = record {
  count : length l.costs ≡ l.number;
  each : (number : ℕ) (list : List ℕ) → slice_get l.costs number ≡ Some list → (agent : AgentDecl) → slice_get l.unit.agents number ≡ Some agent → AreCosts l.unit agent list;
}
