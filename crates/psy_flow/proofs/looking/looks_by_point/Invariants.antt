-- What each loop of `looking::looks_by_point` keeps.
use Rattle.std.proofs.Common.{◌≡◌, ℕ, length}
use Rattle.psy_tree.specs.declared.unit.Unit.{Unit as Whole}
use Rattle.psy_flow.specs.Agents.{IsAgentOf}
use Rattle.psy_flow.specs.Listed.{AreLooksBelow, AreOf}
use Rattle.psy_flow.proofs.looking.looks_by_point.Given as goal

abbrev pub invariant-variables : goal.invariant-variables
invariant-variables l = record {
  count : length l.lists.items ≡ length l.agent.points;
  looks : (unit : Whole) (number : ℕ) → IsAgentOf unit number l.agent → AreOf l.agent (λ point. AreLooksBelow unit.functions l.agent point l.variable) l.lists.items;
}
