-- What each loop of `sending::sends_by_point` keeps.
use Rattle.std.proofs.Common.{◌≡◌, ℕ, length}
use Rattle.psy_tree.specs.declared.unit.Unit.{Unit as Whole}
use Rattle.psy_meaning.specs.Flow.{IsMostSends}
use Rattle.psy_flow.specs.Agents.{IsAgentOf}
use Rattle.psy_flow.specs.Listed.{AreOf, AreSendsUpTo}
use Rattle.psy_flow.proofs.sending.sends_by_point.Given as goal

abbrev pub invariant-points : goal.invariant-points
invariant-points l = record {
  count : length l.lists.items ≡ length l.agent.points;
  sends : (unit : Whole) (number : ℕ) → IsAgentOf unit number l.agent → length unit.streams ≡ l.streams
      → AreOf l.agent (λ point. AreSendsUpTo (IsMostSends unit.functions l.agent point) l.to 0) l.lists.items;
}
