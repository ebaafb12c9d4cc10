-- What each loop of `sending::add_sends` keeps.
use Rattle.std.proofs.Common.{◌≡◌, ℕ, length}
use Rattle.psy_tree.specs.declared.unit.Unit.{Unit as Whole}
use Rattle.psy_meaning.specs.Flow.{IsMostSends}
use Rattle.psy_flow.specs.Agents.{IsAgentOf}
use Rattle.psy_flow.specs.Listed.{AreOf, AreSendsUpTo}
use Rattle.psy_flow.proofs.sending.add_sends.Given as goal

abbrev pub invariant-streams : goal.invariant-streams
invariant-streams l = record {
  count : length l.lists ≡ length l.fn.lists;
  sends : (unit : Whole) (number : ℕ) → IsAgentOf unit number l.agent → AreOf l.agent (λ point. AreSendsUpTo (IsMostSends unit.functions l.agent point) l.to 0) l.fn.lists
      → AreOf l.agent (λ point. AreSendsUpTo (IsMostSends unit.functions l.agent point) l.to l.stream) l.lists;
}
