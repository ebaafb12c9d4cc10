-- What each loop of `code_lists::all_sends` keeps.
use Rattle.std.proofs.Common.{◌≡◌, ◌<◌, ℕ, List, false, length, replicate, slice_get, Some}
use Rattle.psy_base.specs.declared.ways.SendWay.{SendWay}
use Rattle.psy_tree.specs.Parts.{agent_at}
use Rattle.psy_meaning.specs.CodeWays.{AreCodeSends, budget_of, place_of}
use Rattle.psy_flow.specs.CodeLists.{HaveMostsOf}
use Rattle.psy_flow.specs.Listed.{AreOf}
use Rattle.psy_flow.proofs.code_lists.all_sends.Given as goal

abbrev pub invariant-agents : goal.invariant-agents
invariant-agents l = record {
  marks : l.marks ≡ replicate (length l.code.instrs) false;
  row : length l.row ≡ length l.code.instrs;
  sends : length l.sends ≡ l.number;
  each : (number : ℕ) (lists : List (List SendWay)) → slice_get l.sends number ≡ Some lists
      → AreOf (agent_at l.unit number) (λ point. AreCodeSends l.code.instrs (place_of l.code number point) (budget_of l.unit number point)) lists;
  judged : (number : ℕ) → number < l.number → HaveMostsOf l.unit l.code number;
}
