-- What each loop of `point_lists::all_numbers` keeps.
use Rattle.std.proofs.Common.{◌≡◌, ℕ, List, Some, length}
use Rattle.std.specs.Prelude.{slice_get}
use Rattle.psy_flow.specs.CodeLists.{AreAgentNumbers}
use Rattle.psy_flow.proofs.point_lists.all_numbers.Given as goal

abbrev pub invariant-agents : goal.invariant-agents
invariant-agents l = record {
  count : length l.lists ≡ l.agent;
  each : (agent : ℕ) (own : List (List ℕ)) → slice_get l.lists agent ≡ Some own → AreAgentNumbers l.rows l.code agent own;
}
