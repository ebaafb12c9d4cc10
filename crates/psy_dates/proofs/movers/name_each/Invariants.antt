-- What each loop of `movers::name_each` keeps.
use Rattle.std.proofs.Common.{◌≡◌, ℕ, ◌≤◌, Bool, length}
use Rattle.psy_dates.specs.Movers.{NamesAll}
use Rattle.psy_dates.proofs.movers.name_each.Given as goal

abbrev pub invariant-agents : goal.invariant-agents
invariant-agents l = record {
  size : l.moved.size ≡ l.fn.moved.size;
  few : length l.moved.agents ≤ l.agent;
  names : (test : ℕ → Bool) → NamesAll test l.agent 0 l.moved.agents;
}
