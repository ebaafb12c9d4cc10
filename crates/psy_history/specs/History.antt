-- The dated history of a program: which actions start at each date, with what they see, do and cost. It knows no cycle of execution,
-- no processor and no buffer.
use Rattle.std.specs.Prelude.{ℕ, zero, suc, ◌==◌, if◌then◌else◌, List, [], ◌∷◌, Option, Some, None}
use Rattle.psy_base.specs.declared.message.Message.{Message}
use Rattle.psy_code.specs.Views.{View}
use Rattle.psy_history.specs.Actions.{Action, History, Next, System, charge_of, next_of, timing, verdict_of}
use Rattle.psy_history.specs.Executors.{Acted}
use Rattle.psy_meaning.specs.Timing.{budget_at, deadline}
use Rattle.psy_history.specs.Visible.{seen_at, view_of}

-- What is recorded of an action that starts there, sees this, and came to that
abbrev pub recorded : System → ℕ → Next → View → (ℕ → List Message) → Acted → Action
recorded s agent n view seen acted = record {
  agent = agent;
  number = n.number;
  point = n.point;
  start = n.start;
  budget = budget_at (timing s agent) n.point;
  deadline = deadline (timing s agent) n.point n.start;
  before = n.carried;
  view = view;
  seen = seen;
  deeds = acted.deeds;
  charge = charge_of s agent n.number acted.deeds.steps;
  verdict = verdict_of (timing s agent) n.start (budget_at (timing s agent) n.point) (charge_of s agent n.number acted.deeds.steps) acted.fate;
  after = acted.carried;
}

-- The same of an action that sees this: it comes to what executes it says.
abbrev pub executed : System → ℕ → Next → View → (ℕ → List Message) → Action
executed s agent n view seen = recorded s agent n view seen (s.executor.act agent n.point n.carried view (budget_at (timing s agent) n.point))

-- The action of an agent that starts there, behind a history
abbrev pub action_of : System → History → ℕ → Next → Action
action_of s h agent n = executed s agent n (view_of s h agent n.start (seen_at s h n.start)) (seen_at s h n.start)

-- An agent's actions with the one that starts at a date, where its next one does
abbrev pub with_start : System → History → ℕ → ℕ → List Action → Option Next → List Action
with_start s h date agent actions None = actions
with_start s h date agent actions (Some n) = if n.start == date then action_of s h agent n ∷ actions else actions

-- The actions that start at the first so many dates: 0, 1 and so on
abbrev pub history : System → ℕ → History
history s zero agent = []
history s (suc date) agent = with_start s (history s date) date agent (history s date agent) (next_of s agent (history s date agent))
