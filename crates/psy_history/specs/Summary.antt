-- The summary of a run: how much slack its actions kept, and how much of each buffer was used.
use Rattle.std.specs.Prelude.{ℕ, zero, suc, ◌+◌, ◌-◌, ◌*◌, ◌/◌, ◌==◌, max, nat_le, List, [], ◌∷◌, ◌++◌, map, filter, length, Option, Some, None}
use Rattle.std.specs.List.{flat_map, range_with_len}
use Rattle.psy_base.specs.Extremes.{greatest_of, least_of, most_of}
use Rattle.psy_budget.specs.Charges.{cycle_of}
use Rattle.psy_clock.specs.Dates.{count}
use Rattle.psy_code.specs.Views.{Looked}
use Rattle.psy_history.specs.Actions.{Action, History, System, publishing}
use Rattle.psy_history.specs.History.{history}
use Rattle.psy_history.specs.Schedule.{Turn, cycle_of_unit, finish}
use Rattle.psy_history.specs.Visible.{held}

-- ---- what an opening has

-- The number of a figure; none where it has none
abbrev pub numbers_in : Option ℕ → List ℕ
numbers_in None = []
numbers_in (Some n) = n ∷ []

-- A count behind this one that was there before
abbrev pub added_to : ℕ → ℕ → ℕ
added_to zero n = n
added_to (suc before) n = n + suc before

-- The greater of a number and the one that was there before
abbrev pub at_least : ℕ → ℕ → ℕ
at_least zero n = n
at_least (suc before) n = max n (suc before)

-- The dates below this one, behind the first so many
abbrev pub dates_from : ℕ → ℕ → List ℕ
dates_from zero dates = range_with_len 0 dates
dates_from (suc last) dates = range_with_len (suc last) (dates - suc last)

-- ---- agents

-- The actions that are due by a date
abbrev pub due_by : ℕ → List Action → List Action
due_by until actions = filter (λ (r : Action). nat_le r.deadline until) actions

-- The cycles from an action's finish to its deadline. That each action that is due is finished by then, so that this is a true difference,
-- is what a run keeps, and isn't said here.
abbrev pub slack_of : ℕ → List (Option Turn) → Action → ℕ
slack_of quantum turns r = r.deadline * quantum - finish r.agent r.number turns

-- The least slack of some actions
abbrev pub slack : ℕ → List (Option Turn) → List Action → Option ℕ
slack quantum turns actions = least_of (map (slack_of quantum turns) actions)

-- How many actions of an agent are due, where these of its history are
abbrev pub due_count : System → ℕ → List Action → ℕ
due_count s agent actions = added_to (s.opening.count agent) (length actions)

-- The least slack of an agent's actions, where these of its history are due
abbrev pub least_slack : System → List (Option Turn) → ℕ → List Action → Option ℕ
least_slack s turns agent actions = least_of (numbers_in (s.opening.slack agent) ++ map (slack_of s.unit.quantum turns) actions)

-- ---- rings

-- The age of the value that a look in this cycle finds: how many dates of the variable stand behind the one looked at
abbrev pub age_in : System → Action → Looked → Option ℕ → List ℕ
age_in s r look None = []
age_in s r look (Some cycle) = (look.back + (count (publishing s look.variable) (cycle / s.unit.quantum) - count (publishing s look.variable) r.start)) ∷ []

-- The ages of an action's looks at a variable that were executed, where by agent the cycles of its processor went to these turns
abbrev pub ages_of : System → (ℕ → List (Option Turn)) → ℕ → Action → List ℕ
ages_of s turns variable r =
    flat_map (λ (look : Looked). age_in s r look (cycle_of_unit r.agent r.number (cycle_of (s.stalls r.agent) r.number look.number) (turns r.agent)))
    (filter (λ (look : Looked). look.variable == variable) r.deeds.looks)

-- How far back a variable's ring was reached for, in all looks that these cycles executed, and before
abbrev pub reach : System → (ℕ → List (Option Turn)) → History → ℕ → Option ℕ
reach s turns h variable =
    greatest_of (numbers_in (s.opening.reach variable)
    ++ flat_map (λ agent. flat_map (ages_of s turns variable) (h agent)) (range_with_len 0 (length s.unit.agents)))

-- ---- streams

-- The greatest number of messages that a stream held at a date up to this one, and before
abbrev pub most_held : System → ℕ → ℕ → ℕ
most_held s until stream = at_least (s.opening.most stream)
    (most_of (map (λ date. length (held s (history s (date + 1)) stream date)) (dates_from s.opening.dates (until + 1))))
