-- What a trace tells of an agent, and which of some agents' actions comes first.
use Rattle.std.specs.Prelude.{ℕ, ◌==◌, Bool, List, [], filter, get_or, Option, Some, None, is_none}
use Rattle.std.specs.List.{flat_map}
use Rattle.psy_history.specs.Processors.{served}
use Rattle.psy_tree.specs.declared.unit.Unit.{Unit as Whole}
use Rattle.psy_audit.specs.declared.rows.AgentRow.{AgentRow}
use Rattle.psy_audit.specs.declared.said.Act.{Act}
use Rattle.psy_audit.specs.declared.said.Segment.{Segment}
use Rattle.psy_audit.specs.declared.waits.Wait.{Wait}
use Rattle.psy_audit.specs.Traces.{Judged, Lines, acts_of, segments}
use Rattle.psy_audit.specs.Turns.{is_own, soonest_of, sooner_of}
use Rattle.psy_audit.specs.Waits.{pending_in, waits_in}

-- The actions of an agent, its stretches, and its actions as they wait
abbrev pub row_in : Judged → Lines → ℕ → AgentRow
row_in j all agent = record {
  acts = acts_of agent all;
  segments = filter (λ (s : Segment). s.agent == agent) (segments all);
  waits = waits_in j all agent;
}

-- Nothing
abbrev pub no_row : AgentRow
no_row = record { acts = []; segments = []; waits = [] }

-- The actions of the agent of a number as they wait
abbrev pub waits_at : List AgentRow → ℕ → List Wait
waits_at rows agent = (get_or rows agent no_row).waits

-- The action that comes first on a processor at a cycle, in this order of the agents
abbrev pub first_in : Whole → List AgentRow → ℕ → ℕ → List ℕ → Option Act
first_in unit rows processor cycle order = soonest_of (flat_map (λ agent. pending_in cycle (waits_at rows agent)) (served unit processor order))

-- Of two actions, each of which may be missing, the one of the earlier deadline; of equal ones the one before
abbrev pub sooner_or : Option Act → Option Act → Option Act
sooner_or None later = later
sooner_or (Some a) later = sooner_of a later

-- No action but the one of the stretch comes first; none at all, where there is no stretch.
abbrev pub suits : Option Segment → Option Act → Bool
suits None first = is_none first
suits (Some s) first = is_own s first
