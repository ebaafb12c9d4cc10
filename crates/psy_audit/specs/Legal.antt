-- What a legal trace tells, in the words of schedules.
use Rattle.std.specs.Prelude.{◌≡◌, ℕ, ◌+◌, ◌-◌, ◌*◌, ◌/◌, ◌<◌, ◌≤◌, true, Some, length, slice_get}
use Rattle.std.specs.List.{Contains}
use Rattle.psy_clock.specs.Dates.{count}
use Rattle.psy_history.specs.Processors.{processor_at}
use Rattle.psy_history.specs.Rings.{slot_of}
use Rattle.psy_meaning.specs.RingSizes.{dates_between}
use Rattle.psy_meaning.specs.Timing.{budget_at}
use Rattle.psy_tree.specs.Parts.{variable_at}
use Rattle.psy_audit.specs.declared.said.Act.{Act}
use Rattle.psy_audit.specs.declared.said.Ending.TheVariants.{Unfinished}
use Rattle.psy_audit.specs.declared.said.Look.{Look}
use Rattle.psy_audit.specs.declared.said.Publication.{Publication}
use Rattle.psy_audit.specs.declared.said.Segment.{Segment}
use Rattle.psy_audit.specs.Courses.{cycles_in}
use Rattle.psy_audit.specs.Traces.{Judged, Lines, acts, publications_of, publishing_in, ring_in, segments_of, timing_in}
use Rattle.psy_audit.specs.Turns.{is_pending_at}

-- Each order that is in force at some cycle has all agents.
abbrev pub HaveAll : Judged → Type 0
HaveAll j = (cycle agent : ℕ) → agent < length j.unit.agents → Contains (j.order cycle) agent

-- The cycle is one of the stretch.
pub record IsIn (cycle : ℕ) (s : Segment) : Type 0 where
  pub first : s.first ≤ cycle
  pub past : cycle < s.past

-- An action is served in time: it has the cycles that it tells of, no more than its budget, each from its start on and before its deadline; and
-- where that is no later than the last date, it was finished or stopped.
pub record IsInTime (j : Judged) (lines : Lines) (a : Act) : Type 0 where
  pub work : a.work ≡ cycles_in (segments_of a.agent a.number lines)
  pub budget : a.work ≤ budget_at (timing_in j a.agent) a.point
  pub within : (s : Segment) (cycle : ℕ) → Contains (segments_of a.agent a.number lines) s → IsIn cycle s
      → (a.start * j.unit.quantum ≤ cycle) × (cycle < a.due * j.unit.quantum)
  pub finished : a.due ≤ j.until → a.ending ≡ Unfinished → ⊥

-- A cycle of a stretch goes to an action of its agent and number: it is pending, and none of the processor that is pending is due earlier.
pub record IsServed (j : Judged) (lines : Lines) (s : Segment) (cycle : ℕ) : Type 0 where
  pub act : Act
  pub there : Contains (acts lines) act
  pub agent : act.agent ≡ s.agent
  pub number : act.number ≡ s.number
  pub processor : processor_at j.unit act.agent ≡ s.processor
  pub pending : is_pending_at j lines cycle act ≡ true
  pub least : (other : Act) → Contains (acts lines) other → processor_at j.unit other.agent ≡ s.processor → is_pending_at j lines cycle other ≡ true
      → act.due ≤ other.due

-- A look of an action, in one of its cycles: it reads the value that was published so many dates of the variable before the start, or the first value
-- where there are not so many; from the place of that value; and that place is not yet overwritten, since fewer values came behind it than the
-- ring has places.
pub record IsSeen (j : Judged) (lines : Lines) (l : Look) : Type 0 where
  pub act : Act
  pub there : Contains (acts lines) act
  pub agent : act.agent ≡ l.agent
  pub number : act.number ≡ l.number
  pub segment : Segment
  pub its : Contains (segments_of l.agent l.number lines) segment
  pub cycle : IsIn l.cycle segment
  pub depth : l.back < (variable_at j.unit l.variable).depth
  pub value : l.back < count (publishing_in j l.variable) act.start → (p : Publication)
      × (slice_get (publications_of l.variable lines) (count (publishing_in j l.variable) act.start - 1 - l.back) ≡ Some p) × (l.value ≡ p.value)
  pub initial : count (publishing_in j l.variable) act.start ≤ l.back → l.value ≡ (variable_at j.unit l.variable).init
  pub slot : l.slot ≡ slot_of (ring_in j l.variable) (count (publishing_in j l.variable) act.start) l.back
  pub kept : l.back + dates_between (publishing_in j l.variable) act.start (l.cycle / j.unit.quantum) < ring_in j l.variable
