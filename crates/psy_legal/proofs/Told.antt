-- What the lines of the trace of a run tell, and what is known of the run.
use Rattle.std.proofs.Common.{◌≡◌, ℕ, ◌+◌, ◌*◌, ◌%◌, ◌<◌, ◌≤◌, List, ◌∷◌, All, length, map, get_or, reverse, Option, Some}
use Rattle.std.specs.List.{Contains, range_with_len}
use Rattle.psy_base.specs.declared.sizes.Sizes.{Sizes}
use Rattle.psy_clock.specs.Dates.{IsClock, count, date}
use Rattle.psy_history.specs.Actions.{Action, Next, System, first_action, publishing}
use Rattle.psy_history.specs.History.{history}
use Rattle.psy_history.specs.Processors.{processor_at, processors}
use Rattle.psy_history.specs.Regular.{IsLawful}
use Rattle.psy_history.specs.Schedule.{Turn}
use Rattle.psy_history.specs.Scheduled.{IsFinished, turns_by, turns_of}
use Rattle.psy_history.specs.Visible.{published}
use Rattle.psy_legal.proofs.ClockDates.{AreCounted}
use Rattle.psy_audit.specs.declared.said.Publication.{Publication}
use Rattle.psy_audit.specs.declared.said.Segment.{Segment}
use Rattle.psy_audit.specs.Traced.{act_of, stretches}
use Rattle.psy_audit.specs.Traces.{Judged, Lines, acts_of, publications_of, segments_of}
use Rattle.psy_audit.specs.Turns.{segments_on}

-- What the trace of a run is judged by
abbrev pub judge : System → (ℕ → List ℕ) → Sizes → ℕ → Judged
judge s order sizes until = record { unit = s.unit; nexts = s.nexts; rings = sizes.rings; until = until; order = order }

-- The publication of a number of a variable
abbrev pub publication_number : System → Sizes → ℕ → ℕ → Publication
publication_number s sizes variable number = record {
  variable = variable;
  date = date (publishing s variable) number;
  slot = number % get_or sizes.rings variable 0;
  value = published s (history s (date (publishing s variable) number + 1)) variable (date (publishing s variable) number);
}

module _ (s : System) (order : ℕ → List ℕ) (sizes : Sizes) (until : ℕ) where
  -- What the cycles of a processor up to the last date go to
  abbrev pub all_turns : ℕ → List (Option Turn)
  all_turns processor = turns_of s order (until * s.unit.quantum) processor

  -- Its stretches, the last one first
  abbrev pub all_stretches : ℕ → List Segment
  all_stretches processor = stretches processor (all_turns processor)

  -- The lines tell the actions of each agent, the publications of each variable, and the stretches of each processor and of each action.
  pub record Tells (all : Lines) : Type 0 where
    pub acts : (agent : ℕ) → acts_of agent all ≡ map (act_of (turns_by s order (until * s.unit.quantum) agent)) (reverse (history s until agent))
    pub published : (variable : ℕ) → variable < length s.unit.variables
        → publications_of variable all ≡ map (publication_number s sizes variable) (range_with_len 0 (count (publishing s variable) until))
    pub on : (processor : ℕ) → processor < processors s.unit → segments_on processor all ≡ reverse (all_stretches processor)
    pub of_act : (agent number : ℕ) (t : Segment) → Contains (segments_of agent number all) t
        → Contains (all_stretches (processor_at s.unit agent)) t × (t.agent ≡ agent) × (t.number ≡ number)
    pub of_home : (agent number : ℕ) (t : Segment) → Contains (all_stretches (processor_at s.unit agent)) t → t.agent ≡ agent → t.number ≡ number
        → Contains (segments_of agent number all) t

  -- What is known of the run: its actions are regular and begin at date 0, and each that is due by a date is finished by then.
  pub record IsOnTime : Type 0 where
    pub lawful : IsLawful s
    pub quantum : 1 ≤ s.unit.quantum
    pub homes : (agent : ℕ) → processor_at s.unit agent < processors s.unit
    pub due : (date agent : ℕ) (r : Action) → date ≤ until → Contains (history s date agent) r → r.deadline ≤ date → IsFinished s order (date * s.unit.quantum) r
    pub earlier : (date cycles agent : ℕ) (r : Action) (before : List Action) → date ≤ until → date * s.unit.quantum ≤ cycles → history s (date + 1) agent ≡ r ∷ before
        → All (IsFinished s order cycles) before
    pub opens : (agent : ℕ) (n : Next) → s.opening.starts agent ≡ Some n → n ≡ first_action s.unit s.nexts s.executor agent
    pub begins : (agent : ℕ) → agent < length s.unit.agents → s.opening.starts agent ≡ Some (first_action s.unit s.nexts s.executor agent)
    pub counted : AreCounted
    pub clocks : (variable : ℕ) → IsClock (publishing s variable)
