-- What is kept stands for what a run did so far.
use Rattle.std.specs.Prelude.{◌≡◌, ℕ, ◌+◌, ◌-◌, ◌*◌, ◌^◌, ◌<◌, ◌≤◌, ◌==◌, List, [], ◌∷◌, filter, get_or, length, map, reverse, Option, None, Some, slice_get, ℤ}
use Rattle.std.specs.List.{All, flat_map, range_with_len}
use Rattle.psy_base.specs.declared.sizes.Sizes.{Sizes}
use Rattle.psy_audit.specs.declared.said.Act.{Act}
use Rattle.psy_audit.specs.declared.said.Ending.TheVariants.{Unfinished}
use Rattle.psy_audit.specs.declared.said.Look.{Look}
use Rattle.psy_audit.specs.declared.said.Publication.{Publication}
use Rattle.psy_audit.specs.declared.said.Said.TheVariants.{Published, Looked}
use Rattle.psy_audit.specs.declared.said.Segment.{Segment}
use Rattle.psy_audit.specs.Traced.{act_of, looks_of, publication_at, stretches}
use Rattle.psy_collect.specs.declared.kept.Kept.{Kept}
use Rattle.psy_dates.specs.declared.plan.Plan.{Plan}
use Rattle.psy_dates.specs.declared.shared.Shared.{Shared}
use Rattle.psy_history.specs.Actions.{Action, History, System}
use Rattle.psy_history.specs.History.{history}
use Rattle.psy_history.specs.Processors.{processors}
use Rattle.psy_history.specs.Schedule.{Turn, units}
use Rattle.psy_history.specs.Scheduled.{turns_by, turns_of}
use Rattle.psy_kernel.specs.Progress.{Progress, cycles_on, lines_told, order, system, turns_so_far}
use Rattle.psy_kernel.specs.Slices.{IsIdleFor}

-- What is shared shows what is published at the date done last: a ring of its size for each variable.
pub record ShowsAll (plan : Plan) (date : ℕ) (shared : Shared) : Type 0 where
  pub early : date ≤ 2 ^ 40
  pub ringed : length shared.rings.items ≡ length plan.unit.variables
  pub sized : (variable : ℕ) (ring : List ℤ) → slice_get shared.rings.items variable ≡ Some ring → length ring ≡ get_or plan.sizes.rings variable 0

-- ---- actions

-- All but the first
abbrev pub behind_first : {X : Type 0} → List X → List X
behind_first [] = []
behind_first (x ∷ xs) = xs

-- The first
abbrev pub first_of : {X : Type 0} → List X → Option X
first_of [] = None
first_of (x ∷ xs) = Some x

-- An action as it is kept, of which its processor's cycles so far are these turns
abbrev pub act_so_far : List (Option Turn) → Action → Act
act_so_far turns r = record {
  agent = r.agent;
  number = r.number;
  point = r.point;
  start = r.start;
  due = r.deadline;
  work = units r.agent r.number turns;
  ending = Unfinished;
}

-- The last of an agent's actions as it is kept
abbrev pub doing_of : List (Option Turn) → List Action → Option Act
doing_of turns [] = None
doing_of turns (r ∷ before) = Some (act_so_far turns r)

-- By agent, the actions that are over, where all cycles of its processor up to the end are these, and its last one, where those so far are these.
pub record AreActs (agents : ℕ) (all turns : ℕ → List (Option Turn)) (h : History) (acts : List Act) (doing : List (Option Act)) : Type 0 where
  pub over : (agent : ℕ) → agent < agents → filter (λ (a : Act). a.agent == agent) acts ≡ map (act_of (all agent)) (reverse (behind_first (h agent)))
  pub last : (agent : ℕ) → agent < agents → get_or doing agent None ≡ doing_of (turns agent) (h agent)
  pub count : length doing ≡ agents
  pub known : All (λ (a : Act). a.agent < agents) acts

-- ---- publications

-- By variable, what it published at the first so many dates
pub record ArePublished (s : System) (sizes : Sizes) (dates : ℕ) (publications : List Publication) : Type 0 where
  pub each : (variable : ℕ) → variable < length s.unit.variables
      → map Published (filter (λ (p : Publication). p.variable == variable) publications) ≡ flat_map (publication_at s sizes variable) (range_with_len 0 dates)
  pub known : All (λ (p : Publication). p.variable < length s.unit.variables) publications

-- ---- stretches

-- By processor, the stretches that are over, and its last one, where these are its turns
pub record AreStretches (count : ℕ) (turns : ℕ → List (Option Turn)) (segments : List Segment) (serving : List (Option Segment)) : Type 0 where
  pub over : (processor : ℕ) → processor < count
      → filter (λ (s : Segment). s.processor == processor) segments ≡ reverse (behind_first (stretches processor (turns processor)))
  pub last : (processor : ℕ) → processor < count → get_or serving processor None ≡ first_of (stretches processor (turns processor))
  pub count_is : length serving ≡ count
  pub known : All (λ (s : Segment). s.processor < count) segments

-- ---- looks

-- By agent, what its actions looked at so far
pub record AreLooks (s : System) (sizes : Sizes) (turns : ℕ → List (Option Turn)) (h : History) (looks : List Look) : Type 0 where
  pub each : (agent : ℕ) → agent < length s.unit.agents
      → map Looked (filter (λ (l : Look). l.agent == agent) looks) ≡ flat_map (looks_of s sizes (turns agent)) (reverse (h agent))
  pub known : All (λ (l : Look). l.agent < length s.unit.agents) looks

-- ---- a run

-- By processor, what its cycles so far went to
abbrev pub turns_on : Progress → ℕ → List (Option Turn)
turns_on p processor = turns_of (system p) (order p) (cycles_on p processor) processor

-- By agent, what all cycles of its processor up to the last date go to
abbrev pub turns_at_end : Progress → ℕ → List (Option Turn)
turns_at_end p agent = turns_by (system p) (order p) (p.plan.until * p.plan.unit.quantum) agent

-- What is kept stands for the run so far.
pub record IsCollected (p : Progress) (k : Kept) : Type 0 where
  pub acts : AreActs (length p.plan.unit.agents) (turns_at_end p) (turns_so_far p) (history (system p) p.dates) k.acts k.doing
  pub publications : ArePublished (system p) p.plan.sizes p.dates k.publications
  pub stretches : AreStretches (processors p.plan.unit) (turns_on p) k.segments k.serving
  pub looks : AreLooks (system p) p.plan.sizes (turns_so_far p) (history (system p) p.dates) k.looks

-- A run from date 0 on that hasn't come to its last date, all lines of which were given, and what is kept of it
pub record IsRunning (p : Progress) (k : Kept) : Type 0 where
  pub whole : p.opening ≡ None
  pub given : p.given ≡ length (lines_told p)
  pub begun : p.units < processors p.plan.unit
  pub early : p.dates ≤ p.plan.until
  pub high : p.cycles ≤ p.dates * p.plan.unit.quantum
  pub low : p.dates * p.plan.unit.quantum ≤ p.cycles + p.plan.unit.quantum
  pub due : p.cycles ≡ p.dates * p.plan.unit.quantum → p.units ≡ 0
  pub collected : IsCollected p k

-- It is the same run.
pub record IsSameRun (before after : Progress) : Type 0 where
  pub plan : after.plan ≡ before.plan
  pub inputs : after.inputs ≡ before.inputs
  pub script : after.script ≡ before.script
  pub opening : after.opening ≡ before.opening

-- No action is pending behind the cycles done.
abbrev pub IsIdle : Progress → Type 0
IsIdle p = (processor : ℕ) → IsIdleFor p processor

-- All that is left to do is the last date.
pub record IsLastDue (p : Progress) : Type 0 where
  pub dates : p.dates ≡ p.plan.until
  pub cycles : p.cycles ≡ p.plan.until * p.plan.unit.quantum
  pub units : p.units ≡ 0

-- How many steps are left before the last date: dates, and units of cycles
abbrev pub steps_left : Progress → ℕ
steps_left p =
    (p.plan.until - p.dates)
    + ((p.plan.until * p.plan.unit.quantum - p.cycles) * processors p.plan.unit + (processors p.plan.unit - p.units))
