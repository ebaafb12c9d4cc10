-- The laws of histories and schedules that a trace goes by.
use Rattle.std.proofs.Common.{◌≡◌, ℕ, ◌+◌, ◌*◌, ◌≤◌, List, ◌∷◌, length}
use Rattle.std.specs.Prelude.{if◌then◌else◌, take}
use Rattle.std.specs.List.{All, Contains}
use Rattle.psy_clock.specs.Dates.{IsClock}
use Rattle.psy_history.specs.Actions.{Action, System, publishing}
use Rattle.psy_history.specs.History.{history}
use Rattle.psy_history.specs.Lines.{is_date}
use Rattle.psy_history.specs.Regular.{IsLawful, first_number}
use Rattle.psy_history.specs.Rings.{ring_of}
use Rattle.psy_history.specs.Schedule.{units, work}
use Rattle.psy_history.specs.Scheduled.{IsFinished, IsSupplied, turns_by}
use Rattle.psy_history.specs.Visible.{published}

-- Of an agent's actions the last alone may be pending.
abbrev pub Earlier : Type 0
Earlier = (s : System) (order : ℕ → List ℕ) (until date cycles agent : ℕ) (r : Action) (before : List Action) → IsSupplied s order until → date ≤ until → date * s.unit.quantum ≤ cycles → history s (date + 1) agent ≡ r ∷ before
    → All (IsFinished s order cycles) before

-- What is due by a date is finished by then.
abbrev pub Due : Type 0
Due = (s : System) (order : ℕ → List ℕ) (until date agent : ℕ) (r : Action) → IsSupplied s order until → date ≤ until → Contains (history s date agent) r → r.deadline ≤ date → IsFinished s order (date * s.unit.quantum) r

-- By its deadline an action is finished.
abbrev pub Finished : Type 0
Finished = (s : System) (order : ℕ → List ℕ) (until dates agent : ℕ) (r : Action) → IsSupplied s order until → Contains (history s dates agent) r → r.deadline ≤ until → IsFinished s order (r.deadline * s.unit.quantum) r

-- No action has more cycles than its work.
abbrev pub Within : Type 0
Within = (s : System) (order : ℕ → List ℕ) (dates cycles agent : ℕ) (r : Action) → IsLawful s → 1 ≤ s.unit.quantum → Contains (history s dates agent) r → units r.agent r.number (turns_by s order cycles r.agent) ≤ work r

-- No action has a cycle before it starts.
abbrev pub Unstarted : Type 0
Unstarted = (s : System) (order : ℕ → List ℕ) (date cycles agent number : ℕ) → IsLawful s → 1 ≤ s.unit.quantum → cycles ≤ date * s.unit.quantum → first_number s agent + length (history s date agent) ≤ number
    → units agent number (turns_by s order cycles agent) ≡ 0

-- A ring, behind one more date
abbrev pub NextRing : Type 0
NextRing = (s : System) (date variable size : ℕ) → IsLawful s → IsClock (publishing s variable)
    → ring_of s (date + 1) variable size ≡ (if is_date (publishing s variable) date then take size (published s (history s (date + 1)) variable date ∷ ring_of s date variable size) else ring_of s date variable size)
