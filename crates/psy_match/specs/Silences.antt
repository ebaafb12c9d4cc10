-- From when on variables are silent: since their owners were stopped.
use Rattle.std.specs.Prelude.{◌≡◌, ℕ, List, [], ◌∷◌, bytes_eq, cond, map, Option, None, Some}
use Rattle.std.specs.List.{flat_map}
use Rattle.psy_draw.specs.Silences.{Silent}
use Rattle.psy_log.specs.declared.note.Note.{Note}
use Rattle.psy_log.specs.declared.note.Note.TheVariants as note
use Rattle.psy_match.specs.declared.silent.Owned.{Owned}
use Rattle.psy_match.specs.declared.silent.Silencing.{Silencing}
use Rattle.psy_tree.specs.declared.unit.Unit.{Unit as Whole}
use Rattle.psy_tree.specs.declared.unit.VarDecl.{VarDecl}
use Rattle.psy_tree.specs.Parts.{agent_at}

-- The date at which a note tells that an agent was stopped, or else this
abbrev pub stop_or : List ℕ → Note → Option ℕ → Option ℕ
stop_or agent (note.StopOverrun date name) other = cond (bytes_eq name.now agent) (Some date) other
stop_or agent (note.StopTrap date name kind) other = cond (bytes_eq name.now agent) (Some date) other
stop_or agent _ other = other

-- The first date at which notes tell that an agent was stopped
abbrev pub first_stop : List ℕ → List Note → Option ℕ
first_stop agent [] = None
first_stop agent (note ∷ notes) = stop_or agent note (first_stop agent notes)

-- A variable, the agent that owns it, and the date at which this one was stopped, where it was
pub record Owning : Type 0 where
  pub variable : List ℕ
  pub agent : List ℕ
  pub since : Option ℕ

-- A variable with an owner, which wasn't stopped; an input has none
abbrev pub owning_by : Whole → List ℕ → Option ℕ → List Owning
owning_by unit name None = []
owning_by unit name (Some owner) = record { variable = name; agent = (agent_at unit owner).name; since = None } ∷ []

abbrev pub owning_of : Whole → VarDecl → List Owning
owning_of unit variable = owning_by unit variable.name variable.owner

-- The variables of a program that have owners
abbrev pub owning_in : Whole → List Owning
owning_in unit = flat_map (owning_of unit) unit.variables

-- The same, with what notes tell of its owner
abbrev pub stopped_in : List Note → Owning → Owning
stopped_in notes owning = record { variable = owning.variable; agent = owning.agent; since = first_stop owning.agent notes }

-- A variable that is silent from this date on, where there is one
abbrev pub silent_from : List ℕ → Option ℕ → List Silent
silent_from name None = []
silent_from name (Some date) = record { name = name; date = date } ∷ []

-- The silence of a variable, where its owner was stopped
abbrev pub silence_of : Owning → List Silent
silence_of owning = silent_from owning.variable owning.since

-- Those of a program's variables
abbrev pub silences_in : Whole → List Note → List Silent
silences_in unit notes = flat_map silence_of (map (stopped_in notes) (owning_in unit))

-- ---- of notes that come one by one

-- What is kept of a variable
abbrev pub kept_of : Owned → Owning
kept_of owned = record { variable = owned.variable.now; agent = owned.agent.now; since = owned.since }

-- A date, where there is one, and else another
abbrev pub date_or : Option ℕ → Option ℕ → Option ℕ
date_or None other = other
date_or (Some date) other = Some date

-- The same variable, where this agent is stopped at a date
abbrev pub stopped_at : List ℕ → ℕ → Owning → Owning
stopped_at name date owning =
    record { variable = owning.variable; agent = owning.agent; since = date_or owning.since (cond (bytes_eq name owning.agent) (Some date) None) }

-- Of these variables it was taken in what notes tell.
abbrev pub AreStopped : List Owning → List Note → Silencing → Type 0
AreStopped owning notes silencing = map kept_of silencing.owned.items ≡ map (stopped_in notes) owning
