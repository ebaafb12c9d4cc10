-- What a plan's program means from date 0 on, the state that its run leaves at a date, and what the program means behind such a state.
use Rattle.std.specs.Prelude.{ℕ, ◌*◌, List, ℤ}
use Rattle.psy_dates.specs.Beginnings.{behind}
use Rattle.psy_dates.specs.declared.opening.Opening.{Opening as State}
use Rattle.psy_dates.specs.declared.plan.Plan.{Plan}
use Rattle.psy_history.specs.declared.told.Script.{Script}
use Rattle.psy_history.specs.Actions.{System}
use Rattle.psy_history.specs.Compiled.{stated, stated_behind}
use Rattle.psy_history.specs.Resuming.{opening_at}
use Rattle.psy_history.specs.Scheduled.{turns_by}
use Rattle.psy_history.specs.Scripts.{order_of, stalls_of}
use Rattle.psy_kernel.specs.Freezing.{state_by}

-- The dated meaning of a program's statements, with these inputs and this script
abbrev pub meaning_of : Plan → List (List ℤ) → Script → System
meaning_of plan inputs script = stated plan.unit plan.nexts (stalls_of script) inputs

-- The state that it leaves at a date: agents, variables and streams as they stand there, and the figures of the summary so far
abbrev pub state_at : Plan → List (List ℤ) → Script → ℕ → State
state_at plan inputs script date =
    let s = meaning_of plan inputs script in
    state_by plan (opening_at s plan.sizes.rings (turns_by s (order_of plan.unit script) (date * plan.unit.quantum)) date)

-- The dated meaning of the statements behind the date of a state
abbrev pub meaning_behind : Plan → State → List (List ℤ) → Script → System
meaning_behind plan state inputs script = stated_behind plan.unit plan.nexts (stalls_of script) inputs (behind plan state)
