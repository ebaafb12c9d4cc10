-- What an opening has by a form: how many agents, variables and streams, and how many copies, cells, values and messages each of them.
use Rattle.std.specs.Prelude.{◌≡◌, ℕ, ◌≤◌, List, length, slice_get, Option, Some, None, ⊤}
use Rattle.psy_base.specs.declared.limits.TheConstants.{QUEUE}
use Rattle.psy_dates.specs.declared.opening.AgentOpening.{AgentOpening}
use Rattle.psy_dates.specs.declared.opening.Begun.{Begun}
use Rattle.psy_dates.specs.declared.opening.NextAction.{NextAction}
use Rattle.psy_dates.specs.declared.opening.Opening.{Opening}
use Rattle.psy_dates.specs.declared.opening.StreamOpening.{StreamOpening}
use Rattle.psy_dates.specs.declared.opening.VarOpening.{VarOpening}
use Rattle.psy_snap.specs.Forms.{AgentForm, Form, StreamForm, VarForm}

-- One for each of some forms, in their order, that has what its form asks for
pub record AreOf {F X : Type 0} (Has : F → X → Type 0) (forms : List F) (xs : List X) : Type 0 where
  pub count : length xs ≡ length forms
  pub each : (i : ℕ) (form : F) (x : X) → slice_get forms i ≡ Some form → slice_get xs i ≡ Some x → Has form x

-- An action that the agent starts has the agent's cells.
abbrev pub HasCells : AgentForm → Option NextAction → Type 0
HasCells form None = ⊤
HasCells form (Some action) = length action.cells ≡ length form.cells

-- An agent that has begun has its copies.
abbrev pub HasBegun : AgentForm → Option Begun → Type 0
HasBegun form None = ⊤
HasBegun form (Some begun) = (length begun.copies ≡ form.copies) × HasCells form begun.action

abbrev pub HasAgentForm : AgentForm → AgentOpening → Type 0
HasAgentForm form agent = HasBegun form agent.begun

-- A variable has as many values as its ring.
abbrev pub HasVarForm : VarForm → VarOpening → Type 0
HasVarForm form variable = length variable.values ≡ form.size

-- A stream has no more messages than any may.
abbrev pub HasStreamForm : StreamForm → StreamOpening → Type 0
HasStreamForm form stream = length stream.messages ≤ QUEUE

-- A state
pub record HasForm (form : Form) (opening : Opening) : Type 0 where
  pub date : opening.date ≤ form.until
  pub agents : AreOf HasAgentForm form.agents opening.agents
  pub variables : AreOf HasVarForm form.variables opening.variables
  pub streams : AreOf HasStreamForm form.streams opening.streams
