-- What a cycle does to the charge, the machine, the outbox and the takes of the action that gets it.
use Rattle.std.specs.Prelude.{◌≡◌, ℕ, suc, ◌<◌, ◌==◌, List, length, take, Option, None, Some, IsSome, slice_get, ⊤}
use Rattle.std.specs.List.{count_by}
use Rattle.psy_budget.specs.declared.charge.Tick.{Tick}
use Rattle.psy_budget.specs.declared.charge.Tick.TheVariants as tick
use Rattle.psy_budget.specs.Charges.{Charged, tick_of}
use Rattle.psy_code.specs.declared.code.Code.{Code}
use Rattle.psy_code.specs.declared.look.Sent.{Sent}
use Rattle.psy_code.specs.Execution.{RunState, Running, call_of, copy_of, run_code}
use Rattle.psy_code.specs.Views.{Deeds, Past, Send, Window, messages_of, past_of}
use Rattle.psy_machine.specs.Stepping.{AgentMachine, look_of}
use Rattle.psy_queue.specs.Order.{Queued}
use Rattle.psy_tree.specs.declared.unit.VarDecl.{VarDecl}
use Rattle.psy_history.specs.Actions.{Action, System, Done, Trapped, Overran, charge_of, stream_of, timing, verdict_of}
use Rattle.psy_meaning.specs.CodeWays.{agent_code_at}
use Rattle.psy_history.specs.Executors.{Acted, acted_as, machine_at}
use Rattle.psy_meaning.specs.Kept.{Receives}
use Rattle.psy_history.specs.Schedule.{work}
use Rattle.psy_history.specs.Regular.{Runs, begun_by}
use Rattle.psy_meaning.specs.KnownWays.{Ways}
use Rattle.psy_kernel.specs.declared.engine.advance.Gone.{Gone}
use Rattle.psy_kernel.specs.declared.engine.advance.Gone.TheVariants as gone
use Rattle.psy_kernel.specs.Seeing.{Sight, seen_by}
use Rattle.psy_kernel.specs.Standing.{HasDone, IsRunning, charge_after}

-- What the code of an action comes to within its budget
abbrev pub came_to : Code → Action → Acted
came_to code r = acted_as r.budget r.before (run_code code (agent_code_at code r.agent) (begun_by (agent_code_at code r.agent) r) r.budget)

-- The action is what its code came to, and by some ways its code runs on within its budget.
pub record IsOfCode (s : System) (code : Code) (r : Action) : Type 0 where
  pub deeds : r.deeds ≡ (came_to code r).deeds
  pub after : r.after ≡ (came_to code r).carried
  pub charge : r.charge ≡ charge_of s r.agent r.number r.deeds.steps
  pub verdict : r.verdict ≡ verdict_of (timing s r.agent) r.start r.budget r.charge (came_to code r).fate
  pub ways : Ways
  pub runs : Runs s ways code r

-- An action that had so many cycles, fewer than its work, with its charge and machine
pub record InAction (s : System) (code : Code) (r : Action) (had : ℕ) (charge : Charged) (machine : AgentMachine) : Type 0 where
  pub of_code : IsOfCode s code r
  pub agent : machine.agent ≡ r.agent
  pub pending : had < work r
  pub charged : charge ≡ charge_after s r had
  pub running : IsRunning code r (charge_after s r had).paid machine

-- After so many paid instructions a window shows an action what its next instruction looks at as the action saw it from the start, and of
-- the streams that its agent receives what it has left; it has the program's streams and clocks, and room for the send that comes next.
pub record ShowsAs (s : System) (code : Code) (r : Action) (paid : ℕ) (window : Window) : Type 0 where
  pub pasts : (state : RunState) → run_code code (agent_code_at code r.agent) (begun_by (agent_code_at code r.agent) r) paid ≡ Running state
      → (variable back : ℕ) → call_of code state.machine ≡ Some (Past variable back) → past_of window.view variable back ≡ past_of r.view variable back
  pub messages : (state : RunState) → run_code code (agent_code_at code r.agent) (begun_by (agent_code_at code r.agent) r) paid ≡ Running state
      → (stream : ℕ) → Receives s.unit r.agent stream → messages_of window.view stream ≡ messages_of state.view stream
  pub streams : window.streams ≡ length s.unit.streams
  pub clocks : window.clocks ≡ length s.unit.clocks
  pub room : (state : RunState) → run_code code (agent_code_at code r.agent) (begun_by (agent_code_at code r.agent) r) paid ≡ Running state
      → (sent : Sent) → call_of code state.machine ≡ Some (Send sent) → length window.sends < window.room

-- What is looked at is for the action's agent; of the streams that it receives as many messages are visible as the action saw, and what was
-- taken is counted.
pub record SeesAs (s : System) (r : Action) (sight : Sight) (taken : List ℕ) : Type 0 where
  pub agent : sight.agent ≡ r.agent
  pub streams : sight.streams ≡ s.unit.streams
  pub queued : length sight.queues ≡ length s.unit.streams
  pub counted : length taken ≡ length s.unit.streams
  pub seen : (stream : ℕ) (queue : Queued) → Receives s.unit r.agent stream → slice_get sight.queues stream ≡ Some queue
      → seen_by queue.messages sight.start ≡ length (r.seen stream)

-- These are the sends and the counts of what was taken, by stream, of an action that did this.
pub record AreDone (s : System) (r : Action) (deeds : Deeds) (sends : List Sent) (taken : List ℕ) : Type 0 where
  pub sent : sends ≡ deeds.sends
  pub took : (stream n : ℕ) → slice_get taken stream ≡ Some n → (stream_of s stream).receiver ≡ r.agent
      → n ≡ length (take (count_by (λ t. t == stream) deeds.takes) (r.seen stream))

-- The look of a cycle of an action, by what the cycle goes to: that of the instruction that it pays.
abbrev pub LooksBy : Code → Action → ℕ → Option (ℕ × ℕ) → Tick → Type 0
LooksBy code r instr look tick.Paid = (state : RunState) × (run_code code (agent_code_at code r.agent) (begun_by (agent_code_at code r.agent) r) instr
    ≡ Running state) × (look ≡ look_of (call_of code state.machine))
LooksBy code r instr look tick = look ≡ None

-- The look of the cycle of an action that had so many
abbrev pub IsLookIn : System → Code → Action → ℕ → Option (ℕ × ℕ) → Type 0
IsLookIn s code r had look = LooksBy code r (charge_after s r had).paid look (tick_of (charge_after s r had))

-- The machine has copies of what the agent owns.
abbrev pub HasOwned : System → Action → AgentMachine → Type 0
HasOwned s r machine = (variable : ℕ) (v : VarDecl) → slice_get s.unit.variables variable ≡ Some v → v.owner ≡ Some r.agent
    → IsSome (copy_of variable machine.machine.copies)

-- An action goes on behind a cycle, or it reached a point, trapped or spent its budget with that cycle.
abbrev pub IsGone : System → Code → Action → ℕ → AgentMachine → Gone → Type 0
IsGone s code r had machine gone.Going = (suc had < work r) × IsRunning code r (charge_after s r (suc had)).paid machine
IsGone s code r had machine (gone.Ended point) = (suc had ≡ work r) × (end : ℕ) × (r.verdict ≡ Done point end)
    × (machine.machine ≡ machine_at (agent_code_at code r.agent) point r.after) × HasOwned s r machine
IsGone s code r had machine (gone.Trapped kind) = (suc had ≡ work r) × (r.verdict ≡ Trapped kind)
IsGone s code r had machine gone.Spent = (suc had ≡ work r) × (r.verdict ≡ Overran)

-- The same, with the charge
pub record AfterCycle (s : System) (code : Code) (r : Action) (had : ℕ) (result : Gone) (charge : Charged) (machine : AgentMachine) : Type 0 where
  pub charged : charge ≡ charge_after s r (suc had)
  pub agent : machine.agent ≡ r.agent
  pub gone : IsGone s code r had machine result

-- What an action sent and took is kept behind a cycle: where it goes on, what its paid instructions did; where it reached a point, all that
-- it did.
abbrev pub HasDoneBy : System → Code → Action → ℕ → List Sent → List ℕ → Gone → Type 0
HasDoneBy s code r had sends taken gone.Going = HasDone s code r (charge_after s r (suc had)).paid sends taken
HasDoneBy s code r had sends taken (gone.Ended point) = AreDone s r r.deeds sends taken
HasDoneBy s code r had sends taken (gone.Trapped kind) = ⊤
HasDoneBy s code r had sends taken gone.Spent = ⊤
