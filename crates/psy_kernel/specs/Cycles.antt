-- What a cycle does to the agent whose action gets it.
use Rattle.std.specs.Prelude.{◌≡◌, ℕ, ◌+◌, ◌-◌, ◌*◌, ◌^◌, ◌==◌, ◌<◌, ◌≤◌, true, false, nat_le, if◌then◌else◌, List, [], ◌∷◌, length, Option}
use Rattle.std.specs.Prelude.{Some, None, slice_get, get_or, ⊤, ℤ}
use Rattle.std.specs.List.{All}
use Rattle.psy_base.specs.declared.limits.TheConstants.{ADVANCE, QUANTUM}
use Rattle.psy_base.specs.declared.sizes.Sizes.{Sizes}
use Rattle.psy_clock.specs.Dates.{IsClock}
use Rattle.psy_budget.specs.declared.charge.Stall.{Stall}
use Rattle.psy_code.specs.declared.code.Code.{Code}
use Rattle.psy_code.specs.declared.look.Sent.{Sent}
use Rattle.psy_queue.specs.Order.{Queued}
use Rattle.psy_dates.specs.declared.plan.Plan.{Plan}
use Rattle.psy_dates.specs.declared.seat.Seat.{Seat}
use Rattle.psy_dates.specs.Outboxes.{Outboxed}
use Rattle.psy_dates.specs.Plans.{IsPlan, IsSoundFor, opened_of}
use Rattle.psy_dates.specs.Standing.{KeepsCopy, KeepsSends, KeepsTakes, QueueStands, RingStands, SeatStands}
use Rattle.psy_history.specs.Compiled.{AreInputs}
use Rattle.psy_history.specs.Rings.{age_at}
use Rattle.psy_history.specs.Processors.{processor_at}
use Rattle.psy_history.specs.Scheduled.{gone_to, turns_by}
use Rattle.psy_history.specs.Actions.{Action, Opening, System, Done, stream_of, timing, variable_of}
use Rattle.psy_base.specs.Extremes.{greater, lesser}
use Rattle.psy_history.specs.History.{history}
use Rattle.psy_history.specs.Schedule.{Turn, is_pending, turn_of, units}
use Rattle.psy_history.specs.Summary.{reach}
use Rattle.psy_meaning.specs.Timing.{Timing, clock_at, end_date, point_at}
use Rattle.psy_kernel.specs.Acting.{IsLookIn, IsOfCode, SeesAs, ShowsAs}
use Rattle.psy_kernel.specs.declared.engine.Figure.{Figure}
use Rattle.psy_kernel.specs.declared.engine.Runner.{Runner}
use Rattle.psy_history.specs.declared.told.Order.{Order}
use Rattle.psy_history.specs.declared.told.Script.{Script}
use Rattle.psy_history.specs.Scripts.{IsScript, order_of, stalls_of}
use Rattle.psy_kernel.specs.Seeing.{Sight, sight_in, window_in}
use Rattle.psy_kernel.specs.Standing.{AgentStands, DeedsStand, HasDone, charge_after}

-- The order of the last of so many orders that have come into force, and the first one where none has
abbrev pub order_by : List ℕ → List Order → ℕ → List ℕ
order_by declared orders passed = if passed == 0 then declared else (get_or orders (passed - 1) (record { cycle = 0; agents = declared })).agents

-- The figure of an agent whose action with this deadline finished at a cycle or was stopped there
abbrev pub figured : ℕ → ℕ → ℕ → ℕ → Figure → Figure
figured until quantum deadline finish figure =
    if nat_le deadline until then record { count = figure.count + 1; slack = lesser (deadline * quantum - finish) figure.slack } else figure

-- An action that ends at a point from a date: the point is one of the agent's, and its clock reaches so far.
pub record MayEnd (timing : Timing) (start point : ℕ) : Type 0 where
  pub known : point < length timing.points
  pub clock : (point_at timing point).clock < length timing.clocks
  pub lawful : IsClock (clock_at timing (point_at timing point).clock)
  pub some : 1 ≤ (point_at timing point).count
  pub few : (point_at timing point).count ≤ ADVANCE
  pub early : start ≤ 2 ^ 40

-- What an agent has, with its seat and the copies that are kept of what it owns
pub record OneStands (s : System) (code : Code) (turns : List (Option Turn)) (until date agent : ℕ) (actions : List Action) (runner : Runner)
    (waits : Option ℕ) (seat : Seat) (ended : List ℤ) : Type 0 where
  pub stands : AgentStands s code turns until agent actions runner waits
  pub seated : SeatStands date turns actions seat
  pub kept : (variable : ℕ) (value : ℤ) → slice_get ended variable ≡ Some value → (variable_of s variable).owner ≡ Some agent
      → KeepsCopy date turns variable actions value

-- The next cycle goes to the last of an agent's actions, which is pending and due after this date.
pub record GetsCycle (s : System) (code : Code) (turns : List (Option Turn)) (until date cycle agent : ℕ) (r : Action) (before : List Action) : Type 0 where
  pub of_code : IsOfCode s code r
  pub agent_is : r.agent ≡ agent
  pub pending : is_pending turns r ≡ true
  pub numbers : All (λ (q : Action). q.number < r.number) before
  pub few : length before ≤ until
  pub counted : s.opening.count agent < 2 ^ 50
  pub started : r.start ≤ date
  pub later : date < r.deadline
  pub at : length turns ≡ cycle
  pub within : cycle < r.deadline * s.unit.quantum
  pub run : cycle < until * s.unit.quantum
  pub most : until ≤ 4294967295
  pub quantum : s.unit.quantum ≤ QUANTUM
  pub ends : (point end : ℕ) → r.verdict ≡ Done point end → (end ≡ end_date (timing s agent) r.start point) × MayEnd (timing s agent) r.start point

-- What the outbox of an agent has, and what was taken of the streams that it receives
pub record BoxStands (s : System) (code : Code) (turns : List (Option Turn)) (date agent : ℕ) (actions : List Action) (sends : List Sent)
    (taken : List ℕ) : Type 0 where
  pub doing : DeedsStand s code turns actions sends taken
  pub sent : KeepsSends date turns actions sends
  pub took : (stream n : ℕ) → slice_get taken stream ≡ Some n → (stream_of s stream).receiver ≡ agent → KeepsTakes date turns stream actions n

-- What an action that had so many cycles sees, and what it sent and took
pub record ActsIn (s : System) (code : Code) (r : Action) (had : ℕ) (sight : Sight) (taken : List ℕ) (outbox : Outboxed) : Type 0 where
  pub shows : ShowsAs s code r (charge_after s r had).paid (window_in sight taken outbox None)
  pub sees : SeesAs s r sight taken
  pub did : HasDone s code r (charge_after s r had).paid outbox.sends taken

-- The same in the run of a plan with these inputs and stalls that begins so, what the agent has before the cycle, what its action sees then,
-- and what it has done
pub record IsGiven (plan : Plan) (opening : Opening) (inputs : List (List ℤ)) (stalls : ℕ → List Stall) (turns : List (Option Turn))
    (date cycle agent : ℕ) (r : Action) (before : List Action) (runner : Runner) (waits : Option ℕ)
    (seat : Seat) (ended : List ℤ) (sight : Sight) (taken : List ℕ) (outbox : Outboxed) : Type 0 where
  pub gets : GetsCycle (opened_of plan opening inputs stalls) plan.code turns plan.until date cycle agent r before
  pub has : OneStands (opened_of plan opening inputs stalls) plan.code turns plan.until date agent (r ∷ before) runner waits seat ended
  pub acts : ActsIn (opened_of plan opening inputs stalls) plan.code r (units r.agent r.number turns) sight taken outbox

-- How far back a variable's ring is reached for, with the look of a cycle at a date, of an action that started at another
abbrev pub reach_by : System → ℕ → ℕ → ℕ → Option (ℕ × ℕ) → Option ℕ → Option ℕ
reach_by s variable start date None reach = reach
reach_by s variable start date (Some (looked, back)) reach = if looked == variable then greater (age_at s variable back start date) reach else reach

-- A look at a variable that there is, and not too far back to be counted
abbrev pub IsNear : System → ℕ → ℕ → Option (ℕ × ℕ) → Type 0
IsNear s start date None = ⊤
IsNear s start date (Some (variable, back)) = (variable < length s.unit.variables) × (age_at s variable back start date < 2 ^ 32)

-- By variable, the rings have these sizes and stand for the history of the first so many dates.
abbrev pub AreRingsOf : System → Sizes → ℕ → List (List ℤ) → Type 0
AreRingsOf s sizes dates rings = (length rings ≡ length s.unit.variables)
    × ((variable : ℕ) (ring : List ℤ) → slice_get rings variable ≡ Some ring → RingStands s sizes dates variable ring)

-- By stream, the queues have these sizes and stand for the history of the first so many dates.
abbrev pub AreQueuesOf : System → Sizes → ℕ → List Queued → Type 0
AreQueuesOf s sizes dates queues = (length queues ≡ length s.unit.streams)
    × ((stream : ℕ) (queue : Queued) → slice_get queues stream ≡ Some queue → QueueStands s sizes dates stream queue)

-- What the action that gets the next cycle of its processor sees by rings, queues and an outbox of these sizes, once it has sent and taken so
-- much, and how far back it looks with that cycle, behind the last of so many dates; by agent, the cycles done went to these turns
pub record LooksBack (s : System) (sizes : Sizes) (code : Code) (turns : ℕ → List (Option Turn)) (date : ℕ) (r : Action) : Type 0 where
  pub acts : (rings : List (List ℤ)) (queues : List Queued) (taken : List ℕ) (outbox : Outboxed) → AreRingsOf s sizes (date + 1) rings
      → AreQueuesOf s sizes (date + 1) queues
      → length taken ≡ length s.unit.streams → outbox.size ≡ get_or sizes.outboxes r.agent 0
      → HasDone s code r (charge_after s r (units r.agent r.number (turns r.agent))).paid outbox.sends taken
      → ActsIn s code r (units r.agent r.number (turns r.agent)) (sight_in s.unit rings queues r.agent r.start date) taken outbox
  pub near : (look : Option (ℕ × ℕ)) → IsLookIn s code r (units r.agent r.number (turns r.agent)) look → IsNear s r.start date look
  pub reached : (variable : ℕ) (look : Option (ℕ × ℕ)) → IsLookIn s code r (units r.agent r.number (turns r.agent)) look
      → reach s (gone_to s.unit (processor_at s.unit r.agent) (turn_of (Some r)) turns) (history s (date + 1)) variable
      ≡ reach_by s variable r.start date look (reach s turns (history s (date + 1)) variable)

-- The actions before an agent's last one are finished or stopped.
abbrev pub AreOver : List (Option Turn) → List Action → Type 0
AreOver turns [] = ⊤
AreOver turns (r ∷ before) = All (λ q. is_pending turns q ≡ false) before

-- In a run of a plan that begins soundly, a cycle between a date and the next one
pub record IsCycleOf (plan : Plan) (opening : Opening) (inputs : List (List ℤ)) (script : Script) (date cycle : ℕ) : Type 0 where
  pub of_plan : IsPlan plan
  pub of_inputs : AreInputs plan.unit inputs
  pub of_script : IsScript plan.unit script
  pub sound : IsSoundFor plan opening inputs (stalls_of script)
  pub before : date < plan.until
  pub most : plan.until ≤ 4294967295
  pub low : date * plan.unit.quantum ≤ cycle
  pub high : cycle < (date + 1) * plan.unit.quantum

-- The history of a run that begins so
abbrev pub run_of : Plan → Opening → List (List ℤ) → Script → System
run_of plan opening inputs script = opened_of plan opening inputs (stalls_of script)

-- By agent, what the first so many cycles of its processor went to
abbrev pub run_turns : Plan → Opening → List (List ℤ) → Script → ℕ → ℕ → List (Option Turn)
run_turns plan opening inputs script cycles agent = turns_by (run_of plan opening inputs script) (order_of plan.unit script) cycles agent
