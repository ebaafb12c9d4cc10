-- A cycle that an action doesn't get changes nothing of it, and so nothing of what its agent has.
use Rattle.std.proofs.Common.{◌≡◌, refl, sym, ap, ◌∙◌, subst}
use Rattle.std.specs.Prelude.{ℕ, suc, ◌+◌, ◌-◌, ◌*◌, ◌==◌, Bool, true, false, not, nat_le, nat_lt, if◌then◌else◌, List, [], ◌∷◌, ◌++◌, filter, map, length, slice_get, Option, Some, None, ℤ}
use Rattle.std.specs.List.{All}
use Rattle.std.proofs.lemmas.Bool.{cond-false, and_left, and_right, and_from, eq-eqb, ne_eqb}
use Rattle.std.proofs.lemmas.List.Elements.{All-filter, All-head, All-tail, All-weaker}
use Rattle.psy_budget.specs.Charges.{Charged}
use Rattle.psy_code.specs.declared.code.Code.{Code}
use Rattle.psy_code.specs.declared.look.Sent.{Sent}
use Rattle.psy_code.specs.Execution.{RunState, Running, run_code}
use Rattle.psy_history.specs.Regular.{begun_by}
use Rattle.psy_dates.specs.declared.seat.Seat.{Seat}
use Rattle.psy_dates.specs.Standing.{KeepsCopy, KeepsSends, KeepsTakes, SeatStands, phase_by, phase_of}
use Rattle.psy_machine.specs.Stepping.{AgentMachine}
use Rattle.psy_history.specs.Actions.{Action, System, is_done, is_silent, stream_of}
use Rattle.psy_meaning.specs.CodeWays.{agent_code_at}
use Rattle.psy_history.specs.Schedule.{Turn, finish, is_of, is_pending, units, work}
use Rattle.psy_history.specs.Summary.{due_by, due_count, least_slack, numbers_in, slack_of}
use Rattle.psy_base.specs.Extremes.{least_of}
use Rattle.psy_kernel.specs.declared.engine.Runner.{Runner}
use Rattle.psy_kernel.specs.Standing.{AgentStands, ChargeStands, DeedsStand, HasDone, MachineIn, MachineStands, charge_after, deadline_of, settled}

-- ---- lists

pub filter_agree_on : {X : Type 0} (p q : X → Bool) (xs : List X) → All (λ x. p x ≡ q x) xs → filter p xs ≡ filter q xs
filter_agree_on p q [] h = refl
filter_agree_on p q (x ∷ xs) h =
    ap (λ test. if test then x ∷ filter p xs else filter p xs) (All-head (λ y. p y ≡ q y) x xs h)
    ∙ ap (λ rest. if q x then x ∷ rest else rest) (filter_agree_on p q xs (All-tail (λ y. p y ≡ q y) x xs h))

map_agree_on : {X Y : Type 0} (f g : X → Y) (xs : List X) → All (λ x. f x ≡ g x) xs → map f xs ≡ map g xs
map_agree_on f g [] h = refl
map_agree_on f g (x ∷ xs) h =
    ap (λ y. y ∷ map f xs) (All-head (λ y. f y ≡ g y) x xs h)
    ∙ ap (λ rest. g x ∷ rest) (map_agree_on f g xs (All-tail (λ y. f y ≡ g y) x xs h))

-- ---- an action

-- The turns give an action as many cycles, and the last one as late
pub record AreSameFor (turns now : List (Option Turn)) (r : Action) : Type 0 where
  pub units : units r.agent r.number now ≡ units r.agent r.number turns
  pub finish : finish r.agent r.number now ≡ finish r.agent r.number turns

pub missed : (turn : Option Turn) (turns : List (Option Turn)) (r : Action) → is_of r.agent r.number turn ≡ false → AreSameFor turns (turn ∷ turns) r
missed turn turns r h = record {
  units = cond-false (is_of r.agent r.number turn) (suc (units r.agent r.number turns)) (units r.agent r.number turns) h;
  finish = cond-false (is_of r.agent r.number turn) (length turns + 1) (finish r.agent r.number turns) h;
}

pub is_own : (agent number : ℕ) → is_of agent number (Some (record { agent = agent; number = number })) ≡ true
is_own agent number = and_from (agent == agent) (number == number) (eq-eqb agent agent refl) (eq-eqb number number refl)

pub other_agent : (agent number : ℕ) (turn : Turn) → (turn.agent ≡ agent → ⊥) → is_of agent number (Some turn) ≡ false
other_agent agent number turn h = and_left (turn.agent == agent) (turn.number == number) (ne_eqb turn.agent agent h)

pub other_number : (agent number : ℕ) (turn : Turn) → (turn.number ≡ number → ⊥) → is_of agent number (Some turn) ≡ false
other_number agent number turn h = and_right (turn.agent == agent) (turn.number == number) (ne_eqb turn.number number h)

module _ (turns now : List (Option Turn)) where
  pub pending_same : (r : Action) → AreSameFor turns now r → is_pending now r ≡ is_pending turns r
  pending_same r same = ap (λ n. nat_lt n (work r)) same.units

  pub slack_of_same : (quantum : ℕ) (r : Action) → AreSameFor turns now r → slack_of quantum now r ≡ slack_of quantum turns r
  slack_of_same quantum r same = ap (λ n. r.deadline * quantum - n) same.finish

  pub settled_same : (until : ℕ) (actions : List Action) → All (AreSameFor turns now) actions → settled now until actions ≡ settled turns until actions
  settled_same until actions same =
      filter_agree_on (λ r. not (is_pending now r)) (λ r. not (is_pending turns r)) (due_by until actions)
      (All-weaker (AreSameFor turns now) (λ r. not (is_pending now r) ≡ not (is_pending turns r)) (λ r h. ap not (pending_same r h)) (due_by until actions)
      (All-filter (λ (r : Action). nat_le r.deadline until) (AreSameFor turns now) actions same))

  least_same : (s : System) (agent : ℕ) (actions : List Action) → All (AreSameFor turns now) actions → least_slack s now agent actions ≡ least_slack s turns agent actions
  least_same s agent actions same =
      ap (λ slacks. least_of (numbers_in (s.opening.slack agent) ++ slacks)) (map_agree_on (slack_of s.unit.quantum now) (slack_of s.unit.quantum turns) actions
      (All-weaker (AreSameFor turns now) (λ r. slack_of s.unit.quantum now r ≡ slack_of s.unit.quantum turns r) (slack_of_same s.unit.quantum) actions same))

  pub least_settled_same : (s : System) (until agent : ℕ) (actions : List Action) → All (AreSameFor turns now) actions → least_slack s now agent (settled now until actions) ≡ least_slack s turns agent (settled turns until actions)
  least_settled_same s until agent actions same =
      ap (least_slack s now agent) (settled_same until actions same)
      ∙ least_same s agent (settled turns until actions)
      (All-filter (λ r. not (is_pending turns r)) (AreSameFor turns now) (due_by until actions) (All-filter (λ (r : Action). nat_le r.deadline until) (AreSameFor turns now) actions same))

  pub phase_same : (date : ℕ) (r : Action) → AreSameFor turns now r → phase_of date now r ≡ phase_of date turns r
  phase_same date r same = ap (λ pending. phase_by (is_silent date (r ∷ [])) pending (is_done r.verdict)) (pending_same r same)

  -- ---- an agent

  charge_kept : (s : System) (agent : ℕ) (actions : List Action) (charge : Charged) → All (AreSameFor turns now) actions → ChargeStands s turns agent actions charge → ChargeStands s now agent actions charge
  charge_kept s agent [] charge same h = h
  charge_kept s agent (r ∷ before) charge same h = h ∙ ap (charge_after s r) (sym (AreSameFor.units (All-head (AreSameFor turns now) r before same)))

  machine_kept : (s : System) (code : Code) (agent : ℕ) (actions : List Action) (machine : AgentMachine) → All (AreSameFor turns now) actions → MachineStands s code turns agent actions machine → MachineStands s code now agent actions machine
  machine_kept s code agent [] machine same h = h
  machine_kept s code agent (r ∷ before) machine same h =
      let head = All-head (AreSameFor turns now) r before same in
      subst (λ test. MachineIn s code now r test machine) (sym (pending_same r head)) (moved (is_pending turns r) h)
    where
      moved : (test : Bool) → MachineIn s code turns r test machine → MachineIn s code now r test machine
      moved true m = subst (λ n. (state : RunState) × (run_code code (agent_code_at code r.agent) (begun_by (agent_code_at code r.agent) r) (charge_after s r n).paid ≡ Running state) × (state.machine ≡ machine.machine)) (sym (AreSameFor.units (All-head (AreSameFor turns now) r before same))) m
      moved false m = m

  deadline_kept : (actions : List Action) → All (AreSameFor turns now) actions → deadline_of now actions ≡ deadline_of turns actions
  deadline_kept [] same = refl
  deadline_kept (r ∷ before) same = ap (λ test. if test then Some r.deadline else None) (pending_same r (All-head (AreSameFor turns now) r before same))

  pub agent_kept : (s : System) (code : Code) (until agent : ℕ) (actions : List Action) (runner : Runner) (waits : Option ℕ) → All (AreSameFor turns now) actions
      → AgentStands s code turns until agent actions runner waits → AgentStands s code now until agent actions runner waits
  agent_kept s code until agent actions runner waits same h = record {
    charged = charge_kept s agent actions runner.charge same h.charged;
    is_agent = h.is_agent;
    of_code = h.of_code;
    executes = machine_kept s code agent actions runner.machine same h.executes;
    ready = h.ready ∙ sym (deadline_kept actions same);
    counted = h.counted ∙ ap (due_count s agent) (sym (settled_same until actions same));
    slacked = h.slacked ∙ sym (least_settled_same s until agent actions same);
  }

  pub seat_kept : (date : ℕ) (actions : List Action) (seat : Seat) → All (AreSameFor turns now) actions → SeatStands date turns actions seat → SeatStands date now actions seat
  seat_kept date [] seat same h = h
  seat_kept date (r ∷ before) seat same h = record {
    phase = h.phase ∙ sym (phase_same date r (All-head (AreSameFor turns now) r before same));
    number = h.number;
    point = h.point;
    start = h.start;
    deadline = h.deadline;
    ends = h.ends;
  }

  pub copy_kept : (date variable : ℕ) (actions : List Action) (value : ℤ) → All (AreSameFor turns now) actions → KeepsCopy date turns variable actions value → KeepsCopy date now variable actions value
  copy_kept date variable [] value same h = h
  copy_kept date variable (r ∷ before) value same h = λ ended. h (sym (phase_same date r (All-head (AreSameFor turns now) r before same)) ∙ ended)

  -- ---- what an agent has sent and taken

  pub sends_kept : (date : ℕ) (actions : List Action) (sends : List Sent) → All (AreSameFor turns now) actions → KeepsSends date turns actions sends → KeepsSends date now actions sends
  sends_kept date [] sends same h = h
  sends_kept date (r ∷ before) sends same h = λ ended. h (sym (phase_same date r (All-head (AreSameFor turns now) r before same)) ∙ ended)

  pub takes_kept : (date stream : ℕ) (actions : List Action) (n : ℕ) → All (AreSameFor turns now) actions → KeepsTakes date turns stream actions n → KeepsTakes date now stream actions n
  takes_kept date stream [] n same h = h
  takes_kept date stream (r ∷ before) n same h = λ ended. h (sym (phase_same date r (All-head (AreSameFor turns now) r before same)) ∙ ended)

  pub deeds_kept : (s : System) (code : Code) (actions : List Action) (sends : List Sent) (taken : List ℕ) → All (AreSameFor turns now) actions → DeedsStand s code turns actions sends taken → DeedsStand s code now actions sends taken
  deeds_kept s code [] sends taken same h = h
  deeds_kept s code (r ∷ before) sends taken same h = λ pending.
      let head = All-head (AreSameFor turns now) r before same in
      subst (λ n. HasDone s code r (charge_after s r n).paid sends taken) (sym head.units) (h (sym (pending_same r head) ∙ pending))

-- An agent's action has done the same where the counts of the streams that it receives are the same
pub deeds_untaken : (s : System) (code : Code) (turns : List (Option Turn)) (agent : ℕ) (actions : List Action) (sends : List Sent) (old taken : List ℕ) → All (λ (q : Action). q.agent ≡ agent) actions
    → ((stream n : ℕ) → slice_get taken stream ≡ Some n → (stream_of s stream).receiver ≡ agent → slice_get old stream ≡ Some n) → DeedsStand s code turns actions sends old → DeedsStand s code turns actions sends taken
deeds_untaken s code turns agent [] sends old taken own same h = h
deeds_untaken s code turns agent (r ∷ before) sends old taken own same h = λ pending.
    let did : HasDone s code r (charge_after s r (units r.agent r.number turns)).paid sends old = h pending in
    record {
      state = did.state;
      running = did.running;
      sent = did.sent;
      took = λ stream n at its. did.took stream n (same stream n at (its ∙ All-head (λ (q : Action). q.agent ≡ agent) r before own)) its;
    }
