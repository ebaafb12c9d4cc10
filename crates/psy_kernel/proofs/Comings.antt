-- The cycle of a processor that comes next: who gets it, and what its action looks at.
use Rattle.std.proofs.Common.{◌≡◌, refl, sym, ap, ◌∙◌, subst, arith}
use Rattle.std.specs.Prelude.{ℕ, ◌+◌, ◌-◌, ◌/◌, ◌<◌, List, [], Option, Some, None, IsSome, get_or, length, slice_get}
use Rattle.std.proofs.lemmas.Option.{same_Some, slice_get-get_or}
use Rattle.psy_budget.specs.declared.charge.Tick.{Tick}
use Rattle.psy_budget.specs.declared.charge.Tick.TheVariants as tick
use Rattle.psy_budget.specs.Charges.{tick_of}
use Rattle.psy_code.specs.declared.code.Code.{Code}
use Rattle.psy_code.specs.Execution.{RunState, Running, call_of, run_code}
use Rattle.psy_code.specs.Views.{Call, Past, PermitsAll, Ready, Send, Take, Window, past_of}
use Rattle.psy_dates.specs.Outboxes.{Outboxed}
use Rattle.psy_dates.specs.Standing.{dates_done}
use Rattle.psy_dates.specs.declared.seat.Seat.{Seat}
use Rattle.psy_history.specs.Actions.{Action}
use Rattle.psy_history.specs.History.{history}
use Rattle.psy_history.specs.Processors.{served}
use Rattle.psy_history.specs.Regular.{begun_by}
use Rattle.psy_history.specs.Schedule.{Turn, pending, soonest, turn_of, units}
use Rattle.psy_history.specs.Scheduled.{turns_of}
use Rattle.psy_history.specs.Scripts.{stalls_of}
use Rattle.psy_machine.specs.Stepping.{look_of}
use Rattle.psy_meaning.specs.CodeWays.{agent_code_at}
use Rattle.psy_meaning.proofs.lemmas.Running.{same_running}
use Rattle.psy_ready.specs.Choice.{IsPick}
use Rattle.psy_kernel.specs.Acting.{InAction, IsLookIn, LooksBy}
use Rattle.psy_kernel.specs.Cycles.{IsGiven}
use Rattle.psy_kernel.specs.Seeing.{Sight, sight_in, view_in, window_in}
use Rattle.psy_kernel.specs.Standing.{EngineStands, IsChosen, IsRunning, MachineIn, charge_after}
use Rattle.psy_kernel.specs.Units.{IsLookAt, IsLookBy, IsLookOf, MaySee, action_at, agent_of, served_at}
use Rattle.psy_kernel.specs.declared.engine.Engine.TheInside.{Inside}
use Rattle.psy_kernel.specs.declared.engine.Runner.{Runner}
use Rattle.psy_kernel.specs.declared.engine.Server.{Server}
use Rattle.psy_kernel.specs.declared.seen.Seen.{Seen}
use Rattle.psy_kernel.proofs.CyclesDone.{tick_of_cycle}
use Rattle.psy_kernel.proofs.CyclesGiven.{Takes, deadline, gets, home, is_given, known, looks, nobody_first}
use Rattle.psy_kernel.proofs.Engines.{IsDue, opening_in, order_in, own_turns, run_in, turns_in}
use Rattle.psy_kernel.proofs.OneAgent.{early}
use Rattle.psy_kernel.proofs.PendingCycles.{permitted}

-- ---- the look of an instruction

-- A call that is a look asks for what is looked at.
past_call : (call : Option Call) (variable back : ℕ) → look_of call ≡ Some (variable, back) → call ≡ Some (Past variable back)
past_call None variable back e = absurd (cc)
past_call (Some (Past v b)) variable back e = (let p : (v, b) ≡ (variable, back) = same_Some (v, b) (variable, back) e in λ i. Some (Past (p i).0 (p i).1))
past_call (Some (Ready stream)) variable back e = absurd (cc)
past_call (Some (Take stream)) variable back e = absurd (cc)
past_call (Some (Send sent)) variable back e = absurd (cc)

-- Where a cycle makes a look, it pays an instruction that asks so
look_state : (code : Code) (r : Action) (paid variable back : ℕ) (t : Tick) → LooksBy code r paid (Some (variable, back)) t
    → (state : RunState) × (run_code code (agent_code_at code r.agent) (begun_by (agent_code_at code r.agent) r) paid ≡ Running state) × (call_of code state.machine ≡ Some (Past variable back))
look_state code r paid variable back tick.Paid h = (h.0, h.1, past_call (call_of code h.0.machine) variable back (sym h.2))
look_state code r paid variable back tick.Stalled h = absurd (cc)
look_state code r paid variable back tick.Spent h = absurd (cc)

-- ---- the cycle that comes next

module _ (k : Inside) (is : EngineStands k) (processor : ℕ) (server : Server) (d : IsDue k processor server) where
  abbrev all : List (Option Turn)
  all = turns_of (run_in k) (order_in k) server.cycles processor

  in_tick : server.cycles / k.plan.unit.quantum ≡ d.date
  in_tick = tick_of_cycle (run_in k) (order_in k) processor d.date server.cycles d.inside.2 d.inside.3

  action_is : (next : Option Action) → soonest (pending (served k.plan.unit processor (order_in k server.cycles)) all (history (run_in k) (d.date + 1))) ≡ next → action_at (run_in k) (order_in k) processor server.cycles ≡ next
  action_is next e = ap (λ n. soonest (pending (served k.plan.unit processor (order_in k server.cycles)) all (history (run_in k) (n + 1)))) in_tick ∙ e

  -- nobody waits
  module _ (nobody : IsChosen server.ready (order_in k server.cycles) None) where
    pub nobody_ran : served_at (run_in k) (order_in k) processor server.cycles ≡ None
    nobody_ran = ap (λ (a : Option Action). agent_of (turn_of a)) (action_is None (nobody_first k is processor server d nobody))

    pub nobody_looks : IsLookAt (run_in k) k.plan (order_in k) processor server.cycles None
    nobody_looks = subst (λ (a : Option Action). IsLookBy (run_in k) k.plan all a None) (sym (action_is None (nobody_first k is processor server d nobody))) refl

  -- an agent is chosen
  module _ (agent : ℕ) (pick : IsPick server.ready (order_in k server.cycles) agent) (r : Action) (before : List Action) (t : Takes k is processor server d agent pick r before) where
    abbrev pub had : ℕ
    had = units r.agent r.number (turns_in k agent)

    own_agent : r.agent ≡ agent
    own_agent = (gets k is processor server d agent pick r before t).agent_is

    pub agent_ran : served_at (run_in k) (order_in k) processor server.cycles ≡ Some agent
    agent_ran = ap (λ (a : Option Action). agent_of (turn_of a)) (action_is (Some r) t.comes_first) ∙ ap Some own_agent

    pub agent_looks : (seen : Option Seen) → IsLookOf (run_in k) k.plan r had seen → IsLookAt (run_in k) k.plan (order_in k) processor server.cycles seen
    agent_looks seen looks =
        subst (λ (a : Option Action). IsLookBy (run_in k) k.plan all a seen) (sym (action_is (Some r) t.comes_first))
        (subst (λ ts. IsLookOf (run_in k) k.plan r (units r.agent r.number ts) seen) (own_turns k is processor server d.there agent (home k is processor server d agent pick)) looks)

    -- what its agent has, and what it sees
    module _ (runner : Runner) (seat : Seat) (there : slice_get k.runners.items agent ≡ Some runner) (seated : slice_get k.shared.seats.items agent ≡ Some seat) (now : ℕ) (now_is : now ≡ dates_done k.shared.date - 1) where
      abbrev sight : Sight
      sight = sight_in k.plan.unit k.shared.rings.items k.shared.queues.items agent seat.start now

      abbrev pub box : Outboxed
      box = get_or k.shared.outboxes.items agent (record { size = 0; sends = [] })

      box_there : slice_get k.shared.outboxes.items agent ≡ Some box
      box_there = slice_get-get_or k.shared.outboxes.items agent (record { size = 0; sends = [] }) (omega (arith, known k is processor server d agent pick, is.shared.boxed))

      pub given : IsGiven k.plan (opening_in k) k.shared.inputs.lists (stalls_of k.script) (turns_in k agent) now server.cycles agent r before runner (deadline k is processor server d agent pick) seat k.shared.ended.items sight k.shared.taken.items box
      given = is_given k is processor server d agent pick r before t now now_is runner seat there seated box box_there

      charged : runner.charge ≡ charge_after (run_in k) r had
      charged = given.has.stands.charged

      running : IsRunning k.plan.code r (charge_after (run_in k) r had).paid runner.machine
      running = subst (λ on. MachineIn (run_in k) k.plan.code (turns_in k agent) r on runner.machine) t.pending given.has.stands.executes

      in_action : InAction (run_in k) k.plan.code r had runner.charge runner.machine
      in_action = record {
        of_code = given.gets.of_code;
        agent = given.has.stands.is_agent ∙ sym own_agent;
        pending = early (run_in k) k.plan.code (turns_in k agent) k.plan.until now server.cycles agent r before given.gets;
        charged = charged;
        running = running;
      }

      abbrev window : Window
      window = window_in sight k.shared.taken.items box None

      module _ (variable back : ℕ) (look : IsLookIn (run_in k) k.plan.code r had (Some (variable, back))) where
        asks : (state : RunState) × (run_code k.plan.code (agent_code_at k.plan.code r.agent) (begun_by (agent_code_at k.plan.code r.agent) r) (charge_after (run_in k) r had).paid ≡ Running state) × (call_of k.plan.code state.machine ≡ Some (Past variable back))
        asks = look_state k.plan.code r (charge_after (run_in k) r had).paid variable back (tick_of (charge_after (run_in k) r had)) look

        call_is : call_of k.plan.code runner.machine.machine ≡ Some (Past variable back)
        call_is =
            ap (call_of k.plan.code) (sym running.2)
            ∙ ap (λ (state : RunState). call_of k.plan.code state.machine) (same_running running.0 asks.0 (sym running.1 ∙ asks.1))
            ∙ asks.2

        shown : IsSome (past_of (view_in k.shared.rings.items k.plan.unit.variables k.plan.unit.clocks seat.start now []) variable back)
        shown = (subst (PermitsAll window) call_is (permitted (run_in k) k.plan.code r had runner.charge runner.machine in_action window given.acts.shows)).0

        alike : past_of (view_in k.shared.rings.items k.plan.unit.variables k.plan.unit.clocks seat.start now []) variable back ≡ past_of r.view variable back
        alike = given.acts.shows.pasts asks.0 asks.1 variable back asks.2

        within : variable < length k.plan.unit.variables
        within =
            ((looks k is processor server d agent pick r before t).near (Some (variable, back))
            (subst (λ a. IsLookIn (run_in k) k.plan.code r (units r.agent r.number (turns_in k a)) (Some (variable, back))) (sym own_agent) look)).0

      pub may_see : (shows : Sight) → shows ≡ sight → MaySee (run_in k) k.plan r had runner shows seat.start
      may_see shows shows_is =
          subst (λ (x : Sight). MaySee (run_in k) k.plan r had runner x seat.start) (sym shows_is)
          (record {
            charged = charged;
            running = running;
            started = given.has.seated.start;
            known = within;
            shown = shown;
            alike = alike;
          })
