-- An engine whose next date is due on each processor: every action that is due by then is over.
use Rattle.std.proofs.Common.{◌≡◌, ℤ, ℕ, suc, ◌+◌, ◌-◌, ◌*◌, ◌^◌, ◌<◌, ◌≤◌, Bool, true, false, nat_lt, if◌then◌else◌, List, [], length, map, Option, Some, None, refl, ap, sym, subst, ◌∙◌, arith}
use Rattle.std.specs.List.{All, Contains, slice_get}
use Rattle.std.proofs.Math.Numerals.{add-one}
use Rattle.std.proofs.lemmas.List.{length-map}
use Rattle.std.proofs.lemmas.List.Elements.{All-contains}
use Rattle.psy_code.specs.declared.code.Code.{Code}
use Rattle.psy_tree.specs.declared.unit.Unit.{Unit as Whole}
use Rattle.psy_history.specs.Actions.{Action, History, System, first_action}
use Rattle.psy_history.specs.History.{history}
use Rattle.psy_history.specs.Processors.{processor_at, processors}
use Rattle.psy_history.specs.Schedule.{Turn, is_pending, units}
use Rattle.psy_history.specs.Summary.{reach}
use Rattle.psy_history.specs.Regular.{IsLawful, IsRegular, first_number}
use Rattle.psy_history.specs.Runs.{IsRun}
use Rattle.psy_meaning.specs.KnownWays.{Listed, Ways}
use Rattle.psy_history.specs.Scheduled.{IsFinished, IsSupplied, turns_by, turns_of}
use Rattle.psy_dates.specs.declared.seat.Seat.{Seat}
use Rattle.psy_dates.specs.declared.shared.Shared.{Shared}
use Rattle.psy_dates.specs.Outboxes.{Outboxed}
use Rattle.psy_dates.specs.Standing.{NoneActs, SharedStands, dates_done}
use Rattle.psy_dates.specs.Plans.{IsSoundFor}
use Rattle.psy_dates.proofs.lemmas.Begun.{AreBegun, are_begun}
use Rattle.psy_dates.proofs.lemmas.Fits.{GoOn, GoWell, goes_well_from}
use Rattle.psy_kernel.specs.Engines.{EngineState, next_date}
use Rattle.psy_kernel.specs.declared.engine.Runner.{Runner}
use Rattle.psy_kernel.specs.declared.engine.Engine.TheInside.{Inside}
use Rattle.psy_kernel.specs.declared.engine.Server.{Server}
use Rattle.psy_history.specs.Scripts.{stalls_of}
use Rattle.psy_kernel.specs.Standing.{AgentStands, DeedsStand, EngineStands, given_at, most_held_in, state_of, told_from, waits_on}
use Rattle.psy_dates.specs.Movers.{IsDoneBelow}
use Rattle.psy_kernel.specs.Starting.{deadline_at, held_at, runner_at, seat_at, starts_at}
use Rattle.psy_kernel.proofs.Dated.{agents_after, free_before}
use Rattle.psy_kernel.proofs.DeedsDated.{HaveBegun, HaveStayed, deeds_after}
use Rattle.psy_kernel.proofs.Engines.{cycles_of, opening_in, order_in, run_in, turns_in}
use Rattle.psy_kernel.proofs.HeldMessages.{held_more}
use Rattle.psy_kernel.proofs.Parts.{shared_alike}
use Rattle.psy_kernel.proofs.Started.{Sits, none_acts}
use Rattle.psy_kernel.proofs.Supplied.{supplied as is_supplied}
use Rattle.psy_kernel.proofs.ToldPlaces.{none_first}

-- No action that isn't started had a cycle.
abbrev pub Unstarted : Type 0
Unstarted = (s : System) (order : ℕ → List ℕ) (date cycles agent number : ℕ) → IsLawful s → 1 ≤ s.unit.quantum → cycles ≤ date * s.unit.quantum → first_number s agent + length (history s date agent) ≤ number → units agent number (turns_by s order cycles agent) ≡ 0

-- Each action that is due is finished, or stopped.
abbrev pub InTime : Type 0
InTime = (s : System) (order : ℕ → List ℕ) (until date agent : ℕ) (r : Action) → IsSupplied s order until → date ≤ until → Contains (history s date agent) r → r.deadline ≤ date → IsFinished s order (date * s.unit.quantum) r

-- The actions that a date starts reach for nothing before it.
abbrev pub LeavesReach : Type 0
LeavesReach = (s : System) (order : ℕ → List ℕ) (date cycles variable : ℕ) → IsLawful s → 1 ≤ s.unit.quantum → cycles ≤ date * s.unit.quantum
    → reach s (turns_by s order cycles) (history s (date + 1)) variable ≡ reach s (turns_by s order cycles) (history s date) variable

-- Code that fits goes well, from wherever it begins soundly. Runs are lawful, and begin so.
pub record AreRunLaws : Type 0 where
  pub well : GoWell
  pub opened : GoOn
  pub lawful : (s : System) (ways : Ways) (code : Code) → IsRun s ways code → IsLawful s
  pub none : (s : System) (ways : Ways) (code : Code) → IsRun s ways code → (date agent : ℕ) → date < s.opening.dates → history s date agent ≡ []
  pub silent : (s : System) (ways : Ways) (code : Code) → IsRun s ways code → (date agent : ℕ) → s.opening.silent agent ≡ true → history s date agent ≡ []
  pub waits : (s : System) (ways : Ways) (code : Code) → IsRun s ways code
      → (date agent : ℕ) → s.opening.dates ≤ date → agent < length s.unit.agents → s.opening.silent agent ≡ false → history s date agent ≡ []
      → s.opening.starts agent ≡ Some (first_action s.unit s.nexts s.executor agent)

-- How far back rings were reached for depends on the turns alone.
abbrev pub SameReach : Type 0
SameReach = (s : System) (turns others : ℕ → List (Option Turn)) (h : History) (variable : ℕ) → ((agent : ℕ) → turns agent ≡ others agent) → reach s turns h variable ≡ reach s others h variable

-- Each agent is of a processor that the program has.
abbrev pub HaveHomes : Type 0
HaveHomes = (unit : Whole) (agent : ℕ) → processor_at unit agent < processors unit

-- The engine stands before this date, which is due.
pub record IsDue (k : Inside) (date : ℕ) : Type 0 where
  pub stands : EngineStands k
  pub is_date : date ≡ dates_done k.shared.date
  pub filled : (processor : ℕ) → processor < length k.servers.items → cycles_of k.servers.items processor ≡ date * k.plan.unit.quantum
  pub within : date ≤ k.plan.until
  pub small : date ≤ 2 ^ 32
  pub lawful : IsLawful (run_in k)
  pub opens : AreBegun (run_in k) date
  pub homes : (agent : ℕ) → processor_at k.plan.unit agent < processors k.plan.unit
  pub no_cycle : Unstarted
  pub in_time : InTime

pub is_due : (k : Inside) (e : EngineState) (date : ℕ) → EngineStands k → state_of k ≡ e → All (λ done. done ≡ next_date e) e.done → e.dates ≤ e.plan.until → date ≡ e.dates → date ≤ 2 ^ 32 → AreRunLaws → Unstarted → InTime → HaveHomes → IsDue k date
is_due k e date h view due early is_date small laws no_cycle in_time homes = record {
  stands = h;
  is_date = here;
  filled = λ processor less.
      subst (λ (q : EngineState). All (λ done. done ≡ next_date q) q.done) (sym view) due processor 0 (omega (arith, less, length-map k.servers.items (λ (server : Server). server.cycles)))
      ∙ ap (λ d. d * k.plan.unit.quantum) (sym here);
  within = subst (λ d. d ≤ k.plan.until) (sym here) (subst (λ (q : EngineState). q.dates ≤ q.plan.until) (sym view) early);
  small = small;
  lawful = laws.lawful s ways code run;
  opens = are_begun s ways code date (h.sound h.plan) (omega (arith, h.behind, here)) (laws.none s ways code run) (laws.silent s ways code run) (laws.waits s ways code run);
  homes = homes k.plan.unit;
  no_cycle = no_cycle;
  in_time = in_time;
}
  where
    s : System
    s = run_in k

    ways : Ways
    ways = Listed h.plan.ways

    code : Code
    code = k.plan.code

    here : date ≡ dates_done k.shared.date
    here = is_date ∙ ap (λ (q : EngineState). q.dates) (sym view)

    run : IsRun s ways code
    run = goes_well_from k.plan h.plan laws.well laws.opened (opening_in k) k.shared.inputs.lists (stalls_of k.script) h.inputs h.sound

module _ (k : Inside) (date : ℕ) (at : IsDue k date) where
  h : EngineStands k
  h = at.stands

  lawful : IsLawful (run_in k)
  lawful = at.lawful

  -- its history begins soundly, with what was done before
  pub sound : IsSoundFor k.plan (opening_in k) k.shared.inputs.lists (stalls_of k.script)
  sound = h.sound

  pub later : (opening_in k).dates ≤ date
  later = at.opens.behind

  quantum_some : 1 ≤ k.plan.unit.quantum
  quantum_some = h.plan.fits.bare.quantum.0

  supplied : IsSupplied (run_in k) (order_in k) k.plan.until
  supplied = is_supplied (state_of k) h.plan h.script lawful

  -- by agent, what all cycles before the date went to
  abbrev pub full : ℕ → List (Option Turn)
  full = turns_by (run_in k) (order_in k) (date * k.plan.unit.quantum)

  pub turns_full : (agent : ℕ) → turns_in k agent ≡ full agent
  turns_full agent =
      let less : processor_at k.plan.unit agent < length k.servers.items = omega (arith, at.homes agent, h.served) in
      ap (λ c. turns_of (run_in k) (order_in k) c (processor_at k.plan.unit agent)) (at.filled (processor_at k.plan.unit agent) less)

  pub before_filled : SharedStands (run_in k) k.plan.sizes full date k.shared
  before_filled = shared_alike (run_in k) k.plan.sizes (turns_in k) full date k.shared turns_full (subst (λ d. SharedStands (run_in k) k.plan.sizes (turns_in k) d k.shared) (sym at.is_date) h.shared)

  unstarted : (agent number : ℕ) → first_number (run_in k) agent + length (history (run_in k) date agent) ≤ number → units agent number (full agent) ≡ 0
  unstarted agent number more = at.no_cycle (run_in k) (order_in k) date (date * k.plan.unit.quantum) agent number lawful quantum_some (omega arith) more

  in_time : (agent : ℕ) (r : Action) → Contains (history (run_in k) date agent) r → r.deadline ≤ date → is_pending (full agent) r ≡ false
  in_time agent r has by =
      let own : r.agent ≡ agent = IsRegular.agent_is (All-contains (IsRegular (run_in k) agent) (history (run_in k) date agent) r (lawful.actions date agent).each has) in
      subst (λ a. is_pending (full a) r ≡ false) own (at.in_time (run_in k) (order_in k) k.plan.until date agent r supplied at.within has by)

  pub none_due : NoneActs date k.shared.seats.items
  none_due agent seat there by = none_acts k.plan.unit k.plan.code k.plan.nexts (opening_in k) (stalls_of k.script) k.shared.inputs.lists date k.plan.until agent (full agent) lawful at.opens at.small (unstarted agent) (in_time agent) seat (date - 1) (before_filled.seats agent seat there) by

  pub same_reach : LeavesReach → SameReach → (variable : ℕ) (n : Option ℕ) → slice_get k.reaches.items variable ≡ Some n → n ≡ reach (run_in k) full (history (run_in k) (date + 1)) variable
  same_reach leaves same variable n there =
      h.reached variable n there ∙ ap (λ d. reach (run_in k) (turns_in k) (history (run_in k) d) variable) (sym at.is_date)
      ∙ same (run_in k) (turns_in k) full (history (run_in k) date) variable turns_full
      ∙ sym (leaves (run_in k) (order_in k) date (date * k.plan.unit.quantum) variable lawful quantum_some (omega arith))

  -- ---- behind the date

  module _ (shared : Shared) (done : SharedStands (run_in k) k.plan.sizes full (date + 1) shared) where
    sits : (agent : ℕ) (seat : Seat) → slice_get shared.seats.items agent ≡ Some seat → Sits (run_in k) date (full agent) agent (history (run_in k) (suc date) agent) seat
    sits agent seat there =
        let here : Sits (run_in k) (date + 1 - 1) (full agent) agent (history (run_in k) (suc date) agent) seat = subst (λ d. Sits (run_in k) (date + 1 - 1) (full agent) agent (history (run_in k) d agent) seat) (add-one date) (done.seats agent seat there) in
        subst (λ d. Sits (run_in k) d (full agent) agent (history (run_in k) (suc date) agent) seat) (omega arith) here

    was : (agent : ℕ) (runner : Runner) → slice_get k.runners.items agent ≡ Some runner → AgentStands (run_in k) k.plan.code (full agent) k.plan.until agent (history (run_in k) date agent) runner (waits_on k.plan.unit k.servers.items agent)
    was agent runner there =
        subst (λ ts. AgentStands (run_in k) k.plan.code ts k.plan.until agent (history (run_in k) date agent) runner (waits_on k.plan.unit k.servers.items agent)) (turns_full agent)
        (subst (λ d. AgentStands (run_in k) k.plan.code (turns_in k agent) k.plan.until agent (history (run_in k) d agent) runner (waits_on k.plan.unit k.servers.items agent)) (sym at.is_date) (h.agents agent runner there))

    pub free : (agent : ℕ) → starts_at date (seat_at shared.seats.items agent) ≡ true → waits_on k.plan.unit k.servers.items agent ≡ None
    free = free_before k.plan.unit k.plan.code k.plan.nexts (opening_in k) (stalls_of k.script) k.shared.inputs.lists date k.plan.until full lawful at.opens at.small unstarted in_time k.runners.items (waits_on k.plan.unit k.servers.items) h.run was shared.seats.items done.seated sits

    pub agents : (runners : List Runner) (waits : ℕ → Option ℕ) → IsDoneBelow (runner_at date shared.seats.items k.plan.unit.agents) (length k.plan.unit.agents) k.runners.items runners
        → ((agent : ℕ) → agent < length k.plan.unit.agents → waits agent ≡ deadline_at date shared.seats.items agent (waits_on k.plan.unit k.servers.items agent))
        → (agent : ℕ) (runner : Runner) → slice_get runners agent ≡ Some runner → AgentStands (run_in k) k.plan.code (full agent) k.plan.until agent (history (run_in k) (suc date) agent) runner (waits agent)
    agents = agents_after k.plan.unit k.plan.code k.plan.nexts (opening_in k) (stalls_of k.script) k.shared.inputs.lists date k.plan.until full lawful at.opens at.small unstarted in_time k.runners.items (waits_on k.plan.unit k.servers.items) h.run was shared.seats.items done.seated sits

    pub helds : (after : List ℕ) → IsDoneBelow (held_at shared.queues.items) (length shared.queues.items) k.helds.items after → (stream n : ℕ) → slice_get after stream ≡ Some n → n ≡ most_held_in (run_in k) (date + 1) stream
    helds after_each done_each = held_more (run_in k) k.plan.sizes full date later shared done k.helds.items after_each h.holding (λ stream n there. subst (λ d. n ≡ most_held_in (run_in k) d stream) (sym at.is_date) (h.held stream n there)) done_each

    pub deeds : HaveBegun (run_in k) date shared.seats.items shared.outboxes.items shared.taken.items → HaveStayed (run_in k) date shared.seats.items k.shared.outboxes.items shared.outboxes.items k.shared.taken.items shared.taken.items
        → (agent : ℕ) (outbox : Outboxed) → slice_get shared.outboxes.items agent ≡ Some outbox → DeedsStand (run_in k) k.plan.code (full agent) (history (run_in k) (suc date) agent) outbox.sends shared.taken.items
    deeds begun stayed = deeds_after (run_in k) k.plan.code date full lawful unstarted in_time shared.seats.items done.seated sits k.shared.outboxes.items shared.outboxes.items done.boxed k.shared.taken.items shared.taken.items done.taking begun stayed
        (λ agent outbox there. subst (λ ts. DeedsStand (run_in k) k.plan.code ts (history (run_in k) date agent) outbox.sends k.shared.taken.items) (turns_full agent)
        (subst (λ d. DeedsStand (run_in k) k.plan.code (turns_in k agent) (history (run_in k) d agent) outbox.sends k.shared.taken.items) (sym at.is_date) (h.doing agent outbox there)))

pub none_given : (s : System) (date : ℕ) → 0 ≡ given_at s (suc date) 0 0
none_given s date =
    let none : 0 - length s.unit.agents ≡ 0 = omega arith in
    let none_more : 0 - length s.unit.variables ≡ 0 = omega arith in
    let untold : 0 ≡ length (told_from s date 0 0) = rw (none, none_more) (ap length (sym (none_first s date 0))) in
    by (nat_lt date s.opening.dates) untold
  where
    by : (before : Bool) → 0 ≡ length (told_from s date 0 0) → 0 ≡ (if before then 0 else length (told_from s date 0 0))
    by true untold = refl
    by false untold = untold

pub view_after : (k : Inside) (inputs : List (List ℤ)) (dates : ℕ) (done : List ℕ) → inputs ≡ k.shared.inputs.lists → dates ≡ dates_done k.shared.date + 1 → done ≡ map (λ (server : Server). server.cycles) k.servers.items
    → ◌≡◌ {A = EngineState} (record { plan = k.plan; inputs = inputs; script = k.script; opening = k.opening; dates = dates; done = done; given = 0 }) (record (state_of k) { dates = (state_of k).dates + 1; given = 0 })
view_after k inputs dates done same more kept = cc (same, more, kept)
