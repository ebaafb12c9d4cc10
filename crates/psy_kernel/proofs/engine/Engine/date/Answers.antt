-- What is left of the proof of `engine::Engine::date`.
use Rattle.std.proofs.Common.{◌≡◌, ℕ, ◌+◌, ◌<◌, suc, All, List, get_or, length, map, Option, None, true, refl, ap, sym, subst, ◌∙◌, arith, slice_get, ℤ}
use Rattle.std.proofs.Math.Numerals.{add-one}
use Rattle.std.proofs.lemmas.Option.{slice_get-get_or}
use Rattle.psy_ready.specs.Choice.{pending_deadline}
use Rattle.psy_history.specs.Actions.{System}
use Rattle.psy_history.specs.History.{history}
use Rattle.psy_history.specs.Processors.{processor_at}
use Rattle.psy_history.specs.Schedule.{Turn}
use Rattle.psy_history.specs.Summary.{reach}
use Rattle.psy_history.specs.Compiled.{AreInputs}
use Rattle.psy_history.specs.Scheduled.{turns_of}
use Rattle.psy_dates.specs.Plans.{IsSoundFor, opened_of}
use Rattle.psy_dates.specs.Standing.{SharedStands, dates_done}
use Rattle.psy_tree.specs.declared.unit.AgentDecl.{AgentDecl}
use Rattle.psy_history.specs.Scripts.{stalls_of}
use Rattle.psy_kernel.specs.Engines.{EngineState}
use Rattle.psy_kernel.specs.Standing.{AgentStands, DeedsStand, ServerStands, given_at, most_held_in, ready_of, waits_on}
use Rattle.psy_kernel.specs.declared.engine.Server.{Server}
use Rattle.psy_dates.specs.Movers.{IsDoneBelow, NamesAll}
use Rattle.psy_dates.proofs.lemmas.Names.{names_within}
use Rattle.psy_kernel.specs.Starting.{deadline_at, deadline_on, held_at, runner_at, seat_at, starts_at, waits_in}
use Rattle.psy_kernel.proofs.DatesDue.{AreRunLaws, IsDue, agents, before_filled, deeds, free, full, helds, is_due, later, none_due, none_given, same_reach, sound, turns_full, view_after}
use Rattle.psy_kernel.proofs.Engines.{opening_in, order_in, run_in}
use Rattle.psy_kernel.proofs.Homes.{home_is, homes_within}
use Rattle.psy_kernel.proofs.Parts.{shared_alike}
use Rattle.psy_kernel.proofs.Asked.{asked}
use Rattle.psy_kernel.proofs.ServersDated.{AreStarted, asked_count, done_kept, servers_then, waits_started}
use Rattle.psy_kernel.proofs.StartsNamed.{starts_named}
use Rattle.psy_kernel.proofs.engine.Engine.date.Goals.{After-dates-date, After-at_date}
use Rattle.psy_kernel.proofs.engine.Engine.date.Goals as goal

-- The date is due
due_now : (c : After-dates-date) → IsDue c.self.inside c.dates-date.result
due_now c =
    let laws : AreRunLaws = record { well = c.fitting.ensures; opened = c.openings.ensures.run; lawful = c.regular.ensures.lawful; none = c.openings.ensures.none; silent = c.openings.ensures.silent; waits = c.openings.ensures.waits } in
    is_due c.self.inside c.args.self.now c.dates-date.result c.self.invariant c.self.view_is c.requires.due c.requires.early c.dates-date.ensures.dates c.dates-date.ensures.few laws
    c.given.ensures.unstarted c.on_time.ensures.due c.one_of_them.ensures.one

-- What is shared behind it
done_now : (c : After-at_date) (due : IsDue c.self.inside c.dates-date.result) → SharedStands (run_in c.self.inside) c.self.inside.plan.sizes (full c.self.inside c.dates-date.result due) (c.dates-date.result + 1) c.at_date.new.shared
done_now c due =
    let k = c.self.inside in
    let date = c.dates-date.result in
    c.at_date.ensures.stands (opening_in k) (stalls_of k.script) (order_in k) (sound k date due) (later k date due) (before_filled k date due)

pub at_date-requires-clause-due : goal.at_date-requires-clause-due
at_date-requires-clause-due c =
    let k = c.self.inside in
    let date = c.dates-date.result in
    let at = goal.at.at_date-requires-clause-due c in
    none_due k date (due_now at.After-dates-date)

pub at_date-requires-clause-stands : goal.at_date-requires-clause-stands
at_date-requires-clause-stands c =
    let k = c.self.inside in
    let date = c.dates-date.result in
    let at = goal.at.at_date-requires-clause-stands c in
    let due = due_now at.After-dates-date in
    (opening_in k, stalls_of k.script, order_in k, sound k date due, later k date due, before_filled k date due)

pub hold_all-requires : goal.hold_all-requires
hold_all-requires c =
    let k = c.self.inside in
    let date = c.dates-date.result in
    let at = goal.at.hold_all-requires c in
    let due = due_now at.After-dates-date in
    let done = done_now at.After-at_date due in
    c.self.invariant.holding ∙ sym done.queued ∙ sym (ap length c.as_slice.ensures.value)

pub start_all-requires-clause-seated : goal.start_all-requires-clause-seated
start_all-requires-clause-seated c =
    let k = c.self.inside in
    let date = c.dates-date.result in
    let at = goal.at.start_all-requires-clause-seated c in
    let due = due_now at.After-dates-date in
    let done = done_now at.After-at_date due in
    ap length c.as_slice-2.ensures.value ∙ done.seated ∙ sym (ap length c.as_slice-3.ensures)

pub start_all-requires-clause-movers : goal.start_all-requires-clause-movers
start_all-requires-clause-movers c =
    let date = c.dates-date.result in
    subst (λ seats. NamesAll (λ agent. starts_at date (seat_at seats agent)) (length seats) 0 c.agents.result.now) (sym c.as_slice-2.ensures.value)
    (subst (NamesAll (λ agent. starts_at date (seat_at c.at_date.new.shared.seats.items agent)) (length c.at_date.new.shared.seats.items) 0) (sym c.agents.ensures)
    (starts_named date c.at_date.new.shared.seats.items c.at_date.new.shared.movers.moved.agents c.at_date.ensures.moved))

pub start_all-requires-clause-known : goal.start_all-requires-clause-known
start_all-requires-clause-known c =
    let date = c.dates-date.result in
    let all = starts_named date c.at_date.new.shared.seats.items c.at_date.new.shared.movers.moved.agents c.at_date.ensures.moved in
    subst (λ seats. All (λ agent. agent < length seats) c.agents.result.now) (sym c.as_slice-2.ensures.value)
    (subst (All (λ agent. agent < length c.at_date.new.shared.seats.items)) (sym c.agents.ensures)
    (names_within (λ agent. starts_at date (seat_at c.at_date.new.shared.seats.items agent)) (length c.at_date.new.shared.seats.items) 0 c.at_date.new.shared.movers.moved.agents all))

pub start_all-requires-clause-free : goal.start_all-requires-clause-free
start_all-requires-clause-free c =
    let k = c.self.inside in
    let date = c.dates-date.result in
    let at = goal.at.start_all-requires-clause-free c in
    let due = due_now at.After-dates-date in
    let done = done_now at.After-at_date due in
    let waits_home : (agent : ℕ) → waits_in k.plan.unit.agents k.servers.items agent ≡ waits_on k.plan.unit k.servers.items agent = λ agent. ap (λ p. pending_deadline (ready_of (slice_get k.servers.items p)) agent) (home_is k.plan.unit agent) in
    subst (λ agents. (agent : ℕ) → starts_at date (seat_at c.as_slice-2.result.now agent) ≡ true → waits_in agents k.servers.items agent ≡ None) (sym c.as_slice-3.ensures)
    (subst (λ seats. (agent : ℕ) → starts_at date (seat_at seats agent) ≡ true → waits_in k.plan.unit.agents k.servers.items agent ≡ None) (sym c.as_slice-2.ensures.value)
    (λ agent starts. waits_home agent ∙ free k date due c.at_date.new.shared done agent starts))

pub start_all-requires-clause-homes : goal.start_all-requires-clause-homes
start_all-requires-clause-homes c =
    let k = c.self.inside in
    subst (All (λ (a : AgentDecl). a.processor < length k.servers.items)) (sym c.as_slice-3.ensures) (homes_within k.plan.unit (length k.servers.items) c.self.invariant.served (c.one_of_them.ensures.one k.plan.unit))

pub start_all-requires-clause-waiting : goal.start_all-requires-clause-waiting
start_all-requires-clause-waiting c =
    let k = c.self.inside in
    λ place d less. ServerStands.waiting (c.self.invariant.servers place (get_or k.servers.items place d) (slice_get-get_or k.servers.items place d less)) ∙ sym (ap length c.as_slice-3.ensures)

pub invariant_of-self : goal.invariant_of-self
invariant_of-self c =
    let k = c.self.inside in
    let h = c.self.invariant in
    let unit = k.plan.unit in
    let date = c.dates-date.result in
    let at = goal.at.invariant_of-self c in
    let due = due_now at.After-dates-date in
    let s : List (List ℤ) → System = λ i. opened_of k.plan (opening_in k) i (stalls_of k.script) in
    let shared = c.at_date.new.shared in
    let done = done_now at.After-at_date due in
    let lists : k.shared.inputs.lists ≡ shared.inputs.lists = ap (λ i. i.lists) (sym c.at_date.ensures.inputs) in
    let dates : suc date ≡ dates_done shared.date = sym (done.date ∙ add-one date) in
    let begun : AreStarted k date shared.seats.items c.start_all.new.servers.items = λ processor old new was there.
    (let h = c.start_all.ensures.ready processor old new was there in (
      h.0,
      subst (λ seats. IsDoneBelow (deadline_on date k.plan.unit.agents seats processor) (length k.plan.unit.agents) old.ready new.ready) c.as_slice-2.ensures.value
          (subst (λ agents. IsDoneBelow (deadline_on date agents c.as_slice-2.result.now processor) (length agents) old.ready new.ready) c.as_slice-3.ensures h.1),
    )) in
    let servers : List Server = c.start_all.new.servers.items in
    let as_many = c.start_all.ensures.served in
    let after : List Server = c.ask_anew.new.servers.items in
    let after_is : after ≡ map asked servers = c.ask_anew.ensures in
    let cycles : map (λ (server : Server). server.cycles) k.servers.items ≡ map (λ (server : Server). server.cycles) after = sym (ap (map (λ (server : Server). server.cycles)) after_is ∙ done_kept k date due shared.seats.items servers as_many begun) in
    let now : (i : List (List ℤ)) → ℕ → List (Option Turn) = λ i agent. turns_of (s i) (order_in k) (get_or (map (λ (server : Server). server.cycles) after) (processor_at unit agent) 0) (processor_at unit agent) in
    let same : (agent : ℕ) → full k date due agent ≡ now k.shared.inputs.lists agent = λ agent.
    sym (turns_full k date due agent) ∙ ap (λ cs. turns_of (run_in k) (order_in k) (get_or cs (processor_at unit agent) 0) (processor_at unit agent)) cycles in
    let same_seats : IsDoneBelow (runner_at date shared.seats.items unit.agents) (length unit.agents) k.runners.items c.start_all.new.runners.items =
    subst (λ seats. IsDoneBelow (runner_at date seats unit.agents) (length unit.agents) k.runners.items c.start_all.new.runners.items) c.as_slice-2.ensures.value
    (subst (λ agents. IsDoneBelow (runner_at date c.as_slice-2.result.now agents) (length agents) k.runners.items c.start_all.new.runners.items) c.as_slice-3.ensures c.start_all.ensures.runners) in
    let same_helds : IsDoneBelow (held_at shared.queues.items) (length shared.queues.items) k.helds.items c.hold_all.new.helds.items =
    subst (λ queues. IsDoneBelow (held_at queues) (length queues) k.helds.items c.hold_all.new.helds.items) c.as_slice.ensures.value c.hold_all.ensures in
    let waits : (agent : ℕ) → agent < length unit.agents → waits_on unit after agent ≡ deadline_at date shared.seats.items agent (waits_on unit k.servers.items agent) = λ agent less.
    ap (λ xs. waits_on unit xs agent) after_is ∙ waits_started k date due shared.seats.items servers as_many begun agent less in
    record {
      plan = h.plan;
      inputs = subst (AreInputs unit) lists h.inputs;
      script = h.script;
      parts = h.parts;
      sound = subst (λ i. IsSoundFor k.plan (opening_in k) i (stalls_of k.script)) lists h.sound;
      behind = omega (arith, later k date due, dates);
      before = λ last first done. absurd (omega (arith, later k date due, dates, first, done));
      served = ap length after_is ∙ asked_count k date due shared.seats.items servers as_many begun ∙ h.served;
      servers = λ processor x at. servers_then k date due shared.seats.items servers as_many begun shared.inputs.lists (dates_done shared.date) (map (λ (server : Server). server.cycles) after) dates processor x (ap (λ xs. slice_get xs processor) (sym after_is) ∙ at);
      shared = subst (λ i. SharedStands (s i) k.plan.sizes (now i) (dates_done shared.date) shared) lists
          (subst (λ d. SharedStands (run_in k) k.plan.sizes (now k.shared.inputs.lists) d shared) (sym done.date) (shared_alike (run_in k) k.plan.sizes (full k date due) (now k.shared.inputs.lists) (date + 1) shared same done));
      run = same_seats.count ∙ h.run;
      reaching = h.reaching;
      reached = λ variable n en.
          subst (λ i. n ≡ reach (s i) (now i) (history (s i) (dates_done shared.date)) variable) lists
          (subst (λ d. n ≡ reach (run_in k) (now k.shared.inputs.lists) (history (run_in k) d) variable) (sym done.date)
          (same_reach k date due c.reaches.ensures.date c.reaches.ensures.same variable n en
          ∙ c.reaches.ensures.same (run_in k) (full k date due) (now k.shared.inputs.lists) (history (run_in k) (date + 1)) variable same));
      holding = same_helds.count ∙ h.holding;
      held = λ stream n en.
          subst (λ i. n ≡ most_held_in (s i) (dates_done shared.date) stream) lists
          (subst (λ d. n ≡ most_held_in (run_in k) d stream) (sym done.date) (helds k date due shared done c.hold_all.new.helds.items same_helds stream n en));
      doing = λ agent outbox eo.
          subst (λ i. DeedsStand (s i) k.plan.code (now i agent) (history (s i) (dates_done shared.date) agent) outbox.sends shared.taken.items) lists
          (subst (λ d. DeedsStand (run_in k) k.plan.code (now k.shared.inputs.lists agent) (history (run_in k) d agent) outbox.sends shared.taken.items) dates
          (subst (λ ts. DeedsStand (run_in k) k.plan.code ts (history (run_in k) (suc date) agent) outbox.sends shared.taken.items) (same agent)
          (deeds k date due shared done c.at_date.ensures.begun c.at_date.ensures.going agent outbox eo)));
      agents = λ agent runner there.
          subst (λ i. AgentStands (s i) k.plan.code (now i agent) k.plan.until agent (history (s i) (dates_done shared.date) agent) runner (waits_on unit after agent)) lists
          (subst (λ d. AgentStands (run_in k) k.plan.code (now k.shared.inputs.lists agent) k.plan.until agent (history (run_in k) d agent) runner (waits_on unit after agent)) dates
          (subst (λ ts. AgentStands (run_in k) k.plan.code ts k.plan.until agent (history (run_in k) (suc date) agent) runner (waits_on unit after agent)) (same agent)
          (agents k date due shared done c.start_all.new.runners.items (waits_on unit after) same_seats waits agent runner there)));
      all = h.all;
      place = omega arith;
      unshown = λ l. refl;
      given = subst (λ d. 0 ≡ given_at (s shared.inputs.lists) d 0 0) dates (none_given (s shared.inputs.lists) date);
    }

pub returns : goal.returns
returns c =
    let k = c.self.inside in
    let date = c.dates-date.result in
    let at = goal.at.returns c in
    let due = due_now at.After-dates-date in
    let shared = c.at_date.new.shared in
    let done = done_now at.After-at_date due in
    let begun : AreStarted k date shared.seats.items c.start_all.new.servers.items = λ processor old new was there.
    (let h = c.start_all.ensures.ready processor old new was there in (
      h.0,
      subst (λ seats. IsDoneBelow (deadline_on date k.plan.unit.agents seats processor) (length k.plan.unit.agents) old.ready new.ready) c.as_slice-2.ensures.value
          (subst (λ agents. IsDoneBelow (deadline_on date agents c.as_slice-2.result.now processor) (length agents) old.ready new.ready) c.as_slice-3.ensures h.1),
    )) in
    let cycles = ap (map (λ (server : Server). server.cycles)) c.ask_anew.ensures ∙ done_kept k date due shared.seats.items c.start_all.new.servers.items c.start_all.ensures.served begun in
    let after =
    view_after k shared.inputs.lists (dates_done shared.date) (map (λ (server : Server). server.cycles) c.ask_anew.new.servers.items) (ap (λ i. i.lists) c.at_date.ensures.inputs) (done.date ∙ ap (λ d. d + 1) (c.dates-date.ensures.dates ∙ ap (λ (e : EngineState). e.dates) (sym c.self.view_is))) cycles
    ∙ ap (λ (e : EngineState). record e { dates = e.dates + 1; given = 0 }) c.self.view_is in
    record { state = after }
