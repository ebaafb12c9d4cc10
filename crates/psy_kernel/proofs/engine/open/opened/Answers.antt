-- What is left of the proof of `engine::open::opened`.
use Rattle.std.proofs.Common.{◌≡◌, ℕ, ◌+◌, ◌*◌, ◌<◌, suc, All, Bool, List, length, map, replicate, Option, refl, ap, sym, subst, ◌∙◌, arith, slice_get}
use Rattle.std.proofs.Math.Numerals.{add-one}
use Rattle.std.proofs.lemmas.List.{length-map, length-replicate}
use Rattle.psy_ready.specs.Choice.{pending_deadline}
use Rattle.psy_history.specs.History.{history}
use Rattle.psy_history.specs.Processors.{processor_at, processors}
use Rattle.psy_history.specs.Schedule.{Turn}
use Rattle.psy_history.specs.Scheduled.{turns_of}
use Rattle.psy_history.specs.Scripts.{order_of}
use Rattle.psy_history.specs.Summary.{reach}
use Rattle.psy_dates.specs.Movers.{IsDoneBelow, NamesAll}
use Rattle.psy_dates.specs.Standing.{SharedStands, dates_done}
use Rattle.psy_dates.specs.declared.opening.StreamOpening.{StreamOpening}
use Rattle.psy_dates.specs.declared.opening.VarOpening.{VarOpening}
use Rattle.psy_dates.proofs.lemmas.Names.{names_within}
use Rattle.psy_tree.specs.declared.unit.AgentDecl.{AgentDecl}
use Rattle.psy_kernel.specs.Resuming.{server_behind}
use Rattle.psy_kernel.specs.Standing.{AgentStands, DeedsStand, given_at, most_held_in, ready_of, waits_on}
use Rattle.psy_kernel.specs.Starting.{deadline_on, home_at, runner_at, seat_at, starts_at}
use Rattle.psy_kernel.specs.declared.engine.Server.{Server}
use Rattle.psy_kernel.proofs.DatesDue.{AreRunLaws}
use Rattle.psy_kernel.proofs.Engines.{cycles_of}
use Rattle.psy_kernel.proofs.Homes.{homes_within}
use Rattle.psy_kernel.proofs.Opened.{none_had, opened, turns_before}
use Rattle.psy_kernel.proofs.OpenedParts.{agents_opened, deeds_opened, given_opened, held_opened, reach_opened, view_opened}
use Rattle.psy_kernel.proofs.Parts.{shared_alike}
use Rattle.psy_kernel.proofs.ServersOpened.{AreStarted, cycles_opened, done_opened, free_behind, room_behind, server_opened, waits_opened}
use Rattle.psy_kernel.proofs.engine.open.opened.Goals.{After-start_all}
use Rattle.psy_kernel.proofs.engine.open.opened.Goals as goal

pub start_all-requires-clause-seated : goal.start_all-requires-clause-seated
start_all-requires-clause-seated c =
    let plan = c.args.plan in
    let laws : AreRunLaws = record { well = c.fitting.ensures; opened = c.openings.ensures.run; lawful = c.regular.ensures.lawful; none = c.openings.ensures.none; silent = c.openings.ensures.silent; waits = c.openings.ensures.waits } in
    let stands = c.requires.stands (turns_before plan c.args.opening c.args.shared.inputs.lists c.args.script c.requires.plan c.requires.inputs c.requires.sound laws)
    (none_had plan c.args.opening c.args.shared.inputs.lists c.args.script c.requires.plan c.requires.inputs c.requires.sound laws) in
    ap length c.as_slice.ensures.value ∙ SharedStands.seated stands ∙ sym (ap length c.as_slice-2.ensures)

pub start_all-requires-clause-movers : goal.start_all-requires-clause-movers
start_all-requires-clause-movers c =
    let date = c.args.opening.date in
    let shared = c.args.shared in
    subst (λ seats. NamesAll (λ agent. starts_at date (seat_at seats agent)) (length seats) 0 c.agents.result.now) (sym c.as_slice.ensures.value)
    (subst (NamesAll (λ agent. starts_at date (seat_at shared.seats.items agent)) (length shared.seats.items) 0) (sym c.agents.ensures)
    (c.requires.moved (λ agent. starts_at date (seat_at shared.seats.items agent))))

pub start_all-requires-clause-known : goal.start_all-requires-clause-known
start_all-requires-clause-known c =
    let date = c.args.opening.date in
    let shared = c.args.shared in
    let test : ℕ → Bool = λ agent. starts_at date (seat_at shared.seats.items agent) in
    subst (λ seats. All (λ agent. agent < length seats) c.agents.result.now) (sym c.as_slice.ensures.value)
    (subst (All (λ agent. agent < length shared.seats.items)) (sym c.agents.ensures)
    (names_within test (length shared.seats.items) 0 shared.movers.moved.agents (c.requires.moved test)))

pub start_all-requires-clause-free : goal.start_all-requires-clause-free
start_all-requires-clause-free c =
    let unit = c.args.plan.unit in
    let w = c.requires.servers in
    λ agent starts. ap (λ xs. pending_deadline (ready_of (slice_get xs (home_at c.as_slice-2.result.now agent))) agent) w.2
    ∙ free_behind (length unit.agents) w.0 (c.args.opening.date * unit.quantum) (processors unit) (home_at c.as_slice-2.result.now agent) agent

pub start_all-requires-clause-homes : goal.start_all-requires-clause-homes
start_all-requires-clause-homes c =
    let unit = c.args.plan.unit in
    let w = c.requires.servers in
    let count = ap length w.2 ∙ length-replicate (processors unit) (server_behind (length unit.agents) w.0 (c.args.opening.date * unit.quantum)) in
    subst (All (λ (a : AgentDecl). a.processor < length c.args.servers.items)) (sym c.as_slice-2.ensures) (homes_within unit (length c.args.servers.items) count (c.one_of_them.ensures.one unit))

pub start_all-requires-clause-waiting : goal.start_all-requires-clause-waiting
start_all-requires-clause-waiting c =
    let unit = c.args.plan.unit in
    let w = c.requires.servers in
    subst (λ n. All (λ (server : Server). length server.ready ≡ n) c.args.servers.items) (sym (ap length c.as_slice-2.ensures))
    (subst (All (λ (server : Server). length server.ready ≡ length unit.agents)) (sym w.2) (room_behind (length unit.agents) w.0 (c.args.opening.date * unit.quantum) (processors unit)))

-- What the start of the actions makes of the processors
started_now : (c : After-start_all)
    → AreStarted c.args.plan.unit c.args.opening.date c.args.shared.seats.items (replicate (processors c.args.plan.unit) (server_behind (length c.args.plan.unit.agents) c.requires.servers.0 (c.args.opening.date * c.args.plan.unit.quantum))) c.start_all.new.servers.items
started_now c processor old new was there =
    let date = c.args.opening.date in
    let h = c.start_all.ensures.ready processor old new (ap (λ xs. slice_get xs processor) c.requires.servers.2 ∙ was) there in (
      h.0,
      subst (λ seats. IsDoneBelow (deadline_on date c.args.plan.unit.agents seats processor) (length c.args.plan.unit.agents) old.ready new.ready) c.as_slice.ensures.value
          (subst (λ agents. IsDoneBelow (deadline_on date agents c.as_slice.result.now processor) (length agents) old.ready new.ready) c.as_slice-2.ensures h.1),
    )

pub invariant_of-result : goal.invariant_of-result
invariant_of-result c =
    let at = (goal.at.invariant_of-result c).After-start_all in
    let plan = c.args.plan in
    let unit = plan.unit in
    let state = c.args.opening in
    let script = c.args.script in
    let shared = c.args.shared in
    let date = state.date in
    let lists = shared.inputs.lists in
    let its = c.requires.plan in
    let laws : AreRunLaws = record { well = c.fitting.ensures; opened = c.openings.ensures.run; lawful = c.regular.ensures.lawful; none = c.openings.ensures.none; silent = c.openings.ensures.silent; waits = c.openings.ensures.waits } in
    let turns = turns_before plan state lists script its c.requires.inputs c.requires.sound laws in
    let stands = c.requires.stands turns (none_had plan state lists script its c.requires.inputs c.requires.sound laws) in
    let w = c.requires.servers in
    let homes = processors unit in
    let cycles = date * unit.quantum in
    let begun = started_now at in
    let before = ap length w.2 ∙ length-replicate homes (server_behind (length unit.agents) w.0 cycles) in
    let servers : List Server = c.start_all.new.servers.items in
    let as_many : length servers ≡ homes = c.start_all.ensures.served ∙ before in
    let dates : dates_done shared.date ≡ suc date = stands.date ∙ add-one date in
    let known : (agent : ℕ) → processor_at unit agent < homes = c.one_of_them.ensures.one unit in
    let s = opened plan state lists script its c.requires.inputs c.requires.sound laws in
    let now : ℕ → List (Option Turn) = λ agent. turns_of s (order_of unit script) (cycles_of servers (processor_at unit agent)) (processor_at unit agent) in
    let same : (agent : ℕ) → turns agent ≡ now agent = λ agent.
    ap (λ n. turns_of s (order_of unit script) n (processor_at unit agent)) (sym (cycles_opened unit date w.0 cycles homes shared.seats.items servers as_many begun (processor_at unit agent) (known agent))) in
    let run : IsDoneBelow (runner_at date shared.seats.items unit.agents) (length unit.agents) c.args.runners.items c.start_all.new.runners.items =
    subst (λ seats. IsDoneBelow (runner_at date seats unit.agents) (length unit.agents) c.args.runners.items c.start_all.new.runners.items) c.as_slice.ensures.value
    (subst (λ agents. IsDoneBelow (runner_at date c.as_slice.result.now agents) (length agents) c.args.runners.items c.start_all.new.runners.items) c.as_slice-2.ensures c.start_all.ensures.runners) in
    record {
      plan = its;
      inputs = c.requires.inputs;
      script = c.requires.script;
      sound = c.requires.sound;
      parts = record { agents = c.requires.shape.agents; variables = c.requires.shape.variables; streams = c.requires.shape.streams };
      behind = omega (arith, dates);
      served = as_many;
      servers = λ processor x there. server_opened unit date w.0 cycles homes shared.seats.items servers as_many begun processor x there _ refl dates c.requires.shape.near refl w.1;
      shared = subst (λ d. SharedStands s plan.sizes now d shared) (sym stands.date) (shared_alike s plan.sizes turns now (date + 1) shared same stands);
      run = run.count ∙ c.requires.run;
      reaching = ap length c.requires.reaches ∙ length-map state.variables (λ (v : VarOpening). v.reach) ∙ c.requires.shape.variables;
      reached = λ variable n there.
          subst (λ d. n ≡ reach s now (history s d) variable) (sym dates)
          (reach_opened plan state lists script its c.requires.inputs c.requires.sound laws c.reaches.ensures.date variable n (ap (λ xs. slice_get xs variable) (sym c.requires.reaches) ∙ there)
          ∙ c.reaches.ensures.same s turns now (history s (suc date)) variable same);
      holding = ap length c.requires.helds ∙ length-map state.streams (λ (o : StreamOpening). o.held) ∙ c.requires.shape.streams;
      held = λ stream n there.
          subst (λ d. n ≡ most_held_in s d stream) (sym dates)
          (held_opened plan state lists script its c.requires.inputs c.requires.sound laws stream n (ap (λ xs. slice_get xs stream) (sym c.requires.helds) ∙ there));
      doing = λ agent outbox there.
          subst (λ d. DeedsStand s plan.code (now agent) (history s d agent) outbox.sends shared.taken.items) (sym dates)
          (subst (λ ts. DeedsStand s plan.code ts (history s (suc date) agent) outbox.sends shared.taken.items) (same agent)
          (deeds_opened plan state lists script its c.requires.inputs c.requires.sound laws shared stands c.requires.unsent c.requires.untaken agent outbox there));
      agents = λ agent runner there.
          subst (λ d. AgentStands s plan.code (now agent) plan.until agent (history s d agent) runner (waits_on unit servers agent)) (sym dates)
          (subst (λ ts. AgentStands s plan.code ts plan.until agent (history s (suc date) agent) runner (waits_on unit servers agent)) (same agent)
          (agents_opened plan state lists script its c.requires.inputs c.requires.sound laws shared stands c.requires.shape.agents c.args.runners.items c.start_all.new.runners.items (waits_on unit servers) c.requires.behind c.requires.run run
          (waits_opened unit date w.0 cycles homes shared.seats.items servers as_many begun known) agent runner there));
      all = c.requires.declared;
      place = omega arith;
      before = λ last first last_done. omega arith;
      unshown = λ l. refl;
      given = subst (λ d. 0 ≡ given_at s d (c.len.result + c.len-2.result + c.len-3.result) 0) (sym dates) (given_opened s date (c.len.result + c.len-2.result + c.len-3.result) (add-one date));
    }

pub returns : goal.returns
returns c =
    let at = (goal.at.returns c).After-start_all in
    let plan = c.args.plan in
    let unit = plan.unit in
    let state = c.args.opening in
    let shared = c.args.shared in
    let laws : AreRunLaws = record { well = c.fitting.ensures; opened = c.openings.ensures.run; lawful = c.regular.ensures.lawful; none = c.openings.ensures.none; silent = c.openings.ensures.silent; waits = c.openings.ensures.waits } in
    let turns = turns_before plan state shared.inputs.lists c.args.script c.requires.plan c.requires.inputs c.requires.sound laws in
    let stands = c.requires.stands turns (none_had plan state shared.inputs.lists c.args.script c.requires.plan c.requires.inputs c.requires.sound laws) in
    let w = c.requires.servers in
    let homes = processors unit in
    let cycles = state.date * unit.quantum in
    let before = ap length w.2 ∙ length-replicate homes (server_behind (length unit.agents) w.0 cycles) in
    view_opened plan c.args.script state shared.inputs.lists (dates_done shared.date) (map (λ (server : Server). server.cycles) c.start_all.new.servers.items) stands.date
    (done_opened unit state.date w.0 cycles homes shared.seats.items c.start_all.new.servers.items (c.start_all.ensures.served ∙ before) (started_now at))
