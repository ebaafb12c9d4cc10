-- What is left of the proof of `engine::Engine::coming`.
use Rattle.std.proofs.Common.{◌≡◌, ℕ, zero, suc, refl, [], ◌∷◌, ◌+◌, ◌-◌, ◌<◌, ◌≤◌, ◌^◌, List, Option, None, Some, length, get_or, map, slice_get, sym, ap, ◌∙◌, subst, arith}
use Rattle.std.proofs.lemmas.List.{length-map}
use Rattle.std.proofs.lemmas.Option.{slice_get_read}
use Rattle.std.specs.List.{All}
use Rattle.psy_base.specs.declared.limits.TheConstants.{RING}
use Rattle.psy_dates.specs.Standing.{dates_done}
use Rattle.psy_dates.specs.declared.seat.Seat.{Seat}
use Rattle.psy_history.specs.Scripts.{stalls_of}
use Rattle.psy_ready.specs.Choice.{IsPick}
use Rattle.psy_kernel.specs.Engines.{EngineState, done_on, history_of, next_date, ties}
use Rattle.psy_kernel.specs.Seeing.{sight_in}
use Rattle.psy_kernel.specs.Standing.{EngineStands, IsChosen, state_of}
use Rattle.psy_kernel.specs.Units.{IsLookAt, served_at}
use Rattle.psy_kernel.specs.declared.engine.Engine.TheInside.{Inside}
use Rattle.psy_kernel.specs.declared.engine.Runner.{Runner}
use Rattle.psy_kernel.specs.declared.engine.Server.{Server}
use Rattle.psy_kernel.specs.declared.seen.Seen.{Seen}
use Rattle.psy_kernel.proofs.Comings.{agent_looks, agent_ran, given, had, may_see, nobody_looks, nobody_ran}
use Rattle.psy_kernel.proofs.CyclesGiven.{known, takes}
use Rattle.psy_kernel.proofs.Engines.{AreCycleLaws, IsDue, cycles_is, is_due, lists_read, opening_in, order_in, order_read, run_in}
use Rattle.psy_kernel.proofs.RingViews.{few_places}
use Rattle.psy_kernel.proofs.engine.Engine.coming.Goals.{In-None, In-Some, After-index-server, After-order_by-order, After-choose}
use Rattle.psy_kernel.proofs.engine.Engine.coming.Goals as goal

-- ---- the processor

asked : (k : Inside) (is : EngineStands k) (e : EngineState) (view : state_of k ≡ e) (processor : ℕ) (server : Server) → k.plan.until ≤ 4294967295 → AreCycleLaws → processor < length e.done → e.dates ≤ e.plan.until
    → done_on e processor < next_date e → server ≡ get_or k.servers.items processor server → IsDue k processor server
asked k is e view processor server small laws known early inside read =
    let less : processor < length (map (λ (s : Server). s.cycles) k.servers.items) = subst (λ (q : EngineState). processor < length q.done) (sym view) known in
    let at : slice_get k.servers.items processor ≡ Some server = slice_get_read k.servers.items (length k.servers.items) processor server refl (omega (arith, less, length-map k.servers.items (λ (s : Server). s.cycles))) read in
    let early_in : dates_done k.shared.date ≤ k.plan.until = subst (λ (q : EngineState). q.dates ≤ q.plan.until) (sym view) early in
    let before : done_on (state_of k) processor < next_date (state_of k) = subst (λ (q : EngineState). done_on q processor < next_date q) (sym view) inside in
    is_due k is processor server at small early_in (subst (λ n. n < next_date (state_of k)) (cycles_is k.servers.items processor server at) before) laws

module _ (k : Inside) (processor : ℕ) (server : Server) (d : IsDue k processor server) (e : EngineState) (view : state_of k ≡ e) where
  -- who runs at its cycle, and what is looked at with it
  ran_then : (ran : Option ℕ) → ran ≡ served_at (run_in k) (order_in k) processor server.cycles → ran ≡ served_at (history_of e) (ties e) processor (done_on e processor)
  ran_then ran is =
      subst (λ (q : EngineState). ran ≡ served_at (history_of q) (ties q) processor (done_on q processor)) view
      (subst (λ n. ran ≡ served_at (run_in k) (order_in k) processor n) (sym (cycles_is k.servers.items processor server d.there)) is)

  seen_then : (seen : Option Seen) → IsLookAt (run_in k) k.plan (order_in k) processor server.cycles seen → IsLookAt (history_of e) e.plan (ties e) processor (done_on e processor) seen
  seen_then seen is =
      subst (λ (q : EngineState). IsLookAt (history_of q) q.plan (ties q) processor (done_on q processor) seen) view
      (subst (λ n. IsLookAt (run_in k) k.plan (order_in k) processor n seen) (sym (cycles_is k.servers.items processor server d.there)) is)

due_now : (c : After-index-server) → IsDue c.self.inside c.args.processor c.index-server.result.now
due_now c =
    let laws : AreCycleLaws = record { lawful = c.gets.ensures.lawful; over = c.gets.ensures.over; gets = c.gets.ensures.gets; looks = c.gets.ensures.looks; idle = c.gets.ensures.idle; same = c.gets.ensures.same } in
    asked c.self.inside c.self.invariant c.args.self.now c.self.view_is c.args.processor c.index-server.result.now c.gets.ensures.most laws c.requires.known c.requires.early c.requires.due c.index-server.ensures

-- The order that is in force
read_now : (c : After-order_by-order) → IsDue c.self.inside c.args.processor c.index-server.result.now → c.order_by-order.result.now ≡ order_in c.self.inside c.index-server.result.now.cycles
read_now c d =
    order_read c.self.inside c.self.invariant c.args.processor c.index-server.result.now d.there c.order_by-order.result.now c.as_slice.result.now c.as_slice-2.result.now c.order_by-order.ensures c.as_slice.ensures.value c.as_slice-2.ensures

-- Who is chosen
choice_now : (c : After-choose) → c.order_by-order.result.now ≡ order_in c.self.inside c.index-server.result.now.cycles → IsChosen c.index-server.result.now.ready (order_in c.self.inside c.index-server.result.now.cycles) c.choose.result
choice_now c read = subst (λ o. IsChosen c.index-server.result.now.ready o c.choose.result) read c.choose.ensures

nobody_now : (c : In-None) → IsChosen c.index-server.result.now.ready (order_in c.self.inside c.index-server.result.now.cycles) c.choose.result → IsChosen c.index-server.result.now.ready (order_in c.self.inside c.index-server.result.now.cycles) None
nobody_now c choice = subst (IsChosen c.index-server.result.now.ready (order_in c.self.inside c.index-server.result.now.cycles)) c.in-None.is choice

pick_now : (c : In-Some) → IsChosen c.index-server.result.now.ready (order_in c.self.inside c.index-server.result.now.cycles) c.choose.result → IsPick c.index-server.result.now.ready (order_in c.self.inside c.index-server.result.now.cycles) c.in-Some.agent
pick_now c choice = subst (IsChosen c.index-server.result.now.ready (order_in c.self.inside c.index-server.result.now.cycles)) c.in-Some.is choice

-- What its agent has is read
runner_read : (k : Inside) (is : EngineStands k) (agent : ℕ) → agent < length k.plan.unit.agents → (runner : Runner) → runner ≡ get_or k.runners.items agent runner → slice_get k.runners.items agent ≡ Some runner
runner_read k is agent less runner read = slice_get_read k.runners.items (length k.runners.items) agent runner refl (omega (arith, less, is.run)) read

seat_read : (k : Inside) (is : EngineStands k) (agent : ℕ) → agent < length k.plan.unit.agents → (seat : Seat) → seat ≡ get_or k.shared.seats.items agent seat → slice_get k.shared.seats.items agent ≡ Some seat
seat_read k is agent less seat read = slice_get_read k.shared.seats.items (length k.shared.seats.items) agent seat refl (omega (arith, less, is.shared.seated)) read

-- It has a runner
some_there : (runners : List Runner) (agent : ℕ) → agent < length runners → (runner : Runner) × (slice_get runners agent ≡ Some runner)
some_there [] agent less = absurd (omega (arith, less))
some_there (runner ∷ runners) zero less = (runner, refl)
some_there (runner ∷ runners) (suc agent) less = some_there runners agent (omega (arith, less))

on_date : (now dates date : ℕ) → now ≡ dates - 1 → dates ≡ date + 1 → now ≡ date
on_date now dates date a b = omega (arith, a, b)

-- ---- up to the choice

pub order_by-order-requires : goal.order_by-order-requires
order_by-order-requires c =
    let d = due_now (goal.at.order_by-order-requires c).After-index-server in
    subst (λ os. c.index-server.result.now.passed ≤ length os) (sym c.as_slice-2.ensures) (c.self.invariant.servers c.args.processor c.index-server.result.now d.there).orders.within

pub choose-requires-clause-lists : goal.choose-requires-clause-lists
choose-requires-clause-lists c =
    let at = goal.at.choose-requires-clause-lists c in
    let d = due_now at.After-index-server in
    lists_read c.self.inside c.self.invariant c.args.processor c.index-server.result.now d.there c.order_by-order.result.now (read_now at.After-order_by-order d)

pub choose-requires-clause-fresh : goal.choose-requires-clause-fresh
choose-requires-clause-fresh c =
    let at = goal.at.choose-requires-clause-fresh c in
    let server = c.index-server.result.now in
    let d = due_now at.After-index-server in
    λ fresh. subst (λ o. IsChosen server.ready o server.chosen) (sym (read_now at.After-order_by-order d)) ((c.self.invariant.servers c.args.processor server d.there).choice fresh)

-- ---- where nobody waits

pub returns-in-None-clause-ran : goal.returns-in-None-clause-ran
returns-in-None-clause-ran c =
    let at = goal.at.returns-in-None-clause-ran c in
    let d = due_now at.After-index-server in
    let nobody = nobody_now at.In-None (choice_now at.After-choose (read_now at.After-order_by-order d)) in
    ran_then c.self.inside c.args.processor c.index-server.result.now d c.args.self.now c.self.view_is None (sym (nobody_ran c.self.inside c.self.invariant c.args.processor c.index-server.result.now d nobody))

pub returns-in-None-clause-seen : goal.returns-in-None-clause-seen
returns-in-None-clause-seen c =
    let at = goal.at.returns-in-None-clause-seen c in
    let d = due_now at.After-index-server in
    let nobody = nobody_now at.In-None (choice_now at.After-choose (read_now at.After-order_by-order d)) in
    seen_then c.self.inside c.args.processor c.index-server.result.now d c.args.self.now c.self.view_is None (nobody_looks c.self.inside c.self.invariant c.args.processor c.index-server.result.now d nobody)

-- ---- where an agent does

pub index-requires : goal.index-requires
index-requires c =
    let at = goal.at.index-requires c in
    let d = due_now at.After-index-server in
    let pick = pick_now at.In-Some (choice_now at.After-choose (read_now at.After-order_by-order d)) in
    let less = known c.self.inside c.self.invariant c.args.processor c.index-server.result.now d c.in-Some.agent pick in
    omega (arith, less, c.self.invariant.shared.seated)

pub new-scene-requires : goal.new-scene-requires
new-scene-requires c =
    let at = goal.at.new-scene-requires c in
    let k = c.self.inside in
    let is = c.self.invariant in
    let p = c.args.processor in
    let server = c.index-server.result.now in
    let agent = c.in-Some.agent in
    let d = due_now at.After-index-server in
    let pick = pick_now at.In-Some (choice_now at.After-choose (read_now at.After-order_by-order d)) in
    let less = known k is p server d agent pick in
    let t = takes k is p server d agent pick in
    let runner = some_there k.runners.items agent (omega (arith, less, is.run)) in
    let its = given k is p server d agent pick t.0 t.1 t.2 runner.0 c.index.result.now runner.1 (seat_read k is agent less c.index.result.now c.index.ensures) c.last_date-date.result c.last_date-date.ensures in
    let most = c.gets.ensures.most in
    let early : c.last_date-date.result ≤ 2 ^ 40 = omega (arith, most, d.cycle.before, on_date c.last_date-date.result (dates_done k.shared.date) d.date c.last_date-date.ensures d.inside.0) in
    record {
      few = subst (All (λ ring. length ring ≤ RING)) (sym c.deref.ensures.value) (few_places k.plan is.plan (run_in k) refl (dates_done k.shared.date) k.shared.rings.items (is.shared.ringed, is.shared.rings));
      lawful = is.plan.fits.bare.clocks;
      start_early = omega (arith, its.has.seated.start, its.gets.started, early);
      date_early = early;
    }

pub index-requires-in-Some : goal.index-requires-in-Some
index-requires-in-Some c =
    let at = goal.at.index-requires-in-Some c in
    let d = due_now at.After-index-server in
    let pick = pick_now at.In-Some (choice_now at.After-choose (read_now at.After-order_by-order d)) in
    let less = known c.self.inside c.self.invariant c.args.processor c.index-server.result.now d c.in-Some.agent pick in
    omega (arith, less, c.self.invariant.run)

pub seen_of-requires-clause-may : goal.seen_of-requires-clause-may
seen_of-requires-clause-may c =
    let at = goal.at.seen_of-requires-clause-may c in
    let k = c.self.inside in
    let is = c.self.invariant in
    let p = c.args.processor in
    let server = c.index-server.result.now in
    let agent = c.in-Some.agent in
    let seat = c.index.result.now in
    let now = c.last_date-date.result in
    let d = due_now at.After-index-server in
    let pick = pick_now at.In-Some (choice_now at.After-choose (read_now at.After-order_by-order d)) in
    let less = known k is p server d agent pick in
    let t = takes k is p server d agent pick in
    let shows = c.new-scene.ensures ∙ ap (λ rings. sight_in k.plan.unit rings c.deref-in-Some.result.now agent seat.start now) c.deref.ensures.value ∙ ap (λ queues. sight_in k.plan.unit k.shared.rings.items queues agent seat.start now) c.deref-in-Some.ensures.value in (
      opening_in k,
      k.shared.inputs.lists,
      stalls_of k.script,
      t.0,
      had k is p server d agent pick t.0 t.1 t.2,
      may_see k is p server d agent pick t.0 t.1 t.2 c.index-in-Some.result.now seat (runner_read k is agent less c.index-in-Some.result.now c.index-in-Some.ensures) (seat_read k is agent less seat c.index.ensures) now c.last_date-date.ensures c.new-scene.result shows,
    )

pub returns-in-Some-clause-ran : goal.returns-in-Some-clause-ran
returns-in-Some-clause-ran c =
    let at = goal.at.returns-in-Some-clause-ran c in
    let k = c.self.inside in
    let is = c.self.invariant in
    let p = c.args.processor in
    let server = c.index-server.result.now in
    let agent = c.in-Some.agent in
    let d = due_now at.After-index-server in
    let pick = pick_now at.In-Some (choice_now at.After-choose (read_now at.After-order_by-order d)) in
    let t = takes k is p server d agent pick in
    ran_then k p server d c.args.self.now c.self.view_is (Some agent) (sym (agent_ran k is p server d agent pick t.0 t.1 t.2))

pub returns-in-Some-clause-seen : goal.returns-in-Some-clause-seen
returns-in-Some-clause-seen c =
    let at = goal.at.returns-in-Some-clause-seen c in
    let k = c.self.inside in
    let is = c.self.invariant in
    let p = c.args.processor in
    let server = c.index-server.result.now in
    let agent = c.in-Some.agent in
    let seat = c.index.result.now in
    let now = c.last_date-date.result in
    let d = due_now at.After-index-server in
    let pick = pick_now at.In-Some (choice_now at.After-choose (read_now at.After-order_by-order d)) in
    let less = known k is p server d agent pick in
    let t = takes k is p server d agent pick in
    let shows = c.new-scene.ensures ∙ ap (λ rings. sight_in k.plan.unit rings c.deref-in-Some.result.now agent seat.start now) c.deref.ensures.value ∙ ap (λ queues. sight_in k.plan.unit k.shared.rings.items queues agent seat.start now) c.deref-in-Some.ensures.value in
    let may = may_see k is p server d agent pick t.0 t.1 t.2 c.index-in-Some.result.now seat (runner_read k is agent less c.index-in-Some.result.now c.index-in-Some.ensures) (seat_read k is agent less seat c.index.ensures) now c.last_date-date.ensures c.new-scene.result shows in
    seen_then k p server d c.args.self.now c.self.view_is c.seen_of.result
    (agent_looks k is p server d agent pick t.0 t.1 t.2 c.seen_of.result (c.seen_of.ensures (opening_in k) k.shared.inputs.lists (stalls_of k.script) t.0 (had k is p server d agent pick t.0 t.1 t.2) may))
