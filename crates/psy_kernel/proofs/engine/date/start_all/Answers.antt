-- What is left of the proof of `engine::date::start_all`.
use Rattle.std.proofs.Common.{◌≡◌, ℕ, ◌+◌, ◌<◌, Bool, true, false, List, length, get_or, Some, refl, sym, ap, subst, ◌∙◌, arith, slice_set}
use Rattle.std.specs.List.{All, slice_get}
use Rattle.std.proofs.lemmas.Bool.{cond-false, cond-true}
use Rattle.std.proofs.lemmas.Option.{get_or_from_slice_get, slice_get_read, slice_get_within}
use Rattle.std.proofs.lemmas.List.{get_or_default, length-set}
use Rattle.psy_budget.specs.Charges.{after_start}
use Rattle.psy_dates.specs.declared.seat.Seat.{Seat}
use Rattle.psy_dates.specs.Movers.{IsDoneBelow}
use Rattle.psy_dates.proofs.lemmas.Placed.{walk_begun, walk_done, walk_kept, walk_on}
use Rattle.psy_tree.specs.Parts.{no_agent}
use Rattle.psy_tree.specs.declared.unit.AgentDecl.{AgentDecl}
use Rattle.psy_kernel.specs.declared.engine.Runner.{Runner}
use Rattle.psy_kernel.specs.declared.engine.Server.{Server}
use Rattle.psy_kernel.specs.Starting.{budget_in, charge_at, deadline_on, home_at, points_at, runner_at, seat_at, starts_at}
use Rattle.psy_kernel.proofs.Engines.{server_there}
use Rattle.psy_kernel.proofs.ServersStarted.{AreWalked, free_there, walk_begins, walk_ends, walk_rests, walk_starts}
use Rattle.psy_kernel.proofs.engine.date.start_all.Goals as goal
use Rattle.psy_kernel.proofs.engine.date.start_all.Goals.{then-starts_at, else-starts_at}

-- Each of these waits for as many agents
as_many : (servers : List Server) (agents seats : ℕ) → seats ≡ agents → All (λ (s : Server). length s.ready ≡ agents) servers → (processor : ℕ) (old : Server) → slice_get servers processor ≡ Some old → length old.ready ≡ seats
as_many servers agents seats seated all processor old at =
    subst (λ (s : Server). length s.ready ≡ seats) (item_is servers processor old at) (all processor old (slice_get_within servers processor old at) ∙ sym seated)
  where
    item_is : (xs : List Server) (place : ℕ) (x : Server) → slice_get xs place ≡ Some x → get_or xs place x ≡ x
    item_is xs place x e = get_or_from_slice_get xs place x x e

-- Where no action of an agent starts it has what it had
still_has : (date : ℕ) (seats : List Seat) (agents : List AgentDecl) (agent : ℕ) (runner : Runner) → starts_at date (seat_at seats agent) ≡ false → runner_at date seats agents agent runner ≡ runner
still_has date seats agents agent runner rests = ap (λ charge. record runner { charge = charge }) (cond-false (starts_at date (seat_at seats agent)) _ _ rests)

pub movers-init : goal.movers-init
movers-init c = record {
  runners = walk_begun (λ k. starts_at c.args.date (seat_at c.args.seats.now k)) (runner_at c.args.date c.args.seats.now c.args.agents.now) (length c.args.seats.now) c.args.movers.now c.args.runners.now.items c.requires.movers;
  served = refl;
  ready = walk_begins c.args.date c.args.agents.now c.args.seats.now c.args.movers.now c.args.servers.now.items c.requires.movers;
}

pub add-requires-clause-within : goal.add-requires-clause-within
add-requires-clause-within c =
    let date = c.args.date in
    let seats = c.args.seats.now in
    let agents = c.args.agents.now in
    let names = c.args.movers.now in
    let n = get_or names c.movers.place 0 in
    let known : n < length seats = c.requires.known c.movers.place 0 c.movers-test.true in
    let kept = c.movers.invariant in
    let waiting = as_many c.args.servers.now.items (length agents) (length seats) c.requires.seated c.requires.waiting in
    let home = (get_or agents n c.index-agents-agent-then-starts_at.result).processor in
    let home_is : home ≡ home_at agents n = ap (λ (a : AgentDecl). a.processor) (get_or_default agents n c.index-agents-agent-then-starts_at.result no_agent (omega (arith, known, c.requires.seated))) in
    let homes : home < length c.args.servers.now.items = c.requires.homes n c.index-agents-agent-then-starts_at.result (omega (arith, known, c.requires.seated)) in
    let within : home < length c.movers.servers.items = omega (arith, homes, kept.served) in
    let server : Server = c.index_mut-then-starts_at.result.now in
    let at : slice_get c.movers.servers.items home ≡ Some server = slice_get_read c.movers.servers.items (length c.movers.servers.items) home server refl within c.index_mut-then-starts_at.ensures.value in
    let old = server_there c.args.servers.now.items home homes in
    let walked = kept.ready home old.0 server old.1 at in
    omega (arith, known, waiting home old.0 old.1, walked.1.done.count)

pub add-requires-clause-free : goal.add-requires-clause-free
add-requires-clause-free c =
    let date = c.args.date in
    let seats = c.args.seats.now in
    let agents = c.args.agents.now in
    let names = c.args.movers.now in
    let n = get_or names c.movers.place 0 in
    let known : n < length seats = c.requires.known c.movers.place 0 c.movers-test.true in
    let kept = c.movers.invariant in
    let waiting = as_many c.args.servers.now.items (length agents) (length seats) c.requires.seated c.requires.waiting in
    let home = (get_or agents n c.index-agents-agent-then-starts_at.result).processor in
    let home_is : home ≡ home_at agents n = ap (λ (a : AgentDecl). a.processor) (get_or_default agents n c.index-agents-agent-then-starts_at.result no_agent (omega (arith, known, c.requires.seated))) in
    let homes : home < length c.args.servers.now.items = c.requires.homes n c.index-agents-agent-then-starts_at.result (omega (arith, known, c.requires.seated)) in
    let within : home < length c.movers.servers.items = omega (arith, homes, kept.served) in
    let server : Server = c.index_mut-then-starts_at.result.now in
    let at : slice_get c.movers.servers.items home ≡ Some server = slice_get_read c.movers.servers.items (length c.movers.servers.items) home server refl within c.index_mut-then-starts_at.ensures.value in
    let starts : starts_at date (seat_at seats n) ≡ true = sym c.starts_at.ensures ∙ c.if-starts_at.true in
    free_there date agents seats names c.args.servers.now.items c.movers.servers.items kept.served waiting c.movers.place c.movers-test.true kept.ready known home home_is within server at (c.requires.free n starts)

pub movers-preserved : goal.movers-preserved
movers-preserved c =
    let date = c.args.date in
    let seats = c.args.seats.now in
    let agents = c.args.agents.now in
    let names = c.args.movers.now in
    let n = get_or names c.movers.place 0 in
    let known : n < length seats = c.requires.known c.movers.place 0 c.movers-test.true in
    let kept = c.movers.invariant in
    let waiting = as_many c.args.servers.now.items (length agents) (length seats) c.requires.seated c.requires.waiting in
    let test : ℕ → Bool = λ k. starts_at date (seat_at seats k) in
    let runners = c.args.runners.now.items in
    let still : (k : ℕ) (x : Runner) → slice_get runners k ≡ Some x → test k ≡ false → runner_at date seats agents k x ≡ x = λ k x at e. still_has date seats agents k x e in
    elim c.if-starts_at.branch [
      | then-starts_at w ↦ (
          let runner = w.index_mut.result.now in
          let starts : test n ≡ true = sym c.starts_at.ensures ∙ w.if-starts_at.true in
          let inside : n < length c.movers.runners.items = omega (arith, known, c.requires.seated, c.requires.run, kept.runners.done.count) in
          let here : slice_get c.movers.runners.items n ≡ Some runner = slice_get_read c.movers.runners.items (length c.movers.runners.items) n runner refl inside w.index_mut.ensures.value in
          let points : w.as_slice.result.now ≡ points_at agents n = w.as_slice.ensures ∙ ap (λ (a : AgentDecl). a.points) (get_or_default agents n w.index-agents-agent.result no_agent (omega (arith, known, c.requires.seated))) in
          let budget : w.budget_in-budget.result ≡ budget_in (points_at agents n) (seat_at seats n).point = w.budget_in-budget.ensures ∙ ap (λ ps. budget_in ps (seat_at seats n).point) points in
          let made : w.start.new.self ≡ charge_at date seats agents n runner.charge = w.start.ensures ∙ ap (after_start runner.charge) budget ∙ sym (cond-true (test n) _ _ starts) in
          let home = (get_or agents n w.index-agents-agent-then-starts_at.result).processor in
          let home_is : home ≡ home_at agents n = ap (λ (a : AgentDecl). a.processor) (get_or_default agents n w.index-agents-agent-then-starts_at.result no_agent (omega (arith, known, c.requires.seated))) in
          let homes : home < length c.args.servers.now.items = c.requires.homes n w.index-agents-agent-then-starts_at.result (omega (arith, known, c.requires.seated)) in
          let within : home < length c.movers.servers.items = omega (arith, homes, kept.served) in
          let server : Server = w.index_mut-then-starts_at.result.now in
          let at : slice_get c.movers.servers.items home ≡ Some server = slice_get_read c.movers.servers.items (length c.movers.servers.items) home server refl within w.index_mut-then-starts_at.ensures.value in
          let next : Server = record server { ready = slice_set server.ready n (Some (seat_at seats n).deadline) } in
          let added : c.if-starts_at.servers.items ≡ slice_set c.movers.servers.items home next = ap (λ v. v.items) w.servers-is ∙ ap (λ ready. slice_set c.movers.servers.items home (record server { ready = ready })) w.add.ensures.pending in
          record {
            runners = walk_on test (runner_at date seats agents) (length seats) names runners still c.movers.place c.movers.runners.items c.if-starts_at.runners.items runner c.movers-test.true kept.runners here
                (ap (λ v. v.items) w.runners-is ∙ ap (λ charge. slice_set c.movers.runners.items n (record runner { charge = charge })) made);
            served = ap length added ∙ length-set c.movers.servers.items home next ∙ kept.served;
            ready = subst (AreWalked date agents seats names (c.movers.place + 1) c.args.servers.now.items) (sym added)
                (walk_starts date agents seats names c.args.servers.now.items c.movers.servers.items kept.served waiting c.movers.place c.movers-test.true kept.ready known home home_is within server at starts);
          })
      | else-starts_at w ↦ (
          let rests : test n ≡ false = sym c.starts_at.ensures ∙ w.if-starts_at.false in
          let same = ap (λ v. v.items) w.servers-is in
          record {
            runners = walk_kept test (runner_at date seats agents) (length seats) names runners still c.movers.place c.movers.runners.items c.if-starts_at.runners.items c.movers-test.true kept.runners rests (ap (λ v. v.items) w.runners-is);
            served = ap length same ∙ kept.served;
            ready = subst (AreWalked date agents seats names (c.movers.place + 1) c.args.servers.now.items) (sym same)
                (walk_rests date agents seats names c.args.servers.now.items c.movers.servers.items kept.served waiting c.movers.place c.movers-test.true kept.ready known rests);
          })
    ]

pub returns-clause-runners : goal.returns-clause-runners
returns-clause-runners c =
    let date = c.args.date in
    let seats = c.args.seats.now in
    let agents = c.args.agents.now in
    let test : ℕ → Bool = λ k. starts_at date (seat_at seats k) in
    subst (λ n. IsDoneBelow (runner_at date seats agents) n c.args.runners.now.items c.movers.runners.items) c.requires.seated
    (walk_done test (runner_at date seats agents) (length seats) c.args.movers.now c.args.runners.now.items (λ k x at e. still_has date seats agents k x e) c.movers.place c.movers.runners.items c.movers-test.false c.movers.invariant.runners)

pub returns-clause-ready : goal.returns-clause-ready
returns-clause-ready c =
    let date = c.args.date in
    let seats = c.args.seats.now in
    let agents = c.args.agents.now in
    let waiting = as_many c.args.servers.now.items (length agents) (length seats) c.requires.seated c.requires.waiting in
    λ processor old new was there.
    (let h = walk_ends date agents seats c.args.movers.now c.args.servers.now.items c.movers.servers.items c.movers.invariant.served waiting c.movers.place c.movers-test.false c.movers.invariant.ready processor old new was there in
    (h.0, subst (λ n. IsDoneBelow (deadline_on date agents seats processor) n old.ready new.ready) c.requires.seated h.1))
