-- What is left of the proof of `engine::Engine::give`.
use Rattle.std.proofs.Common.{◌≡◌, ℕ, ◌+◌, ◌-◌, ◌*◌, ◌<◌, ◌≤◌, List, Bool, true, Option, Some, None, length, get_or, if◌then◌else◌, map, slice_get, slice_set, ℤ, Vec, Global, refl, sym, ap, ◌∙◌, subst, arith}
use Rattle.std.proofs.lemmas.List.{length-map, length-set}
use Rattle.std.proofs.lemmas.Option.{same_Some, slice_get_read, slice_get_within}
use Rattle.std.specs.List.{All, AllPairs}
use Rattle.std.specs.Vec.{with_item}
use Rattle.psy_base.specs.declared.limits.TheConstants.{RING}
use Rattle.psy_lists.proofs.lemmas.Tests.{is_off, is_on}
use Rattle.psy_dates.specs.declared.seat.Seat.{Seat}
use Rattle.psy_dates.specs.Outboxes.{Outboxed}
use Rattle.psy_dates.specs.Standing.{dates_done}
use Rattle.psy_history.specs.Actions.{Action}
use Rattle.psy_history.specs.declared.told.Order.{Order}
use Rattle.psy_history.specs.Scripts.{stalls_of}
use Rattle.psy_queue.specs.Order.{Queued}
use Rattle.psy_ready.specs.Choice.{IsPick, pending_deadline}
use Rattle.psy_kernel.specs.Engines.{EngineState, IsOverOn, done_on, next_date}
use Rattle.psy_kernel.specs.declared.engine.Runner.{Runner}
use Rattle.psy_kernel.specs.declared.engine.Engine.TheInside.{Inside}
use Rattle.psy_kernel.specs.declared.engine.Server.{Server}
use Rattle.psy_kernel.specs.Standing.{AreInForce, IsChosen, EngineStands, state_of}
use Rattle.psy_kernel.specs.Stretches.{Lasts, MayLast}
use Rattle.psy_kernel.proofs.Counted.{counted, counted_ready, dropped, dropped_ready, none_there, others_wait, state_put}
use Rattle.psy_kernel.proofs.CyclesGiven.{Takes, deadline, deadline_is, idle_on, idle_stands, idle_steady, known, lasted_on, lasted_over, lasted_stands, lasted_steady, may_last, on_date, takes}
use Rattle.psy_kernel.proofs.Engines.{AreCycleLaws, ArePut, HaveGone, IsDue, ahead_of, cycles_is, cycles_of, high_of, is_due, lists_read, opening_in, order_in, order_read, put_more, put_none, run_in, turns_in}
use Rattle.psy_kernel.proofs.MoversGiven.{IsTold}
use Rattle.psy_kernel.proofs.RingViews.{few_places}
use Rattle.psy_dates.proofs.lemmas.Sets.{get_set_same}
use Rattle.psy_kernel.proofs.engine.Engine.give.Goals.{In-None, In-Some, After-index-server, After-order_by-order, After-choose-chosen, After-go_on-lasted, After-count_to, After-count_to-in-Some, After-drop_chosen}
use Rattle.psy_kernel.proofs.engine.Engine.give.Goals as goal

-- ---- the processor

-- It may have so many cycles
pub record IsAsked (k : Inside) (processor most : ℕ) (server : Server) : Type 0 where
  pub at : slice_get k.servers.items processor ≡ Some server
  pub due : IsDue k processor server
  pub high : server.cycles + most ≤ (due.date + 1) * k.plan.unit.quantum
  pub ahead : (o : Order) → slice_get k.script.orders server.passed ≡ Some o → server.cycles + most ≤ o.cycle

asked : (k : Inside) (is : EngineStands k) (e : EngineState) (view : state_of k ≡ e) (processor most : ℕ) (server : Server) → k.plan.until ≤ 4294967295 → AreCycleLaws → processor < length e.done → e.dates ≤ e.plan.until → 1 ≤ most
    → done_on e processor + most ≤ next_date e → ((place : ℕ) (o : Order) → slice_get e.script.orders place ≡ Some o → done_on e processor < o.cycle → done_on e processor + most ≤ o.cycle)
    → server ≡ get_or k.servers.items processor server → IsAsked k processor most server
asked k is e view processor most server small laws known early some inside ahead read =
    let less : processor < length (map (λ (s : Server). s.cycles) k.servers.items) = subst (λ (q : EngineState). processor < length q.done) (sym view) known in
    let at : slice_get k.servers.items processor ≡ Some server = slice_get_read k.servers.items (length k.servers.items) processor server refl (omega (arith, less, length-map k.servers.items (λ (s : Server). s.cycles))) read in
    let early_in : dates_done k.shared.date ≤ k.plan.until = subst (λ (q : EngineState). q.dates ≤ q.plan.until) (sym view) early in
    let high = high_of k is processor server at e view most inside in
    let due = is_due k is processor server at small early_in (omega (arith, high, some)) laws in
    record {
      at = at;
      due = due;
      high = subst (λ dates. server.cycles + most ≤ dates * k.plan.unit.quantum) due.inside.0 high;
      ahead = ahead_of k is processor server at e view most ahead;
    }

module _ (k : Inside) (processor : ℕ) (server : Server) (at : slice_get k.servers.items processor ≡ Some server) where
  -- it is read
  read_there : (x : Server) → x ≡ get_or k.servers.items processor x → x ≡ server
  read_there x e = same_Some x server (sym (slice_get_read k.servers.items (length k.servers.items) processor x refl (slice_get_within k.servers.items processor server at) e) ∙ at)

  -- it is read where it was written
  read_put : (servers : List Server) (w x : Server) → ArePut k processor servers → x ≡ get_or (slice_set servers processor w) processor x → x ≡ w
  read_put servers w x put e =
      let less = slice_get_within k.servers.items processor server at in
      get_set_same servers processor w x (slice_get_read (slice_set servers processor w) (length (slice_set servers processor w)) processor x refl (omega (arith, less, length-set servers processor w, put.count)) e)

  -- The one that was chosen is kept
  module _ (chosen : Option ℕ) (s : Server) (read : s ≡ get_or k.servers.items processor s) where
    abbrev first : List Server
    first = slice_set k.servers.items processor (record s { chosen = chosen })

    put_first : ArePut k processor first
    put_first = put_more k processor k.servers.items (record s { chosen = chosen }) (put_none k processor)

    chosen_is : (x : Server) → x ≡ get_or first processor x → x ≡ record server { chosen = chosen }
    chosen_is x e = read_put k.servers.items (record s { chosen = chosen }) x (put_none k processor) e ∙ ap (λ (q : Server). record q { chosen = chosen }) (read_there s read)

  -- how many cycles it has done then
  module _ (e : EngineState) (view : state_of k ≡ e) (next : Server) (n most : ℕ) (servers : List Server) (gone : HaveGone k processor server next n servers) where
    was_done : done_on e processor ≡ server.cycles
    was_done = ap (λ (q : EngineState). done_on q processor) (sym view) ∙ cycles_is k.servers.items processor server at

    is_done : cycles_of servers processor ≡ server.cycles + n
    is_done = cycles_is servers processor next gone.there ∙ gone.cycles

    count_then : 1 ≤ n → n ≤ most → (done_on e processor < cycles_of servers processor) × (cycles_of servers processor ≤ done_on e processor + most)
    count_then some few = (omega (arith, was_done, is_done, some), omega (arith, was_done, is_done, few))

    steady_then : ((between : ℕ) → server.cycles < between → between < server.cycles + n → IsOverOn (state_of k) processor between → ⊥)
        → (between : ℕ) → done_on e processor < between → between < cycles_of servers processor → IsOverOn e processor between → ⊥
    steady_then steady between above below over = steady between (omega (arith, above, was_done)) (omega (arith, below, is_done)) (subst (λ (q : EngineState). IsOverOn q processor between) (sym view) over)

    over_then : IsOverOn (state_of k) processor (server.cycles + n) → IsOverOn e processor (cycles_of servers processor)
    over_then over = subst (λ (q : EngineState). IsOverOn q processor (cycles_of servers processor)) view (subst (IsOverOn (state_of k) processor) (sym is_done) over)

    goes_then : (IsOverOn (state_of k) processor (server.cycles + n) → ⊥) → IsOverOn e processor (cycles_of servers processor) → ⊥
    goes_then goes over = goes (subst (IsOverOn (state_of k) processor) is_done (subst (λ (q : EngineState). IsOverOn q processor (cycles_of servers processor)) (sym view) over))

    whole_then : n ≡ most → cycles_of servers processor ≡ done_on e processor + most
    whole_then all = omega (arith, was_done, is_done, all)

-- ---- the last action of the chosen agent, and what it has and sees

module _ (k : Inside) (is : EngineStands k) (processor most : ℕ) (server : Server) (a : IsAsked k processor most server) (agent : ℕ) (pick : IsPick server.ready (order_in k server.cycles) agent) (date : ℕ) (date_is : date ≡ dates_done k.shared.date - 1) where
  abbrev d : IsDue k processor server
  d = a.due

  abbrev r : Action
  r = (takes k is processor server d agent pick).0

  abbrev before : List Action
  before = (takes k is processor server d agent pick).1

  abbrev t : Takes k is processor server d agent pick r before
  t = (takes k is processor server d agent pick).2

  less : agent < length k.plan.unit.agents
  less = known k is processor server d agent pick

  outbox_at : (outbox : Outboxed) → outbox ≡ get_or k.shared.outboxes.items agent outbox → slice_get k.shared.outboxes.items agent ≡ Some outbox
  outbox_at outbox outbox_is = slice_get_read k.shared.outboxes.items (length k.shared.outboxes.items) agent outbox refl (omega (arith, less, is.shared.boxed)) outbox_is

  -- its seat, read where it was written
  read_seat : (seat x : Seat) → x ≡ get_or (slice_set k.shared.seats.items agent seat) agent x → x ≡ seat
  read_seat seat x e =
      let seats = slice_set k.shared.seats.items agent seat in
      get_set_same k.shared.seats.items agent seat x (slice_get_read seats (length seats) agent x refl (omega (arith, less, is.shared.seated, length-set k.shared.seats.items agent seat)) e)

  -- the outbox that it has then is as large
  same_size : (outbox new : Outboxed) → outbox ≡ get_or k.shared.outboxes.items agent outbox → new.size ≡ outbox.size → (old : Outboxed) → slice_get k.shared.outboxes.items agent ≡ Some old → new.size ≡ old.size
  same_size outbox new outbox_is e old at = e ∙ ap (λ (o : Outboxed). o.size) (same_Some outbox old (sym (outbox_at outbox outbox_is) ∙ at))

  may_in : (runner : Runner) (seat : Seat) → runner ≡ get_or k.runners.items agent runner → seat ≡ get_or k.shared.seats.items agent seat
      → (rings : List (List ℤ)) (queues : List Queued) (outbox : Outboxed) → rings ≡ k.shared.rings.items → queues ≡ k.shared.queues.items → outbox ≡ get_or k.shared.outboxes.items agent outbox
      → MayLast k.plan (opening_in k) k.shared.inputs.lists (stalls_of k.script) (turns_in k) (record { agent = agent; cycle = server.cycles; most = most; date = date }) r before runner (deadline k is processor server d agent pick) seat k.shared.ended.items rings queues k.shared.taken.items outbox
  may_in runner seat runner_is seat_is rings queues outbox e f outbox_is =
      let runner_at = slice_get_read k.runners.items (length k.runners.items) agent runner refl (omega (arith, less, is.run)) runner_is in
      let seat_at = slice_get_read k.shared.seats.items (length k.shared.seats.items) agent seat refl (omega (arith, less, is.shared.seated)) seat_is in
      let waits = deadline k is processor server d agent pick in
      subst (λ rs. MayLast k.plan (opening_in k) k.shared.inputs.lists (stalls_of k.script) (turns_in k) (record { agent = agent; cycle = server.cycles; most = most; date = date }) r before runner waits seat k.shared.ended.items rs queues k.shared.taken.items outbox) (sym e)
      (subst (λ qs. MayLast k.plan (opening_in k) k.shared.inputs.lists (stalls_of k.script) (turns_in k) (record { agent = agent; cycle = server.cycles; most = most; date = date }) r before runner waits seat k.shared.ended.items k.shared.rings.items qs k.shared.taken.items outbox) (sym f)
      (may_last k is processor server d agent pick r before t most a.high a.ahead date date_is runner seat runner_at seat_at outbox (outbox_at outbox outbox_is)))

-- ---- what the answers share

-- What is asked of the processor, and who was chosen for its next cycle
pub record IsBegun (k : Inside) (p most : ℕ) (server : Server) (chosen : Option ℕ) : Type 0 where
  pub asks : IsAsked k p most server
  pub choice : IsChosen server.ready (order_in k server.cycles) chosen

asked_now : (c : After-index-server) → IsAsked c.self.inside c.args.processor c.args.most c.index-server.result.now
asked_now c =
    let laws : AreCycleLaws = record { lawful = c.gets.ensures.lawful; over = c.gets.ensures.over; gets = c.gets.ensures.gets; looks = c.gets.ensures.looks; idle = c.gets.ensures.idle; same = c.gets.ensures.same } in
    asked c.self.inside c.self.invariant c.args.self.now c.self.view_is c.args.processor c.args.most c.index-server.result.now c.gets.ensures.most laws
    c.requires.known c.requires.early c.requires.some c.requires.inside c.requires.ahead c.index-server.ensures

-- The order that is in force
read_now : (c : After-order_by-order) → IsAsked c.self.inside c.args.processor c.args.most c.index-server.result.now → c.order_by-order.result.now ≡ order_in c.self.inside c.index-server.result.now.cycles
read_now c a =
    order_read c.self.inside c.self.invariant c.args.processor c.index-server.result.now a.at c.order_by-order.result.now c.as_slice.result.now c.as_slice-2.result.now c.order_by-order.ensures c.as_slice.ensures.value c.as_slice-2.ensures

begun_now : (c : After-choose-chosen) → IsAsked c.self.inside c.args.processor c.args.most c.index-server.result.now → c.order_by-order.result.now ≡ order_in c.self.inside c.index-server.result.now.cycles
    → IsBegun c.self.inside c.args.processor c.args.most c.index-server.result.now c.choose-chosen.result
begun_now c a read = record { asks = a; choice = subst (λ o. IsChosen c.index-server.result.now.ready o c.choose-chosen.result) read c.choose-chosen.ensures }

-- ---- nobody waits

-- What the processor is once its cycles are counted
pub record IsIdle (k : Inside) (p most : ℕ) (server y : Server) (servers : List Server) : Type 0 where
  pub asks : IsAsked k p most server
  pub nobody : IsChosen server.ready (order_in k server.cycles) None
  pub put : ArePut k p servers
  pub gone : HaveGone k p server y most (slice_set servers p y)
  pub ready : y.ready ≡ server.ready

idle_now : (c : After-count_to) → IsBegun c.self.inside c.args.processor c.args.most c.index-server.result.now c.choose-chosen.result
    → IsIdle c.self.inside c.args.processor c.args.most c.index-server.result.now c.count_to.new.server (slice_set c.self.inside.servers.items c.args.processor (record c.index_mut.result.now { chosen = c.choose-chosen.result }))
idle_now c b =
    let k = c.self.inside in
    let p = c.args.processor in
    let server = c.index-server.result.now in
    let chosen = c.choose-chosen.result in
    let y = c.count_to.new.server in
    let put = put_first k p server b.asks.at chosen c.index_mut.result.now c.index_mut.ensures.value in
    let x_is = chosen_is k p server b.asks.at chosen c.index_mut.result.now c.index_mut.ensures.value c.index_mut-in-None.result.now c.index_mut-in-None.ensures.value in
    let orders = subst (λ os. AreInForce os y.passed (server.cycles + c.args.most)) c.as_slice-in-None.ensures c.count_to.ensures.in_force in
    record {
      asks = b.asks;
      nobody = subst (IsChosen server.ready (order_in k server.cycles)) c.in-None.is b.choice;
      put = put;
      gone = counted k c.self.invariant p server b.asks.at chosen b.choice c.args.most c.index_mut-in-None.result.now y x_is c.count_to.ensures.state orders c.count_to.ensures.no_less _ put;
      ready = counted_ready k c.self.invariant p server b.asks.at chosen b.choice c.args.most c.index_mut-in-None.result.now y x_is c.count_to.ensures.state orders c.count_to.ensures.no_less;
    }

-- ---- an agent is chosen

pick_now : (c : In-Some) → IsBegun c.self.inside c.args.processor c.args.most c.index-server.result.now c.choose-chosen.result → IsPick c.index-server.result.now.ready (order_in c.self.inside c.index-server.result.now.cycles) c.in-Some.agent
pick_now c b = subst (IsChosen c.index-server.result.now.ready (order_in c.self.inside c.index-server.result.now.cycles)) c.in-Some.is b.choice

known_now : (c : In-Some) → IsBegun c.self.inside c.args.processor c.args.most c.index-server.result.now c.choose-chosen.result → c.in-Some.agent < length c.self.inside.plan.unit.agents
known_now c b = known c.self.inside c.self.invariant c.args.processor c.index-server.result.now b.asks.due c.in-Some.agent (pick_now c b)

-- What the cycles of the chosen agent leave
pub record HasLasted (k : Inside) (is : EngineStands k) (p most : ℕ) (server : Server) (a : IsAsked k p most server) (agent : ℕ) (pick : IsPick server.ready (order_in k server.cycles) agent) (date n : ℕ) (goes : Bool) (runner : Runner) (seat : Seat) (ended : List ℤ) (outbox : Outboxed) (taken : List ℕ) (reaches : List (Option ℕ)) : Type 0 where
  pub r : Action
  pub before : List Action
  pub t : Takes k is p server a.due agent pick r before
  pub lasts : Lasts k.plan (opening_in k) k.shared.inputs.lists (stalls_of k.script) (turns_in k) date agent r before (deadline k is p server a.due agent pick) n goes runner seat ended outbox.sends taken k.reaches.items reaches

lasted_now : (c : After-go_on-lasted) (b : IsBegun c.self.inside c.args.processor c.args.most c.index-server.result.now c.choose-chosen.result) (pick : IsPick c.index-server.result.now.ready (order_in c.self.inside c.index-server.result.now.cycles) c.in-Some.agent)
    → HasLasted c.self.inside c.self.invariant c.args.processor c.args.most c.index-server.result.now b.asks c.in-Some.agent pick c.last_date-date.result c.go_on-lasted.result.cycles c.go_on-lasted.result.goes
    c.go_on-lasted.new.runner c.go_on-lasted.new.seat c.go_on-lasted.new.ended.items c.go_on-lasted.new.outbox c.go_on-lasted.new.taken.items c.go_on-lasted.new.reaches.items
lasted_now c b pick =
    let k = c.self.inside in
    let is = c.self.invariant in
    let server = c.index-server.result.now in
    let t = takes k is c.args.processor server b.asks.due c.in-Some.agent pick in
    record {
      r = t.0;
      before = t.1;
      t = t.2;
      lasts = c.go_on-lasted.ensures.lasts (opening_in k) k.shared.inputs.lists (stalls_of k.script) (turns_in k) t.0 t.1 (deadline k is c.args.processor server b.asks.due c.in-Some.agent pick)
          (may_in k is c.args.processor c.args.most server b.asks c.in-Some.agent pick c.last_date-date.result c.last_date-date.ensures c.index_mut-in-Some.result.now c.index_mut-in-Some-2.result.now c.index_mut-in-Some.ensures.value c.index_mut-in-Some-2.ensures.value
          c.deref.result.now c.deref-in-Some.result.now c.index_mut-in-Some-3.result.now c.deref.ensures.value c.deref-in-Some.ensures.value c.index_mut-in-Some-3.ensures.value);
    }

-- The processor once the cycles of its agent are counted
pub record IsCounted (k : Inside) (p n : ℕ) (server x y : Server) (chosen : Option ℕ) (servers : List Server) : Type 0 where
  pub put : ArePut k p servers
  pub x_is : x ≡ record server { chosen = chosen }
  pub orders : AreInForce k.script.orders y.passed (server.cycles + n)
  pub gone : HaveGone k p server y n (slice_set servers p y)
  pub ready : y.ready ≡ server.ready

counted_now : (c : After-count_to-in-Some) → IsBegun c.self.inside c.args.processor c.args.most c.index-server.result.now c.choose-chosen.result
    → IsCounted c.self.inside c.args.processor c.go_on-lasted.result.cycles c.index-server.result.now c.index_mut-in-Some-4.result.now c.count_to-in-Some.new.server c.choose-chosen.result
    (slice_set c.self.inside.servers.items c.args.processor (record c.index_mut.result.now { chosen = c.choose-chosen.result }))
counted_now c b =
    let k = c.self.inside in
    let p = c.args.processor in
    let server = c.index-server.result.now in
    let chosen = c.choose-chosen.result in
    let n = c.go_on-lasted.result.cycles in
    let y = c.count_to-in-Some.new.server in
    let put = put_first k p server b.asks.at chosen c.index_mut.result.now c.index_mut.ensures.value in
    let x_is = chosen_is k p server b.asks.at chosen c.index_mut.result.now c.index_mut.ensures.value c.index_mut-in-Some-4.result.now c.index_mut-in-Some-4.ensures.value in
    let orders = subst (λ os. AreInForce os y.passed (server.cycles + n)) c.as_slice-in-Some.ensures c.count_to-in-Some.ensures.in_force in
    record {
      put = put;
      x_is = x_is;
      orders = orders;
      gone = counted k c.self.invariant p server b.asks.at chosen b.choice n c.index_mut-in-Some-4.result.now y x_is c.count_to-in-Some.ensures.state orders c.count_to-in-Some.ensures.no_less _ put;
      ready = counted_ready k c.self.invariant p server b.asks.at chosen b.choice n c.index_mut-in-Some-4.result.now y x_is c.count_to-in-Some.ensures.state orders c.count_to-in-Some.ensures.no_less;
    }

-- The processor once its agent waits no longer
pub record IsDropped (k : Inside) (p n agent : ℕ) (server z : Server) (servers : List Server) : Type 0 where
  pub put : ArePut k p servers
  pub gone : HaveGone k p server z n (slice_set servers p z)
  pub ready : z.ready ≡ slice_set server.ready agent None

dropped_now : (c : After-drop_chosen) → IsBegun c.self.inside c.args.processor c.args.most c.index-server.result.now c.choose-chosen.result
    → IsCounted c.self.inside c.args.processor c.go_on-lasted.result.cycles c.index-server.result.now c.index_mut-in-Some-4.result.now c.count_to-in-Some.new.server c.choose-chosen.result
    (slice_set c.self.inside.servers.items c.args.processor (record c.index_mut.result.now { chosen = c.choose-chosen.result }))
    → IsDropped c.self.inside c.args.processor c.go_on-lasted.result.cycles c.in-Some.agent c.index-server.result.now c.drop_chosen.new.server
    (slice_set (slice_set c.self.inside.servers.items c.args.processor (record c.index_mut.result.now { chosen = c.choose-chosen.result })) c.args.processor c.count_to-in-Some.new.server)
dropped_now c b counts =
    let k = c.self.inside in
    let p = c.args.processor in
    let server = c.index-server.result.now in
    let chosen = c.choose-chosen.result in
    let agent = c.in-Some.agent in
    let n = c.go_on-lasted.result.cycles in
    let x = c.index_mut-in-Some-4.result.now in
    let y = c.count_to-in-Some.new.server in
    let z = c.drop_chosen.new.server in
    let y_read = read_put k p server b.asks.at _ y c.index_mut-then-not-lasted.result.now counts.put c.index_mut-then-not-lasted.ensures.value in
    let z_is : z ≡ record y { ready = slice_set y.ready agent None; stale = true } = c.drop_chosen.ensures ∙ ap (λ (q : Server). record q { ready = slice_set q.ready agent None; stale = true }) y_read in
    let put = put_more k p _ y counts.put in
    record {
      put = put;
      gone = dropped k c.self.invariant p server b.asks.at chosen b.choice n x y counts.x_is c.count_to-in-Some.ensures.state counts.orders c.count_to-in-Some.ensures.no_less agent z z_is _ put;
      ready = dropped_ready k c.self.invariant p server b.asks.at chosen b.choice n x y counts.x_is c.count_to-in-Some.ensures.state counts.orders c.count_to-in-Some.ensures.no_less agent z z_is;
    }

-- ---- up to the choice

pub order_by-order-requires : goal.order_by-order-requires
order_by-order-requires c =
    let a = asked_now (goal.at.order_by-order-requires c).After-index-server in
    subst (λ os. c.index-server.result.now.passed ≤ length os) (sym c.as_slice-2.ensures) (c.self.invariant.servers c.args.processor c.index-server.result.now a.at).orders.within

pub choose-chosen-requires-clause-lists : goal.choose-chosen-requires-clause-lists
choose-chosen-requires-clause-lists c =
    let at = goal.at.choose-chosen-requires-clause-lists c in
    let a = asked_now at.After-index-server in
    lists_read c.self.inside c.self.invariant c.args.processor c.index-server.result.now a.at c.order_by-order.result.now (read_now at.After-order_by-order a)

pub choose-chosen-requires-clause-fresh : goal.choose-chosen-requires-clause-fresh
choose-chosen-requires-clause-fresh c =
    let at = goal.at.choose-chosen-requires-clause-fresh c in
    let server = c.index-server.result.now in
    let a = asked_now at.After-index-server in
    λ fresh. subst (λ o. IsChosen server.ready o server.chosen) (sym (read_now at.After-order_by-order a)) ((c.self.invariant.servers c.args.processor server a.at).choice fresh)

-- ---- where nobody waits

pub count_to-requires-clause-rise : goal.count_to-requires-clause-rise
count_to-requires-clause-rise c =
    λ i j o less within. subst (λ orders. AllPairs (λ (o : Order) (q : Order). o.cycle < q.cycle) orders) (sym c.as_slice-in-None.ensures) c.self.invariant.script.orders_rise i j o less within

pub count_to-requires-clause-in_force : goal.count_to-requires-clause-in_force
count_to-requires-clause-in_force c =
    let a = asked_now (goal.at.count_to-requires-clause-in_force c).After-index-server in
    let server = c.index-server.result.now in
    let x = c.index_mut-in-None.result.now in
    let passed : x.passed ≡ server.passed = ap (λ (q : Server). q.passed) (chosen_is c.self.inside c.args.processor server a.at c.choose-chosen.result c.index_mut.result.now c.index_mut.ensures.value x c.index_mut-in-None.ensures.value) in
    (server.cycles, omega (arith, c.requires.some), subst (λ os. AreInForce os x.passed server.cycles) (sym c.as_slice-in-None.ensures) (subst (λ n. AreInForce c.self.inside.script.orders n server.cycles) (sym passed) (c.self.invariant.servers c.args.processor server a.at).orders))

pub count_to-requires-clause-ahead : goal.count_to-requires-clause-ahead
count_to-requires-clause-ahead c =
    let a = asked_now (goal.at.count_to-requires-clause-ahead c).After-index-server in
    let server = c.index-server.result.now in
    let x = c.index_mut-in-None.result.now in
    let passed : x.passed ≡ server.passed = ap (λ (q : Server). q.passed) (chosen_is c.self.inside c.args.processor server a.at c.choose-chosen.result c.index_mut.result.now c.index_mut.ensures.value x c.index_mut-in-None.ensures.value) in
    λ o there. a.ahead o (ap (slice_get c.self.inside.script.orders) (sym passed) ∙ ap (λ os. slice_get os x.passed) (sym c.as_slice-in-None.ensures) ∙ there)

pub overflow_add-cycle : goal.overflow_add-cycle
overflow_add-cycle c =
    let a = asked_now (goal.at.overflow_add-cycle c).After-index-server in
    let small = IsDue.small a.due in
    omega (arith, a.high, small)

pub invariant_of-self : goal.invariant_of-self
invariant_of-self c =
    let at = goal.at.invariant_of-self c in
    let a = asked_now at.After-index-server in
    let i = idle_now at.After-count_to (begun_now at.After-choose-chosen a (read_now at.After-order_by-order a)) in
    let p = c.args.processor in
    let y = c.count_to.new.server in
    let servers : Vec Server Global = with_item c.self.inside.servers p (record c.index_mut.result.now { chosen = c.choose-chosen.result }) in
    idle_stands c.self.inside c.self.invariant p c.index-server.result.now i.asks.due i.nobody c.args.most i.asks.high i.asks.ahead y (slice_set servers.items p y) i.gone i.ready (with_item servers p y) refl

pub returns-in-None : goal.returns-in-None
returns-in-None c =
    let at = goal.at.returns-in-None c in
    let a = asked_now at.After-index-server in
    let i = idle_now at.After-count_to (begun_now at.After-choose-chosen a (read_now at.After-order_by-order a)) in
    let k = c.self.inside in
    let e = c.args.self.now in
    let p = c.args.processor in
    let most = c.args.most in
    let server = c.index-server.result.now in
    let y = c.count_to.new.server in
    record {
      state = state_put k p _ y (put_more k p _ y i.put) i.gone.there e c.self.view_is;
      count = count_then k p server a.at e c.self.view_is y most most _ i.gone c.requires.some (omega arith);
      steady = steady_then k p server a.at e c.self.view_is y most most _ i.gone (idle_steady k c.self.invariant p server a.due i.nobody most a.high a.ahead);
      over = λ wrong. absurd (cc);
      goes = λ is. goes_then k p server a.at e c.self.view_is y most most _ i.gone (idle_on k c.self.invariant p server a.due i.nobody most a.high a.ahead c.requires.some);
      whole = λ is. whole_then k p server a.at e c.self.view_is y most most _ i.gone refl;
    }

-- ---- where an agent is chosen

pub index_mut-requires-in-Some : goal.index_mut-requires-in-Some
index_mut-requires-in-Some c =
    let at = goal.at.index_mut-requires-in-Some c in
    let a = asked_now at.After-index-server in
    let less = known_now at.In-Some (begun_now at.After-choose-chosen a (read_now at.After-order_by-order a)) in
    omega (arith, less, c.self.invariant.run)

pub index_mut-requires-in-Some-2 : goal.index_mut-requires-in-Some-2
index_mut-requires-in-Some-2 c =
    let at = goal.at.index_mut-requires-in-Some-2 c in
    let a = asked_now at.After-index-server in
    let less = known_now at.In-Some (begun_now at.After-choose-chosen a (read_now at.After-order_by-order a)) in
    omega (arith, less, c.self.invariant.shared.seated)

pub index_mut-requires-in-Some-3 : goal.index_mut-requires-in-Some-3
index_mut-requires-in-Some-3 c =
    let at = goal.at.index_mut-requires-in-Some-3 c in
    let a = asked_now at.After-index-server in
    let less = known_now at.In-Some (begun_now at.After-choose-chosen a (read_now at.After-order_by-order a)) in
    omega (arith, less, c.self.invariant.shared.boxed)

pub index-requires : goal.index-requires
index-requires c =
    let at = goal.at.index-requires c in
    let a = asked_now at.After-index-server in
    let less = known_now at.In-Some (begun_now at.After-choose-chosen a (read_now at.After-order_by-order a)) in
    omega (arith, less, c.self.invariant.shared.seated, length-set c.self.inside.shared.seats.items c.in-Some.agent c.go_on-lasted.new.seat)

pub go_on-lasted-requires-clause-few : goal.go_on-lasted-requires-clause-few
go_on-lasted-requires-clause-few c =
    let k = c.self.inside in
    subst (All (λ ring. length ring ≤ RING)) (sym c.deref.ensures.value) (few_places k.plan c.self.invariant.plan (run_in k) refl (dates_done k.shared.date) k.shared.rings.items (c.self.invariant.shared.ringed, c.self.invariant.shared.rings))

pub go_on-lasted-requires-clause-known : goal.go_on-lasted-requires-clause-known
go_on-lasted-requires-clause-known c =
    let at = goal.at.go_on-lasted-requires-clause-known c in
    let a = asked_now at.After-index-server in
    let less = known_now at.In-Some (begun_now at.After-choose-chosen a (read_now at.After-order_by-order a)) in
    less

pub go_on-lasted-requires-clause-inside : goal.go_on-lasted-requires-clause-inside
go_on-lasted-requires-clause-inside c =
    let at = goal.at.go_on-lasted-requires-clause-inside c in
    let a = asked_now at.After-index-server in
    let pick = pick_now at.In-Some (begun_now at.After-choose-chosen a (read_now at.After-order_by-order a)) in
    let k = c.self.inside in
    let server = c.index-server.result.now in
    let t = takes k c.self.invariant c.args.processor server a.due c.in-Some.agent pick in
    let here = on_date k c.self.invariant c.args.processor server a.due c.in-Some.agent pick t.0 t.1 t.2 c.last_date-date.result c.last_date-date.ensures in
    subst (λ n. (n < k.plan.until) × (server.cycles + c.args.most ≤ (n + 1) * k.plan.unit.quantum)) (sym here) (a.due.inside.1, a.high)

pub go_on-lasted-requires-clause-given : goal.go_on-lasted-requires-clause-given
go_on-lasted-requires-clause-given c =
    let at = goal.at.go_on-lasted-requires-clause-given c in
    let a = asked_now at.After-index-server in
    let pick = pick_now at.In-Some (begun_now at.After-choose-chosen a (read_now at.After-order_by-order a)) in
    let k = c.self.inside in
    let server = c.index-server.result.now in
    let t = takes k c.self.invariant c.args.processor server a.due c.in-Some.agent pick in
    let may = may_in k c.self.invariant c.args.processor c.args.most server a c.in-Some.agent pick c.last_date-date.result c.last_date-date.ensures c.index_mut-in-Some.result.now c.index_mut-in-Some-2.result.now c.index_mut-in-Some.ensures.value c.index_mut-in-Some-2.ensures.value
    c.deref.result.now c.deref-in-Some.result.now c.index_mut-in-Some-3.result.now c.deref.ensures.value c.deref-in-Some.ensures.value c.index_mut-in-Some-3.ensures.value in
    (opening_in k, k.shared.inputs.lists, stalls_of k.script, turns_in k, t.0, t.1, deadline k c.self.invariant c.args.processor server a.due c.in-Some.agent pick, may)

pub overflow_add-cycle-in-Some : goal.overflow_add-cycle-in-Some
overflow_add-cycle-in-Some c =
    let a = asked_now (goal.at.overflow_add-cycle-in-Some c).After-index-server in
    let count = c.go_on-lasted.ensures.count in
    let small = IsDue.small a.due in
    omega (arith, a.high, count.1, small)

pub count_to-requires-in-Some-clause-rise : goal.count_to-requires-in-Some-clause-rise
count_to-requires-in-Some-clause-rise c =
    λ i j o less within. subst (λ orders. AllPairs (λ (o : Order) (q : Order). o.cycle < q.cycle) orders) (sym c.as_slice-in-Some.ensures) c.self.invariant.script.orders_rise i j o less within

pub count_to-requires-in-Some-clause-in_force : goal.count_to-requires-in-Some-clause-in_force
count_to-requires-in-Some-clause-in_force c =
    let a = asked_now (goal.at.count_to-requires-in-Some-clause-in_force c).After-index-server in
    let server = c.index-server.result.now in
    let x = c.index_mut-in-Some-4.result.now in
    let passed : x.passed ≡ server.passed = ap (λ (q : Server). q.passed) (chosen_is c.self.inside c.args.processor server a.at c.choose-chosen.result c.index_mut.result.now c.index_mut.ensures.value x c.index_mut-in-Some-4.ensures.value) in
    (server.cycles, omega (arith, c.go_on-lasted.ensures.count.0), subst (λ os. AreInForce os x.passed server.cycles) (sym c.as_slice-in-Some.ensures) (subst (λ n. AreInForce c.self.inside.script.orders n server.cycles) (sym passed) (c.self.invariant.servers c.args.processor server a.at).orders))

pub count_to-requires-in-Some-clause-ahead : goal.count_to-requires-in-Some-clause-ahead
count_to-requires-in-Some-clause-ahead c =
    let a = asked_now (goal.at.count_to-requires-in-Some-clause-ahead c).After-index-server in
    let server = c.index-server.result.now in
    let x = c.index_mut-in-Some-4.result.now in
    let passed : x.passed ≡ server.passed = ap (λ (q : Server). q.passed) (chosen_is c.self.inside c.args.processor server a.at c.choose-chosen.result c.index_mut.result.now c.index_mut.ensures.value x c.index_mut-in-Some-4.ensures.value) in
    let few : c.go_on-lasted.result.cycles ≤ c.args.most = c.go_on-lasted.ensures.count.1 in
    λ o there. (let whole = a.ahead o (ap (slice_get c.self.inside.script.orders) (sym passed) ∙ ap (λ os. slice_get os x.passed) (sym c.as_slice-in-Some.ensures) ∙ there) in omega (arith, whole, few))

pub drop_chosen-requires : goal.drop_chosen-requires
drop_chosen-requires c =
    let at = goal.at.drop_chosen-requires c in
    let a = asked_now at.After-index-server in
    let b = begun_now at.After-choose-chosen a (read_now at.After-order_by-order a) in
    let pick = pick_now at.In-Some b in
    let counts = counted_now at.After-count_to-in-Some b in
    let y_read = read_put c.self.inside c.args.processor c.index-server.result.now a.at _ c.count_to-in-Some.new.server c.index_mut-then-not-lasted.result.now counts.put c.index_mut-then-not-lasted.ensures.value in
    (pick.deadline, ap (λ xs. pending_deadline xs c.in-Some.agent) (ap (λ (q : Server). q.ready) y_read ∙ counts.ready) ∙ pick.is_pending)

pub invariant_of-self-then-not-lasted : goal.invariant_of-self-then-not-lasted
invariant_of-self-then-not-lasted c =
    let at = goal.at.invariant_of-self-then-not-lasted c in
    let asks = asked_now at.After-index-server in
    let b = begun_now at.After-choose-chosen asks (read_now at.After-order_by-order asks) in
    let a = b.asks in
    let pick = pick_now at.In-Some b in
    let l = lasted_now at.After-go_on-lasted b pick in
    let counts = counted_now at.After-count_to-in-Some b in
    let drops = dropped_now at.After-drop_chosen b counts in
    let k = c.self.inside in
    let is = c.self.invariant in
    let p = c.args.processor in
    let server = c.index-server.result.now in
    let agent = c.in-Some.agent in
    let date = c.last_date-date.result in
    let date_is = c.last_date-date.ensures in
    let lasted = c.go_on-lasted.ensures in
    let after = c.go_on-lasted.new in
    let waits = deadline k is p server a.due agent pick in
    let told : IsTold after.seat k.shared.movers c.tell.new.self =
    subst (λ (x : Seat). IsTold x k.shared.movers c.tell.new.self) (read_seat k is p c.args.most server a agent pick date date_is after.seat c.index.result.now c.index.ensures)
    (record { moved = c.tell.ensures.moved; earlier = c.tell.ensures.earlier; before = c.tell.ensures.before; kept = c.tell.ensures.kept; stopped = c.tell.ensures.stopped }) in
    let waits_then : (if c.go_on-lasted.result.goes then waits else None) ≡ None = ap (λ on. if on then waits else None) (is_off c.go_on-lasted.result.goes c.if-not-lasted.true) in
    let servers : Vec Server Global = with_item (with_item k.servers p (record c.index_mut.result.now { chosen = c.choose-chosen.result })) p c.count_to-in-Some.new.server in
    lasted_stands k is p server a.due agent pick l.r l.before l.t c.args.most a.high a.ahead date date_is c.go_on-lasted.result.cycles lasted.count after.outbox l.lasts c.drop_chosen.new.server _ drops.gone
    (ap (λ xs. pending_deadline xs agent) drops.ready ∙ none_there server.ready agent ∙ sym waits_then)
    (λ other differs. ap (λ xs. pending_deadline xs other) drops.ready ∙ others_wait server.ready agent other differs)
    lasted.all lasted.others (same_size k is p c.args.most server a agent pick date date_is c.index_mut-in-Some-3.result.now after.outbox c.index_mut-in-Some-3.ensures.value lasted.size) lasted.taking lasted.untaken lasted.reaching
    c.tell.new.self told (with_item servers p c.drop_chosen.new.server) (with_item k.shared.seats agent after.seat) after.ended (with_item k.shared.outboxes agent after.outbox) after.taken (with_item k.runners agent after.runner) after.reaches
    refl refl refl refl refl refl refl

pub invariant_of-self-else-not-lasted : goal.invariant_of-self-else-not-lasted
invariant_of-self-else-not-lasted c =
    let at = goal.at.invariant_of-self-else-not-lasted c in
    let asks = asked_now at.After-index-server in
    let b = begun_now at.After-choose-chosen asks (read_now at.After-order_by-order asks) in
    let a = b.asks in
    let pick = pick_now at.In-Some b in
    let l = lasted_now at.After-go_on-lasted b pick in
    let counts = counted_now at.After-count_to-in-Some b in
    let k = c.self.inside in
    let is = c.self.invariant in
    let p = c.args.processor in
    let server = c.index-server.result.now in
    let agent = c.in-Some.agent in
    let date = c.last_date-date.result in
    let date_is = c.last_date-date.ensures in
    let lasted = c.go_on-lasted.ensures in
    let after = c.go_on-lasted.new in
    let waits = deadline k is p server a.due agent pick in
    let told : IsTold after.seat k.shared.movers c.tell.new.self =
    subst (λ (x : Seat). IsTold x k.shared.movers c.tell.new.self) (read_seat k is p c.args.most server a agent pick date date_is after.seat c.index.result.now c.index.ensures)
    (record { moved = c.tell.ensures.moved; earlier = c.tell.ensures.earlier; before = c.tell.ensures.before; kept = c.tell.ensures.kept; stopped = c.tell.ensures.stopped }) in
    let waits_then : (if c.go_on-lasted.result.goes then waits else None) ≡ waits = ap (λ on. if on then waits else None) (is_on c.go_on-lasted.result.goes c.if-not-lasted.false) in
    let servers : Vec Server Global = with_item (with_item k.servers p (record c.index_mut.result.now { chosen = c.choose-chosen.result })) p c.count_to-in-Some.new.server in
    lasted_stands k is p server a.due agent pick l.r l.before l.t c.args.most a.high a.ahead date date_is c.go_on-lasted.result.cycles lasted.count after.outbox l.lasts c.count_to-in-Some.new.server _ counts.gone
    (ap (λ xs. pending_deadline xs agent) counts.ready ∙ sym (deadline_is k is p server a.due agent pick) ∙ sym waits_then)
    (λ other differs. ap (λ xs. pending_deadline xs other) counts.ready)
    lasted.all lasted.others (same_size k is p c.args.most server a agent pick date date_is c.index_mut-in-Some-3.result.now after.outbox c.index_mut-in-Some-3.ensures.value lasted.size) lasted.taking lasted.untaken lasted.reaching
    c.tell.new.self told servers (with_item k.shared.seats agent after.seat) after.ended (with_item k.shared.outboxes agent after.outbox) after.taken (with_item k.runners agent after.runner) after.reaches
    refl refl refl refl refl refl refl

pub returns-then-not-lasted : goal.returns-then-not-lasted
returns-then-not-lasted c =
    let at = goal.at.returns-then-not-lasted c in
    let asks = asked_now at.After-index-server in
    let b = begun_now at.After-choose-chosen asks (read_now at.After-order_by-order asks) in
    let a = b.asks in
    let pick = pick_now at.In-Some b in
    let l = lasted_now at.After-go_on-lasted b pick in
    let counts = counted_now at.After-count_to-in-Some b in
    let drops = dropped_now at.After-drop_chosen b counts in
    let k = c.self.inside in
    let is = c.self.invariant in
    let e = c.args.self.now in
    let p = c.args.processor in
    let most = c.args.most in
    let server = c.index-server.result.now in
    let date = c.last_date-date.result in
    let date_is = c.last_date-date.ensures in
    let lasted = c.go_on-lasted.ensures in
    let n = c.go_on-lasted.result.cycles in
    let next = c.drop_chosen.new.server in
    record {
      state = state_put k p _ next (put_more k p _ next drops.put) drops.gone.there e c.self.view_is;
      count = count_then k p server a.at e c.self.view_is next n most _ drops.gone lasted.count.0 lasted.count.1;
      steady = steady_then k p server a.at e c.self.view_is next n most _ drops.gone (lasted_steady k is p server a.due c.in-Some.agent pick l.r l.before l.t most a.high a.ahead date date_is n lasted.count c.go_on-lasted.new.outbox l.lasts);
      over = λ is_over. over_then k p server a.at e c.self.view_is next n most _ drops.gone (lasted_over k is p server a.due c.in-Some.agent pick l.r l.before l.t most a.high a.ahead date date_is n lasted.count c.go_on-lasted.new.outbox l.lasts (is_off c.go_on-lasted.result.goes c.if-not-lasted.true));
      goes = λ wrong. absurd (cc);
      whole = λ wrong. absurd (cc);
    }

pub returns-else-not-lasted : goal.returns-else-not-lasted
returns-else-not-lasted c =
    let at = goal.at.returns-else-not-lasted c in
    let asks = asked_now at.After-index-server in
    let b = begun_now at.After-choose-chosen asks (read_now at.After-order_by-order asks) in
    let a = b.asks in
    let pick = pick_now at.In-Some b in
    let l = lasted_now at.After-go_on-lasted b pick in
    let counts = counted_now at.After-count_to-in-Some b in
    let k = c.self.inside in
    let is = c.self.invariant in
    let e = c.args.self.now in
    let p = c.args.processor in
    let most = c.args.most in
    let server = c.index-server.result.now in
    let date = c.last_date-date.result in
    let date_is = c.last_date-date.ensures in
    let lasted = c.go_on-lasted.ensures in
    let n = c.go_on-lasted.result.cycles in
    let next = c.count_to-in-Some.new.server in
    record {
      state = state_put k p _ next (put_more k p _ next counts.put) counts.gone.there e c.self.view_is;
      count = count_then k p server a.at e c.self.view_is next n most _ counts.gone lasted.count.0 lasted.count.1;
      steady = steady_then k p server a.at e c.self.view_is next n most _ counts.gone (lasted_steady k is p server a.due c.in-Some.agent pick l.r l.before l.t most a.high a.ahead date date_is n lasted.count c.go_on-lasted.new.outbox l.lasts);
      over = λ wrong. absurd (cc);
      goes = λ it. goes_then k p server a.at e c.self.view_is next n most _ counts.gone (lasted_on k is p server a.due c.in-Some.agent pick l.r l.before l.t most a.high a.ahead date date_is n lasted.count c.go_on-lasted.new.outbox l.lasts (is_on c.go_on-lasted.result.goes c.if-not-lasted.false));
      whole = λ it. whole_then k p server a.at e c.self.view_is next n most _ counts.gone (lasted.whole (is_on c.go_on-lasted.result.goes c.if-not-lasted.false));
    }
