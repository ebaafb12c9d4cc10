-- An engine, one of whose processors goes on by itself.
use Rattle.std.proofs.Common.{◌≡◌, Vec, Global, refl, sym, ap, ◌∙◌, subst, inl, inr, arith}
use Rattle.std.specs.Prelude.{ℕ, zero, suc, ◌+◌, ◌*◌, ◌<◌, ◌≤◌, true, false, nat_lt, List, [], ◌∷◌, length, get_or, map, slice_get, slice_set, Option, None, Some, ℤ}
use Rattle.std.specs.List.{range_with_len}
use Rattle.std.proofs.lemmas.Bool.{cases_eq, ltb-false}
use Rattle.std.proofs.lemmas.Nat.{mul-le}
use Rattle.std.proofs.lemmas.List.{length-set}
use Rattle.std.proofs.lemmas.Option.{same_Some, slice_get_within}
use Rattle.psy_dates.proofs.lemmas.Sets.{get_set_other, get_set_there}
use Rattle.psy_dates.specs.declared.movers.Movers.{Movers}
use Rattle.psy_dates.specs.declared.plan.Plan.{Plan}
use Rattle.psy_dates.specs.declared.seat.Seat.{Seat}
use Rattle.psy_dates.specs.declared.shared.Shared.{Shared}
use Rattle.psy_dates.specs.Outboxes.{Outboxed}
use Rattle.psy_dates.specs.Plans.{IsPlan, IsSoundFor}
use Rattle.psy_dates.specs.Standing.{dates_done}
use Rattle.psy_history.specs.Compiled.{AreInputs}
use Rattle.psy_history.specs.Regular.{IsLawful}
use Rattle.psy_history.specs.Actions.{Action, History, Opening, System}
use Rattle.psy_history.specs.History.{history}
use Rattle.psy_history.specs.Processors.{processor_at}
use Rattle.psy_history.specs.Schedule.{Turn, is_pending}
use Rattle.psy_history.specs.Scheduled.{gone_to, turns_of}
use Rattle.psy_history.specs.Summary.{reach}
use Rattle.psy_history.specs.declared.told.Order.{Order}
use Rattle.psy_history.specs.declared.told.Script.{Script}
use Rattle.psy_history.specs.Scripts.{order_of, stalls_of}
use Rattle.psy_ready.specs.Choice.{ListsEach, pending_deadline}
use Rattle.psy_tree.specs.declared.unit.Unit.{Unit as Whole}
use Rattle.psy_kernel.specs.Cycles.{AreOver, GetsCycle, IsCycleOf, LooksBack, order_by, run_of, run_turns}
use Rattle.psy_kernel.specs.Engines.{EngineState, done_on, next_date, opening_of}
use Rattle.psy_kernel.specs.Standing.{AreInForce, EngineStands, InTick, IsChosen, ServerStands, ready_of, state_of, waits_on}
use Rattle.psy_kernel.specs.Stretches.{given_on, given_to}
use Rattle.psy_kernel.specs.declared.engine.Engine.TheInside.{Inside}
use Rattle.psy_kernel.specs.declared.engine.Runner.{Runner}
use Rattle.psy_kernel.specs.declared.engine.Server.{Server}
use Rattle.psy_kernel.proofs.GivenCycles.{others_given, own_given}
use Rattle.psy_kernel.proofs.OrdersInForce.{in_force_is, lists_order, no_more}
use Rattle.psy_kernel.proofs.Parts.{PartsStand}
use Rattle.psy_kernel.proofs.Ticks.{IsInside, inside_tick, tick_kept}

-- ---- a list of what is made of others

-- ---- a run

-- Where the run of an engine begins
abbrev pub opening_in : Inside → Opening
opening_in k = opening_of (state_of k)

-- Its run
abbrev pub run_in : Inside → System
run_in k = run_of k.plan (opening_in k) k.shared.inputs.lists k.script

-- The order of ties, by cycle
abbrev pub order_in : Inside → ℕ → List ℕ
order_in k = order_of k.plan.unit k.script

-- How many cycles a processor did
abbrev pub cycles_of : List Server → ℕ → ℕ
cycles_of servers processor = get_or (map (λ (server : Server). server.cycles) servers) processor 0

-- By agent, what the cycles of its processor went to, where so many were done of each
abbrev pub turns_with : Inside → List Server → ℕ → List (Option Turn)
turns_with k servers agent = turns_of (run_in k) (order_in k) (cycles_of servers (processor_at k.plan.unit agent)) (processor_at k.plan.unit agent)

-- By agent, what the cycles done of its processor went to
abbrev pub turns_in : Inside → ℕ → List (Option Turn)
turns_in k agent = turns_with k k.servers.items agent

abbrev pub PartsIn : Inside → Type 0
PartsIn k = PartsStand (run_in k) k.plan.sizes k.plan.code k.plan.until (turns_in k) (dates_done k.shared.date) k.shared k.runners.items (waits_on k.plan.unit k.servers.items)

pub parts_in : (k : Inside) → EngineStands k → PartsIn k
parts_in k is = record {
  shares = is.shared;
  run = is.run;
  agents = is.agents;
  doing = is.doing;
}

-- ---- the cycles of a processor, by its place

abbrev cycles_at : Option Server → ℕ
cycles_at None = 0
cycles_at (Some server) = server.cycles

cycles_there : (servers : List Server) (place : ℕ) → cycles_of servers place ≡ cycles_at (slice_get servers place)
cycles_there [] place = refl
cycles_there (server ∷ servers) zero = refl
cycles_there (server ∷ servers) (suc place) = cycles_there servers place

pub cycles_is : (servers : List Server) (place : ℕ) (server : Server) → slice_get servers place ≡ Some server → cycles_of servers place ≡ server.cycles
cycles_is servers place server at = cycles_there servers place ∙ ap cycles_at at

pub cycles_same : (servers others : List Server) (place : ℕ) → slice_get servers place ≡ slice_get others place → cycles_of servers place ≡ cycles_of others place
cycles_same servers others place same = cycles_there servers place ∙ ap cycles_at same ∙ sym (cycles_there others place)

pub server_there : (servers : List Server) (place : ℕ) → place < length servers → (server : Server) × (slice_get servers place ≡ Some server)
server_there [] place less = absurd (omega (arith, less))
server_there (server ∷ servers) zero less = (server, refl)
server_there (server ∷ servers) (suc place) less = server_there servers place (omega (arith, less))

-- An agent waits for its own processor.
pub waits_there : (unit : Whole) (servers : List Server) (processor : ℕ) (server : Server) → slice_get servers processor ≡ Some server → (agent : ℕ) → processor_at unit agent ≡ processor → waits_on unit servers agent ≡ pending_deadline server.ready agent
waits_there unit servers processor server there agent of = ap (λ p. pending_deadline (ready_of (slice_get servers p)) agent) of ∙ ap (λ o. pending_deadline (ready_of o) agent) there

-- ---- a processor that may go on

-- What is known of it
pub record IsDue (k : Inside) (processor : ℕ) (server : Server) : Type 0 where
  pub there : slice_get k.servers.items processor ≡ Some server
  pub date : ℕ
  pub inside : IsInside k.plan.unit.quantum k.plan.until (dates_done k.shared.date) server.cycles date
  pub cycle : IsCycleOf k.plan (opening_in k) k.shared.inputs.lists k.script date server.cycles
  pub lawful : IsLawful (run_in k)
  pub over : (agent : ℕ) → processor_at k.plan.unit agent ≡ processor → AreOver (turns_in k agent) (history (run_in k) (date + 1) agent)
  pub gets : (agent : ℕ) (r : Action) (before : List Action) → processor_at k.plan.unit agent ≡ processor → history (run_in k) (date + 1) agent ≡ r ∷ before → is_pending (turns_in k agent) r ≡ true → GetsCycle (run_in k) k.plan.code (turns_in k agent) k.plan.until date server.cycles agent r before
  pub looks : (cycle agent : ℕ) (r : Action) (before : List Action) (turns : ℕ → List (Option Turn)) → IsCycleOf k.plan (opening_in k) k.shared.inputs.lists k.script date cycle → turns agent ≡ turns_of (run_in k) (order_in k) cycle (processor_at k.plan.unit agent)
      → history (run_in k) (date + 1) agent ≡ r ∷ before → is_pending (turns agent) r ≡ true → LooksBack (run_in k) k.plan.sizes k.plan.code turns date r
  pub idle : (turns : ℕ → List (Option Turn)) (h : History) (processor variable : ℕ) → reach (run_in k) (gone_to k.plan.unit processor None turns) h variable ≡ reach (run_in k) turns h variable
  pub same : (turns others : ℕ → List (Option Turn)) (h : History) (variable : ℕ) → ((agent : ℕ) → turns agent ≡ others agent) → reach (run_in k) turns h variable ≡ reach (run_in k) others h variable
  pub small : (date + 1) * k.plan.unit.quantum < 18446744073709551615

-- What is known of all runs
pub record AreCycleLaws : Type 0 where
  pub lawful : (plan : Plan) (opening : Opening) (inputs : List (List ℤ)) (script : Script) → IsPlan plan → AreInputs plan.unit inputs → IsSoundFor plan opening inputs (stalls_of script) → IsLawful (run_of plan opening inputs script)
  pub over : (plan : Plan) (opening : Opening) (inputs : List (List ℤ)) (script : Script) (date cycle agent : ℕ) → IsCycleOf plan opening inputs script date cycle → AreOver (run_turns plan opening inputs script cycle agent) (history (run_of plan opening inputs script) (date + 1) agent)
  pub gets : (plan : Plan) (opening : Opening) (inputs : List (List ℤ)) (script : Script) (date cycle agent : ℕ) (r : Action) (before : List Action) → IsCycleOf plan opening inputs script date cycle
      → history (run_of plan opening inputs script) (date + 1) agent ≡ r ∷ before → is_pending (run_turns plan opening inputs script cycle agent) r ≡ true
      → GetsCycle (run_of plan opening inputs script) plan.code (run_turns plan opening inputs script cycle agent) plan.until date cycle agent r before
  pub looks : (plan : Plan) (opening : Opening) (inputs : List (List ℤ)) (script : Script) (date cycle agent : ℕ) (r : Action) (before : List Action) (turns : ℕ → List (Option Turn)) → IsCycleOf plan opening inputs script date cycle
      → turns agent ≡ run_turns plan opening inputs script cycle agent → history (run_of plan opening inputs script) (date + 1) agent ≡ r ∷ before → is_pending (turns agent) r ≡ true
      → LooksBack (run_of plan opening inputs script) plan.sizes plan.code turns date r
  pub idle : (s : System) (turns : ℕ → List (Option Turn)) (h : History) (processor variable : ℕ) → reach s (gone_to s.unit processor None turns) h variable ≡ reach s turns h variable
  pub same : (s : System) (turns others : ℕ → List (Option Turn)) (h : History) (variable : ℕ) → ((agent : ℕ) → turns agent ≡ others agent) → reach s turns h variable ≡ reach s others h variable

module _ (k : Inside) (is : EngineStands k) (processor : ℕ) (server : Server) (at : slice_get k.servers.items processor ≡ Some server) where
  pub stands_there : ServerStands (state_of k) processor server
  stands_there = is.servers processor server at

  -- what the cycles of its own agents went to
  pub own_turns : (agent : ℕ) → processor_at k.plan.unit agent ≡ processor → turns_in k agent ≡ turns_of (run_in k) (order_in k) server.cycles processor
  own_turns agent of = ap (λ p. turns_of (run_in k) (order_in k) (cycles_of k.servers.items p) p) of ∙ ap (λ c. turns_of (run_in k) (order_in k) c processor) (cycles_is k.servers.items processor server at)

  -- the order that is read is the one in force
  pub order_read : (read declared : List ℕ) (orders : List Order) → read ≡ order_by declared orders server.passed → declared ≡ k.declared.items → orders ≡ k.script.orders → read ≡ order_in k server.cycles
  order_read read declared orders e a b =
      e ∙ ap (λ d. order_by d orders server.passed) (a ∙ is.all) ∙ ap (λ o. order_by (range_with_len 0 (length k.plan.unit.agents)) o server.passed) b
      ∙ sym (in_force_is (range_with_len 0 (length k.plan.unit.agents)) k.script.orders server.passed server.cycles stands_there.orders)

  pub lists_read : (read : List ℕ) → read ≡ order_in k server.cycles → ListsEach (length server.ready) read
  lists_read read e = subst (ListsEach (length server.ready)) (sym e) (subst (λ n. ListsEach n (order_in k server.cycles)) (sym stands_there.waiting) (lists_order k.plan.unit k.script server.cycles is.script))

  -- the order stays up to the cycle of the next one
  pub order_until : (n : ℕ) → ((o : Order) → slice_get k.script.orders server.passed ≡ Some o → server.cycles + n ≤ o.cycle) → (j : ℕ) → j < n → order_in k (server.cycles + j) ≡ order_in k server.cycles
  order_until n ahead j less =
      let then_in_force : AreInForce k.script.orders server.passed (server.cycles + j) = no_more k.script.orders is.script.orders_rise server.passed server.cycles stands_there.orders (server.cycles + j) (omega arith) (λ o at. omega (arith, ahead o at, less)) in
      in_force_is (range_with_len 0 (length k.plan.unit.agents)) k.script.orders server.passed (server.cycles + j) then_in_force
      ∙ sym (in_force_is (range_with_len 0 (length k.plan.unit.agents)) k.script.orders server.passed server.cycles stands_there.orders)

  -- the choice stays where the same agents wait and no order comes into force
  pub choice_stays : (chosen : Option ℕ) → IsChosen server.ready (order_in k server.cycles) chosen → (cycle passed : ℕ) → AreInForce k.script.orders passed cycle → server.passed ≤ passed → nat_lt server.passed passed ≡ false → IsChosen server.ready (order_in k cycle) chosen
  choice_stays chosen choice cycle passed next no_less fresh =
      let e : passed ≡ server.passed = omega (arith, ltb-false server.passed passed fresh, no_less) in
      let stays : order_in k server.cycles ≡ order_in k cycle =
      in_force_is (range_with_len 0 (length k.plan.unit.agents)) k.script.orders server.passed server.cycles stands_there.orders
      ∙ sym (in_force_is (range_with_len 0 (length k.plan.unit.agents)) k.script.orders server.passed cycle (subst (λ p. AreInForce k.script.orders p cycle) e next)) in
      subst (λ o. IsChosen server.ready o chosen) stays choice

  cycle_in : (most : k.plan.until ≤ 4294967295) (date : ℕ) → IsInside k.plan.unit.quantum k.plan.until (dates_done k.shared.date) server.cycles date → IsCycleOf k.plan (opening_in k) k.shared.inputs.lists k.script date server.cycles
  cycle_in most date h = record {
    of_plan = is.plan;
    of_inputs = is.inputs;
    of_script = is.script;
    sound = is.sound;
    before = h.1;
    most = most;
    low = h.2;
    high = h.3;
  }

  small_cycles : (date : ℕ) → IsCycleOf k.plan (opening_in k) k.shared.inputs.lists k.script date server.cycles → (date + 1) * k.plan.unit.quantum < 18446744073709551615
  small_cycles date c =
      let a = mul-le (date + 1) k.plan.unit.quantum 4294967295 1000000 (omega (arith, c.before, c.most)) is.plan.fits.bare.quantum.1 in
      omega (arith, a)

  pub is_due : k.plan.until ≤ 4294967295 → dates_done k.shared.date ≤ k.plan.until → server.cycles < next_date (state_of k) → AreCycleLaws → IsDue k processor server
  is_due most early less laws =
      let w = inside_tick k.plan.unit.quantum k.plan.until (dates_done k.shared.date) server.cycles stands_there.in_tick early less in
      let cycle = cycle_in most w.0 w.1 in
      let at_cycle : (agent : ℕ) → processor_at k.plan.unit agent ≡ processor → turns_in k agent ≡ run_turns k.plan (opening_in k) k.shared.inputs.lists k.script server.cycles agent = λ agent of.
      own_turns agent of ∙ ap (turns_of (run_in k) (order_in k) server.cycles) (sym of) in
      record {
        there = at;
        date = w.0;
        inside = w.1;
        cycle = cycle;
        lawful = laws.lawful k.plan (opening_in k) k.shared.inputs.lists k.script is.plan is.inputs is.sound;
        over = λ agent of. subst (λ ts. AreOver ts (history (run_in k) (w.0 + 1) agent)) (sym (at_cycle agent of)) (laws.over k.plan (opening_in k) k.shared.inputs.lists k.script w.0 server.cycles agent cycle);
        gets = λ agent r before of last pending.
            subst (λ ts. GetsCycle (run_in k) k.plan.code ts k.plan.until w.0 server.cycles agent r before) (sym (at_cycle agent of))
            (laws.gets k.plan (opening_in k) k.shared.inputs.lists k.script w.0 server.cycles agent r before cycle last (subst (λ ts. is_pending ts r ≡ true) (at_cycle agent of) pending));
        looks = λ cycle agent r before turns. laws.looks k.plan (opening_in k) k.shared.inputs.lists k.script w.0 cycle agent r before turns;
        idle = laws.idle (run_in k);
        same = laws.same (run_in k);
        small = small_cycles w.0 cycle;
      }

  -- what its caller knows of so many cycles
  module _ (e : EngineState) (view : state_of k ≡ e) (n : ℕ) where
    pub high_of : done_on e processor + n ≤ next_date e → server.cycles + n ≤ dates_done k.shared.date * k.plan.unit.quantum
    high_of inside =
        let here = subst (λ q. done_on q processor + n ≤ next_date q) (sym view) inside in
        subst (λ c. c + n ≤ dates_done k.shared.date * k.plan.unit.quantum) (cycles_is k.servers.items processor server at) here

    pub ahead_of : ((place : ℕ) (o : Order) → slice_get e.script.orders place ≡ Some o → done_on e processor < o.cycle → done_on e processor + n ≤ o.cycle) → (o : Order) → slice_get k.script.orders server.passed ≡ Some o → server.cycles + n ≤ o.cycle
    ahead_of ahead o there =
        let here = subst (λ q. (place : ℕ) (o : Order) → slice_get q.script.orders place ≡ Some o → done_on q processor < o.cycle → done_on q processor + n ≤ o.cycle) (sym view) ahead in
        let mine = subst (λ c. (place : ℕ) (o : Order) → slice_get k.script.orders place ≡ Some o → c < o.cycle → c + n ≤ o.cycle) (cycles_is k.servers.items processor server at) here in
        mine server.passed o there (stands_there.orders.ahead server.passed o there (omega arith))

-- ---- the processors once one of them has gone on

-- One of them did so many cycles more
pub record HaveGone (k : Inside) (processor : ℕ) (server next : Server) (n : ℕ) (servers : List Server) : Type 0 where
  pub count : length servers ≡ length k.servers.items
  pub there : slice_get servers processor ≡ Some next
  pub rest : (other : ℕ) → (other ≡ processor → ⊥) → slice_get servers other ≡ slice_get k.servers.items other
  pub cycles : next.cycles ≡ server.cycles + n
  pub waiting : length next.ready ≡ length k.plan.unit.agents
  pub own : (agent : ℕ) → (processor_at k.plan.unit agent ≡ processor → ⊥) → pending_deadline next.ready agent ≡ None
  pub orders : AreInForce k.script.orders next.passed (server.cycles + n)
  pub choice : next.stale ≡ false → IsChosen next.ready (order_in k (server.cycles + n)) next.chosen

module _ (k : Inside) (processor : ℕ) (server next : Server) (n : ℕ) (servers : List Server) (gone : HaveGone k processor server next n servers) where
  -- what its own agents' cycles went to
  pub gone_own : (agent : ℕ) → processor_at k.plan.unit agent ≡ processor → turns_with k servers agent ≡ turns_of (run_in k) (order_in k) (server.cycles + n) processor
  gone_own agent of =
      ap (λ p. turns_of (run_in k) (order_in k) (cycles_of servers p) p) of
      ∙ ap (λ c. turns_of (run_in k) (order_in k) c processor) (cycles_is servers processor next gone.there ∙ gone.cycles)

  -- by agent, where the cycles went to one turn
  pub gone_turns : (turn : Option Turn) → ((agent : ℕ) → processor_at k.plan.unit agent ≡ processor → turns_of (run_in k) (order_in k) (server.cycles + n) processor ≡ given_to turn n (turns_in k agent))
      → (agent : ℕ) → given_on k.plan.unit processor turn n (turns_in k) agent ≡ turns_with k servers agent
  gone_turns turn row agent = elim (cases_eq (processor_at k.plan.unit agent) processor) [
    | inl of ↦ own_given k.plan.unit processor agent turn (turns_in k) of n ∙ sym (row agent of) ∙ sym (gone_own agent of)
    | inr differs ↦
        others_given k.plan.unit processor agent turn (turns_in k) differs n
        ∙ ap (λ c. turns_of (run_in k) (order_in k) c (processor_at k.plan.unit agent)) (sym (cycles_same servers k.servers.items (processor_at k.plan.unit agent) (gone.rest (processor_at k.plan.unit agent) differs)))
  ]

  -- who waits for which deadline
  pub own_waits : (agent : ℕ) → processor_at k.plan.unit agent ≡ processor → waits_on k.plan.unit servers agent ≡ pending_deadline next.ready agent
  own_waits = waits_there k.plan.unit servers processor next gone.there

  pub other_waits : (agent : ℕ) → (processor_at k.plan.unit agent ≡ processor → ⊥) → waits_on k.plan.unit servers agent ≡ waits_on k.plan.unit k.servers.items agent
  other_waits agent differs = ap (λ o. pending_deadline (ready_of o) agent) (gone.rest (processor_at k.plan.unit agent) differs)

  next_stands : (d : IsDue k processor server) → server.cycles + n ≤ (d.date + 1) * k.plan.unit.quantum → (done : List ℕ) → ServerStands (record (state_of k) { done = done }) processor next
  next_stands d high done = record {
    in_tick = subst (InTick k.plan.unit.quantum k.plan.until (dates_done k.shared.date)) (sym gone.cycles) (tick_kept k.plan.unit.quantum k.plan.until (dates_done k.shared.date) server.cycles d.date n d.inside high);
    waiting = gone.waiting;
    own = gone.own;
    orders = subst (AreInForce k.script.orders next.passed) (sym gone.cycles) gone.orders;
    choice = λ fresh. subst (λ c. IsChosen next.ready (order_in k c) next.chosen) (sym gone.cycles) (gone.choice fresh);
  }

  server_gone : EngineStands k → (d : IsDue k processor server) → server.cycles + n ≤ (d.date + 1) * k.plan.unit.quantum → (done : List ℕ) (other : ℕ) (x : Server) → slice_get servers other ≡ Some x → ServerStands (record (state_of k) { done = done }) other x
  server_gone is d high done other x there = elim (cases_eq other processor) [
    | inl same ↦
        (let x_is : next ≡ x = same_Some next x (sym gone.there ∙ ap (slice_get servers) (sym same) ∙ there) in
        subst (ServerStands (record (state_of k) { done = done }) other) x_is (subst (λ p. ServerStands (record (state_of k) { done = done }) p next) (sym same) (next_stands d high done)))
    | inr differs ↦
        (let old = is.servers other x (sym (gone.rest other differs) ∙ there) in
        record { in_tick = old.in_tick; waiting = old.waiting; own = old.own; orders = old.orders; choice = old.choice })
  ]

  -- The engine with what it has then
  pub stands_gone : (is : EngineStands k) (d : IsDue k processor server) → server.cycles + n ≤ (d.date + 1) * k.plan.unit.quantum
      → (moved : Vec Server Global) (movers : Movers) (seats : Vec Seat Global) (copies : Vec ℤ Global) (outboxes : Vec Outboxed Global) (counts : Vec ℕ Global) (runners : Vec Runner Global) (reaches : Vec (Option ℕ) Global)
      → moved.items ≡ servers
      → PartsStand (run_in k) k.plan.sizes k.plan.code k.plan.until (turns_with k servers) (dates_done k.shared.date) (record k.shared { seats = seats; ended = copies; outboxes = outboxes; taken = counts; movers = movers }) runners.items (waits_on k.plan.unit servers)
      → length reaches.items ≡ length k.reaches.items
      → ((variable : ℕ) (m : Option ℕ) → slice_get reaches.items variable ≡ Some m → m ≡ reach (run_in k) (turns_with k servers) (history (run_in k) (dates_done k.shared.date)) variable)
      → EngineStands (record k { shared = record k.shared { seats = seats; ended = copies; outboxes = outboxes; taken = counts; movers = movers }; runners = runners; reaches = reaches; servers = moved })
  stands_gone is d high moved movers seats copies outboxes counts runners reaches moved_is parts as_many reached =
      let after : Shared = record k.shared { seats = seats; ended = copies; outboxes = outboxes; taken = counts; movers = movers } in
      let all : PartsStand (run_in k) k.plan.sizes k.plan.code k.plan.until (turns_with k moved.items) (dates_done k.shared.date) after runners.items (waits_on k.plan.unit moved.items) =
      subst (λ ss. PartsStand (run_in k) k.plan.sizes k.plan.code k.plan.until (turns_with k ss) (dates_done k.shared.date) after runners.items (waits_on k.plan.unit ss)) (sym moved_is) parts in
      record {
        plan = is.plan;
        inputs = is.inputs;
        script = is.script;
        parts = is.parts;
        sound = is.sound;
        behind = is.behind;
        served = ap length moved_is ∙ gone.count ∙ is.served;
        servers = λ other x there. server_gone is d high (map (λ (server : Server). server.cycles) moved.items) other x (ap (λ ss. slice_get ss other) (sym moved_is) ∙ there);
        shared = all.shares;
        run = all.run;
        reaching = as_many ∙ is.reaching;
        reached = subst (λ ss. (variable : ℕ) (m : Option ℕ) → slice_get reaches.items variable ≡ Some m → m ≡ reach (run_in k) (turns_with k ss) (history (run_in k) (dates_done k.shared.date)) variable) (sym moved_is) reached;
        holding = is.holding;
        held = is.held;
        doing = all.doing;
        agents = all.agents;
        all = is.all;
        place = is.place;
        before = is.before;
        unshown = is.unshown;
        given = is.given;
      }

-- ---- a processor in the place of another

-- The other processors stay as they are.
pub record ArePut (k : Inside) (processor : ℕ) (servers : List Server) : Type 0 where
  pub count : length servers ≡ length k.servers.items
  pub rest : (other : ℕ) → (other ≡ processor → ⊥) → slice_get servers other ≡ slice_get k.servers.items other

pub put_none : (k : Inside) (processor : ℕ) → ArePut k processor k.servers.items
put_none k processor = record { count = refl; rest = λ other differs. refl }

pub put_more : (k : Inside) (processor : ℕ) (servers : List Server) (x : Server) → ArePut k processor servers → ArePut k processor (slice_set servers processor x)
put_more k processor servers x h = record {
  count = length-set servers processor x ∙ h.count;
  rest = λ other differs. get_set_other servers processor other x differs ∙ h.rest other differs;
}

-- What was put there
pub put_there : (k : Inside) (processor : ℕ) (server : Server) → slice_get k.servers.items processor ≡ Some server → (servers : List Server) (x : Server) → ArePut k processor servers → slice_get (slice_set servers processor x) processor ≡ Some x
put_there k processor server at servers x h = get_set_there servers processor x (omega (arith, slice_get_within k.servers.items processor server at, h.count))
