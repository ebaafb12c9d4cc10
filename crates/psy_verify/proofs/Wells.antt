-- Runs of verified code go well by its listed ways.
use Rattle.std.proofs.Common.{◌≡◌, ◌⊎◌, refl, sym, ap, subst, ◌∙◌, inl, inr, arith}
use Rattle.std.specs.Prelude.{ℕ, zero, suc, ◌<◌, ◌≤◌, ◌==◌, ◌&&◌, ◌||◌, min, Bool, true, false, if◌then◌else◌, List, [], ◌∷◌, length, map, get_or, Option, None, Some, slice_get, ℤ, FitsSigned}
use Rattle.std.specs.Int.{w32, int_wrap}
use Rattle.std.specs.List.{All, Contains, list_any}
use Rattle.std.proofs.lemmas.Bool.{cases_lt, false≢true}
use Rattle.std.proofs.lemmas.List.Elements.{All-contains, All-get_or}
use Rattle.std.proofs.lemmas.List.Sums.{count_by-le-length}
use Rattle.std.proofs.lemmas.Option.{none-some, same_Some, get_or_from_slice_get}
use Rattle.std.proofs.Math.ListN.{length-replicate}
use Rattle.psy_base.specs.declared.limits.TheConstants.{OPEN_CALLS, SENDS}
use Rattle.psy_base.specs.declared.ways.SendWay.{SendWay}
use Rattle.psy_base.specs.declared.ways.Ways.{Ways as WayLists}
use Rattle.psy_lists.proofs.lemmas.Members.{contains_behind, contains_front, contains_none, front_or_behind}
use Rattle.psy_lists.proofs.lemmas.Places.{mapped, there}
use Rattle.psy_lists.proofs.lemmas.Tests.{both, each_of_both, or_true}
use Rattle.psy_code.specs.declared.code.AgentCode.{AgentCode}
use Rattle.psy_code.specs.declared.code.Code.{Code}
use Rattle.psy_code.specs.declared.instr.Instr.{Instr}
use Rattle.psy_code.specs.declared.instr.Instr.TheVariants as instr
use Rattle.psy_code.specs.declared.look.Sent.{Sent}
use Rattle.psy_code.specs.Execution.{NoRun, RanTo, Run, RunState, Running, TrappedBy, call_by, instr_at, run_code}
use Rattle.psy_code.specs.Lasting.{StandsAt}
use Rattle.psy_code.specs.Views.{Call, Past, Ready, Send, Take, View, found_in}
use Rattle.psy_tree.specs.declared.unit.AgentDecl.{AgentDecl}
use Rattle.psy_tree.specs.declared.unit.Point.{Point}
use Rattle.psy_tree.specs.declared.unit.Slots.{Slots}
use Rattle.psy_tree.specs.declared.unit.StreamDecl.{StreamDecl}
use Rattle.psy_tree.specs.declared.unit.Unit.{Unit as Whole}
use Rattle.psy_tree.specs.Parts.{agent_at, no_agent}
use Rattle.psy_meaning.specs.Alike.{FitSlots, IsViewOf, started}
use Rattle.psy_meaning.specs.CodeWays.{AreCodeLooks, AreCodeNexts, AreCodeSends, AreCodeWays, HasCodeSends, HaveAllMosts, HaveMosts, IsCodeWay, IsMostCodeSends, IsOnWay, agent_code_at, budget_of, first, is_send_to, place_of, sends_at}
use Rattle.psy_meaning.specs.KnownWays.{Listed, any_to, is_sent, most_in}
use Rattle.psy_meaning.specs.Sendings.{delay_of}
use Rattle.psy_meaning.specs.Timing.{MayStart, first as at_head, later}
use Rattle.psy_meaning.specs.Units.{HasHead, IsBare, IsBareAgent}
use Rattle.psy_history.specs.Actions.{timing}
use Rattle.psy_history.specs.Executors.{Carried, cut, home_with, machine_at}
use Rattle.psy_history.specs.Fitting.{FitsBy, IsCodeFor, undisturbed}
use Rattle.psy_history.specs.Openings.{MayCarry}
use Rattle.psy_history.specs.Regular.{MayAsk}
use Rattle.psy_history.specs.Runs.{GoesWell, StandsWell, run_from}
use Rattle.psy_history.specs.Ways.{SendsAtMost, sends_in}
use Rattle.psy_flow.specs.Owners.{Agent, Begins}
use Rattle.psy_flow.specs.Verified.{Hears, IsNamed, IsVerified}
use Rattle.psy_verify.specs.Standing.{MayBegin}
use Rattle.psy_verify.specs.Following.{Follows}
use Rattle.psy_verify.specs.Fits.{HasNoSlots}
use Rattle.psy_verify.proofs.Counts.{going_counts, gone_counts, some_counted}
use Rattle.psy_verify.proofs.Fitting.{Keeping, keeps, wrapped}
use Rattle.psy_verify.proofs.Lists.{at_point, listed_there, nexts_for, on_way_reached, point_begins, send_among, ways_for}
use Rattle.psy_verify.proofs.Runs.{asks, begins_there, follows, on_first, still_on}
use Rattle.psy_verify.proofs.Sights.{same_number}

-- ---- lists

any_at : {X : Type 0} (p : X → Bool) (xs : List X) (i : ℕ) (x : X) → slice_get xs i ≡ Some x → p x ≡ true → list_any p xs ≡ true
any_at p [] i x at e = absurd (none-some x at)
any_at p (y ∷ xs) zero x at e = (let same : y ≡ x = same_Some y x at in ap (λ b. b || list_any p xs) (ap p same ∙ e))
any_at p (y ∷ xs) (suc i) x at e = ap (λ b. p y || b) (any_at p xs i x at e) ∙ or_true (p y)

any_of : {X : Type 0} (p : X → Bool) (xs : List X) (x : X) → Contains xs x → p x ≡ true → list_any p xs ≡ true
any_of p [] x c e = absurd (contains_none x c)
any_of p (y ∷ xs) x c e = elim (front_or_behind y xs x c) [
  | inl same ↦ ap (λ b. b || list_any p xs) (ap p same ∙ e)
  | inr behind ↦ ap (λ b. p y || b) (any_of p xs x behind e) ∙ or_true (p y)
]

-- The most that a list has to a point and a stream is that of one of its ways there.
most_listed : (sends : List SendWay) (to stream : ℕ) (way : SendWay) → Contains sends way → way.to ≡ to → way.stream ≡ stream
    → (other : SendWay) × Contains sends other × (other.to ≡ to) × (other.stream ≡ stream) × (most_in sends to stream ≡ other.most)
most_listed [] to stream way c e f = absurd (contains_none way c)
most_listed (w ∷ rest) to stream way c e f = from (w.to == to && w.stream == stream) refl (λ behind. most_listed rest to stream way behind e f) (front_or_behind w rest way c)
  where
    Found : List SendWay → ℕ → Type 0
    Found sends n = (other : SendWay) × Contains sends other × (other.to ≡ to) × (other.stream ≡ stream) × (n ≡ other.most)

    from : (b : Bool) → (w.to == to && w.stream == stream) ≡ b → (Contains rest way → Found rest (most_in rest to stream)) → (w ≡ way) ⊎ Contains rest way
        → Found (w ∷ rest) (if b then w.most else most_in rest to stream)
    from true is on where_ = (w, contains_front w rest, grind (arith, (each_of_both (w.to == to) (w.stream == stream) is).0), grind (arith, (each_of_both (w.to == to) (w.stream == stream) is).1), refl)
    from false is on (inl same) =
        let first_same : (w.to == to) ≡ true = ap (λ (x : SendWay). x.to == to) same ∙ ap (λ n. n == to) e ∙ same_number to in
        let second_same : (w.stream == stream) ≡ true = ap (λ (x : SendWay). x.stream == stream) same ∙ ap (λ n. n == stream) f ∙ same_number stream in
        absurd (false≢true (sym is ∙ both (w.to == to) (w.stream == stream) first_same second_same))
    from false is on (inr behind) = (let (other, there, to_is, stream_is, most) = on behind in (other, contains_behind w rest other there, to_is, stream_is, most))

head_there : (a : AgentDecl) (points : List Point) (lawful : Point → Type 0) → HasHead a points lawful → 1 ≤ length points
head_there a [] lawful h = absurd h
head_there a (head ∷ rest) lawful h = omega arith

-- ---- by the ways of code

module _ (unit : Whole) (code : Code) (v : IsVerified unit code) (few : length code.functions ≤ OPEN_CALLS) (parts : IsCodeFor unit code) (ways : WayLists) (are : AreCodeWays unit code ways) (mosts : HaveAllMosts unit code ways.nexts)
    (agent : ℕ) (known : agent < length unit.agents) where
  -- What the lists say of a point
  module _ (point : ℕ) (less : point < length (agent_at unit agent).points) where
    abbrev from : ℕ
    from = place_of code agent point

    abbrev nexts : List ℕ
    nexts = get_or (get_or ways.nexts agent []) point []

    abbrev sends : List SendWay
    sends = get_or (get_or ways.sends agent []) point []

    next_lists : AreCodeNexts code.instrs from nexts
    next_lists = at_point unit (λ agent point. AreCodeNexts code.instrs (place_of code agent point)) ways.nexts are.nexts agent point known less

    look_lists : AreCodeLooks code.instrs from (get_or (get_or ways.looks agent []) point [])
    look_lists = at_point unit (λ agent point. AreCodeLooks code.instrs (place_of code agent point)) ways.looks are.looks agent point known less

    send_lists : AreCodeSends code.instrs from (budget_of unit agent point) sends
    send_lists = at_point unit (λ agent point. AreCodeSends code.instrs (place_of code agent point) (budget_of unit agent point)) ways.sends are.sends agent point known less

    have_mosts : HaveMosts code.instrs from (budget_of unit agent point) (length unit.streams) nexts
    have_mosts = at_point unit (λ agent point. HaveMosts code.instrs (place_of code agent point) (budget_of unit agent point) (length unit.streams)) ways.nexts mosts agent point known less

    begins : Begins code (Agent agent) from
    begins = point_begins unit code v parts agent point known less

    pub next_known : (to : ℕ) → Contains nexts to → to < length (agent_at unit agent).points
    next_known to c =
        (All-contains (λ to. (1 ≤ to) × (to < length (agent_at unit agent).points)) nexts to (nexts_for unit code v parts agent point nexts known less next_lists).known c).1

    -- ---- sends

    -- What was sent, which is no more than a way sends and no more than the budget, is no more than the most.
    bounded : (to stream most count done : ℕ) → IsMostCodeSends code.instrs from to stream (budget_of unit agent point) most → HasCodeSends code.instrs from to stream count → done ≤ count → done ≤ budget_of unit agent point
        → min done SENDS ≤ most
    bounded to stream most count done (inl (greatest, is, e)) has within_way within_budget = omega (arith, is.most count has, e, within_way)
    bounded to stream most count done (inr (unbounded, e)) has within_way within_budget = omega (arith, e, within_budget)

    sends_at_most : (to : ℕ) (places : List ℕ) (sent : List Sent) → IsCodeWay code.instrs to from places → ((stream : ℕ) → sends_in stream sent ≤ sends_at code.instrs stream places) → length sent ≤ budget_of unit agent point
        → SendsAtMost (Listed ways) agent point to sent
    sends_at_most to places sent way counts short stream n is =
        let done = sends_in stream sent in
        let in_budget : done ≤ budget_of unit agent point = omega (arith, count_by-le-length (λ (s : Sent). s.stream == stream) sent, short) in
        elim (cases_lt stream (length unit.streams)) [
          | inl there ↦ (
              let (most, is_most) = have_mosts to stream ((next_lists.each to).1 (places, way)) there in
              let low = bounded to stream most (sends_at code.instrs stream places) done is_most (places, way, refl) (counts stream) in_budget in
              elim (cases_lt 0 most) [
                | inl some ↦ (
                    let listed : Contains sends (record { to = to; stream = stream; most = most }) = (send_lists.each (record { to = to; stream = stream; most = most })).1 (is_most, omega (arith, some)) in
                    let (other, among, to_is, stream_is, same) = most_listed sends to stream (record { to = to; stream = stream; most = most }) listed refl refl in
                    let other_most = ((send_lists.each other).0 among).0 in
                    let its_most : IsMostCodeSends code.instrs from to stream (budget_of unit agent point) other.most =
                    subst (λ s. IsMostCodeSends code.instrs from to s (budget_of unit agent point) other.most) stream_is
                    (subst (λ t. IsMostCodeSends code.instrs from t other.stream (budget_of unit agent point) other.most) to_is other_most) in
                    let high = bounded to stream other.most (sends_at code.instrs stream places) done its_most (places, way, refl) (counts stream) in_budget in
                    omega (arith, high, same, is))
                | inr none ↦ omega (arith, low, none)
              ])
          | inr not ↦ elim (cases_lt 0 (sends_at code.instrs stream places)) [
            | inl some ↦ (
                let (place, after, clock, among, at) = send_among unit code v parts stream places (omega (arith, some)) in
                let named : IsNamed unit code (Agent agent) (instr.Send stream after clock) =
                v.named place (Agent agent) (instr.Send stream after clock) (on_way_reached unit code v parts agent from to place from places begins first way among) at in
                absurd (omega (arith, named.0, not)))
            | inr none ↦ omega (arith, counts stream, none)
          ]
        ]

    -- A stream to which a way sends is listed.
    is_listed : (stream after clock : ℕ) → 1 ≤ budget_of unit agent point → stream < length unit.streams → IsOnWay code.instrs from (instr.Send stream after clock) → is_sent (Listed ways) stream ≡ true
    is_listed stream after clock granted there (to, place, places, way, among, at) =
        let (most, is_most) = have_mosts to stream ((next_lists.each to).1 (places, way)) there in
        let sent = some_counted (λ p. is_send_to stream (slice_get code.instrs p)) places place among (ap (is_send_to stream) at ∙ same_number stream) in
        let low = bounded to stream most (sends_at code.instrs stream places) 1 is_most (places, way, refl) sent granted in
        let one : SendWay = record { to = to; stream = stream; most = most } in
        let listed : Contains sends one = (send_lists.each one).1 (is_most, omega (arith, low)) in
        let (own, here, list) = listed_there unit (λ agent point. AreCodeSends code.instrs (place_of code agent point) (budget_of unit agent point)) ways.sends are.sends agent point known less in
        any_at (any_to stream) ways.sends agent own here
        (any_at (list_any (λ (w : SendWay). w.stream == stream)) own point sends list (any_of (λ (w : SendWay). w.stream == stream) sends one listed (same_number stream)))

    -- Its delay is no greater than the listed one.
    is_soon : (stream after clock : ℕ) → stream < length unit.streams → IsOnWay code.instrs from (instr.Send stream after clock)
        → delay_of unit (record { stream = stream; after = after; clock = clock }) ≤ get_or ways.delays stream 0
    is_soon stream after clock there_is on =
        let (delay, at) = there ways.delays stream (omega (arith, there_is, are.delays.count)) in
        let same : get_or ways.delays stream 0 ≡ delay = get_or_from_slice_get ways.delays stream delay 0 at in
        subst (λ n. delay_of unit (record { stream = stream; after = after; clock = clock }) ≤ n) (sym same)
        ((are.delays.each stream delay at).all (delay_of unit (record { stream = stream; after = after; clock = clock })) (agent, point, after, clock, known, less, on, refl))

    -- ---- what is asked

    hears : (stream : ℕ) → Hears unit (Agent agent) stream → slice_get (map (λ (s : StreamDecl). s.receiver == agent) unit.streams) stream ≡ Some true
    hears stream (decl, at, receiver) =
        mapped (λ (s : StreamDecl). s.receiver == agent) unit.streams stream decl at ∙ ap (λ n. Some (n == agent)) receiver ∙ ap Some (same_number agent)

    may_ask : (i : Instr) (operands : List ℤ) → 1 ≤ budget_of unit agent point → ((call : Call) → call_by i operands ≡ Some call → IsOnWay code.instrs from i × IsNamed unit code (Agent agent) i)
        → MayAsk (Listed ways) unit agent point (call_by i operands)
    may_ask (instr.Past variable back) operands granted each =
        let (on, named) = each (Past variable back) refl in
        (named.0, named.1, named.2, (look_lists.each variable).1 (back, on))
    may_ask (instr.Ready stream) operands granted each = hears stream (each (Ready stream) refl).1
    may_ask (instr.Take stream) operands granted each = hears stream (each (Take stream) refl).1
    may_ask (instr.Send stream after clock) [] granted each = tt {0}
    may_ask (instr.Send stream after clock) (value ∷ below) granted each =
        let (on, named) = each (Send (record { stream = stream; value = int_wrap w32 value; after = after; clock = clock })) refl in
        record {
          fits = record { stream = named.0; clock = named.1; after = named.2; value = wrapped value };
          named = is_listed stream after clock granted named.0 on;
          soon = is_soon stream after clock named.0 on;
        }
    may_ask i operands granted each = tt {0}

  -- ---- where actions start

  may_known : 1 ≤ length (agent_at unit agent).points → (point start : ℕ) → MayStart (timing (undisturbed unit code ways.nexts) agent) point start → point < length (agent_at unit agent).points
  may_known some _ _ at_head = omega (arith, some)
  may_known some _ _ (later point start to may follows) = next_known point (may_known some point start may) to follows

  -- ---- runs

  module _ (ended : (code : Code) (agent : AgentCode) (s t : RunState) (n point : ℕ) → run_code code agent s n ≡ RanTo point t → StandsAt agent point s.machine t.machine) (slots : HasNoSlots unit)
      (point : ℕ) (less : point < length (agent_at unit agent).points) (carried : Carried) (view : View) (carry : MayCarry unit code agent carried) (seen : IsViewOf unit agent view) where
    abbrev its : AgentCode
    its = agent_code_at code agent

    no_cells : (own : List Slots) → own ≡ [] → (cells : List ℤ) → FitSlots (map (λ (s : Slots). s.width) own) (cut (map (λ (s : Slots). s.cells) own) cells)
    no_cells own none cells = subst (λ (slots : List Slots). FitSlots (map (λ (s : Slots). s.width) slots) (cut (map (λ (s : Slots). s.cells) slots) cells)) (sym none) (λ slot width list at. absurd (none-some width at))

    may_begin : MayBegin unit code agent point (home_with its carried.cells) carried.copies view
    may_begin = record {
      known = omega (arith, less, (parts.each agent known).points);
      home = record { cells = carry.cells; counters = length-replicate its.counters 0 };
      copies = carry.variables;
      shows = record { depths = seen.depths; streams = seen.streams };
    }

    run_follows : (n : ℕ) → Follows code.instrs (place_of code agent point) (run_from code agent point carried view n)
    run_follows n = follows unit code v few agent (place_of code agent point) (begins_there unit code v few agent point (home_with its carried.cells) carried.copies view may_begin) n _ (on_first unit code v few agent point (home_with its carried.cells) carried.copies view may_begin)

    stands_by : (n : ℕ) (run : Run) → run_from code agent point carried view n ≡ run → Follows code.instrs (place_of code agent point) run → Keeping n run → n ≤ budget_of unit agent point
        → StandsWell (undisturbed unit code ways.nexts) (Listed ways) code agent point run
    stands_by n (Running t) is going kept short = (
      going.point,
      ((next_lists point less).each going.point).1 (going.places, going.way),
      sends_at_most point less going.point going.places t.deeds.sends going.way (going_counts code.instrs (place_of code agent point) t.deeds going) (omega (arith, kept.1, short)),
    )
    stands_by n (RanTo to t) is gone kept short =
        let at_end = ended code its (started (machine_at its point carried) view) t n to is in (
          ((next_lists point less).each to).1 (gone.places, gone.way),
          sends_at_most point less to gone.places t.deeds.sends gone.way (λ stream. omega (arith, gone_counts code.instrs (place_of code agent point) to t.deeds gone stream)) (omega (arith, kept.1, short)),
          record {
            cells = at_end.cells ∙ carry.cells;
            values = no_cells (agent_at unit agent).slots (slots agent known) t.machine.home.cells;
            variables = at_end.copies ∙ carry.variables;
            copies = kept.0;
          },
        )
    stands_by n (TrappedBy kind t) is going kept short = tt {0}
    stands_by n NoRun is going kept short = absurd going

    asks_by : (n : ℕ) (t : RunState) (found : Option Instr) → instr_at code t.machine ≡ found → 1 ≤ budget_of unit agent point → run_from code agent point carried view n ≡ Running t
        → MayAsk (Listed ways) unit agent point (found_in found (λ i. call_by i t.machine.operands))
    asks_by n t None at granted is = tt {0}
    asks_by n t (Some i) at granted is =
        let begins = begins_there unit code v few agent point (home_with its carried.cells) carried.copies view may_begin in
        let on = still_on unit code v few agent (place_of code agent point) begins n _ t (on_first unit code v few agent point (home_with its carried.cells) carried.copies view may_begin) is in
        may_ask point less i t.machine.operands granted (λ call some. asks unit code v few agent (place_of code agent point) begins t on i call at some)

    pub goes_well : GoesWell (undisturbed unit code ways.nexts) (Listed ways) code agent point carried view
    goes_well = record {
      stands = λ n short. stands_by n (run_from code agent point carried view n) refl (run_follows n) (subst (λ most. Keeping most (run_from code agent point carried view n)) (omega arith) (keeps code its n (started (machine_at its point carried) view) carry.copies)) short;
      asks = λ n t short is. asks_by n t (instr_at code t.machine) refl (omega (arith, short)) is;
    }

-- The code fits the unit.
pub fits_by : ((code : Code) (agent : AgentCode) (s t : RunState) (n point : ℕ) → run_code code agent s n ≡ RanTo point t → StandsAt agent point s.machine t.machine)
    → (unit : Whole) (code : Code) (ways : WayLists) → IsBare unit → All (λ v. FitsSigned w32 v.init) unit.variables → HasNoSlots unit → length code.functions ≤ OPEN_CALLS → IsVerified unit code → IsCodeFor unit code
    → AreCodeWays unit code ways → HaveAllMosts unit code ways.nexts → FitsBy unit code ways
fits_by ended unit code ways bare inits slots few v parts are mosts = record {
  bare = bare;
  inits = inits;
  lists = ways_for unit code v parts bare ways are;
  parts = parts;
  runs = λ agent point start carried view known may carry seen.
      let its_bare : IsBareAgent unit (agent_at unit agent) = All-get_or (IsBareAgent unit) unit.agents agent no_agent known bare.agents in
      let some = head_there (agent_at unit agent) (agent_at unit agent).points _ its_bare.points in
      let less = may_known unit code v few parts ways are mosts agent known some point start may in
      goes_well unit code v few parts ways are mosts agent known ended slots point less carried view carry seen;
}
