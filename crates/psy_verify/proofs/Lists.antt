-- The listed ways of verified code are ways of the unit, and can be walked.
use Rattle.std.proofs.Common.{◌≡◌, ◌⊎◌, sym, ap, subst, ◌∙◌, inl, inr, arith, mul-le-mul}
use Rattle.std.specs.Prelude.{ℕ, zero, suc, ◌+◌, ◌*◌, ◌<◌, ◌≤◌, true, List, [], length, get_or, Option, None, Some, slice_get}
use Rattle.std.specs.List.{All, Contains}
use Rattle.std.proofs.lemmas.Bool.{false≢true}
use Rattle.std.proofs.lemmas.Option.{slice_get-get_or, slice_get_within, get_or_from_slice_get}
use Rattle.psy_base.specs.declared.limits.TheConstants.{AFTER, SENDS}
use Rattle.psy_base.specs.declared.ways.SendWay.{SendWay}
use Rattle.psy_base.specs.declared.ways.Ways.{Ways as WayLists}
use Rattle.psy_clock.specs.declared.clock.TheConstants.{PERIOD}
use Rattle.psy_lists.proofs.lemmas.Members.{all_members}
use Rattle.psy_lists.proofs.lemmas.Places.{mapped, mapped_from, there}
use Rattle.psy_code.specs.declared.code.AgentCode.{AgentCode}
use Rattle.psy_code.specs.declared.code.Code.{Code}
use Rattle.psy_code.specs.declared.instr.Instr.{Instr}
use Rattle.psy_code.specs.declared.instr.Instr.TheVariants as instr
use Rattle.psy_tree.specs.declared.unit.AgentDecl.{AgentDecl}
use Rattle.psy_tree.specs.declared.unit.Unit.{Unit as Whole}
use Rattle.psy_tree.specs.Parts.{agent_at, clock_in, no_agent, no_clock}
use Rattle.psy_meaning.specs.Sendings.{delay_of}
use Rattle.psy_meaning.specs.Units.{IsBare}
use Rattle.std.proofs.lemmas.List.Elements.{All-get_or}
use Rattle.psy_verify.proofs.Counts.{counted}
use Rattle.psy_clock.specs.Dates.{IsClock}
use Rattle.psy_meaning.specs.CodeWays.{AreCodeDelays, AreCodeLooks, AreCodeNexts, AreCodeSends, AreCodeWays, CanWalk, GoesOn, HasCodeDelay, HasCodeSends, IsCodeWay, IsMostCodeSends, IsOnWay, IsPassed, NamesThere, agent_code_at, budget_of, ends, first, goes, is_send_to, later, place_of, sends_at}
use Rattle.psy_meaning.specs.ListedWays.{AreByPoint, AreLooksFor, AreNextsFor, AreSendsFor, AreWaysFor, IsSendWayFor, LONGEST, points_of}
use Rattle.psy_history.specs.Fitting.{IsCodeFor}
use Rattle.psy_flow.specs.Owners.{Agent, Begins, IsReached}
use Rattle.psy_flow.specs.Verified.{IsLed, IsNamed, IsVerified, Reaches}
use Rattle.psy_verify.proofs.Levels.{reached_inside}

-- ---- by agent and point

module _ (unit : Whole) where
  listed_points : (agent : ℕ) → agent < length unit.agents → slice_get (points_of unit) agent ≡ Some (length (agent_at unit agent).points)
  listed_points agent less = mapped (λ (a : AgentDecl). length a.points) unit.agents agent (agent_at unit agent) (slice_get-get_or unit.agents agent no_agent less)

  -- There is a list at a point.
  pub listed_there : {X : Type 0} (Are : ℕ → ℕ → List X → Type 0) (lists : List (List (List X))) → AreByPoint (points_of unit) Are lists → (agent point : ℕ) → agent < length unit.agents → point < length (agent_at unit agent).points
      → (own : List (List X)) × (slice_get lists agent ≡ Some own) × (slice_get own point ≡ Some (get_or (get_or lists agent []) point []))
  listed_there Are lists are agent point known less =
      let (own, here, many) = mapped_from length lists agent (length (agent_at unit agent).points) (ap (λ ns. slice_get ns agent) are.counts ∙ listed_points agent known) in
      let same : get_or lists agent [] ≡ own = get_or_from_slice_get lists agent own [] here in
      let at = slice_get-get_or own point [] (omega (arith, many, less)) in
      (own, here, at ∙ ap (λ list. Some (get_or list point [])) (sym same))

  -- What is said of it
  pub at_point : {X : Type 0} (Are : ℕ → ℕ → List X → Type 0) (lists : List (List (List X))) → AreByPoint (points_of unit) Are lists → (agent point : ℕ) → agent < length unit.agents → point < length (agent_at unit agent).points
      → Are agent point (get_or (get_or lists agent []) point [])
  at_point Are lists are agent point known less =
      let (own, here, at) = listed_there Are lists are agent point known less in
      are.each agent point own (get_or (get_or lists agent []) point []) here at

  -- Another relation holds of all lists by point.
  pub by_point : {X : Type 0} (Are Also : ℕ → ℕ → X → Type 0) (lists : List (List X)) → AreByPoint (points_of unit) Are lists
      → ((agent point : ℕ) (one : X) → agent < length unit.agents → point < length (agent_at unit agent).points → Are agent point one → Also agent point one) → AreByPoint (points_of unit) Also lists
  by_point Are Also lists are each = record {
    counts = are.counts;
    each = λ agent point list one here at.
        let many = mapped length lists agent list here in
        let (a, there, count) = mapped_from (λ (x : AgentDecl). length x.points) unit.agents agent (length list) (sym (ap (λ ns. slice_get ns agent) are.counts) ∙ many) in
        let known = slice_get_within unit.agents agent a there in
        let is : agent_at unit agent ≡ a = get_or_from_slice_get unit.agents agent a no_agent there in
        let points : length (agent_at unit agent).points ≡ length list = ap (λ (x : AgentDecl). length x.points) is ∙ count in
        each agent point one known (omega (arith, points, slice_get_within list point one at)) (are.each agent point list one here at);
  }

module _ (unit : Whole) (code : Code) (v : IsVerified unit code) (parts : IsCodeFor unit code) where
  -- ---- where points begin

  pub point_begins : (agent point : ℕ) → agent < length unit.agents → point < length (agent_at unit agent).points → Begins code (Agent agent) (place_of code agent point)
  point_begins agent point known less = (point, slice_get-get_or (agent_code_at code agent).points point 0 (omega (arith, (parts.each agent known).points, less)))

  pub point_reached : (agent point place : ℕ) → agent < length unit.agents → point < length (agent_at unit agent).points → IsPassed code.instrs (place_of code agent point) place → IsReached code (Agent agent) place
  point_reached agent point place known less passed = (place_of code agent point, point_begins agent point known less, passed)

  -- ---- ways

  passes : (from place next : ℕ) (i : Instr) → IsPassed code.instrs from place → slice_get code.instrs place ≡ Some i → GoesOn i place next → IsPassed code.instrs from next
  passes from place next i passed at on = later place next i passed at on

  -- A way from a place that is passed ends at one of the agent's points behind the first.
  way_ends : (agent from point place : ℕ) (places : List ℕ) → Begins code (Agent agent) from → IsPassed code.instrs from place → IsCodeWay code.instrs point place places → (1 ≤ point) × (point < length (agent_code_at code agent).points)
  way_ends agent from point _ _ begins passed (ends place at) =
      let led : IsLed code (Agent agent) place (instr.Advance point) = v.leads place (Agent agent) (instr.Advance point) (from, begins, passed) at in
      (led.0, slice_get_within (agent_code_at code agent).points point (place + 1) led.1)
  way_ends agent from point _ _ begins passed (goes place next i places at on way) = way_ends agent from point next places begins (passes from place next i passed at on) way

  -- What stands on a way from a point is reached.
  pub on_way_reached : (agent from point at place : ℕ) (places : List ℕ) → Begins code (Agent agent) from → IsPassed code.instrs from place → IsCodeWay code.instrs point place places → Contains places at → IsReached code (Agent agent) at
  on_way_reached agent from point at _ _ begins passed (ends place is) (zero, less, same) = (from, begins, subst (IsPassed code.instrs from) same passed)
  on_way_reached agent from point at _ _ begins passed (ends place is) (suc k, less, same) = absurd (omega (arith, less))
  on_way_reached agent from point at _ _ begins passed (goes place next i places is on way) (zero, less, same) = (from, begins, subst (IsPassed code.instrs from) same passed)
  on_way_reached agent from point at _ _ begins passed (goes place next i places is on way) (suc k, less, same) =
      on_way_reached agent from point at next places begins (passes from place next i passed is on) way (k, omega (arith, less), same)

  pub on_way_named : (agent from : ℕ) (i : Instr) → Begins code (Agent agent) from → IsOnWay code.instrs from i → IsNamed unit code (Agent agent) i
  on_way_named agent from i begins (point, place, places, way, among, at) = v.named place (Agent agent) i (on_way_reached agent from point place from places begins first way among) at

  -- A send to a stream on places is at one of them.
  pub send_among : (stream : ℕ) (places : List ℕ) → 1 ≤ sends_at code.instrs stream places → (place after clock : ℕ) × Contains places place × (slice_get code.instrs place ≡ Some (instr.Send stream after clock))
  send_among stream places some =
      let (place, among, is) = counted (λ p. is_send_to stream (slice_get code.instrs p)) places some in
      let (after, clock, at) = send_is stream (slice_get code.instrs place) is in
      (place, after, clock, among, at)
    where
      send_is : (stream : ℕ) (found : Option Instr) → is_send_to stream found ≡ true → (after clock : ℕ) × (found ≡ Some (instr.Send stream after clock))
      send_is stream (Some (instr.Send target after clock)) e = (let same : target ≡ stream = grind (arith, e) in (after, clock, ap (λ n. Some (instr.Send n after clock)) same))
      send_is stream None e = absurd (false≢true e)
      send_is stream (Some i) e = absurd (false≢true e)

  -- ---- lists

  pub nexts_for : (agent point : ℕ) (nexts : List ℕ) → agent < length unit.agents → point < length (agent_at unit agent).points → AreCodeNexts code.instrs (place_of code agent point) nexts → AreNextsFor (agent_at unit agent) nexts
  nexts_for agent point nexts known less are =
      let from = place_of code agent point in
      let begins = point_begins agent point known less in
      let (to, places, way) = v.ends from agent (from, begins, first) in
      let (k, some, is) = (are.each to).1 (places, way) in
      record {
        some = omega (arith, some);
        rise = are.rise;
        known = all_members (λ to. (1 ≤ to) × (to < length (agent_at unit agent).points)) nexts (λ to c.
            let (places, way) = (are.each to).0 c in
            let (low, high) = way_ends agent from to from places begins first way in
            (low, omega (arith, high, (parts.each agent known).points)));
      }

  looks_for : (agent point : ℕ) (looks : List ℕ) → agent < length unit.agents → point < length (agent_at unit agent).points → AreCodeLooks code.instrs (place_of code agent point) looks → AreLooksFor unit looks
  looks_for agent point looks known less are = record {
    rise = are.rise;
    known = all_members (λ variable. variable < length unit.variables) looks (λ variable c.
        let (back, on) = (are.each variable).0 c in
        let named : Reaches unit variable back = on_way_named agent (place_of code agent point) (instr.Past variable back) (point_begins agent point known less) on in
        slice_get_within unit.variables variable named.0 named.1);
  }

  -- Where a most isn't 0, some way sends.
  some_sends : (from to stream budget most : ℕ) → IsMostCodeSends code.instrs from to stream budget most → 1 ≤ most → (n : ℕ) × HasCodeSends code.instrs from to stream n × (1 ≤ n)
  some_sends from to stream budget most (inl (g, greatest, e)) some = (g, greatest.one, omega (arith, e, some))
  some_sends from to stream budget most (inr (unbounded, e)) some = (let (n, has, above) = unbounded 0 in (n, has, omega (arith, above)))

  most_cut : (from to stream budget most : ℕ) → IsMostCodeSends code.instrs from to stream budget most → most ≤ SENDS
  most_cut from to stream budget most (inl (g, greatest, e)) = omega (arith, e)
  most_cut from to stream budget most (inr (unbounded, e)) = omega (arith, e)

  sends_for : (agent point budget : ℕ) (nexts : List ℕ) (sends : List SendWay) → agent < length unit.agents → point < length (agent_at unit agent).points → AreCodeNexts code.instrs (place_of code agent point) nexts
      → AreCodeSends code.instrs (place_of code agent point) budget sends → AreSendsFor unit nexts sends
  sends_for agent point budget nexts sends known less follow are =
      let from = place_of code agent point in
      let begins = point_begins agent point known less in
      record {
        rise = are.rise;
        known = all_members (IsSendWayFor unit nexts) sends (λ way c.
            let (most, some) = (are.each way).0 c in
            let (n, (places, course, count), sent) = some_sends from way.to way.stream budget way.most most some in
            let (place, after, clock, among, at) = send_among way.stream places (omega (arith, count, sent)) in
            let named : IsNamed unit code (Agent agent) (instr.Send way.stream after clock) = v.named place (Agent agent) (instr.Send way.stream after clock) (on_way_reached agent from way.to place from places begins first course among) at in
            record {
              to = (follow.each way.to).1 (places, course);
              stream = named.0;
              some = some;
              cut = most_cut from way.to way.stream budget way.most most;
            });
      }

  module _ (bare : IsBare unit) where
    delay_short : (stream after clock : ℕ) → clock < length unit.clocks → after ≤ AFTER → delay_of unit (record { stream = stream; after = after; clock = clock }) ≤ LONGEST
    delay_short stream after clock known short =
        let sound : IsClock (clock_in unit clock) = All-get_or IsClock unit.clocks clock no_clock known bare.clocks in
        let more : after + 1 ≤ AFTER + 1 = omega (arith, short) in
        let product : (after + 1) * (clock_in unit clock).period ≤ (AFTER + 1) * PERIOD = mul-le-mul more sound.period in
        omega (arith, product)

    delays_for : (delays : List ℕ) → AreCodeDelays unit code delays → All (λ delay. delay ≤ LONGEST) delays
    delays_for delays are stream d less =
        let (delay, at) = there delays stream less in
        let is : get_or delays stream d ≡ delay = get_or_from_slice_get delays stream delay d at in
        subst (λ n. n ≤ LONGEST) (sym is) (by delay (are.each stream delay at).one)
      where
        by : (delay : ℕ) → (delay ≡ 0) ⊎ HasCodeDelay unit code stream delay → delay ≤ LONGEST
        by delay (inl none) = omega (arith, none)
        by delay (inr (agent, point, after, clock, known, less, on, e)) =
            let named : IsNamed unit code (Agent agent) (instr.Send stream after clock) = on_way_named agent (place_of code agent point) (instr.Send stream after clock) (point_begins agent point known less) on in
            let short = delay_short stream after clock named.1 named.2 in
            omega (arith, e, short)

    pub ways_for : (ways : WayLists) → AreCodeWays unit code ways → AreWaysFor unit ways
    ways_for ways are = record {
      nexts = by_point unit (λ agent point. AreCodeNexts code.instrs (place_of code agent point)) (λ agent point. AreNextsFor (agent_at unit agent)) ways.nexts are.nexts
          (λ agent point one known less is. nexts_for agent point one known less is);
      looks = by_point unit (λ agent point. AreCodeLooks code.instrs (place_of code agent point)) (λ agent point. AreLooksFor unit) ways.looks are.looks
          (λ agent point one known less is. looks_for agent point one known less is);
      sends = by_point unit (λ agent point. AreCodeSends code.instrs (place_of code agent point) (budget_of unit agent point)) (λ agent point. AreSendsFor unit (get_or (get_or ways.nexts agent []) point [])) ways.sends are.sends
          (λ agent point one known less is. sends_for agent point (budget_of unit agent point) (get_or (get_or ways.nexts agent []) point []) one known less
          (at_point unit (λ agent point. AreCodeNexts code.instrs (place_of code agent point)) ways.nexts are.nexts agent point known less) is);
      count = are.delays.count;
      delays = delays_for ways.delays are.delays;
    }

  -- ---- walks

  names_there : (number place : ℕ) (agent : AgentDecl) (i : Instr) → number < length unit.agents → agent_at unit number ≡ agent → IsNamed unit code (Agent number) i → IsLed code (Agent number) place i → NamesThere unit agent i
  names_there number place agent (instr.LoadCopy variable) known is named led = slice_get_within unit.variables variable named.0 named.1
  names_there number place agent (instr.StoreCopy variable) known is named led = slice_get_within unit.variables variable named.0 named.1
  names_there number place agent (instr.Past variable back) known is named led = slice_get_within unit.variables variable named.0 named.1
  names_there number place agent (instr.Ready stream) known is named led = slice_get_within unit.streams stream named.0 named.1
  names_there number place agent (instr.Take stream) known is named led = slice_get_within unit.streams stream named.0 named.1
  names_there number place agent (instr.Send stream after clock) known is named led = (named.0, named.1)
  names_there number place agent (instr.Advance point) known is named led =
      let less = slice_get_within (agent_code_at code number).points point (place + 1) led.1 in
      omega (arith, less, (parts.each number known).points, ap (λ (a : AgentDecl). length a.points) is)
  names_there number place agent i known is named led = tt {0}

  pub can_walk : CanWalk unit code
  can_walk = record {
    agents = parts.agents;
    points = λ number agent its at here.
        let known = slice_get_within unit.agents number agent at in
        let is : agent_at unit number ≡ agent = get_or_from_slice_get unit.agents number agent no_agent at in
        let its_is : agent_code_at code number ≡ its = get_or_from_slice_get code.agents number its (record { points = []; cells = []; counters = 0; copies = []; stack = 0; frames = 0 }) here in
        omega (arith, (parts.each number known).points, ap (λ (a : AgentDecl). length a.points) is, ap (λ (a : AgentCode). length a.points) its_is);
    inside = λ number point place agent at less passed.
        let known = slice_get_within unit.agents number agent at in
        let is : agent_at unit number ≡ agent = get_or_from_slice_get unit.agents number agent no_agent at in
        reached_inside unit code v (Agent number) place (point_reached number point place known (omega (arith, less, ap (λ (a : AgentDecl). length a.points) is)) passed);
    named = λ number point place agent i at less passed here.
        let known = slice_get_within unit.agents number agent at in
        let is : agent_at unit number ≡ agent = get_or_from_slice_get unit.agents number agent no_agent at in
        let reached = point_reached number point place known (omega (arith, less, ap (λ (a : AgentDecl). length a.points) is)) passed in
        names_there number place agent i known is (v.named place (Agent number) i reached here) (v.leads place (Agent number) i reached here);
  }
