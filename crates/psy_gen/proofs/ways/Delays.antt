-- The greatest delay of the sends on ways of code is that of the statements.
use Rattle.std.proofs.Common.{◌≡◌, ℕ, zero, suc, ◌+◌, ◌<◌, ◌≤◌, Bool, true, false, cond, List, [], ◌∷◌, ◌++◌, filter, map, length, get_or, Some, refl, sym}
use Rattle.std.proofs.Common.{ap, subst, ◌∙◌, inl, inr, arith}
use Rattle.std.specs.Prelude.{slice_get, ◌⊎◌, ◌==◌, ◌&&◌, max}
use Rattle.std.specs.List.{Contains, flat_map}
use Rattle.std.proofs.lemmas.Bool.{and_from, and_parts, cases_lt, false≢true}
use Rattle.std.proofs.lemmas.Option.{slice_get-get_or, slice_get_within}
use Rattle.psy_base.specs.Extremes.{IsMost, most_of}
use Rattle.psy_code.specs.declared.instr.Instr.{Instr}
use Rattle.psy_code.specs.declared.instr.Instr.TheVariants as instr
use Rattle.psy_tree.specs.declared.unit.AgentDecl.{AgentDecl}
use Rattle.psy_tree.specs.declared.unit.Unit.{Unit as Whole}
use Rattle.psy_tree.specs.Parts.{agent_at, no_agent}
use Rattle.psy_tree.proofs.lemmas.Among.{Among, among, among_left, among_right}
use Rattle.psy_meaning.specs.CodeWays.{HasCodeDelay, IsCodeWay, IsOnWay, IsPassed, place_of}
use Rattle.psy_meaning.specs.Flow.{IsNext}
use Rattle.psy_meaning.specs.Sendings.{all_sendings, delay_of, longest_delay, sendings_in, sendings_to}
use Rattle.psy_meaning.specs.Sizes.{stmts_size}
use Rattle.psy_meaning.specs.Sound.{Each, agent_scope}
use Rattle.psy_meaning.specs.Ways.{Meter, Sending, IsWay}
use Rattle.psy_meaning.specs.Rest.{rest}
use Rattle.psy_meaning.proofs.lemmas.Eaches.{each-look}
use Rattle.psy_gen.specs.Emission.{agent_layout, code_of, stmts_code, stmts_places}
use Rattle.psy_gen.proofs.Basics.{some_is}
use Rattle.psy_gen.proofs.Contexts.{HasAt, has-first}
use Rattle.psy_gen.proofs.ways.Agents.{place_is, points_count, stands}
use Rattle.psy_gen.proofs.ways.Behinds.{stmts_behind}
use Rattle.psy_gen.proofs.ways.Counts.{is_counted}
use Rattle.psy_gen.proofs.ways.Flows.{Flows, StandsIn, body_flows}
use Rattle.psy_gen.proofs.ways.Gauges as gauges
use Rattle.psy_gen.proofs.ways.Modes.{Found}
use Rattle.psy_gen.proofs.ways.Passing.{Dies, Earlier, dies_later, on_way, passed_on, passed_then}
use Rattle.psy_gen.proofs.ways.Points.{IsAgent, coded, stated}
use Rattle.psy_gen.proofs.ways.Suits.{all_found}

-- ---- the greatest of some delays

max_one : (n m : ℕ) → (max n m ≡ n) ⊎ (max n m ≡ m)
max_one n m = elim (cases_lt n m) [ inl less ↦ inr (omega (arith, less)) | inr more ↦ inl (omega (arith, more)) ]

most_is : (xs : List ℕ) → (most_of xs ≡ 0) ⊎ Among (most_of xs) xs
most_is [] = inl refl
most_is (n ∷ xs) = by (max_one n (most_of xs)) (most_is xs)
  where
    by : (max n (most_of xs) ≡ n) ⊎ (max n (most_of xs) ≡ most_of xs) → (most_of xs ≡ 0) ⊎ Among (most_of xs) xs
        → (max n (most_of xs) ≡ 0) ⊎ Among (max n (most_of xs)) (n ∷ xs)
    by (inl e) known = inr (inl e)
    by (inr e) (inl none) = inl (e ∙ none)
    by (inr e) (inr there) = inr (inr (subst (λ x. Among x xs) (sym e) there))

no_more : (n : ℕ) (xs : List ℕ) → Among n xs → n ≤ most_of xs
no_more n [] h = absurd h
no_more n (x ∷ xs) (inl e) = omega (arith, e)
no_more n (x ∷ xs) (inr h) = omega (arith, no_more n xs h)

-- ---- what is among the sends to a stream

module _ {X Y : Type 0} (f : X → Y) where
  mapped : (x : X) (xs : List X) → Among x xs → Among (f x) (map f xs)
  mapped x [] h = absurd h
  mapped x (y ∷ xs) (inl e) = inl (ap f e)
  mapped x (y ∷ xs) (inr h) = inr (mapped x xs h)

  from_map : (y : Y) (xs : List X) → Among y (map f xs) → (x : X) × Among x xs × (y ≡ f x)
  from_map y [] h = absurd h
  from_map y (x ∷ xs) (inl e) = (x, inl refl, e)
  from_map y (x ∷ xs) (inr h) = let (z, there, e) = from_map y xs h in (z, inr there, e)

among_more : {X : Type 0} (x : X) (xs ys : List X) → Among x (xs ++ ys) → Among x xs ⊎ Among x ys
among_more x [] ys h = inr h
among_more x (y ∷ xs) ys (inl e) = inl (inl e)
among_more x (y ∷ xs) ys (inr h) = elim (among_more x xs ys h) [ inl there ↦ inl (inr there) | inr there ↦ inr there ]

module _ {X : Type 0} (p : X → Bool) where
  keep : (b : Bool) (x y : X) (l : List X) → (x ≡ y → b ≡ true) → (x ≡ y) ⊎ Among x l → Among x (cond b (y ∷ l) l)
  keep true x y l t h = h
  keep false x y l t (inl e) = absurd (false≢true (t e))
  keep false x y l t (inr h) = h

  filtered : (x : X) (xs : List X) → Among x xs → p x ≡ true → Among x (filter p xs)
  filtered x [] h t = absurd h
  filtered x (y ∷ xs) (inl e) t = keep (p y) x y (filter p xs) (λ same. ap p (sym same) ∙ t) (inl e)
  filtered x (y ∷ xs) (inr h) t = keep (p y) x y (filter p xs) (λ same. ap p (sym same) ∙ t) (inr (filtered x xs h t))

  unkeep : (b : Bool) (x y : X) (l : List X) → Among x (cond b (y ∷ l) l) → ((x ≡ y) × (b ≡ true)) ⊎ Among x l
  unkeep true x y l (inl e) = inl (e, refl)
  unkeep true x y l (inr h) = inr h
  unkeep false x y l h = inr h

  from_filter : (x : X) (xs : List X) → Among x (filter p xs) → Among x xs × (p x ≡ true)
  from_filter x [] h = absurd h
  from_filter x (y ∷ xs) h = elim
      (unkeep (p y) x y (filter p xs) h) [ inl e ↦ (inl e.0, ap p e.0 ∙ e.1) | inr there ↦ (let r = from_filter x xs there in (inr r.0, r.1)) ]

module _ {X Y : Type 0} (f : X → List Y) where
  flat : (y : Y) (xs : List X) (n : ℕ) (x : X) → slice_get xs n ≡ Some x → Among y (f x) → Among y (flat_map f xs)
  flat y [] n x at h = absurd (omega (arith, slice_get_within [] n x at))
  flat y (z ∷ xs) zero x at h = let same : z ≡ x = cc in among_left y (f z) (flat_map f xs) (subst (λ w. Among y (f w)) (sym same) h)
  flat y (z ∷ xs) (suc n) x at h = among_right y (f z) (flat_map f xs) (flat y xs n x at h)

  record Within (y : Y) (xs : List X) : Type 0 where
    number : ℕ
    one : X
    at : slice_get xs number ≡ Some one
    there : Among y (f one)

  from_flat : (y : Y) (xs : List X) → Among y (flat_map f xs) → Within y xs
  from_flat y [] h = absurd h
  from_flat y (x ∷ xs) h = elim (among_more y (f x) (flat_map f xs) h) [
    | inl here ↦ record { number = 0; one = x; at = refl; there = here }
    | inr later ↦ (let w = from_flat y xs later in record { number = suc w.number; one = w.one; at = w.at; there = w.there })
  ]

each_indexed : (P : ℕ → Type 0) (xs : List ℕ) → ((n : ℕ) → n < length xs → P (get_or xs n 0)) → Each P xs
each_indexed P [] h = tt
each_indexed P (x ∷ xs) h = (h 0 (omega arith), each_indexed P xs (λ n less. h (suc n) (omega (arith, less))))

-- ---- each send of an agent's text stands on a way of its code

module _ (unit : Whole) (number : ℕ) (agent : AgentDecl) (known : IsAgent unit number agent) (leads : (to : ℕ) × IsNext unit.functions agent 0 to) where
  abbrev instrs : List Instr
  instrs = (code_of unit).instrs

  abbrev low : ℕ
  low = (stands unit number agent known.at).place

  abbrev high : ℕ
  high = low + stmts_size agent.stmts

  abbrev from : ℕ → ℕ
  from point = place_of (code_of unit) number point

  abbrev IsPoint : ℕ → Type 0
  IsPoint place = (point : ℕ) × (point < length agent.points) × (from point ≡ place)

  code_at : HasAt instrs low (stmts_code (agent_layout agent) agent.stmts 0 low ++ instr.Jump low ∷ [])
  code_at = (stands unit number agent known.at).has

  count : length (low ∷ stmts_places agent.stmts low) ≡ length agent.points
  count = points_count unit number agent known.at known.sound

  point_places : Each IsPoint (stmts_places agent.stmts low)
  point_places = each_indexed IsPoint (stmts_places agent.stmts low)
      (λ n less. (suc n, omega (arith, less, count), place_is unit number agent known.at (suc n)))

  flows : Flows instrs (agent_layout agent) low high IsPoint (agent_scope unit number agent) refl low high (sendings_in agent.stmts)
  flows =
      body_flows instrs (agent_layout agent) low high IsPoint (agent_scope unit number agent) refl agent.stmts low (omega arith)
      (omega arith) known.sound.stmts
      (has-first instrs low (stmts_code (agent_layout agent) agent.stmts 0 low) (instr.Jump low ∷ []) code_at) point_places

  has_points : 0 < length agent.points
  has_points = omega (arith, count)

  dies_first : Dies instrs low
  dies_first =
      let (to, (met, way)) = leads in
      let l = coded unit number agent known 0 has_points (gauges.looks 0) Found (tt {0}) (all_found agent.stmts) to met refl way in
      subst (Dies instrs) (place_is unit number agent known.at 0) (record { point = to; places = l.places; way = l.way })

  dies_last : Dies instrs high
  dies_last =
      let jump = stmts_behind instrs (agent_layout agent) agent.stmts 0 low (instr.Jump low ∷ []) code_at in
      dies_later instrs high low (passed_on instrs high high low (instr.Jump low) jump.0 refl IsPassed.first) dies_first

  -- A way from each place ends,
  dies : (fuel place : ℕ) → low ≤ place → place ≤ high → high ≤ place + fuel → Dies instrs place
  dies zero place above below enough = let same : high ≡ place = omega (arith, below, enough) in subst (Dies instrs) same dies_last
  dies (suc fuel) place above below enough = elim (cases_lt place high) [
    | inl less ↦ elim (flows.flow.fore place above less) [
      | inl l ↦ dies_later instrs place l.next l.passed (dies fuel l.next (omega (arith, above, l.more)) l.within (omega (arith, enough, l.more)))
      | inr a ↦ record { point = a.0; places = place ∷ []; way = IsCodeWay.ends place a.1 }
    ]
    | inr more ↦ (let same : high ≡ place = omega (arith, below, more) in subst (Dies instrs) same dies_last)
  ]

  pub dies_at : (place : ℕ) → low ≤ place → place ≤ high → Dies instrs place
  dies_at place above below = dies high place above below (omega arith)

  abbrev Entered : ℕ → Type 0
  Entered place = (point : ℕ) × (point < length agent.points) × IsPassed instrs (from point) place

  first_entered : (place : ℕ) → low ≡ place → Entered place
  first_entered place same = (0, has_points, subst (IsPassed instrs (from 0)) (place_is unit number agent known.at 0 ∙ same) IsPassed.first)

  later_entered : (place : ℕ) → Earlier instrs low high IsPoint place ⊎ IsPoint place → ((before : ℕ) → before < place → low ≤ before → Entered before)
      → Entered place
  later_entered place (inl e) rest = let (point, named, passed) = rest e.before e.less e.within in
      (point, named, passed_then instrs (from point) e.before place passed e.passed)
  later_entered place (inr (point, named, same)) rest = (point, named, subst (IsPassed instrs (from point)) same IsPassed.first)

  -- and each is come to from a point.
  entered : (fuel place : ℕ) → place ≤ fuel → low ≤ place → place ≤ high → Entered place
  entered zero place few above below = first_entered place (omega (arith, few, above))
  entered (suc fuel) place few above below = elim (cases_lt low place) [
    | inl less ↦ later_entered place (flows.flow.back place less below)
        (λ before less over. entered fuel before (omega (arith, few, less)) over (omega (arith, less, below)))
    | inr more ↦ first_entered place (omega (arith, above, more))
  ]

  pub sent_on_way : (send : Sending) → Among send (sendings_in agent.stmts)
      → (point : ℕ) × (point < length agent.points) × IsOnWay instrs (from point) (instr.Send send.stream send.after send.clock)
  sent_on_way send there =
      let s = each-look (StandsIn instrs (agent_layout agent) low high IsPoint (agent_scope unit number agent) refl)
      (sendings_in agent.stmts) send flows.stand there in
      let (point, named, passed) = entered s.place s.place (omega arith) s.above (omega (arith, s.below)) in (
        point,
        named,
        on_way instrs (from point) s.place (instr.Send send.stream send.after send.clock) passed s.at
            (dies high s.place s.above (omega (arith, s.below)) (omega arith)),
      )

-- ---- of all agents

module _ (unit : Whole) (agents : (number : ℕ) (agent : AgentDecl) → slice_get unit.agents number ≡ Some agent → IsAgent unit number agent)
    (leads : (number : ℕ) (agent : AgentDecl) → slice_get unit.agents number ≡ Some agent → (to : ℕ) × IsNext unit.functions agent 0 to)
    (in_text : (number : ℕ) (agent : AgentDecl) (point to : ℕ) (met : Meter) (send : Sending) → slice_get unit.agents number ≡ Some agent
    → IsWay unit.functions (rest agent.stmts point) to met → Contains met.sends send
    → Contains (sendings_in agent.stmts) send) (stream : ℕ) where
  abbrev to_it : Sending → Bool
  to_it send = send.stream == stream

  agent_here : (number : ℕ) → number < length unit.agents → slice_get unit.agents number ≡ Some (agent_at unit number)
  agent_here number less = slice_get-get_or unit.agents number no_agent less

  -- A send of the text to the stream stands on a way.
  has_delay : (send : Sending) → Among send (all_sendings unit stream) → HasCodeDelay unit (code_of unit) stream (delay_of unit send)
  has_delay send there =
      let w = from_flat (sendings_to stream) send unit.agents there in
      let f = from_filter to_it send (sendings_in w.one.stmts) w.there in
      let less = slice_get_within unit.agents w.number w.one w.at in
      let same : w.one ≡ agent_at unit w.number = some_is w.one (agent_at unit w.number) (sym w.at ∙ agent_here w.number less) in
      let (point, named, on) = sent_on_way unit w.number w.one (agents w.number w.one w.at) (leads w.number w.one w.at) send f.0 in
      let its = f.1 in
      let target : send.stream ≡ stream = grind (arith, its) in (
        w.number,
        point,
        send.after,
        send.clock,
        less,
        subst (λ (a : AgentDecl). point < length a.points) same named,
        subst (λ s. IsOnWay (code_of unit).instrs (place_of (code_of unit) w.number point) (instr.Send s send.after send.clock)) target on,
        ap (λ s. delay_of unit (record { stream = s; after = send.after; clock = send.clock })) target,
      )

  abbrev counts : ℕ → Sending → Bool
  counts delay send = to_it send && (delay_of unit send == delay)

  -- A send on a way is one of the text.
  no_longer : (delay : ℕ) → HasCodeDelay unit (code_of unit) stream delay → delay ≤ longest_delay unit stream
  no_longer delay (number, point, after, clock, less, named, (to, place, places, way, there, at), is) =
      let agent = agent_at unit number in
      let got = agent_here number less in
      let its = gauges.sends (counts delay) in
      let a = stated unit number agent (agents number agent got) point named its Found (tt {0}) (all_found agent.stmts) to places way in
      let own : Sending = record { stream = stream; after = after; clock = clock } in
      let asked : (stream == stream) ≡ true = grind arith in
      let as_long : (delay_of unit own == delay) ≡ true = grind (arith, is) in
      let counted : counts delay own ≡ true = and_from (stream == stream) (delay_of unit own == delay) asked as_long in
      let some = is_counted (code_of unit).instrs its places place (instr.Send stream after clock) there at
      (omega (arith, ap {B = ℕ} (λ b. cond b 1 0) counted)) in
      let l = gauges.find_among (counts delay) a.now.sends (omega (arith, a.over (omega (arith, some)))) in
      let both = and_parts (to_it l.one) (delay_of unit l.one == delay) l.counted in
      let among_text = filtered to_it l.one (sendings_in agent.stmts)
      (among l.one (sendings_in agent.stmts) (in_text number agent point to a.now l.one got a.goes l.there)) both.0 in
      let long = both.1 in
      let same : delay_of unit l.one ≡ delay = grind (arith, long) in
      omega (
        arith,
        same,
        no_more (delay_of unit l.one) (map (delay_of unit) (all_sendings unit stream))
            (mapped (delay_of unit) l.one (all_sendings unit stream) (flat (sendings_to stream) l.one unit.agents number agent got among_text)),
      )

  pub longest : IsMost (HasCodeDelay unit (code_of unit) stream) (longest_delay unit stream)
  longest = record { one = by (most_is (map (delay_of unit) (all_sendings unit stream))); all = no_longer }
    where
      by : (longest_delay unit stream ≡ 0) ⊎ Among (longest_delay unit stream) (map (delay_of unit) (all_sendings unit stream))
          → (longest_delay unit stream ≡ 0) ⊎ HasCodeDelay unit (code_of unit) stream (longest_delay unit stream)
      by (inl none) = inl none
      by (inr there) =
          let (send, among_all, is) = from_map (delay_of unit) (longest_delay unit stream) (all_sendings unit stream) there in
          inr (subst (HasCodeDelay unit (code_of unit) stream) (sym is) (has_delay send among_all))
