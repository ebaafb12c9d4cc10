-- The ways of a program's statements and the lists of them say the same.
use Rattle.std.proofs.Common.{◌≡◌, ◌↔◌, ◌⊎◌, ℕ, zero, suc, ◌+◌, ◌<◌, ◌≤◌, ◌==◌, ◌&&◌, ◌||◌, Bool, true, false, List, [], ◌∷◌, ◌++◌, filter, map, length, get_or, refl, sym, ap, subst, ◌∙◌, inl, inr, arith}
use Rattle.std.specs.List.{Contains, count_by, flat_map, list_any}
use Rattle.std.proofs.lemmas.Bool.{cases_Bool, cases_lt, eqb-true, false≢true}
use Rattle.std.proofs.lemmas.List.{ext_get_or, get_or-map, get_or_default, length-map}
use Rattle.std.proofs.lemmas.List.Elements.{Contains-append_cases, Contains-get_or}
use Rattle.std.proofs.lemmas.List.Folds.{Any-from_list_any, list_any_at}
use Rattle.std.proofs.lemmas.Nat.{mul-le}
use Rattle.std.proofs.lemmas.Option.{slice_get-get_or}
use Rattle.psy_base.specs.declared.limits.TheConstants.{AFTER, SENDS}
use Rattle.psy_meaning.proofs.lemmas.SomeSendings.{some_here}
use Rattle.psy_lists.proofs.lemmas.Searches.{some_pass}
use Rattle.psy_lists.proofs.lemmas.Tests.{each_of_both}
use Rattle.psy_lists.proofs.lemmas.Members.{map_contains, filter_from}
use Rattle.psy_clock.specs.declared.clock.TheConstants.{PERIOD}
use Rattle.psy_base.specs.declared.ways.SendWay.{SendWay}
use Rattle.psy_base.specs.declared.ways.Ways.{Ways as WayLists}
use Rattle.psy_base.specs.Extremes.{most_of}
use Rattle.psy_tree.specs.declared.unit.AgentDecl.{AgentDecl}
use Rattle.psy_tree.specs.declared.unit.Unit.{Unit as Whole}
use Rattle.psy_tree.specs.Parts.{agent_at, no_agent, no_clock}
use Rattle.psy_meaning.specs.Flow.{AreNexts, IsMostSends, IsNext, MayLook}
use Rattle.psy_meaning.specs.KnownWays.{Listed, OfText, any_to, is_sent, is_some_sending, most_in, sends_to}
use Rattle.psy_meaning.specs.ListedWays.{AreLooks, AreLooksFor, AreNextsFor, AreSends, AreSendsFor, AreWaysFor, AreWaysOf, IsSendWay, LONGEST, points_of}
use Rattle.psy_meaning.specs.Rest.{rest}
use Rattle.psy_meaning.specs.Sendings.{all_sendings, delay_of, longest_delay, period_of, sendings_in, sendings_to}
use Rattle.psy_meaning.specs.Units.{IsOfText}
use Rattle.psy_meaning.specs.Ways.{IsWay, Meter, Sending}
use Rattle.psy_meaning.proofs.lemmas.ByPoint.{agents_count, at_point, by_point, points_count}
use Rattle.psy_flow.specs.Agents.{IsKnown}
use Rattle.psy_flow.specs.Readings.{AreAlike}
use Rattle.psy_flow.proofs.Silent.{counted}

-- ---- tests

-- Tests that pass together are the same.
same_test : (a b : Bool) → (a ≡ true → b ≡ true) → (b ≡ true → a ≡ true) → a ≡ b
same_test true b f g = sym (f refl)
same_test false true f g = g refl
same_test false false f g = refl

same_numbers : (m n : ℕ) → (m == n) ≡ true → m ≡ n
same_numbers m n h = eqb-true m n h

is_number : (m n : ℕ) → m ≡ n → (m == n) ≡ true
is_number m n e = grind (arith, e)

-- A list passes where one of its items does,
any_here : {X : Type 0} (p : X → Bool) (xs : List X) (x : X) → Contains xs x → p x ≡ true → list_any p xs ≡ true
any_here p xs x (k, less, is) h = list_any_at p xs k x less (ap p is ∙ h)

-- One of its items does where it passes.
any_found : {X : Type 0} (p : X → Bool) (xs : List X) → list_any p xs ≡ true → (x : X) × Contains xs x × (p x ≡ true)
any_found p xs h = let (k, x, less, is, passes) = Any-from_list_any p xs h in (x, (k, less, is), passes)

-- Lists whose items pass alike, one by one
any_alike : {X Y : Type 0} (p : X → Bool) (q : Y → Bool) (xs : List X) (ys : List Y) (d : X) (e : Y) → length xs ≡ length ys → ((k : ℕ) → k < length xs → p (get_or xs k d) ≡ q (get_or ys k e)) → list_any p xs ≡ list_any q ys
any_alike p q [] [] d e count each = refl
any_alike p q [] (y ∷ ys) d e count each = absurd (omega (arith, count))
any_alike p q (x ∷ xs) [] d e count each = absurd (omega (arith, count))
any_alike p q (x ∷ xs) (y ∷ ys) d e count each =
    ap (λ b. b || list_any p xs) (each 0 (omega arith)) ∙ ap (λ b. q y || b) (any_alike p q xs ys d e (omega (arith, count)) (λ k less. each (suc k) (omega (arith, less))))

-- ---- sends of a text

some_found : (sendings : List Sending) → is_some_sending sendings ≡ true → (s : Sending) × Contains sendings s
some_found [] h = absurd cc
some_found (s ∷ more) h = (s, (0, omega arith, refl))

some_append : (xs ys : List Sending) → is_some_sending (xs ++ ys) ≡ (is_some_sending xs || is_some_sending ys)
some_append [] ys = refl
some_append (x ∷ xs) ys = refl

some_of_all : (stream : ℕ) (agents : List AgentDecl) → is_some_sending (flat_map (sendings_to stream) agents) ≡ list_any (λ a. is_some_sending (sendings_to stream a)) agents
some_of_all stream [] = refl
some_of_all stream (a ∷ agents) =
    some_append (sendings_to stream a) (flat_map (sendings_to stream) agents) ∙ ap (λ b. is_some_sending (sendings_to stream a) || b) (some_of_all stream agents)

-- An item that passes a test is kept by it.
kept : {X : Type 0} (p : X → Bool) (xs : List X) (x : X) → p x ≡ true → Contains xs x → Contains (filter p xs) x
kept p [] x h (k, less, is) = absurd (omega (arith, less))
kept p (y ∷ xs) x h (zero, less, is) = let here : p y ≡ true = ap p is ∙ h in rw here (0, omega arith, is)
kept p (y ∷ xs) x h (suc k, less, is) = elim (cases_Bool (p y)) [
  | inl passes ↦ rw passes (let (i, inside, same) = kept p xs x h (k, omega (arith, less), is) in (suc i, omega (arith, inside), same))
  | inr fails ↦ rw fails (kept p xs x h (k, omega (arith, less), is))
]

-- ---- the most sends in a list

-- A way of the list tells it, or there is none.
abbrev Told : List SendWay → ℕ → ℕ → Type 0
Told list to stream =
    ((way : SendWay) × Contains list way × (way.to ≡ to) × (way.stream ≡ stream) × (way.most ≡ most_in list to stream))
    ⊎ (((way : SendWay) → Contains list way → way.to ≡ to → way.stream ≡ stream → ⊥) × (most_in list to stream ≡ 0))

is_way : (w : SendWay) (to stream : ℕ) → w.to ≡ to → w.stream ≡ stream → (w.to == to && w.stream == stream) ≡ true
is_way w to stream a b = ap (λ t. t && w.stream == stream) (is_number w.to to a) ∙ is_number w.stream stream b

not_among : (w : SendWay) (ws : List SendWay) (to stream : ℕ) → (w.to == to && w.stream == stream) ≡ false → ((way : SendWay) → Contains ws way → way.to ≡ to → way.stream ≡ stream → ⊥)
    → (way : SendWay) → Contains (w ∷ ws) way → way.to ≡ to → way.stream ≡ stream → ⊥
not_among w ws to stream fails none way (zero, less, is) a b = false≢true (sym fails ∙ is_way w to stream (ap (λ (x : SendWay). x.to) is ∙ a) (ap (λ (x : SendWay). x.stream) is ∙ b))
not_among w ws to stream fails none way (suc k, less, is) a b = none way (k, omega (arith, less), is) a b

most_told : (list : List SendWay) (to stream : ℕ) → Told list to stream
most_told [] to stream = inr ((λ way (k, less, is) a b. omega (arith, less)), refl)
most_told (w ∷ ws) to stream = elim (cases_Bool (w.to == to && w.stream == stream)) [
  | inl passes ↦ rw passes (let (a, b) = each_of_both (w.to == to) (w.stream == stream) passes in inl (w, (0, omega arith, refl), same_numbers w.to to a, same_numbers w.stream stream b, refl))
  | inr fails ↦ rw fails (elim (most_told ws to stream) [
    | inl (way, (k, less, is), a, b, same) ↦ inl (way, (suc k, omega (arith, less), is), a, b, same)
    | inr (none, same) ↦ inr (not_among w ws to stream fails none, same)
  ])
]

-- ---- delays

most_below : (numbers : List ℕ) (limit : ℕ) → ((n : ℕ) → Contains numbers n → n ≤ limit) → most_of numbers ≤ limit
most_below [] limit each = omega arith
most_below (n ∷ numbers) limit each =
    let first = each n (0, omega arith, refl) in
    let others = most_below numbers limit (λ m (k, less, is). each m (suc k, omega (arith, less), is)) in
    omega (arith, first, others)

flat_found : {X Y : Type 0} (f : X → List Y) (xs : List X) (y : Y) (d : X) → Contains (flat_map f xs) y → (k : ℕ) × (k < length xs) × Contains (f (get_or xs k d)) y
flat_found f [] y d (k, less, is) = absurd (omega (arith, less))
flat_found f (x ∷ xs) y d c = elim (Contains-append_cases (f x) (flat_map f xs) y c) [
  | inl first ↦ (0, omega arith, first)
  | inr others ↦ (let (k, less, its) = flat_found f xs y d others in (suc k, omega (arith, less), its))
]

-- ---- what the laws say of the agents of a text

-- By number
pub record AreFacts (unit : Whole) : Type 0 where
  pub text : IsOfText unit
  pub known : (agent : ℕ) → agent < length unit.agents → IsKnown unit agent (agent_at unit agent)
  pub some : (agent from to stream : ℕ) → agent < length unit.agents → (n : ℕ) × IsMostSends unit.functions (agent_at unit agent) from to stream n
  pub one : (agent from to stream n m : ℕ) → agent < length unit.agents → IsMostSends unit.functions (agent_at unit agent) from to stream n
      → IsMostSends unit.functions (agent_at unit agent) from to stream m → n ≡ m
  pub inside : (agent from to : ℕ) (met : Meter) (sending : Sending) → agent < length unit.agents → IsWay unit.functions (rest (agent_at unit agent).stmts from) to met
      → Contains met.sends sending → Contains (sendings_in (agent_at unit agent).stmts) sending
  pub meets : (agent : ℕ) (sending : Sending) → agent < length unit.agents → Contains (sendings_in (agent_at unit agent).stmts) sending
      → (from to : ℕ) × (met : Meter) × (from < length (agent_at unit agent).points) × IsWay unit.functions (rest (agent_at unit agent).stmts from) to met × Contains met.sends sending
  pub sends : (agent from to : ℕ) (met : Meter) (sending : Sending) → agent < length unit.agents → IsWay unit.functions (rest (agent_at unit agent).stmts from) to met
      → Contains met.sends sending → (sending.stream < length unit.streams) × (sending.clock < length unit.clocks) × (sending.after ≤ AFTER)
  pub looks : (agent point variable : ℕ) → agent < length unit.agents → MayLook unit.functions (agent_at unit agent) point variable → variable < length unit.variables
  pub ways : (agent point : ℕ) (way : SendWay) → agent < length unit.agents → IsSendWay unit.functions (agent_at unit agent) point way
      → (way.stream < length unit.streams) × IsNext unit.functions (agent_at unit agent) point way.to

-- A stream to which an agent of the program sends is there.
pub stream_there : (unit : Whole) (facts : AreFacts unit) (agent stream : ℕ) → agent < length unit.agents → sends_to (OfText unit) agent stream ≡ true → stream < length unit.streams
stream_there unit facts agent stream less h =
    let (s, c) = some_found (sendings_to stream (agent_at unit agent)) h in
    let (there, passes) = filter_from (λ (x : Sending). x.stream == stream) (sendings_in (agent_at unit agent).stmts) s c in
    let (from, to, met, inside, way, on) = facts.meets agent s less there in
    let (known, clock, after) = facts.sends agent from to met s less way on in
    let same = same_numbers s.stream stream passes in
    omega (arith, known, same)

module _ (unit : Whole) (facts : AreFacts unit) (ways : WayLists) (are : AreWaysOf unit ways) where
  module _ (agent : ℕ) (less : agent < length unit.agents) where
    abbrev its : AgentDecl
    its = agent_at unit agent

    -- ---- the most sends

    module _ (from to stream : ℕ) (inside : from < length its.points) where
      abbrev list : List SendWay
      list = get_or (get_or ways.sends agent []) from []

      sends_are : AreSends unit.functions its from list
      sends_are = at_point unit (λ a. AreSends unit.functions (agent_at unit a)) ways.sends are.sends agent from less inside

      -- Where some are sent, the list has them.
      in_list : (n : ℕ) → IsMostSends unit.functions its from to stream n → 1 ≤ n → Contains list (record { to = to; stream = stream; most = n })
      in_list n is some = (sends_are.each (record { to = to; stream = stream; most = n })).1 (is, some)

      none_sent : ((way : SendWay) → Contains list way → way.to ≡ to → way.stream ≡ stream → ⊥) → (n : ℕ) → IsMostSends unit.functions its from to stream n → n ≡ 0
      none_sent none n is = elim (cases_lt 0 n) [
        | inl some ↦ absurd (none (record { to = to; stream = stream; most = n }) (in_list n is (omega (arith, some))) refl refl)
        | inr few ↦ omega (arith, few)
      ]

      is_most : IsMostSends unit.functions its from to stream (most_in list to stream)
      is_most = elim (most_told list to stream) [
        | inl (way, c, a, b, same) ↦ (let Most : ℕ → ℕ → ℕ → Type 0 = IsMostSends unit.functions its from in
            subst (λ t. Most t stream (most_in list to stream)) a (subst (λ s. Most way.to s (most_in list to stream)) b (subst (Most way.to way.stream) same ((sends_are.each way).0 c).0)))
        | inr (none, same) ↦ (let (n, is) = facts.some agent from to stream less in subst (IsMostSends unit.functions its from to stream) (none_sent none n is ∙ sym same) is)
      ]

    -- ---- who sends

    -- A send on a way is one of the most.
    some_sent : (from to stream : ℕ) (met : Meter) (s : Sending) (n : ℕ) → IsWay unit.functions (rest its.stmts from) to met → Contains met.sends s → s.stream ≡ stream → IsMostSends unit.functions its from to stream n → 1 ≤ n
    some_sent from to stream met s n way c same (inl (none, is)) = absurd (none (met, way))
    some_sent from to stream met s n way (k, within, is) same (inr (m, greatest, cut)) =
        let many = some_pass (λ (x : Sending). x.stream == stream) met.sends s k within is (is_number s.stream stream same) in
        let most = greatest.most (count_by (λ (x : Sending). x.stream == stream) met.sends) (met, way, refl) in
        omega (arith, many, most, cut)

    abbrev lists : List (List SendWay)
    lists = get_or ways.sends agent []

    lists_count : length lists ≡ length its.points
    lists_count = points_count unit (λ a. AreSends unit.functions (agent_at unit a)) ways.sends are.sends agent less

    text_listed : (stream : ℕ) → sends_to (OfText unit) agent stream ≡ true → any_to stream lists ≡ true
    text_listed stream h =
        let (s, c) = some_found (sendings_to stream its) h in
        let (there, passes) = filter_from (λ (x : Sending). x.stream == stream) (sendings_in its.stmts) s c in
        let (from, to, met, inside, way, on) = facts.meets agent s less there in
        let (n, is) = facts.some agent from to stream less in
        let some = some_sent from to stream met s n way on (same_numbers s.stream stream passes) is in
        let among = in_list from to stream inside n is some in
        list_any_at (list_any (λ (w : SendWay). w.stream == stream)) lists from [] (omega (arith, inside, lists_count)) (any_here (λ (w : SendWay). w.stream == stream) (list from to stream inside) _ among (is_number stream stream refl))

    listed_text : (stream : ℕ) → any_to stream lists ≡ true → sends_to (OfText unit) agent stream ≡ true
    listed_text stream h =
        let (some, (from, within, at), passes) = any_found (list_any (λ (w : SendWay). w.stream == stream)) lists h in
        let same : some ≡ get_or lists from [] = sym at ∙ get_or_default lists from some [] within in
        let (way, c, is) = any_found (λ (w : SendWay). w.stream == stream) some passes in
        let inside : from < length its.points = omega (arith, within, lists_count) in
        let (most, one) = ((sends_are from way.to stream inside).each way).0 (subst (λ ws. Contains ws way) same c) in
        let (met, goes, s, on, to_it) = on_way from way most one in
        let own : s.stream ≡ way.stream = same_numbers s.stream way.stream to_it in
        let its_stream : way.stream ≡ stream = same_numbers way.stream stream is in
        let number : (s.stream == stream) ≡ true = is_number s.stream stream (omega (arith, own, its_stream)) in
        some_here (sendings_to stream its) s (kept (λ (x : Sending). x.stream == stream) (sendings_in its.stmts) s number (facts.inside agent from way.to met s less goes on))
      where
        on_way : (from : ℕ) (way : SendWay) → IsMostSends unit.functions its from way.to way.stream way.most → 1 ≤ way.most
            → (met : Meter) × IsWay unit.functions (rest its.stmts from) way.to met × (s : Sending) × Contains met.sends s × ((s.stream == way.stream) ≡ true)
        on_way from way (inl (none, is)) one = absurd (omega (arith, is, one))
        on_way from way (inr (m, greatest, cut)) one =
            let (met, goes, many) = greatest.one in
            let (s, c, is) = counted (λ (x : Sending). x.stream == way.stream) met.sends (omega (arith, many, cut, one)) in
            (met, goes, s, c, is)

    sends_alike : (stream : ℕ) → sends_to (Listed ways) agent stream ≡ sends_to (OfText unit) agent stream
    sends_alike stream = same_test (sends_to (Listed ways) agent stream) (sends_to (OfText unit) agent stream) (listed_text stream) (text_listed stream)

  -- ---- both say the same

  sent_alike : (stream : ℕ) → is_sent (Listed ways) stream ≡ is_sent (OfText unit) stream
  sent_alike stream =
      let count = agents_count unit (λ a. AreSends unit.functions (agent_at unit a)) ways.sends are.sends in
      any_alike (any_to stream) (λ a. is_some_sending (sendings_to stream a)) ways.sends unit.agents [] no_agent count (λ k less. sends_alike k (omega (arith, less, count)) stream)
      ∙ sym (some_of_all stream unit.agents)

  pub alike : AreAlike unit (Listed ways) (OfText unit)
  alike = record {
    looks = λ agent point variable less inside. (at_point unit (λ a. AreLooks unit.functions (agent_at unit a)) ways.looks are.looks agent point less inside).each variable;
    most = λ agent from to stream n less inside.
        (λ e. subst (IsMostSends unit.functions (agent_at unit agent) from to stream) e (is_most agent less from to stream inside), λ is. facts.one agent from to stream _ n less (is_most agent less from to stream inside) is);
    sends = λ agent stream less. sends_alike agent less stream;
    sent = sent_alike;
    delays = λ stream less. are.delays.each stream (get_or ways.delays stream 0) (slice_get-get_or ways.delays stream 0 (omega (arith, less, are.delays.count)));
  }

  -- ---- the lists are of the program

  nexts_of : (agent : ℕ) → agent < length unit.agents → AreNexts unit.functions (agent_at unit agent) (get_or ways.nexts agent [])
  nexts_of agent less =
      are.nexts.each agent (agent_at unit agent) (get_or ways.nexts agent []) (slice_get-get_or unit.agents agent no_agent less) (slice_get-get_or ways.nexts agent [] (omega (arith, less, are.nexts.count)))

  nexts_counts : map length ways.nexts ≡ points_of unit
  nexts_counts =
      let size = λ (l : List (List ℕ)). length l in
      let points = λ (a : AgentDecl). length a.points in
      let count : length (map size ways.nexts) ≡ length (map points unit.agents) = length-map ways.nexts size ∙ are.nexts.count ∙ sym (length-map unit.agents points) in
      ext_get_or 0 (map size ways.nexts) (map points unit.agents) count (λ k less.
      let inside : k < length ways.nexts = omega (arith, less, length-map ways.nexts size) in
      let known : k < length unit.agents = omega (arith, inside, are.nexts.count) in
      get_or-map size ways.nexts k [] 0 inside ∙ (nexts_of k known).length ∙ sym (get_or-map points unit.agents k no_agent 0 known))

  -- Where its lists begin, and what they hold
  in_nexts : (agent point to : ℕ) → agent < length unit.agents → point < length (agent_at unit agent).points → Contains (get_or (get_or ways.nexts agent []) point []) to ↔ IsNext unit.functions (agent_at unit agent) point to
  in_nexts agent point to less inside =
      let lists = get_or ways.nexts agent [] in
      (nexts_of agent less).each point (get_or lists point []) (slice_get-get_or lists point [] (omega (arith, inside, (nexts_of agent less).length))) to

  nexts_for : (agent point : ℕ) → agent < length unit.agents → point < length (agent_at unit agent).points → AreNextsFor (agent_at unit agent) (get_or (get_or ways.nexts agent []) point [])
  nexts_for agent point less inside =
      let lists = get_or ways.nexts agent [] in
      let list = get_or lists point [] in
      let known = facts.known agent less in
      let (to, next) = known.goes_on point in
      let (k, within, is) = (in_nexts agent point to less inside).1 next in
      record {
        some = omega (arith, within);
        rise = (nexts_of agent less).rise point list (slice_get-get_or lists point [] (omega (arith, inside, (nexts_of agent less).length)));
        known = λ i d there. known.inner point (get_or list i d) ((in_nexts agent point (get_or list i d) less inside).0 (Contains-get_or list i d there));
      }

  looks_for : (agent point : ℕ) → agent < length unit.agents → point < length (agent_at unit agent).points → AreLooksFor unit (get_or (get_or ways.looks agent []) point [])
  looks_for agent point less inside =
      let list = get_or (get_or ways.looks agent []) point [] in
      let its = at_point unit (λ a. AreLooks unit.functions (agent_at unit a)) ways.looks are.looks agent point less inside in
      record { rise = its.rise; known = λ i d there. facts.looks agent point (get_or list i d) less ((its.each (get_or list i d)).0 (Contains-get_or list i d there)) }

  most_cut : (agent from to stream n : ℕ) → IsMostSends unit.functions (agent_at unit agent) from to stream n → n ≤ SENDS
  most_cut agent from to stream n (inl (none, is)) = omega (arith, is)
  most_cut agent from to stream n (inr (m, greatest, cut)) = omega (arith, cut)

  sends_for : (agent point : ℕ) → agent < length unit.agents → point < length (agent_at unit agent).points → AreSendsFor unit (get_or (get_or ways.nexts agent []) point []) (get_or (get_or ways.sends agent []) point [])
  sends_for agent point less inside =
      let list = get_or (get_or ways.sends agent []) point [] in
      let its = at_point unit (λ a. AreSends unit.functions (agent_at unit a)) ways.sends are.sends agent point less inside in
      record {
        rise = its.rise;
        known = λ i d there. (let way = get_or list i d in
            let is = (its.each way).0 (Contains-get_or list i d there) in
            let (known, next) = facts.ways agent point way less is in
            record { to = (in_nexts agent point way.to less inside).1 next; stream = known; some = is.1; cut = most_cut agent point way.to way.stream way.most is.0 });
      }

  -- The delay of a send of the text
  delay_small : (agent stream : ℕ) (s : Sending) → agent < length unit.agents → Contains (sendings_to stream (agent_at unit agent)) s → delay_of unit s ≤ LONGEST
  delay_small agent stream s less c =
      let its = agent_at unit agent in
      let (there, passes) = filter_from (λ (x : Sending). x.stream == stream) (sendings_in its.stmts) s c in
      let (from, to, met, inside, way, on) = facts.meets agent s less there in
      let (known, clock, after) = facts.sends agent from to met s less way on in
      let period : period_of unit s.clock ≤ PERIOD = (facts.text.bare.clocks s.clock no_clock clock).period in
      let most = mul-le (s.after + 1) (period_of unit s.clock) (AFTER + 1) PERIOD (omega (arith, after)) period in
      omega (arith, most)

  delay_for : (stream : ℕ) → longest_delay unit stream ≤ LONGEST
  delay_for stream = most_below (map (delay_of unit) (all_sendings unit stream)) LONGEST (λ n c.
      let (s, there, same) = map_contains (delay_of unit) (all_sendings unit stream) n c in
      let (k, less, its) = flat_found (sendings_to stream) unit.agents s no_agent there in
      let small = delay_small k stream s less its in
      omega (arith, small, same))

  pub of_program : AreWaysFor unit ways
  of_program = record {
    nexts = by_point unit (λ agent point. AreNextsFor (agent_at unit agent)) ways.nexts nexts_counts nexts_for;
    looks = by_point unit (λ agent point. AreLooksFor unit) ways.looks are.looks.counts looks_for;
    sends = by_point unit (λ agent point. AreSendsFor unit (get_or (get_or ways.nexts agent []) point [])) ways.sends are.sends.counts sends_for;
    count = are.delays.count;
    delays = λ i d less. subst (λ n. n ≤ LONGEST) (sym (are.delays.each i (get_or ways.delays i d) (slice_get-get_or ways.delays i d less))) (delay_for i);
  }
