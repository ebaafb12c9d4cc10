-- The lines of the trace of a run stand in order.
use Rattle.std.proofs.Common.{◌≡◌, ◌∙◌, refl, sym, ap, subst, ℕ, suc, ◌+◌, ◌*◌, ◌<◌, ◌≤◌, ◌==◌, ◌&&◌, nat_lt, true, List, [], ◌∷◌, ◌++◌, length, reverse, Option, Some, None, inl, inr, arith, get_or}
use Rattle.std.specs.List.{AllPairs, Contains, range_with_len}
use Rattle.std.proofs.lemmas.Bool.{and_from, cases_lt, eq-eqb, lt-ltb, or_left, or_right}
use Rattle.std.proofs.lemmas.List.Elements.{Contains-append_cases}
use Rattle.std.proofs.lemmas.List.Kept.{AllPairs-cons}
use Rattle.std.proofs.lemmas.Nat.{mul-le}
use Rattle.std.proofs.Math.Nat.{suc-mul}
use Rattle.psy_base.specs.declared.sizes.Sizes.{Sizes}
use Rattle.psy_budget.specs.Charges.{cycle_of}
use Rattle.psy_clock.specs.declared.clock.Clock.{Clock}
use Rattle.psy_clock.specs.Dates.{IsClock, count, date}
use Rattle.psy_code.specs.Views.{Looked}
use Rattle.psy_lists.proofs.lemmas.Members.{all_members, contains_none, front_or_behind, flat_map_from, map_contains}
use Rattle.psy_lists.proofs.lemmas.Ordered.{pairs_append}
use Rattle.psy_history.specs.Actions.{Action, System, publishing}
use Rattle.psy_history.specs.History.{history}
use Rattle.psy_history.specs.Processors.{processor_at, processors}
use Rattle.psy_history.specs.Regular.{WereStarted}
use Rattle.psy_history.specs.Schedule.{Turn, cycle_of_unit}
use Rattle.psy_history.specs.Scheduled.{turns_by}
use Rattle.psy_audit.specs.declared.said.Said.{Said}
use Rattle.psy_audit.specs.declared.said.Said.TheVariants.{Acted, Published, Served, Looked as Seen}
use Rattle.psy_audit.specs.declared.said.Segment.{Segment}
use Rattle.psy_audit.specs.Faults.{is_less, place_of}
use Rattle.psy_audit.specs.Traced.{act_of, acts_told, look_in, looks_of, looks_told, publications_told, started, stretches_told}
use Rattle.psy_legal.proofs.Blocks.{act_block, act_line, inner, look_block, look_line, look_told, looked_line, publication_block, publication_line, publications_are, stretch_block, stretch_line}
use Rattle.psy_legal.proofs.Firsts.{tiles_of}
use Rattle.psy_legal.proofs.Lists.{pairs_flat_map, pairs_flat_of, pairs_map, pairs_reverse, range_rises, reverse_contains}
use Rattle.psy_legal.proofs.LookLines.{IsSighted, turn_of_unit}
use Rattle.psy_legal.proofs.Numbers.{agent_is, agent_of, number_below}
use Rattle.psy_legal.proofs.Tiles.{Tiles, tile_of}
use Rattle.psy_legal.proofs.Told.{IsOnTime, all_stretches, publication_number}
use Rattle.psy_legal.proofs.Turns.{next_turn, serving, units_rise}
use Rattle.psy_legal.proofs.UnitCycles.{cycles_rise}
use Rattle.psy_audit.specs.declared.said.Look.{Look}
use Rattle.psy_audit.specs.declared.said.Act.{Act}
use Rattle.psy_audit.specs.declared.said.Publication.{Publication}

-- ---- places

-- The place of one line comes before that of another.
abbrev pub Before : Said → Said → Type 0
Before x y = is_less (place_of x) (place_of y) ≡ true

less_first : (a b : ℕ) (xs ys : List ℕ) → a < b → is_less (a ∷ xs) (b ∷ ys) ≡ true
less_first a b xs ys less = or_left (nat_lt a b) (a == b && is_less xs ys) (lt-ltb a b less)

less_behind : (a b : ℕ) (xs ys : List ℕ) → a ≡ b → is_less xs ys ≡ true → is_less (a ∷ xs) (b ∷ ys) ≡ true
less_behind a b xs ys same less = or_right (nat_lt a b) (a == b && is_less xs ys) (and_from (a == b) (is_less xs ys) (eq-eqb a b same) less)

less_second : (k a b : ℕ) (xs ys : List ℕ) → a < b → is_less (k ∷ a ∷ xs) (k ∷ b ∷ ys) ≡ true
less_second k a b xs ys less = less_behind k k (a ∷ xs) (b ∷ ys) refl (less_first a b xs ys less)

less_third : (k a b m n : ℕ) (xs ys : List ℕ) → a ≡ b → m < n → is_less (k ∷ a ∷ m ∷ xs) (k ∷ b ∷ n ∷ ys) ≡ true
less_third k a b m n xs ys same less = less_behind k k (a ∷ m ∷ xs) (b ∷ n ∷ ys) refl (less_behind a b (m ∷ xs) (n ∷ ys) same (less_first m n xs ys less))

less_fourth : (k a b m n c d : ℕ) → a ≡ b → m ≡ n → c < d → is_less (k ∷ a ∷ m ∷ c ∷ []) (k ∷ b ∷ n ∷ d ∷ []) ≡ true
less_fourth k a b m n c d same also less =
    less_behind k k (a ∷ m ∷ c ∷ []) (b ∷ n ∷ d ∷ []) refl (less_behind a b (m ∷ c ∷ []) (n ∷ d ∷ []) same (less_behind m n (c ∷ []) (d ∷ []) also (less_first c d [] [] less)))

-- ---- lines of one kind

acts_first : (a b : Act) → a.agent < b.agent → Before (Acted a) (Acted b)
acts_first a b less = less_second 0 a.agent b.agent (a.number ∷ []) (b.number ∷ []) less

acts_next : (a b : Act) → a.agent ≡ b.agent → a.number < b.number → Before (Acted a) (Acted b)
acts_next a b same less = less_third 0 a.agent b.agent a.number b.number [] [] same less

publications_first : (p q : Publication) → p.variable < q.variable → Before (Published p) (Published q)
publications_first p q less = less_second 1 p.variable q.variable (p.date ∷ []) (q.date ∷ []) less

publications_next : (p q : Publication) → p.variable ≡ q.variable → p.date < q.date → Before (Published p) (Published q)
publications_next p q same less = less_third 1 p.variable q.variable p.date q.date [] [] same less

stretches_first : (t u : Segment) → t.processor < u.processor → Before (Served t) (Served u)
stretches_first t u less = less_second 2 t.processor u.processor (t.first ∷ []) (u.first ∷ []) less

looks_first : (l m : Look) → l.agent < m.agent → Before (Seen l) (Seen m)
looks_first l m less = less_second 3 l.agent m.agent (l.number ∷ l.cycle ∷ []) (m.number ∷ m.cycle ∷ []) less

looks_next : (l m : Look) → l.agent ≡ m.agent → l.number < m.number → Before (Seen l) (Seen m)
looks_next l m same less = less_third 3 l.agent m.agent l.number m.number (l.cycle ∷ []) (m.cycle ∷ []) same less

looks_later : (l m : Look) → l.agent ≡ m.agent → l.number ≡ m.number → l.cycle < m.cycle → Before (Seen l) (Seen m)
looks_later l m same also less = less_fourth 3 l.agent m.agent l.number m.number l.cycle m.cycle same also less

pairs_weaker : {X : Type 0} (R S : X → X → Type 0) (xs : List X) → ((x y : X) → R x y → S x y) → AllPairs R xs → AllPairs S xs
pairs_weaker R S xs weaker pairs i j d less within = weaker (get_or xs i d) (get_or xs j d) (pairs i j d less within)

-- ---- numbers

-- One action of an agent is a later one of it.
abbrev Later : Action → Action → Type 0
Later x y = (x.agent ≡ y.agent) × (x.number < y.number)

numbers_fall : (s : System) (dates agent : ℕ) (actions : List Action) → WereStarted s dates agent actions → AllPairs (λ x y. Later y x) actions
numbers_fall s dates agent [] were = λ i j d less within. absurd (omega (arith, less, within))
numbers_fall s dates agent (r ∷ before) (was, were) =
    AllPairs-cons (λ x y. Later y x) r before
    (all_members (λ y. Later y r) before (λ y c.
    let low = number_below s dates agent before y were c in
    (agent_is s dates agent before y were c ∙ ap (λ (x : Action). x.agent) (sym was.made), omega (arith, low, was.number))))
    (numbers_fall s dates agent before were)

dates_rise : (c : Clock) → IsClock c → (i k : ℕ) → i < k → date c i < date c k
dates_rise c is i k less =
    let far : suc i * c.period ≤ k * c.period = mul-le (suc i) c.period k c.period less (omega arith) in
    let e : suc i * c.period ≡ i * c.period + c.period = suc-mul i c.period in
    omega (arith, far, e, is.first)

stretches_fall : (goes : ℕ → Option Turn) (p n : ℕ) (st : List Segment) → Tiles goes p n st → AllPairs (λ (s t : Segment). Before (Served t) (Served s)) st
stretches_fall goes p n [] tiles = λ i j d less within. absurd (omega (arith, less, within))
stretches_fall goes p n (s ∷ before) (tile, apart, rest) =
    AllPairs-cons (λ (s t : Segment). Before (Served t) (Served s)) s before
    (all_members (λ (t : Segment). Before (Served t) (Served s)) before (λ t c.
    let (m, few, is) = tile_of goes p s.first before t rest c in
    less_third 2 t.processor s.processor t.first s.first [] [] (is.processor_is ∙ sym tile.processor_is) (omega (arith, few, is.filled, is.within))))
    (stretches_fall goes p s.first before rest)

module _ (s : System) (order : ℕ → List ℕ) (sizes : Sizes) (until : ℕ) (known : IsOnTime s order sizes until) (sighted : IsSighted s sizes until) where
  abbrev last : ℕ
  last = until * s.unit.quantum

  abbrev acted : List Said
  acted = act_block s order sizes until

  abbrev published_ones : List Said
  published_ones = publication_block s order sizes until

  abbrev served_ones : List Said
  served_ones = stretch_block s order sizes until

  abbrev looked_ones : List Said
  looked_ones = look_block s order sizes until

  fall : (agent : ℕ) → AllPairs (λ x y. Later y x) (history s until agent)
  fall agent = numbers_fall s until agent (history s until agent) (known.lawful.actions until agent).were_started

  started_rise : (agent : ℕ) → AllPairs Later (started s until agent)
  started_rise agent = pairs_reverse Later (history s until agent) (fall agent)

  -- ---- each block

  acts_rise : AllPairs Before acted
  acts_rise = pairs_flat_map Before (acts_told s order until)
      (λ agent.
      let tell = λ (r : Action). Acted (act_of (turns_by s order last agent) r) in
      let told = act_of (turns_by s order last agent) in
      pairs_map Before tell (started s until agent) (pairs_weaker Later (λ q r. Before (tell q) (tell r)) (started s until agent) (λ q r later. acts_next (told q) (told r) later.0 later.1) (started_rise agent)))
      (λ i k x y less c d.
      let (q, by_i, is_x) = of i x c in
      let (r, by_k, is_y) = of k y d in
      let a = act_of (turns_by s order last i) q in
      let b = act_of (turns_by s order last k) r in
      subst (λ x. Before x y) (sym is_x) (subst (Before (Acted a)) (sym is_y) (acts_first a b (omega (arith, less, by_i, by_k)))))
      0 (length s.unit.agents)
    where
      of : (i : ℕ) (x : Said) → Contains (acts_told s order until i) x → (r : Action) × (r.agent ≡ i) × (x ≡ Acted (act_of (turns_by s order last i) r))
      of i x c =
          let (r, listed, is) = map_contains (λ r. Acted (act_of (turns_by s order last i) r)) (started s until i) x c in
          (r, agent_of s until i r (reverse_contains (history s until i) r listed), sym is)

  publications_rise : AllPairs Before published_ones
  publications_rise = pairs_flat_map Before (publications_told s sizes until)
      (λ variable.
      let n = count (publishing s variable) until in
      subst (AllPairs Before) (sym (publications_are s order sizes until known variable))
      (pairs_map Before (λ k. Published (publication_number s sizes variable k)) (range_with_len 0 n)
      (pairs_weaker (λ i k. i < k) (λ i k. Before (Published (publication_number s sizes variable i)) (Published (publication_number s sizes variable k))) (range_with_len 0 n) (λ i k less.
      publications_next (publication_number s sizes variable i) (publication_number s sizes variable k) refl (dates_rise (publishing s variable) (known.clocks variable) i k less)) (range_rises 0 n))))
      (λ i k x y less c d.
      let (m, is_x) = of i x c in
      let (n, is_y) = of k y d in
      subst (λ x. Before x y) (sym is_x) (subst (Before (Published (publication_number s sizes i m))) (sym is_y) (publications_first (publication_number s sizes i m) (publication_number s sizes k n) less)))
      0 (length s.unit.variables)
    where
      of : (i : ℕ) (x : Said) → Contains (publications_told s sizes until i) x → (k : ℕ) × (x ≡ Published (publication_number s sizes i k))
      of i x c =
          let (k, listed, is) = map_contains (λ k. Published (publication_number s sizes i k)) (range_with_len 0 (count (publishing s i) until)) x (subst (λ xs. Contains xs x) (publications_are s order sizes until known i) c) in
          (k, sym is)

  stretches_rise : AllPairs Before served_ones
  stretches_rise = pairs_flat_map Before (stretches_told s order until)
      (λ p.
      let st = all_stretches s order sizes until p in
      pairs_map Before Served (reverse st) (pairs_reverse (λ (s t : Segment). Before (Served s) (Served t)) st
      (stretches_fall (next_turn s (serving s order p)) p last st (tiles_of s (serving s order p) p last))))
      (λ i k x y less c d.
      let (t, by_i, is_x) = of i x c in
      let (u, by_k, is_y) = of k y d in
      subst (λ x. Before x y) (sym is_x) (subst (Before (Served t)) (sym is_y) (stretches_first t u (omega (arith, less, by_i, by_k)))))
      0 (processors s.unit)
    where
      of : (p : ℕ) (x : Said) → Contains (stretches_told s order until p) x → (t : Segment) × (t.processor ≡ p) × (x ≡ Served t)
      of p x c =
          let st = all_stretches s order sizes until p in
          let (t, listed, is) = map_contains Served (reverse st) x c in
          let (m, few, tile) = tile_of (next_turn s (serving s order p)) p last st t (tiles_of s (serving s order p) p last) (reverse_contains st t listed) in
          (t, tile.processor_is, sym is)

  -- ---- looks

  -- Of two looks of an action the one that is paid by a later unit is executed in a later cycle.
  later_cycle : (agent : ℕ) (r : Action) (n m c d : ℕ) → n < m
      → cycle_of_unit r.agent r.number (cycle_of (s.stalls r.agent) r.number n) (turns_by s order last agent) ≡ Some c
      → cycle_of_unit r.agent r.number (cycle_of (s.stalls r.agent) r.number m) (turns_by s order last agent) ≡ Some d → c < d
  later_cycle agent r n m c d less at_n at_m =
      let own = serving s order (processor_at s.unit agent) in
      let (early, first, had) = turn_of_unit s own r.agent r.number (cycle_of (s.stalls r.agent) r.number n) last c at_n in
      let (late, second, had_more) = turn_of_unit s own r.agent r.number (cycle_of (s.stalls r.agent) r.number m) last d at_m in
      let more = cycles_rise (s.stalls r.agent) r.number n m less in
      elim (cases_lt c d) [
        | inl before ↦ before
        | inr behind ↦ (let fewer = units_rise s own r.agent r.number d c behind in absurd (omega (arith, fewer, had, had_more, more)))
      ]

  looks_of_one : (agent : ℕ) (r : Action) → Contains (history s until agent) r → AllPairs Before (looks_of s sizes (turns_by s order last agent) r)
  looks_of_one agent r there =
      let turns : List (Option Turn) = turns_by s order last agent in
      let cycle = λ (look : Looked). cycle_of_unit r.agent r.number (cycle_of (s.stalls r.agent) r.number look.number) turns in
      let told = λ (look : Looked). look_in s sizes r look (cycle look) in
      pairs_flat_of (λ (l m : Looked). l.number < m.number) Before told r.deeds.looks (sighted.rise agent r there)
      (λ look c. single look (cycle look))
      (λ l m x y less c d.
      let (c_l, at_l, is_l) = one l x (cycle l) c in
      let (c_m, at_m, is_m) = one m y (cycle m) d in
      subst (λ x. Before x y) (sym is_l) (subst (Before (Seen (look_told s sizes r l c_l))) (sym is_m)
      (looks_later (look_told s sizes r l c_l) (look_told s sizes r m c_m) refl refl (later_cycle agent r l.number m.number c_l c_m less at_l at_m))))
    where
      single : (look : Looked) (o : Option ℕ) → AllPairs Before (look_in s sizes r look o)
      single look None = λ i j d less within. absurd (omega (arith, less, within))
      single look (Some c) = λ i j d less within. absurd (omega (arith, less, within))

      one : (look : Looked) (x : Said) (o : Option ℕ) → Contains (look_in s sizes r look o) x → (c : ℕ) × (o ≡ Some c) × (x ≡ Seen (look_told s sizes r look c))
      one look x None none = absurd (contains_none x none)
      one look x (Some c) its = elim (front_or_behind (Seen (look_told s sizes r look c)) [] x its) [
        | inl e ↦ (c, refl, sym e)
        | inr none ↦ absurd (contains_none x none)
      ]

  looks_rise : AllPairs Before looked_ones
  looks_rise = pairs_flat_map Before (looks_told s order sizes until)
      (λ agent.
      let turns : List (Option Turn) = turns_by s order last agent in
      pairs_flat_of Later Before (looks_of s sizes turns) (started s until agent) (started_rise agent)
      (λ r c. looks_of_one agent r (reverse_contains (history s until agent) r c))
      (λ q r x y later c d.
      let on = looked_line s order sizes until known turns q x c in
      let at = looked_line s order sizes until known turns r y d in
      subst (λ x. Before x y) (sym on.4) (subst (Before (Seen (look_told s sizes q on.0 on.1))) (sym at.4) (looks_next (look_told s sizes q on.0 on.1) (look_told s sizes r at.0 at.1) later.0 later.1))))
      (λ i k x y less c d.
      let on = of i x c in
      let at = of k y d in
      subst (λ x. Before x y) (sym on.4) (subst (Before (Seen (look_told s sizes on.0 on.1 on.2))) (sym at.4) (looks_first (look_told s sizes on.0 on.1 on.2) (look_told s sizes at.0 at.1 at.2) (omega (arith, less, on.3, at.3)))))
      0 (length s.unit.agents)
    where
      of : (agent : ℕ) (x : Said) → Contains (looks_told s order sizes until agent) x → (r : Action) × (look : Looked) × (c : ℕ) × (r.agent ≡ agent) × (x ≡ Seen (look_told s sizes r look c))
      of agent x c =
          let (r, listed, looked) = flat_map_from (looks_of s sizes (turns_by s order last agent)) (started s until agent) x c in
          let on = looked_line s order sizes until known (turns_by s order last agent) r x looked in
          (r, on.0, on.1, agent_of s until agent r (reverse_contains (history s until agent) r listed), on.4)

  -- ---- the whole

  looks_told_are : (x : Said) → Contains looked_ones x → (l : Look) × (x ≡ Seen l)
  looks_told_are x c =
      let on = look_line s order sizes until known x c in
      let its = looked_line s order sizes until known (turns_by s order last on.0) on.2 x on.4 in
      (look_told s sizes on.2 its.0 its.1, its.4)

  abbrev served_and_looked : List Said
  served_and_looked = served_ones ++ looked_ones

  two : AllPairs Before served_and_looked
  two = pairs_append Before served_ones looked_ones stretches_rise looks_rise (λ x y c d.
      let on = stretch_line s order sizes until known x c in
      let (l, is) = looks_told_are y d in
      subst (λ x. Before x y) (sym on.4) (subst (Before (Served on.2)) (sym is) refl))

  three : AllPairs Before (published_ones ++ served_and_looked)
  three = pairs_append Before published_ones served_and_looked publications_rise two (λ x y c d.
      let on = publication_line s order sizes until known x c in
      subst (λ x. Before x y) (sym on.4) (elim (Contains-append_cases served_ones looked_ones y d) [
        | inl t ↦ (let at = stretch_line s order sizes until known y t in subst (Before (Published (publication_number s sizes on.0 on.2))) (sym at.4) refl)
        | inr l ↦ (let (look, is) = looks_told_are y l in subst (Before (Published (publication_number s sizes on.0 on.2))) (sym is) refl)
      ]))

  pub inner_rises : AllPairs Before (inner s order sizes until)
  inner_rises = pairs_append Before acted (published_ones ++ served_and_looked) acts_rise three (λ x y c d.
      let on = act_line s order sizes until known x c in
      let a = act_of (turns_by s order last on.0) on.2 in
      subst (λ x. Before x y) (sym on.4) (elim (Contains-append_cases published_ones served_and_looked y d) [
        | inl p ↦ (let at = publication_line s order sizes until known y p in subst (Before (Acted a)) (sym at.4) refl)
        | inr more ↦ elim (Contains-append_cases served_ones looked_ones y more) [
          | inl t ↦ (let at = stretch_line s order sizes until known y t in subst (Before (Acted a)) (sym at.4) refl)
          | inr l ↦ (let (look, is) = looks_told_are y l in subst (Before (Acted a)) (sym is) refl)
        ]
      ]))
