-- The relay's ring, queue and outboxes are as large as they have to be.
use Rattle.std.proofs.Common.{◌≡◌, ℕ, zero, suc, ◌+◌, ◌-◌, ◌*◌, ◌<◌, ◌≤◌, [], ◌∷◌, Some, refl, sym, ap, ap₂, subst, ◌∙◌, inl, inr, arith}
use Rattle.std.specs.Prelude.{◌/◌, ◌%◌, ◌↔◌, slice_get}
use Rattle.std.specs.List.{Contains}
use Rattle.std.specs.Int.{◌∣◌}
use Rattle.std.proofs.lemmas.Bool.{cases_lt}
use Rattle.std.proofs.lemmas.Nat.Gcd.{dvd_antisymm, dvd_refl}
use Rattle.std.proofs.lemmas.List.Elements.{All-cons, All-head, All-nil}
use Rattle.std.proofs.lemmas.Option.{none-some, same_Some}
use Rattle.psy_base.specs.declared.edge.Edge.{Edge}
use Rattle.psy_base.specs.declared.limits.TheConstants.{QUEUE, RING}
use Rattle.psy_base.specs.Extremes.{IsGreatest}
use Rattle.psy_clock.specs.declared.clock.Clock.{Clock}
use Rattle.psy_clock.specs.Dates.{IsClock, count, date}
use Rattle.psy_tree.specs.declared.unit.VarDecl.{VarDecl}
use Rattle.psy_meaning.specs.BufferSizes.{AreSizes}
use Rattle.psy_meaning.specs.Graph.{IsCycle, Spot}
use Rattle.psy_meaning.specs.KnownWays.{HasMost, Listed, Looks}
use Rattle.psy_meaning.specs.QueueSizes.{AreSendEdges, HasSendsTo, IsQueueSize, IsSendEdge, IsSpread, IsWindow, MayLast}
use Rattle.psy_meaning.specs.RingSizes.{IsDueIn, IsRingSize, MayPass, agent_timing, dates_between}
use Rattle.psy_meaning.specs.Timing.{clock_at, first, following}
use Rattle.psy_byhand.specs.Laps.{tenth, variable_of}
use Rattle.psy_byhand.specs.Relays.{nexts, sizes_of, unit_of}
use Rattle.psy_byhand.proofs.LapGraph.{ComesAgain, due_in_ten, ends_late, is_tenth, lap, lap_graph, lapping, laps_of, met, one_there, spot_of, spots}
use Rattle.psy_byhand.proofs.LapPaths.{greatest_free}
use Rattle.psy_byhand.proofs.RelayRuns.{ways}

-- Dates are counted by their numbers.
abbrev pub AreCounted : Type 0
AreCounted = (c : Clock) (t i : ℕ) → IsClock c → (date c i ≤ t ↔ i < count c t)

module _ (again : ComesAgain) (counted : AreCounted) (quantum budget : ℕ) where
  -- ---- the ring

  -- Between a date of the clock and nine ticks later there is no other.
  no_date : (dates : ℕ) → count tenth (dates * 10 + 9) ≤ count tenth (dates * 10)
  no_date dates = elim (cases_lt (count tenth (dates * 10)) (count tenth (dates * 10 + 9))) [
    | inl more ↦ (
        let last = (counted tenth (dates * 10 + 9) (count tenth (dates * 10)) is_tenth).1 more in
        let early : date tenth (count tenth (dates * 10)) ≤ dates * 10 = omega (arith, last) in
        let itself = (counted tenth (dates * 10) (count tenth (dates * 10)) is_tenth).0 early in
        absurd (omega (arith, itself)))
    | inr most ↦ most
  ]

  -- The cycle of the agents is of ten ticks.
  ten_divides : (cycle : ℕ) → IsCycle (lapping budget) cycle → (10 ∣ cycle) × (cycle ∣ 10)
  ten_divides cycle is = (All-head (λ number. number ∣ cycle) 10 [] is.common, is.least 10 (All-cons (λ number. number ∣ 10) 10 [] (dvd_refl 10) (All-nil (λ number. number ∣ 10))))

  looked_by : (agent point variable : ℕ) → Looks (Listed ways) agent point variable → agent ≡ 0
  looked_by zero point variable looks = refl
  looked_by (suc zero) zero variable c = absurd (omega (arith, c.1))
  looked_by (suc zero) (suc zero) variable c = absurd (omega (arith, c.1))
  looked_by (suc zero) (suc (suc point)) variable c = absurd (omega (arith, c.1))
  looked_by (suc (suc agent)) point variable c = absurd (omega (arith, c.1))

  none_pass : (dates : ℕ) → MayPass (unit_of quantum budget) (Listed ways) nexts 0 dates → dates ≤ 0
  none_pass dates (agent, point, day, due, decl, less, looks, due_in, declared, is) =
      let by_first = looked_by agent point 0 looks in
      let (cycle, start, of_cycle, may, phase, due_at) = subst (λ a. IsDueIn (agent_timing (unit_of quantum budget) nexts a) point day due) by_first due_in in
      let divides = ten_divides cycle of_cycle in
      let ten : 10 ≡ cycle = dvd_antisymm divides.0 divides.1 in
      let same : day % 10 ≡ start % 10 = subst (λ c. day % c ≡ start % c) (sym ten) phase in
      let at = (met again budget point start may).at in
      let late = due_in_ten again budget point start may in
      let number = day / 10 in
      let on_date : day ≡ number * 10 = omega (arith, same, at) in
      let end : day + due - 1 ≡ number * 10 + 9 = omega (arith, due_at, late, on_date) in
      let its : variable_of 1 ≡ decl = same_Some (variable_of 1) decl declared in
      let pass : dates ≡ dates_between tenth (number * 10) (number * 10 + 9) =
      is ∙ ap (λ (d : VarDecl). dates_between (clock_at (agent_timing (unit_of quantum budget) nexts agent) d.clock) day (day + due - 1)) (sym its)
      ∙ ap₂ (λ (a b : ℕ). dates_between tenth a b) on_date end in
      let most = no_date number in
      omega (arith, pass, most)

  ring : (number size : ℕ) → slice_get (1 ∷ []) number ≡ Some size → IsRingSize (unit_of quantum budget) (Listed ways) nexts number size
  ring zero size e = record { most = 0; one = inl refl; all = none_pass; decl = variable_of 1; declared = refl; sum = sym (same_Some 1 size e) }
  ring (suc number) size e = absurd (none-some size e)

  -- ---- the queue

  lasts : (ticks : ℕ) → MayLast (lapping budget) ticks → ticks ≤ 10
  lasts ticks (inl e) = omega (arith, e)
  lasts ticks (inr (point, start, to, may, next, e)) = (let late = ends_late again budget point start to may next in omega (arith, e, late))

  window : IsWindow (unit_of quantum budget) (Listed ways) nexts 0 28
  window = (10, record { one = inr (0, 0, 1, first, one_there, refl); most = lasts }, refl)

  send_edges : (agent weight : ℕ) → HasMost (Listed ways) agent 0 1 0 weight → HasMost (Listed ways) agent 1 1 0 weight → AreSendEdges (Listed ways) agent 0 spots (laps_of budget) (laps_of weight)
  send_edges agent weight from_head from_on = record { count = refl; each = each }
    where
      is_send : (from : ℕ) (head next : Spot) → slice_get spots from ≡ Some head → slice_get spots 1 ≡ Some next → head.point ≡ from → HasMost (Listed ways) agent from 1 0 weight → HasMost (Listed ways) agent head.point next.point 0 weight
      is_send from head next at into point most =
          let same : 1 ≡ next.point = ap (λ (s : Spot). s.point) (same_Some (spot_of 1 0) next into) in
          subst (λ p. HasMost (Listed ways) agent head.point p 0 weight) same (subst (λ p. HasMost (Listed ways) agent p 1 0 weight) (sym point) most)

      made : (from : ℕ) (spot : Spot) → slice_get spots from ≡ Some spot → spot.point ≡ from → HasMost (Listed ways) agent from 1 0 weight → IsSendEdge (Listed ways) agent 0 spots (lap from budget) (lap from weight)
      made from spot at point most = record {
        same = refl;
        most = λ head next is into. is_send from head next is into (ap (λ (s : Spot). s.point) (same_Some head spot (sym is ∙ at)) ∙ point) most;
      }

      each : (place : ℕ) (e f : Edge) → slice_get (laps_of budget) place ≡ Some e → slice_get (laps_of weight) place ≡ Some f → IsSendEdge (Listed ways) agent 0 spots e f
      each zero e f a b =
          subst (λ x. IsSendEdge (Listed ways) agent 0 spots x f) (same_Some (lap 0 budget) e a) (subst (IsSendEdge (Listed ways) agent 0 spots (lap 0 budget)) (same_Some (lap 0 weight) f b) (made 0 (spot_of 0 0) refl refl from_head))
      each (suc zero) e f a b =
          subst (λ x. IsSendEdge (Listed ways) agent 0 spots x f) (same_Some (lap 1 budget) e a) (subst (IsSendEdge (Listed ways) agent 0 spots (lap 1 budget)) (same_Some (lap 1 weight) f b) (made 1 (spot_of 1 0) refl refl from_on))
      each (suc (suc place)) e f a b = absurd (none-some e a)

  spread_first : IsSpread (unit_of quantum budget) (Listed ways) nexts 0 28 0 3
  spread_first = (spots, laps_of budget, laps_of 1, lap_graph again budget, send_edges 0 1 refl refl, greatest_free 1 27)

  spread_second : IsSpread (unit_of quantum budget) (Listed ways) nexts 0 28 1 0
  spread_second = (spots, laps_of budget, laps_of 0, lap_graph again budget, send_edges 1 0 refl refl, greatest_free 0 27)

  queue : (number size : ℕ) → slice_get (3 ∷ []) number ≡ Some size → IsQueueSize (unit_of quantum budget) (Listed ways) nexts number size
  queue zero size e = subst (IsQueueSize (unit_of quantum budget) (Listed ways) nexts 0) (same_Some 3 size e) (28, window, (3, 0, (0, 3, refl, spread_first, refl), spread_second, refl))
  queue (suc number) size e = absurd (none-some size e)

  -- ---- the outboxes

  -- From each of its points the first agent sends one message,
  sent_first : (from to n : ℕ) → from < 2 → Contains (1 ∷ []) to → HasMost (Listed ways) 0 from to 0 n → n ≡ 1
  sent_first from to n less (suc k, l, e) most = absurd (omega (arith, l))
  sent_first zero to n less (zero, l, e) most = sym (subst (λ t. HasMost (Listed ways) 0 0 t 0 n) (sym e) most)
  sent_first (suc zero) to n less (zero, l, e) most = sym (subst (λ t. HasMost (Listed ways) 0 1 t 0 n) (sym e) most)
  sent_first (suc (suc from)) to n less (zero, l, e) most = absurd (omega (arith, less))

  -- and the second none.
  sent_second : (from to n : ℕ) → HasMost (Listed ways) 1 from to 0 n → n ≡ 0
  sent_second zero to n most = sym most
  sent_second (suc zero) to n most = sym most
  sent_second (suc (suc from)) to n most = sym most

  next_of : (from to : ℕ) → from < 2 → Contains (following (lapping budget) from) to → Contains (1 ∷ []) to
  next_of zero to less c = c
  next_of (suc zero) to less c = c
  next_of (suc (suc from)) to less c = absurd (omega (arith, less))

  outbox : (agent size : ℕ) → slice_get (1 ∷ 0 ∷ []) agent ≡ Some size → IsGreatest (HasSendsTo (unit_of quantum budget) (Listed ways) nexts agent) size
  outbox zero size e =
      subst (IsGreatest (HasSendsTo (unit_of quantum budget) (Listed ways) nexts 0)) (same_Some 1 size e)
      (record {
        one = (0, 1, omega arith, one_there, (0, 1, refl, refl, refl));
        most = λ n (from, to, less, next, (others, one, none, most, sum)). let is = sent_first from to one less (next_of from to less next) most in omega (arith, none, is, sum);
      })
  outbox (suc zero) size e =
      subst (IsGreatest (HasSendsTo (unit_of quantum budget) (Listed ways) nexts 1)) (same_Some 0 size e)
      (record {
        one = (0, 1, omega arith, one_there, (0, 0, refl, refl, refl));
        most = λ n (from, to, less, next, (others, one, none, most, sum)). let is = sent_second from to one most in omega (arith, none, is, sum);
      })
  outbox (suc (suc agent)) size e = absurd (none-some size e)

  pub buffers : AreSizes (unit_of quantum budget) (Listed ways) nexts (sizes_of 1 3 1)
  buffers = record {
    rings = record { count = refl; each = ring };
    small_rings = All-cons (λ size. size ≤ RING) 1 [] (omega arith) (All-nil (λ size. size ≤ RING));
    queues = record { count = refl; each = queue };
    small_queues = All-cons (λ size. size ≤ QUEUE) 3 [] (omega arith) (All-nil (λ size. size ≤ QUEUE));
    outboxes = record { count = refl; each = outbox };
  }
