-- A processor once its cycles are counted, and once its agent waits no longer.
use Rattle.std.proofs.Common.{◌≡◌, refl, sym, ap, ◌∙◌, subst, inl, inr, arith}
use Rattle.std.specs.Prelude.{ℕ, zero, suc, ◌+◌, ◌≤◌, true, false, nat_lt, List, [], ◌∷◌, length, map, Option, None, Some, slice_get, slice_set}
use Rattle.std.proofs.lemmas.Bool.{cases_eq, true≢false}
use Rattle.std.proofs.lemmas.List.{length-set}
use Rattle.psy_ready.specs.Choice.{pending_deadline}
use Rattle.psy_kernel.specs.declared.engine.Engine.TheInside.{Inside}
use Rattle.psy_kernel.specs.declared.engine.Server.{Server}
use Rattle.psy_kernel.specs.Standing.{AreInForce, EngineStands, IsChosen, ServerStands, state_of}
use Rattle.psy_kernel.specs.Engines.{EngineState}
use Rattle.psy_kernel.proofs.Engines.{ArePut, HaveGone, choice_stays, cycles_is, cycles_of, order_in, put_more, put_there}

-- The deadlines once an agent waits no longer
pub none_there : (ready : List (Option ℕ)) (agent : ℕ) → pending_deadline (slice_set ready agent None) agent ≡ None
none_there [] agent = refl
none_there (w ∷ ready) zero = refl
none_there (w ∷ ready) (suc agent) = none_there ready agent

pub others_wait : (ready : List (Option ℕ)) (agent other : ℕ) → (other ≡ agent → ⊥) → pending_deadline (slice_set ready agent None) other ≡ pending_deadline ready other
others_wait [] agent other differs = refl
others_wait (w ∷ ready) zero zero differs = absurd (differs refl)
others_wait (w ∷ ready) zero (suc other) differs = refl
others_wait (w ∷ ready) (suc agent) zero differs = refl
others_wait (w ∷ ready) (suc agent) (suc other) differs = others_wait ready agent other (λ e. differs (ap suc e))

still_none : (ready : List (Option ℕ)) (agent other : ℕ) → pending_deadline ready other ≡ None → pending_deadline (slice_set ready agent None) other ≡ None
still_none ready agent other none = elim (cases_eq other agent) [
  | inl same ↦ ap (pending_deadline (slice_set ready agent None)) same ∙ none_there ready agent
  | inr differs ↦ others_wait ready agent other differs ∙ none
]

-- ---- the cycles done

alike : (servers others : List Server) → length others ≡ length servers → ((place : ℕ) → slice_get others place ≡ slice_get servers place) → map (λ (s : Server). s.cycles) others ≡ map (λ (s : Server). s.cycles) servers
alike [] [] as_many same = refl
alike [] (y ∷ others) as_many same = absurd (omega (arith, as_many))
alike (x ∷ servers) [] as_many same = absurd (omega (arith, as_many))
alike (x ∷ servers) (y ∷ others) as_many same =
    let first : y ≡ x = (let both = same 0 in cc) in
    ap (λ (s : Server). s.cycles ∷ map (λ (s : Server). s.cycles) others) first ∙ ap (λ cycles. x.cycles ∷ cycles) (alike servers others (omega (arith, as_many)) (λ place. same (suc place)))

one_changed : (servers others : List Server) (place : ℕ) (z : Server) → length others ≡ length servers → slice_get others place ≡ Some z → ((other : ℕ) → (other ≡ place → ⊥) → slice_get others other ≡ slice_get servers other)
    → map (λ (s : Server). s.cycles) others ≡ slice_set (map (λ (s : Server). s.cycles) servers) place z.cycles
one_changed [] [] place z as_many at rest = refl
one_changed [] (y ∷ others) place z as_many at rest = absurd (omega (arith, as_many))
one_changed (x ∷ servers) [] place z as_many at rest = absurd (omega (arith, as_many))
one_changed (x ∷ servers) (y ∷ others) zero z as_many at rest =
    let first : y ≡ z = cc in
    ap (λ (s : Server). s.cycles ∷ map (λ (s : Server). s.cycles) others) first
    ∙ ap (λ cycles. z.cycles ∷ cycles) (alike servers others (omega (arith, as_many)) (λ place. rest (suc place) (λ e. absurd (omega (arith, e)))))
one_changed (x ∷ servers) (y ∷ others) (suc place) z as_many at rest =
    let first : y ≡ x = (let both = rest 0 (λ e. absurd (omega (arith, e))) in cc) in
    ap (λ (s : Server). s.cycles ∷ map (λ (s : Server). s.cycles) others) first
    ∙ ap (λ cycles. x.cycles ∷ cycles) (one_changed servers others place z (omega (arith, as_many)) at (λ other differs. rest (suc other) (λ e. differs (omega (arith, e)))))

-- The state once one processor is put in the place of another
pub state_put : (k : Inside) (processor : ℕ) (servers : List Server) (z : Server) → ArePut k processor servers → slice_get servers processor ≡ Some z → (e : EngineState) → state_of k ≡ e
    → ◌≡◌ {A = EngineState} (record (state_of k) { done = map (λ (server : Server). server.cycles) servers }) (record e { done = slice_set e.done processor (cycles_of servers processor) })
state_put k processor servers z put there e view =
    let done = one_changed k.servers.items servers processor z put.count there put.rest ∙ ap (slice_set (map (λ (s : Server). s.cycles) k.servers.items) processor) (sym (cycles_is servers processor z there)) in
    subst (λ (q : EngineState). ◌≡◌ {A = EngineState} (record (state_of k) { done = map (λ (server : Server). server.cycles) servers }) (record q { done = slice_set q.done processor (cycles_of servers processor) })) view
    (ap (λ cycles. record (state_of k) { done = cycles }) done)

-- ---- one processor

module _ (k : Inside) (is : EngineStands k) (processor : ℕ) (server : Server) (at : slice_get k.servers.items processor ≡ Some server) where
  stood : ServerStands (state_of k) processor server
  stood = is.servers processor server at

  -- It was chosen who gets its cycles, and they are counted
  module _ (chosen : Option ℕ) (choice : IsChosen server.ready (order_in k server.cycles) chosen) (n : ℕ) (x y : Server) (x_is : x ≡ record server { chosen = chosen })
      (y_is : y ≡ record x { cycles = server.cycles + n; passed = y.passed; stale = nat_lt x.passed y.passed })
      (orders : AreInForce k.script.orders y.passed (server.cycles + n)) (no_less : x.passed ≤ y.passed) where
    whole : y ≡ record server { cycles = server.cycles + n; passed = y.passed; chosen = chosen; stale = nat_lt server.passed y.passed }
    whole = y_is ∙ ap (λ (s : Server). record s { cycles = server.cycles + n; passed = y.passed; stale = nat_lt s.passed y.passed }) x_is

    pub counted_ready : y.ready ≡ server.ready
    counted_ready = ap (λ (s : Server). s.ready) whole

    counted_cycles : y.cycles ≡ server.cycles + n
    counted_cycles = ap (λ (s : Server). s.cycles) whole

    kept_choice : y.stale ≡ false → IsChosen y.ready (order_in k (server.cycles + n)) y.chosen
    kept_choice fresh =
        let less : server.passed ≤ y.passed = subst (λ (s : Server). s.passed ≤ y.passed) x_is no_less in
        let stays = choice_stays k is processor server at chosen choice (server.cycles + n) y.passed orders less (sym (ap (λ (s : Server). s.stale) whole) ∙ fresh) in
        subst (λ ready. IsChosen ready (order_in k (server.cycles + n)) y.chosen) (sym counted_ready) (subst (IsChosen server.ready (order_in k (server.cycles + n))) (sym (ap (λ (s : Server). s.chosen) whole)) stays)

    pub counted : (servers : List Server) → ArePut k processor servers → HaveGone k processor server y n (slice_set servers processor y)
    counted servers put =
        let after = put_more k processor servers y put in
        record {
          count = after.count;
          there = put_there k processor server at servers y put;
          rest = after.rest;
          cycles = counted_cycles;
          waiting = ap length counted_ready ∙ stood.waiting;
          own = λ agent differs. ap (λ ready. pending_deadline ready agent) counted_ready ∙ stood.own agent differs;
          orders = orders;
          choice = kept_choice;
        }

    -- Its agent waits no longer
    module _ (agent : ℕ) (z : Server) (z_is : z ≡ record y { ready = slice_set y.ready agent None; stale = true }) where
      pub dropped_ready : z.ready ≡ slice_set server.ready agent None
      dropped_ready = ap (λ (s : Server). s.ready) z_is ∙ ap (λ ready. slice_set ready agent None) counted_ready

      pub dropped : (servers : List Server) → ArePut k processor servers → HaveGone k processor server z n (slice_set servers processor z)
      dropped servers put =
          let after = put_more k processor servers z put in
          record {
            count = after.count;
            there = put_there k processor server at servers z put;
            rest = after.rest;
            cycles = ap (λ (s : Server). s.cycles) z_is ∙ counted_cycles;
            waiting = ap length dropped_ready ∙ length-set server.ready agent None ∙ stood.waiting;
            own = λ other differs. ap (λ ready. pending_deadline ready other) dropped_ready ∙ still_none server.ready agent other (stood.own other differs);
            orders = subst (λ p. AreInForce k.script.orders p (server.cycles + n)) (sym (ap (λ (s : Server). s.passed) z_is)) orders;
            choice = λ fresh. absurd (true≢false (sym (ap (λ (s : Server). s.stale) z_is) ∙ fresh));
          }
