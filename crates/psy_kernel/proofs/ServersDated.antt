-- The processors at a date.
use Rattle.std.proofs.Common.{◌≡◌, ℤ, ℕ, suc, ◌*◌, ◌<◌, ◌==◌, List, [], ◌∷◌, length, map, Some, None, refl, ap, sym, subst, ◌∙◌, inl, inr, arith}
use Rattle.std.specs.List.{slice_get}
use Rattle.std.proofs.lemmas.Bool.{cases_lt, cond-false, cond-true, eq-eqb, ne_eqb, true≢false}
use Rattle.std.proofs.lemmas.List.{get_or_past}
use Rattle.std.proofs.lemmas.Option.{get_or_from_slice_get, slice_get-get_or, slice_get_within}
use Rattle.psy_lists.proofs.lemmas.Places.{mapped, mapped_from}
use Rattle.psy_dates.specs.declared.seat.Seat.{Seat}
use Rattle.psy_dates.specs.Movers.{IsDoneBelow}
use Rattle.psy_history.specs.Processors.{processor_at}
use Rattle.psy_ready.specs.Choice.{pending_deadline}
use Rattle.psy_kernel.specs.declared.engine.Engine.TheInside.{Inside}
use Rattle.psy_kernel.specs.declared.engine.Server.{Server}
use Rattle.psy_kernel.specs.Standing.{AreInForce, EngineStands, InTick, ServerStands, ready_of, state_of, waits_on}
use Rattle.psy_kernel.specs.Starting.{deadline_at, deadline_on, home_at}
use Rattle.psy_kernel.proofs.Asked.{asked}
use Rattle.psy_kernel.proofs.Dated.{tick_after}
use Rattle.psy_kernel.proofs.DatesDue.{IsDue}
use Rattle.psy_kernel.proofs.Engines.{cycles_is, server_there}
use Rattle.psy_kernel.proofs.Homes.{home_is}

-- ---- who is asked anew

same_cycles : (old new : List Server) → length new ≡ length old → ((place : ℕ) (x y : Server) → slice_get old place ≡ Some x → slice_get new place ≡ Some y → y.cycles ≡ x.cycles)
    → map (λ (server : Server). server.cycles) (map asked new) ≡ map (λ (server : Server). server.cycles) old
same_cycles [] [] as_many kept = refl
same_cycles [] (y ∷ new) as_many kept = absurd (omega (arith, as_many))
same_cycles (x ∷ old) [] as_many kept = absurd (omega (arith, as_many))
same_cycles (x ∷ old) (y ∷ new) as_many kept =
    ap (λ c. c ∷ map (λ (server : Server). server.cycles) (map asked new)) (kept 0 x y refl refl)
    ∙ ap (λ cs. x.cycles ∷ cs) (same_cycles old new (omega (arith, as_many)) (λ place. kept (suc place)))

-- ---- what starts

-- What the actions that start at a date make of the processors
abbrev pub AreStarted : Inside → ℕ → List Seat → List Server → Type 0
AreStarted k date seats servers = (processor : ℕ) (old new : Server) → slice_get k.servers.items processor ≡ Some old → slice_get servers processor ≡ Some new
    → (new ≡ record old { ready = new.ready }) × IsDoneBelow (deadline_on date k.plan.unit.agents seats processor) (length k.plan.unit.agents) old.ready new.ready

module _ (k : Inside) (date : ℕ) (due : IsDue k date) (seats : List Seat) (servers : List Server) (as_many : length servers ≡ length k.servers.items) (started : AreStarted k date seats servers) where
  is : EngineStands k
  is = due.stands

  pub done_kept : map (λ (server : Server). server.cycles) (map asked servers) ≡ map (λ (server : Server). server.cycles) k.servers.items
  done_kept = same_cycles k.servers.items servers as_many (λ place x y a b. ap (λ (server : Server). server.cycles) (started place x y a b).0)

  pub asked_count : length (map asked servers) ≡ length k.servers.items
  asked_count = length_asked servers ∙ as_many
    where
      length_asked : (xs : List Server) → length (map asked xs) ≡ length xs
      length_asked [] = refl
      length_asked (x ∷ xs) = ap suc (length_asked xs)

  module _ (processor : ℕ) (old new : Server) (was : slice_get k.servers.items processor ≡ Some old) (there : slice_get servers processor ≡ Some new) where
    stood : ServerStands (state_of k) processor old
    stood = is.servers processor old was

    starts : IsDoneBelow (deadline_on date k.plan.unit.agents seats processor) (length k.plan.unit.agents) old.ready new.ready
    starts = (started processor old new was there).1

    -- what an agent waits for then
    waits_then : (agent : ℕ) → agent < length k.plan.unit.agents → pending_deadline new.ready agent ≡ deadline_on date k.plan.unit.agents seats processor agent (pending_deadline old.ready agent)
    waits_then agent less =
        get_or_from_slice_get new.ready agent _ None (starts.done agent (pending_deadline old.ready agent) less (slice_get-get_or old.ready agent None (omega (arith, less, stood.waiting))))

    -- an agent of the processor, and one of another
    own_then : (agent : ℕ) → agent < length k.plan.unit.agents → processor_at k.plan.unit agent ≡ processor → pending_deadline new.ready agent ≡ deadline_at date seats agent (pending_deadline old.ready agent)
    own_then agent less of =
        waits_then agent less
        ∙ cond-true (home_at k.plan.unit.agents agent == processor) (deadline_at date seats agent (pending_deadline old.ready agent)) (pending_deadline old.ready agent) (eq-eqb (home_at k.plan.unit.agents agent) processor (home_is k.plan.unit agent ∙ of))

    other_then : (agent : ℕ) → (processor_at k.plan.unit agent ≡ processor → ⊥) → pending_deadline new.ready agent ≡ None
    other_then agent differs = elim (cases_lt agent (length k.plan.unit.agents)) [
      | inl less ↦
          waits_then agent less
          ∙ cond-false (home_at k.plan.unit.agents agent == processor) (deadline_at date seats agent (pending_deadline old.ready agent)) (pending_deadline old.ready agent) (ne_eqb (home_at k.plan.unit.agents agent) processor (λ e. differs (sym (home_is k.plan.unit agent) ∙ e)))
          ∙ stood.own agent differs
      | inr more ↦ get_or_past new.ready agent None (omega (arith, more, starts.count, stood.waiting))
    ]

    server_then : (inputs : List (List ℤ)) (dates : ℕ) (done : List ℕ) → suc date ≡ dates → ServerStands (record (state_of k) { inputs = inputs; dates = dates; done = done; given = 0 }) processor (asked new)
    server_then inputs dates done dates_are =
        let same = (started processor old new was there).0 in
        let cycles : new.cycles ≡ old.cycles = ap (λ (server : Server). server.cycles) same in
        let full : new.cycles ≡ date * k.plan.unit.quantum = cycles ∙ sym (cycles_is k.servers.items processor old was) ∙ due.filled processor (slice_get_within k.servers.items processor old was) in
        record {
          in_tick = subst (λ d. InTick k.plan.unit.quantum k.plan.until d new.cycles) dates_are (tick_after k.plan.unit.quantum k.plan.until date new.cycles due.within full);
          waiting = starts.count ∙ stood.waiting;
          own = other_then;
          orders = subst (AreInForce k.script.orders new.passed) (sym cycles) (subst (λ p. AreInForce k.script.orders p old.cycles) (sym (ap (λ (server : Server). server.passed) same)) stood.orders);
          choice = λ fresh. absurd (true≢false fresh);
        }

  old_of : (processor : ℕ) (new : Server) → slice_get servers processor ≡ Some new → (old : Server) × (slice_get k.servers.items processor ≡ Some old)
  old_of processor new there = server_there k.servers.items processor (omega (arith, slice_get_within servers processor new there, as_many))

  pub servers_then : (inputs : List (List ℤ)) (dates : ℕ) (done : List ℕ) → suc date ≡ dates → (processor : ℕ) (x : Server) → slice_get (map asked servers) processor ≡ Some x → ServerStands (record (state_of k) { inputs = inputs; dates = dates; done = done; given = 0 }) processor x
  servers_then inputs dates done dates_are processor x at =
      let (new, there, made) = mapped_from asked servers processor x at in
      let old = old_of processor new there in
      subst (ServerStands (record (state_of k) { inputs = inputs; dates = dates; done = done; given = 0 }) processor) made (server_then processor old.0 new old.1 there inputs dates done dates_are)

  -- by agent, for which deadline it waits for its processor then
  pub waits_started : (agent : ℕ) → agent < length k.plan.unit.agents → waits_on k.plan.unit (map asked servers) agent ≡ deadline_at date seats agent (waits_on k.plan.unit k.servers.items agent)
  waits_started agent less =
      let home = processor_at k.plan.unit agent in
      let within : home < length k.servers.items = omega (arith, due.homes agent, is.served) in
      let old = server_there k.servers.items home within in
      let new = server_there servers home (omega (arith, within, as_many)) in
      ap (λ o. pending_deadline (ready_of o) agent) (mapped asked servers home new.0 new.1)
      ∙ own_then home old.0 new.0 old.1 new.1 agent less refl
      ∙ ap (λ o. deadline_at date seats agent (pending_deadline (ready_of o) agent)) (sym old.1)
