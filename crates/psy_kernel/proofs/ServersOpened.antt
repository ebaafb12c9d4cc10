-- The processors of a run that goes on from a state, once the actions have started that start at the state's date.
use Rattle.std.proofs.Common.{◌≡◌, ℕ, zero, suc, ◌*◌, ◌<◌, ◌≤◌, ◌==◌, List, [], ◌∷◌, length, map, replicate, Some, None, refl, ap, sym, subst, ◌∙◌, inl, inr, arith}
use Rattle.std.specs.List.{All, slice_get}
use Rattle.std.proofs.lemmas.Bool.{cases_lt, cond-false, cond-true, eq-eqb, ne_eqb, true≢false}
use Rattle.std.proofs.lemmas.List.{get_or_past, length-replicate}
use Rattle.std.proofs.lemmas.Option.{get_or_from_slice_get, slice_get_within}
use Rattle.psy_dates.specs.declared.seat.Seat.{Seat}
use Rattle.psy_dates.specs.Movers.{IsDoneBelow}
use Rattle.psy_history.specs.Processors.{processor_at}
use Rattle.psy_ready.specs.Choice.{pending_deadline}
use Rattle.psy_tree.specs.declared.unit.Unit.{Unit as Whole}
use Rattle.psy_kernel.specs.declared.engine.Server.{Server}
use Rattle.psy_kernel.specs.Engines.{EngineState}
use Rattle.psy_kernel.specs.Resuming.{server_behind}
use Rattle.psy_kernel.specs.Standing.{AreInForce, InTick, ServerStands, ready_of, waits_on}
use Rattle.psy_kernel.specs.Starting.{deadline_at, deadline_on, home_at}
use Rattle.psy_kernel.proofs.Booted.{none_waits}
use Rattle.psy_kernel.proofs.Dated.{tick_after}
use Rattle.psy_kernel.proofs.Engines.{cycles_is, cycles_of, server_there}
use Rattle.psy_kernel.proofs.Homes.{home_is}

there_in : {X : Type 0} (v : X) (n place : ℕ) → place < n → slice_get (replicate n v) place ≡ Some v
there_in v zero place less = absurd (omega (arith, less))
there_in v (suc n) zero less = refl
there_in v (suc n) (suc place) less = there_in v n place (omega (arith, less))

all_did : (cycles : ℕ) (servers : List Server) (n : ℕ) → length servers ≡ n
    → ((place : ℕ) (x : Server) → slice_get servers place ≡ Some x → x.cycles ≡ cycles) → map (λ (server : Server). server.cycles) servers ≡ replicate n cycles
all_did cycles [] zero count did = refl
all_did cycles [] (suc n) count did = absurd (omega (arith, count))
all_did cycles (x ∷ servers) zero count did = absurd (omega (arith, count))
all_did cycles (x ∷ servers) (suc n) count did =
    ap (λ c. c ∷ map (λ (server : Server). server.cycles) servers) (did 0 x refl) ∙ ap (λ cs. cycles ∷ cs) (all_did cycles servers n (omega (arith, count)) (λ place. did (suc place)))

-- Before they start nobody waits.
pub free_behind : (agents passed cycles homes : ℕ) (processor agent : ℕ)
    → pending_deadline (ready_of (slice_get (replicate homes (server_behind agents passed cycles)) processor)) agent ≡ None
free_behind agents passed cycles zero processor agent = refl
free_behind agents passed cycles (suc homes) zero agent = none_waits agents agent
free_behind agents passed cycles (suc homes) (suc processor) agent = free_behind agents passed cycles homes processor agent

-- There is room for each agent.
pub room_behind : (agents passed cycles homes : ℕ)
    → All (λ (server : Server). length server.ready ≡ agents) (replicate homes (server_behind agents passed cycles))
room_behind agents passed cycles homes place d less =
    subst (λ (server : Server). length server.ready ≡ agents) (sym (get_or_from_slice_get (replicate homes first) place first d (there_in first homes place (omega (arith, less, length-replicate homes first))))) (length-replicate agents None)
  where
    first : Server
    first = server_behind agents passed cycles

-- What the actions that start at a date make of processors for which nobody waited
abbrev pub AreStarted : Whole → ℕ → List Seat → List Server → List Server → Type 0
AreStarted unit date seats before after = (processor : ℕ) (old new : Server) → slice_get before processor ≡ Some old → slice_get after processor ≡ Some new
    → (new ≡ record old { ready = new.ready }) × IsDoneBelow (deadline_on date unit.agents seats processor) (length unit.agents) old.ready new.ready

module _ (unit : Whole) (date passed cycles homes : ℕ) (seats : List Seat) (servers : List Server) (as_many : length servers ≡ homes)
    (started : AreStarted unit date seats (replicate homes (server_behind (length unit.agents) passed cycles)) servers) where
  abbrev first : Server
  first = server_behind (length unit.agents) passed cycles

  module _ (processor : ℕ) (new : Server) (there : slice_get servers processor ≡ Some new) where
    within : processor < homes
    within = omega (arith, slice_get_within servers processor new there, as_many)

    same : new ≡ record first { ready = new.ready }
    same = (started processor first new (there_in first homes processor within) there).0

    starts : IsDoneBelow (deadline_on date unit.agents seats processor) (length unit.agents) first.ready new.ready
    starts = (started processor first new (there_in first homes processor within) there).1

    count : length new.ready ≡ length unit.agents
    count = starts.count ∙ length-replicate (length unit.agents) None

    did : new.cycles ≡ cycles
    did = ap (λ (server : Server). server.cycles) same

    waits_then : (agent : ℕ) → agent < length unit.agents → pending_deadline new.ready agent ≡ deadline_on date unit.agents seats processor agent None
    waits_then agent less = get_or_from_slice_get new.ready agent _ None (starts.done agent None less (there_in None (length unit.agents) agent less))

    own_then : (agent : ℕ) → agent < length unit.agents → processor_at unit agent ≡ processor
        → pending_deadline new.ready agent ≡ deadline_at date seats agent None
    own_then agent less of =
        waits_then agent less ∙ cond-true (home_at unit.agents agent == processor) (deadline_at date seats agent None) None (eq-eqb (home_at unit.agents agent) processor (home_is unit agent ∙ of))

    other_then : (agent : ℕ) → (processor_at unit agent ≡ processor → ⊥) → pending_deadline new.ready agent ≡ None
    other_then agent differs = elim (cases_lt agent (length unit.agents)) [
      | inl less ↦ waits_then agent less ∙ cond-false (home_at unit.agents agent == processor) (deadline_at date seats agent None) None (ne_eqb (home_at unit.agents agent) processor (λ e. differs (sym (home_is unit agent) ∙ e)))
      | inr more ↦ get_or_past new.ready agent None (omega (arith, more, count))
    ]

    pub server_opened : (e : EngineState) → e.plan.unit ≡ unit → e.dates ≡ suc date → date ≤ e.plan.until → cycles ≡ date * unit.quantum
        → AreInForce e.script.orders passed cycles → ServerStands e processor new
    server_opened e unit_is dates near full orders = record {
      in_tick = subst (λ d. InTick e.plan.unit.quantum e.plan.until d new.cycles) (sym dates) (tick_after e.plan.unit.quantum e.plan.until date new.cycles near (did ∙ full ∙ ap (λ (u : Whole). date * u.quantum) (sym unit_is)));
      waiting = count ∙ ap (λ (u : Whole). length u.agents) (sym unit_is);
      own = subst (λ u. (agent : ℕ) → (processor_at u agent ≡ processor → ⊥) → pending_deadline new.ready agent ≡ None) (sym unit_is) other_then;
      orders = subst (AreInForce e.script.orders new.passed) (sym did) (subst (λ n. AreInForce e.script.orders n cycles) (sym (ap (λ (server : Server). server.passed) same)) orders);
      choice = λ fresh. absurd (true≢false (sym (ap (λ (server : Server). server.stale) same) ∙ fresh));
    }

  pub done_opened : map (λ (server : Server). server.cycles) servers ≡ replicate homes cycles
  done_opened = all_did cycles servers homes as_many did

  pub cycles_opened : (processor : ℕ) → processor < homes → cycles_of servers processor ≡ cycles
  cycles_opened processor less = (let new = server_there servers processor (omega (arith, less, as_many)) in cycles_is servers processor new.0 new.1 ∙ did processor new.0 new.1)

  -- by agent, for which deadline it waits for its processor then
  pub waits_opened : ((agent : ℕ) → processor_at unit agent < homes) → (agent : ℕ) → agent < length unit.agents
      → waits_on unit servers agent ≡ deadline_at date seats agent None
  waits_opened known agent less =
      let new = server_there servers (processor_at unit agent) (omega (arith, known agent, as_many)) in
      ap (λ o. pending_deadline (ready_of o) agent) new.1 ∙ own_then (processor_at unit agent) new.0 new.1 agent less refl
