-- A processor for which nobody waits, and the order that came into force with its last cycle.
use Rattle.std.proofs.Common.{◌≡◌, refl, sym, ap, ◌∙◌, subst, inl, inr, arith}
use Rattle.std.specs.Prelude.{ℕ, ◌-◌, ◌<◌, ◌≤◌, Bool, true, false, not, List, length, get_or, map, MatchOption, Option, None, Some, is_some, slice_get}
use Rattle.std.specs.List.{AllPairs}
use Rattle.std.proofs.lemmas.Bool.{cases_lt, true≢false}
use Rattle.std.proofs.lemmas.List.{length-map}
use Rattle.std.proofs.lemmas.Option.{get_or_from_slice_get, slice_get-get_or, slice_get_read, slice_get_within}
use Rattle.psy_dates.specs.Standing.{dates_done}
use Rattle.psy_history.specs.Schedule.{is_pending}
use Rattle.psy_history.specs.declared.told.Order.{Order}
use Rattle.psy_ready.specs.Choice.{pending_deadline}
use Rattle.psy_kernel.specs.Engines.{EngineState, IsIdleOn, IsOrderedBy, done_on, next_date, turns_on}
use Rattle.psy_kernel.specs.Standing.{AreInForce, EngineStands, state_of}
use Rattle.psy_kernel.specs.declared.engine.Engine.TheInside.{Inside}
use Rattle.psy_kernel.specs.declared.engine.Server.{Server}
use Rattle.psy_kernel.proofs.CyclesGiven.{nobody_acts}
use Rattle.psy_kernel.proofs.Engines.{AreCycleLaws, cycles_is, is_due}

-- Nobody was picked
pub nobody_picked : {Q : Type 0} (P : ℕ → Type 0) (picked : Option ℕ) → MatchOption picked Q P → (none : Bool) → is_some picked ≡ not none → none ≡ true → Q
nobody_picked P None nobody none e it = nobody
nobody_picked P (Some agent) its none e it = absurd (true≢false (e ∙ ap not it))

-- The processor that is read
pub there : (k : Inside) (e : EngineState) → state_of k ≡ e → (processor : ℕ) (server : Server) → processor < length e.done → server ≡ get_or k.servers.items processor server → slice_get k.servers.items processor ≡ Some server
there k e view processor server known read =
    let less : processor < length (map (λ (s : Server). s.cycles) k.servers.items) = subst (λ (q : EngineState). processor < length q.done) (sym view) known in
    slice_get_read k.servers.items (length k.servers.items) processor server refl (omega (arith, less, length-map k.servers.items (λ (s : Server). s.cycles))) read

module _ (k : Inside) (is : EngineStands k) (processor : ℕ) (server : Server) (at : slice_get k.servers.items processor ≡ Some server) (e : EngineState) (view : state_of k ≡ e) where
  done_in : done_on (state_of k) processor ≡ server.cycles
  done_in = cycles_is k.servers.items processor server at

  -- nobody waits
  pub idle_there : k.plan.until ≤ 4294967295 → e.dates ≤ e.plan.until → done_on e processor < next_date e → AreCycleLaws → ((agent : ℕ) → pending_deadline server.ready agent ≡ None) → IsIdleOn e processor
  idle_there most early due laws nobody =
      let early_in : dates_done k.shared.date ≤ k.plan.until = subst (λ (q : EngineState). q.dates ≤ q.plan.until) (sym view) early in
      let less = subst (λ (q : EngineState). done_on q processor < next_date q) (sym view) due in
      let d = is_due k is processor server at most early_in (subst (λ c. c < next_date (state_of k)) done_in less) laws in
      let idle : IsIdleOn (state_of k) processor = λ agent r of there. subst (λ c. is_pending (turns_on (state_of k) processor c) r ≡ false) (sym done_in) (nobody_acts k is processor server d nobody agent r of there) in
      subst (λ (q : EngineState). IsIdleOn q processor) view idle

  -- ---- the order whose cycle it is

  last_order : (orders : List Order) → AllPairs (λ (o p : Order). o.cycle < p.cycle) orders → (passed cycle : ℕ) → AreInForce orders passed cycle → (place : ℕ) (o : Order) → slice_get orders place ≡ Some o → o.cycle ≡ cycle
      → (last : Order) → slice_get orders (passed - 1) ≡ Some last → last.cycle ≡ cycle
  last_order orders rise passed cycle force place o there here last last_there = elim (cases_lt place passed) [
    | inr later ↦ (let ahead = force.ahead place o there later in absurd (omega (arith, ahead, here)))
    | inl come ↦ elim (cases_lt place (passed - 1)) [
      | inr more ↦ (
          let same : passed - 1 ≡ place = omega (arith, come, more) in
          let both : Some last ≡ Some o = sym last_there ∙ ap (slice_get orders) same ∙ there in
          let one : last ≡ o = cc in
          ap (λ (q : Order). q.cycle) one ∙ here)
      | inl before ↦ (
          let up = force.come (passed - 1) last last_there (omega (arith, come)) in
          let less = rise_at orders rise place (passed - 1) o last before there last_there in
          absurd (omega (arith, here, up, less)))
    ]
  ]
    where
      rise_at : (orders : List Order) → AllPairs (λ (o p : Order). o.cycle < p.cycle) orders → (i j : ℕ) (o p : Order) → i < j → slice_get orders i ≡ Some o → slice_get orders j ≡ Some p → o.cycle < p.cycle
      rise_at orders rise i j o p less a b =
          let rises = rise i j o less (slice_get_within orders j p b) in
          let first = ap (λ (q : Order). q.cycle) (get_or_from_slice_get orders i o o a) in
          let second = ap (λ (q : Order). q.cycle) (get_or_from_slice_get orders j p o b) in
          omega (arith, rises, first, second)

  -- the last one that has come into force, as it is read
  pub last_within : (orders : List Order) → orders ≡ k.script.orders → 0 < server.passed → server.passed - 1 < length orders
  last_within orders orders_are some = omega (arith, some, (is.servers processor server at).orders.within, ap length orders_are)

  pub last_read : (orders : List Order) → orders ≡ k.script.orders → 0 < server.passed → (o : Order) → slice_get orders (server.passed - 1) ≡ Some (get_or orders (server.passed - 1) o)
  last_read orders orders_are some o = slice_get-get_or orders (server.passed - 1) o (last_within orders orders_are some)

  pub ordered_there : (orders : List Order) → orders ≡ k.script.orders → (last : Order) → slice_get orders (server.passed - 1) ≡ Some last → last.cycle ≡ server.cycles → IsOrderedBy e (done_on e processor)
  ordered_there orders orders_are last there same =
      let by : IsOrderedBy (state_of k) (done_on (state_of k) processor) = (server.passed - 1, last, ap (λ os. slice_get os (server.passed - 1)) (sym orders_are) ∙ there, same ∙ sym done_in) in
      subst (λ (q : EngineState). IsOrderedBy q (done_on q processor)) view by

  pub unordered_none : server.passed ≡ 0 → IsOrderedBy e (done_on e processor) → ⊥
  unordered_none none ordered =
      let by : IsOrderedBy (state_of k) (done_on (state_of k) processor) = subst (λ (q : EngineState). IsOrderedBy q (done_on q processor)) (sym view) ordered in
      let ahead = (is.servers processor server at).orders.ahead by.0 by.1 by.2 (omega (arith, none)) in
      omega (arith, ahead, by.3, done_in)

  pub unordered_other : (orders : List Order) → orders ≡ k.script.orders → (last : Order) → slice_get orders (server.passed - 1) ≡ Some last → (last.cycle ≡ server.cycles → ⊥) → IsOrderedBy e (done_on e processor) → ⊥
  unordered_other orders orders_are last there other ordered =
      let by : IsOrderedBy (state_of k) (done_on (state_of k) processor) = subst (λ (q : EngineState). IsOrderedBy q (done_on q processor)) (sym view) ordered in
      other (last_order k.script.orders is.script.orders_rise server.passed server.cycles (is.servers processor server at).orders by.0 by.1 by.2 (by.3 ∙ done_in) last (ap (λ os. slice_get os (server.passed - 1)) (sym orders_are) ∙ there))
