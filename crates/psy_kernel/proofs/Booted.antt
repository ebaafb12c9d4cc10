-- What a kernel begins with.
use Rattle.std.proofs.Common.{◌≡◌, ℤ, ℕ, zero, suc, ◌+◌, ◌<◌, ◌==◌, Bool, true, false, if◌then◌else◌, List, [], ◌∷◌, ◌++◌, map, filter, length, replicate, get_or, Option, Some, None, refl, sym, ap, subst, ◌∙◌, inl, inr, arith}
use Rattle.std.specs.List.{AllPairs, range_with_len, slice_get}
use Rattle.std.proofs.lemmas.Bool.{cases_eq, eqb-false, eqb-true, true≢false}
use Rattle.std.proofs.lemmas.List.{length-replicate}
use Rattle.std.proofs.lemmas.Option.{get_or_from_slice_get, slice_get_within}
use Rattle.std.proofs.lemmas.List.Elements.{All-contains, Contains-get_or, filter_passes}
use Rattle.std.proofs.lemmas.List.FromFn.{get_or-map-range_with_len, length-map-range_with_len, map-range_with_len_more}
use Rattle.std.proofs.lemmas.List.Kept.{AllPairs-filter}
use Rattle.psy_budget.specs.declared.charge.Stall.{Stall}
use Rattle.psy_budget.specs.Charges.{StallsRise}
use Rattle.psy_code.specs.declared.code.Code.{Code}
use Rattle.psy_machine.specs.Stepping.{IsNew, IsOf}
use Rattle.psy_base.specs.Extremes.{least_of}
use Rattle.psy_history.specs.Actions.{System}
use Rattle.psy_history.specs.Summary.{added_to, numbers_in}
use Rattle.psy_dates.specs.declared.plan.Plan.{Plan}
use Rattle.psy_kernel.specs.declared.engine.Figure.{Figure}
use Rattle.psy_kernel.specs.declared.engine.Runner.{Runner}
use Rattle.psy_history.specs.declared.told.Order.{Order}
use Rattle.psy_history.specs.declared.told.Script.{Script}
use Rattle.psy_tree.specs.declared.unit.Unit.{Unit as Whole}
use Rattle.psy_ready.specs.Choice.{pending_deadline}
use Rattle.psy_kernel.specs.Engines.{EngineState, begun}
use Rattle.psy_kernel.specs.Starting.{first_server}
use Rattle.psy_kernel.proofs.Engines.{cycles_of}
use Rattle.psy_history.specs.Scripts.{StallBefore}
use Rattle.psy_kernel.specs.Standing.{AgentStands, AreInForce, InTick, ServerStands, ready_of, waits_on}
use Rattle.psy_kernel.specs.declared.engine.Server.{Server}
use Rattle.psy_history.specs.Processors.{processor_at, processors}

-- The stalls of one agent rise by action and instruction
pub own_rise : (agent : ℕ) (stalls : List Stall) → AllPairs StallBefore stalls → StallsRise (filter (λ (s : Stall). s.agent == agent) stalls)
own_rise agent stalls rise i j d ij jl =
    let is_own = λ (s : Stall). s.agent == agent in
    let own = filter is_own stalls in
    let its : (k : ℕ) → k < length own → (get_or own k d).agent ≡ agent = λ k l. eqb-true (get_or own k d).agent agent (All-contains (λ (s : Stall). is_own s ≡ true) own (get_or own k d) (filter_passes is_own stalls) (Contains-get_or own k d l)) in
    elim (AllPairs-filter StallBefore is_own stalls rise i j d ij jl) [
      | inl less ↦ absurd (omega (arith, less, its i (omega (arith, ij, jl)), its j jl))
      | inr same ↦ same.1
    ]

pub made_at : {X : Type 0} (made : ℕ → X) (n place : ℕ) (x : X) → slice_get (map made (range_with_len 0 n)) place ≡ Some x → x ≡ made place
made_at made n place x e =
    let xs = map made (range_with_len 0 n) in
    let l : place < n = omega (arith, slice_get_within xs place x e, length-map-range_with_len made 0 n) in
    sym (get_or_from_slice_get xs place x x e) ∙ get_or-map-range_with_len made 0 n place place x l (omega arith)

pub replicated_at : {X : Type 0} (v : X) (n place : ℕ) (x : X) → slice_get (replicate n v) place ≡ Some x → x ≡ v
replicated_at v zero place x e = absurd (cc)
replicated_at v (suc n) zero x e = cc
replicated_at v (suc n) (suc place) x e = replicated_at v n place x e

pub range_more : (a n j : ℕ) → a + n ≡ j → range_with_len a (n + 1) ≡ range_with_len a n ++ j ∷ []
range_more a n j e = sym (map_same (range_with_len a (n + 1))) ∙ map-range_with_len_more (λ k. k) a n j e ∙ ap (λ ks. ks ++ j ∷ []) (map_same (range_with_len a n))
  where
    map_same : (ks : List ℕ) → map (λ k. k) ks ≡ ks
    map_same [] = refl
    map_same (k ∷ ks) = ap (λ js. k ∷ js) (map_same ks)

-- ---- the orders

abbrev Rise : List Order → Type 0
Rise orders = AllPairs (λ o p. o.cycle < p.cycle) orders

later : (orders : List Order) (first o : Order) (place : ℕ) → Rise orders → slice_get orders 0 ≡ Some first → slice_get orders place ≡ Some o → 0 < place → first.cycle < o.cycle
later orders first o place rise head e l =
    let less = rise 0 place first l (slice_get_within orders place o e) in
    subst (λ p. first.cycle < p.cycle) (get_or_from_slice_get orders place o first e) (subst (λ p. p.cycle < (get_or orders place first).cycle) (get_or_from_slice_get orders 0 first first head) less)

pub in_force_at_first : (orders : List Order) (first : Order) (b : Bool) → Rise orders → slice_get orders 0 ≡ Some first → (first.cycle == 0) ≡ b → AreInForce orders (if b then 1 else 0) 0
in_force_at_first orders first true rise head e =
    let zero_first = eqb-true first.cycle 0 e in
    record {
      within = omega (arith, slice_get_within orders 0 first head);
      come = λ place o at l. (let here : slice_get orders 0 ≡ Some o = subst (λ k. slice_get orders k ≡ Some o) (omega (arith, l)) at in let same : first ≡ o = (let both : Some first ≡ Some o = sym head ∙ here in cc) in omega (arith, zero_first, ap (λ (p : Order). p.cycle) same));
      ahead = λ place o at l. omega (arith, later orders first o place rise head at (omega (arith, l)), zero_first);
    }
in_force_at_first orders first false rise head e =
    let differs = eqb-false first.cycle 0 e in
    record {
      within = omega arith;
      come = λ place o at l. absurd (omega (arith, l));
      ahead = λ place o at l. elim (cases_eq place 0) [
        | inl is ↦ (let here : slice_get orders 0 ≡ Some o = subst (λ k. slice_get orders k ≡ Some o) is at in let same : first ≡ o = (let both : Some first ≡ Some o = sym head ∙ here in cc) in omega (arith, differs, ap (λ (p : Order). p.cycle) same))
        | inr other ↦ omega (arith, later orders first o place rise head at (omega (arith, other)))
      ];
    }

-- ---- an agent that hasn't started

pub first_stands : (s : System) (code : Code) (until agent : ℕ) (runner : Runner) (waits : Option ℕ) → runner.charge ≡ record { stalls = s.stalls agent; started = 0; budget = 0; consumed = 0; paid = 0 } → IsNew code agent runner.machine → IsOf code runner.machine → waits ≡ None → runner.figure ≡ record { count = 0; slack = None } → s.opening.count agent ≡ 0 → s.opening.slack agent ≡ None → AgentStands s code [] until agent [] runner waits
first_stands s code until agent runner waits charged new of_code idle empty uncounted unslacked = record {
  charged = λ loud. charged;
  is_agent = new.2;
  of_code = of_code;
  executes = λ loud. new;
  ready = idle;
  counted = ap (λ (f : Figure). f.count) empty ∙ sym (ap (λ n. added_to n 0) uncounted);
  slacked = ap (λ (f : Figure). f.slack) empty ∙ sym (ap (λ o. least_of (numbers_in o ++ [])) unslacked);
}

-- ---- the processors before their first cycle

pub none_waits : (agents agent : ℕ) → pending_deadline (replicate agents None) agent ≡ None
none_waits zero agent = refl
none_waits (suc agents) zero = refl
none_waits (suc agents) (suc agent) = none_waits agents agent

module _ (agents passed : ℕ) where
  pub first_cycles : (n processor : ℕ) → cycles_of (replicate n (first_server agents passed)) processor ≡ 0
  first_cycles zero processor = refl
  first_cycles (suc n) zero = refl
  first_cycles (suc n) (suc processor) = first_cycles n processor

  first_ready : (n processor agent : ℕ) → pending_deadline (ready_of (slice_get (replicate n (first_server agents passed)) processor)) agent ≡ None
  first_ready zero processor agent = refl
  first_ready (suc n) zero agent = none_waits agents agent
  first_ready (suc n) (suc processor) agent = first_ready n processor agent

  pub first_waits : (unit : Whole) (n agent : ℕ) → waits_on unit (replicate n (first_server agents passed)) agent ≡ None
  first_waits unit n agent = first_ready n (processor_at unit agent) agent

  first_done : (n : ℕ) → map (λ (server : Server). server.cycles) (replicate n (first_server agents passed)) ≡ replicate n 0
  first_done zero = refl
  first_done (suc n) = ap (λ cycles. 0 ∷ cycles) (first_done n)

  pub first_one : (e : EngineState) (processor : ℕ) → e.dates ≡ 0 → agents ≡ length e.plan.unit.agents → AreInForce e.script.orders passed 0 → ServerStands e processor (first_server agents passed)
  first_one e processor none count orders = record {
    in_tick = subst (λ d. InTick e.plan.unit.quantum e.plan.until d 0) (sym none) refl;
    waiting = length-replicate agents None ∙ count;
    own = λ agent differs. none_waits agents agent;
    orders = orders;
    choice = λ fresh. absurd (true≢false fresh);
  }

  pub view_booted : (plan : Plan) (script : Script) (inputs lists : List (List ℤ)) (dates n : ℕ) (servers : List Server) → lists ≡ inputs → dates ≡ 0 → n ≡ processors plan.unit → servers ≡ replicate n (first_server agents passed)
      → ◌≡◌ {A = EngineState} (record { plan = plan; inputs = lists; script = script; opening = None; dates = dates; done = map (λ (server : Server). server.cycles) servers; given = 0 }) (begun plan inputs script)
  view_booted plan script inputs lists dates n servers same none count are =
      let done : map (λ (server : Server). server.cycles) servers ≡ replicate (processors plan.unit) 0 = ap (map (λ (server : Server). server.cycles)) are ∙ first_done n ∙ ap (λ m. replicate m 0) count in
      cc (same, none, done)
