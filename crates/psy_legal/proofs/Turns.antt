-- What a cycle goes to: a pending action, of those started by then.
use Rattle.std.proofs.Common.{◌≡◌, ℕ, ◌+◌, ◌/◌, ◌<◌, ◌≤◌, List, length, refl, sym, ◌∙◌, subst, arith, suc, ap, zero}
use Rattle.std.specs.Prelude.{true, ◌==◌, Option, Some, None}
use Rattle.std.specs.List.{Contains}
use Rattle.std.proofs.lemmas.Bool.{and_parts, eqb-true}
use Rattle.psy_history.proofs.lemmas.MoreUnits.{units_more}
use Rattle.psy_history.specs.Actions.{Action, System}
use Rattle.psy_history.specs.History.{history}
use Rattle.psy_history.specs.Processors.{served}
use Rattle.psy_history.specs.Schedule.{Turn, is_of, pending, soonest, turn_of, turns, units, work}
use Rattle.psy_legal.proofs.Growth.{kept_on}
use Rattle.psy_legal.proofs.Numbers.{agent_of, one_of_number}
use Rattle.psy_legal.proofs.Soonest.{IsSoonest, pending_from, soonest_is}

-- What the first so many cycles of a processor go to, which serves agents in these orders
abbrev pub turns_in : System → (ℕ → List ℕ) → ℕ → List (Option Turn)
turns_in s order cycles = turns order s.unit.quantum (history s) cycles

-- The orders in which a processor serves its own agents
abbrev pub serving : System → (ℕ → List ℕ) → ℕ → ℕ → List ℕ
serving s order processor cycle = served s.unit processor (order cycle)

-- ---- the next cycle

-- What the cycle behind the first so many ones goes to
abbrev pub next_turn : System → (ℕ → List ℕ) → ℕ → Option Turn
next_turn s order cycles = turn_of (soonest (pending (order cycles) (turns_in s order cycles) (history s (cycles / s.unit.quantum + 1))))

turn_cases : (found : Option Action) (agent number : ℕ) → is_of agent number (turn_of found) ≡ true → (q : Action) × (found ≡ Some q) × (q.agent ≡ agent) × (q.number ≡ number)
turn_cases None agent number e = cc
turn_cases (Some q) agent number e = (let both = and_parts (q.agent == agent) (q.number == number) e in (q, refl, eqb-true q.agent agent both.0, eqb-true q.number number both.1))

module _ (s : System) (order : ℕ → List ℕ) (cycles : ℕ) where
  -- where it goes to an action of this number, it is a pending one of those started
  pub next_of_number : (agent number : ℕ) → is_of agent number (next_turn s order cycles) ≡ true →
      (q : Action) × Contains (history s (cycles / s.unit.quantum + 1) agent) q × (q.number ≡ number) × (units q.agent q.number (turns_in s order cycles) < work q)
  next_of_number agent number e =
      let dates = cycles / s.unit.quantum + 1 in
      let actions : List Action = pending (order cycles) (turns_in s order cycles) (history s dates) in
      let (q, found, of_agent, of_number) = turn_cases (soonest actions) agent number e in
      let first = subst (IsSoonest actions) found (soonest_is actions) in
      let (place, known, there, less) = pending_from (order cycles) (turns_in s order cycles) (history s dates) q first.0 in
      let same : place ≡ agent = sym (agent_of s dates place q there) ∙ of_agent in
      (q, subst (λ n. Contains (history s dates n) q) same there, of_number, less)

  -- where it goes to an action, that one was pending
  pub next_is_pending : (dates agent : ℕ) (r : Action) → Contains (history s dates agent) r → is_of r.agent r.number (next_turn s order cycles) ≡ true → units r.agent r.number (turns_in s order cycles) < work r
  next_is_pending dates agent r c e =
      let known : r.agent ≡ agent = agent_of s dates agent r c in
      let (q, there, of_number, less) = next_of_number agent r.number (subst (λ n. is_of n r.number (next_turn s order cycles) ≡ true) known e) in
      let same : q ≡ r = one_of_number s (cycles / s.unit.quantum + 1) dates agent q r there c of_number in
      subst (λ (x : Action). units x.agent x.number (turns_in s order cycles) < work x) same less

-- ---- units don't fall

pub units_rise : (s : System) (order : ℕ → List ℕ) (agent number cycles more : ℕ) → cycles ≤ more → units agent number (turns_in s order cycles) ≤ units agent number (turns_in s order more)
units_rise s order agent number cycles more l =
    kept_on (λ n. units agent number (turns_in s order cycles) ≤ units agent number (turns_in s order n)) (λ n few. omega (arith, few, units_more agent number (next_turn s order n) (turns_in s order n))) cycles more l (omega arith)

pub as_many : (s : System) (order : ℕ → List ℕ) (cycles : ℕ) → length (turns_in s order cycles) ≡ cycles
as_many s order zero = refl
as_many s order (suc cycles) = ap suc (as_many s order cycles)
