-- What one more cycle of a processor goes to: the last action of an agent, if to any.
use Rattle.std.proofs.Common.{◌≡◌, ◌∙◌, ◌⊎◌, refl, sym, ap, subst, ℕ, zero, suc, ◌+◌, ◌*◌, ◌<◌, ◌≤◌, ◌==◌, ◌&&◌, Bool, true, false, List, [], ◌∷◌, Option, Some, None, filter, length, nat_le, inl, inr, arith}
use Rattle.std.specs.Prelude.{if◌then◌else◌}
use Rattle.std.specs.List.{Contains}
use Rattle.std.proofs.lemmas.Bool.{and_left, and_right, eq-eqb, eqb-true, false≢true, ne_eqb}
use Rattle.std.proofs.lemmas.List.Elements.{All-contains}
use Rattle.std.proofs.lemmas.Option.{none-some, same_Some}
use Rattle.psy_lists.proofs.lemmas.Members.{contains_behind, contains_front, contains_none, filter_from, flat_map_from, front_or_behind}
use Rattle.psy_history.specs.Actions.{Action, System}
use Rattle.psy_history.specs.History.{history}
use Rattle.psy_history.specs.Processors.{processor_at, served}
use Rattle.psy_history.specs.Regular.{IsLawful, IsRegular}
use Rattle.psy_history.specs.Schedule.{Turn, is_of, is_pending, pending, sooner, soonest, turn_of, turns, units}
use Rattle.psy_history.specs.Scheduled.{IsFinished, IsSupplied, turns_by, turns_of}
use Rattle.psy_collect.proofs.Laws.{Earlier}

-- ---- numbers of cycles

pub as_many : (s : System) (order : ℕ → List ℕ) (processor cycles : ℕ) → length (turns_of s order cycles processor) ≡ cycles
as_many s order processor zero = refl
as_many s order processor (suc cycles) = ap suc (as_many s order processor cycles)

-- ---- the soonest

pub soonest_in : (rs : List Action) (r : Action) → soonest rs ≡ Some r → Contains rs r
soonest_in [] r at = absurd (none-some r at)
soonest_in (q ∷ rs) r at = by (soonest rs) (λ later is. soonest_in rs later is) at
  where
    by : (last : Option Action) → ((later : Action) → last ≡ Some later → Contains rs later) → sooner q last ≡ Some r → Contains (q ∷ rs) r
    by None is chosen = subst (Contains (q ∷ rs)) (same_Some q r chosen) (contains_front q rs)
    by (Some later) is chosen = on (nat_le q.deadline later.deadline) chosen
      where
        on : (b : Bool) → (if b then Some q else Some later) ≡ Some r → Contains (q ∷ rs) r
        on true e = subst (Contains (q ∷ rs)) (same_Some q r e) (contains_front q rs)
        on false e = contains_behind q rs r (is r e)

-- ---- whose turn it is

-- A turn of another agent or number is none of an action's.
pub not_of : (agent number : ℕ) (turn : Turn) → (turn.agent ≡ agent → turn.number ≡ number → ⊥) → is_of agent number (Some turn) ≡ false
not_of agent number turn other = by (turn.agent == agent) refl
  where
    by : (b : Bool) → (turn.agent == agent) ≡ b → is_of agent number (Some turn) ≡ false
    by false e = and_left (turn.agent == agent) (turn.number == number) e
    by true e = and_right (turn.agent == agent) (turn.number == number) (ne_eqb turn.number number (other (eqb-true turn.agent agent e)))

-- One of its own is.
pub own_of : (r : Action) → is_of r.agent r.number (turn_of (Some r)) ≡ true
own_of r = ap (λ b. b && r.number == r.number) (eq-eqb r.agent r.agent refl) ∙ eq-eqb r.number r.number refl

pub units_own : (r : Action) (turns : List (Option Turn)) → units r.agent r.number (turn_of (Some r) ∷ turns) ≡ units r.agent r.number turns + 1
units_own r turns = ap (λ b. if b then suc (units r.agent r.number turns) else units r.agent r.number turns) (own_of r) ∙ (let e : suc (units r.agent r.number turns) ≡ units r.agent r.number turns + 1 = omega arith in e)

pub units_other : (agent number : ℕ) (turn : Turn) (turns : List (Option Turn)) → (turn.agent ≡ agent → turn.number ≡ number → ⊥) → units agent number (Some turn ∷ turns) ≡ units agent number turns
units_other agent number turn turns other = ap (λ b. if b then suc (units agent number turns) else units agent number turns) (not_of agent number turn other)

-- ---- an agent's actions

module _ (s : System) (lawful : IsLawful s) (dates agent : ℕ) where
  pub agent_of : (r : Action) → Contains (history s dates agent) r → r.agent ≡ agent
  agent_of r c = (All-contains (IsRegular s agent) (history s dates agent) r (lawful.actions dates agent).each c).agent_is

  pub known_of : (r : Action) → Contains (history s dates agent) r → agent < length s.unit.agents
  known_of r c = (All-contains (IsRegular s agent) (history s dates agent) r (lawful.actions dates agent).each c).known

-- ---- the action that a cycle goes to

module _ (s : System) (order : ℕ → List ℕ) (until : ℕ) (supplied : IsSupplied s order until) (earlier : Earlier) where
  -- The action is the last of its agent, which is of the processor; it is pending.
  pub record IsGiven (dates cycle processor : ℕ) (r : Action) : Type 0 where
    pub before : List Action
    pub actions : history s dates r.agent ≡ r ∷ before
    pub home : processor_at s.unit r.agent ≡ processor
    pub known : r.agent < length s.unit.agents
    pub pending : is_pending (turns_of s order cycle processor) r ≡ true

  module _ (date cycle processor : ℕ) (early : date ≤ until) (low : date * s.unit.quantum ≤ cycle) (r : Action) where
    first_by : (agent : ℕ) (actions : List Action) → history s (date + 1) agent ≡ actions → Contains actions r → processor_at s.unit agent ≡ processor → is_pending (turns_of s order cycle processor) r ≡ true
        → (before : List Action) × (actions ≡ r ∷ before)
    first_by agent [] is c home waits = absurd (contains_none r c)
    first_by agent (q ∷ before) is c home waits = by (front_or_behind q before r c)
      where
        by : (q ≡ r) ⊎ Contains before r → (rest : List Action) × (q ∷ before ≡ r ∷ rest)
        by (inl same) = (before, ap (λ x. x ∷ before) same)
        by (inr behind) =
            let over = All-contains (IsFinished s order cycle) before r (earlier s order until date cycle agent q before supplied early low is) behind in
            let its = agent_of s supplied.lawful (date + 1) agent r (subst (λ rs. Contains rs r) (sym is) c) in
            let same : turns_by s order cycle r.agent ≡ turns_of s order cycle processor = ap (turns_of s order cycle) (ap (processor_at s.unit) its ∙ home) in
            absurd (false≢true (sym over ∙ ap (λ ts. is_pending ts r) same ∙ waits))

    pub given_one : soonest (pending (served s.unit processor (order cycle)) (turns_of s order cycle processor) (history s (date + 1))) ≡ Some r → IsGiven (date + 1) cycle processor r
    given_one chosen =
        let ts = turns_of s order cycle processor in
        let there = soonest_in (pending (served s.unit processor (order cycle)) ts (history s (date + 1))) r chosen in
        let (agent, serves, mine) = flat_map_from (λ agent. filter (is_pending ts) (history s (date + 1) agent)) (served s.unit processor (order cycle)) r there in
        let (c, waits) = filter_from (is_pending ts) (history s (date + 1) agent) r mine in
        let (of, is_home) = filter_from (λ agent. processor_at s.unit agent == processor) (order cycle) agent serves in
        let home = eqb-true (processor_at s.unit agent) processor is_home in
        let its = agent_of s supplied.lawful (date + 1) agent r c in
        let first = first_by agent (history s (date + 1) agent) refl c home waits in
        record {
          before = first.0;
          actions = ap (history s (date + 1)) its ∙ first.1;
          home = ap (processor_at s.unit) its ∙ home;
          known = subst (λ a. a < length s.unit.agents) (sym its) (known_of s supplied.lawful (date + 1) agent r c);
          pending = waits;
        }
