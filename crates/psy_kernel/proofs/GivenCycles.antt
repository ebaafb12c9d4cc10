-- Cycles in a row that go to one action, or to nobody: who is pending stays so, and so does the turn.
use Rattle.std.proofs.Common.{◌≡◌, refl, sym, ap, ◌∙◌, subst, arith}
use Rattle.std.specs.Prelude.{ℕ, zero, suc, ◌+◌, ◌-◌, ◌*◌, ◌<◌, ◌≤◌, ◌==◌, Bool, true, false, nat_lt, if◌then◌else◌, List, [], ◌∷◌, ◌++◌, filter, Option, Some, None}
use Rattle.std.specs.List.{All}
use Rattle.std.proofs.lemmas.Bool.{cond-true, cond-false, eq-eqb, lt-ltb, ltb-true, ne_eqb}
use Rattle.std.proofs.lemmas.List.Elements.{All-cons, All-weaker}
use Rattle.psy_history.proofs.lemmas.MoreUnits.{units_more}
use Rattle.psy_history.specs.Actions.{Action, History, System}
use Rattle.psy_history.specs.History.{history}
use Rattle.psy_history.specs.Processors.{processor_at, served}
use Rattle.psy_history.specs.Schedule.{Turn, is_of, is_pending, pending, soonest, turn_of, units, work}
use Rattle.psy_history.specs.Scheduled.{gone_to, turns_of}
use Rattle.psy_history.specs.Summary.{reach}
use Rattle.psy_kernel.specs.Stretches.{given_on, given_to}
use Rattle.psy_tree.specs.declared.unit.Unit.{Unit as Whole}
use Rattle.psy_kernel.proofs.CyclesDone.{next_turn}
use Rattle.psy_kernel.proofs.OtherAgents.{AreSameFor, filter_agree_on, missed, other_number}

-- An action that is pending before and behind some cycles, or neither
abbrev pub StaysSo : List (Option Turn) → List (Option Turn) → Action → Type 0
StaysSo turns now r = is_pending now r ≡ is_pending turns r

-- ---- actions that don't get the cycles

pub missed_all : (turn : Option Turn) (turns : List (Option Turn)) (r : Action) → is_of r.agent r.number turn ≡ false → (n : ℕ) → AreSameFor turns (given_to turn n turns) r
missed_all turn turns r h zero = record { units = refl; finish = refl }
missed_all turn turns r h (suc n) =
    let before = missed_all turn turns r h n in
    let last = missed turn (given_to turn n turns) r h in
    record { units = last.units ∙ before.units; finish = last.finish ∙ before.finish }

-- ---- by agent

-- What they leave to an agent of their processor
pub own_given : (unit : Whole) (processor agent : ℕ) (turn : Option Turn) (turns : ℕ → List (Option Turn)) → processor_at unit agent ≡ processor → (n : ℕ) → given_on unit processor turn n turns agent ≡ given_to turn n (turns agent)
own_given unit processor agent turn turns of zero = refl
own_given unit processor agent turn turns of (suc n) =
    let before = own_given unit processor agent turn turns of n in
    let now = given_on unit processor turn n turns agent in
    cond-true (processor_at unit agent == processor) (turn ∷ now) now (eq-eqb (processor_at unit agent) processor of) ∙ ap (λ ts. turn ∷ ts) before

-- And to an agent of another one
pub others_given : (unit : Whole) (processor agent : ℕ) (turn : Option Turn) (turns : ℕ → List (Option Turn)) → (processor_at unit agent ≡ processor → ⊥) → (n : ℕ) → given_on unit processor turn n turns agent ≡ turns agent
others_given unit processor agent turn turns differs zero = refl
others_given unit processor agent turn turns differs (suc n) =
    let now = given_on unit processor turn n turns agent in
    cond-false (processor_at unit agent == processor) (turn ∷ now) now (ne_eqb (processor_at unit agent) processor differs) ∙ others_given unit processor agent turn turns differs n

-- An action that doesn't get them is left as it is, whichever processor they are of.
missed_by : (test : Bool) (turn : Option Turn) (turns now : List (Option Turn)) (r : Action) → is_of r.agent r.number turn ≡ false → AreSameFor turns now r → AreSameFor turns (if test then turn ∷ now else now) r
missed_by true turn turns now r h before = (let last = missed turn now r h in record { units = last.units ∙ before.units; finish = last.finish ∙ before.finish })
missed_by false turn turns now r h before = before

pub missed_on : (unit : Whole) (processor agent : ℕ) (turn : Option Turn) (turns : ℕ → List (Option Turn)) (r : Action) → is_of r.agent r.number turn ≡ false → (n : ℕ) → AreSameFor (turns agent) (given_on unit processor turn n turns agent) r
missed_on unit processor agent turn turns r h zero = record { units = refl; finish = refl }
missed_on unit processor agent turn turns r h (suc n) =
    missed_by (processor_at unit agent == processor) turn (turns agent) (given_on unit processor turn n turns agent) r h (missed_on unit processor agent turn turns r h n)

pub same_stays : (turns now : List (Option Turn)) (r : Action) → AreSameFor turns now r → StaysSo turns now r
same_stays turns now r same = ap (λ n. nat_lt n (work r)) same.units

-- ---- the action that gets them

units_rise : (agent number : ℕ) (turn : Option Turn) (turns : List (Option Turn)) (k n : ℕ) → units agent number (given_to turn k turns) ≤ units agent number (given_to turn (k + n) turns)
units_rise agent number turn turns k zero = (let e : k + 0 ≡ k = omega arith in subst (λ m. units agent number (given_to turn k turns) ≤ units agent number (given_to turn m turns)) (sym e) (omega arith))
units_rise agent number turn turns k (suc n) =
    let e : k + suc n ≡ suc (k + n) = omega arith in
    let rest = units_rise agent number turn turns k n in
    let last = units_more agent number turn (given_to turn (k + n) turns) in
    subst (λ m. units agent number (given_to turn k turns) ≤ units agent number (given_to turn m turns)) (sym e) (omega (arith, rest, last))

-- What is pending behind some of them was so before
pub was_pending : (turn : Option Turn) (turns : List (Option Turn)) (r : Action) (k n : ℕ) → k ≤ n → is_pending (given_to turn n turns) r ≡ true → is_pending (given_to turn k turns) r ≡ true
was_pending turn turns r k n less h =
    let e : n ≡ k + (n - k) = omega (arith, less) in
    let rise = units_rise r.agent r.number turn turns k (n - k) in
    let late = ltb-true (units r.agent r.number (given_to turn (k + (n - k)) turns)) (work r) (subst (λ m. is_pending (given_to turn m turns) r ≡ true) e h) in
    lt-ltb (units r.agent r.number (given_to turn k turns)) (work r) (omega (arith, rise, late))

-- The actions of its agent stay pending or not
pub own_stay : (turns : List (Option Turn)) (r : Action) (before : List Action) (n : ℕ) → All (λ (q : Action). q.number < r.number) before → is_pending turns r ≡ true
    → is_pending (given_to (Some (record { agent = r.agent; number = r.number })) n turns) r ≡ true → All (StaysSo turns (given_to (Some (record { agent = r.agent; number = r.number })) n turns)) (r ∷ before)
own_stay turns r before n numbers first last =
    All-cons (StaysSo turns (given_to (Some turn) n turns)) r before (last ∙ sym first)
    (All-weaker (λ (q : Action). q.number < r.number) (StaysSo turns (given_to (Some turn) n turns))
    (λ q h. same_stays turns (given_to (Some turn) n turns) q (missed_all (Some turn) turns q (other_number q.agent q.number turn (λ e. absurd (omega (arith, h, e)))) n)) before numbers)
  where
    turn : Turn
    turn = record { agent = r.agent; number = r.number }

-- ---- the turn

pub pending_kept : (agents : List ℕ) (turns now : List (Option Turn)) (h : History) → ((agent : ℕ) → All (StaysSo turns now) (h agent)) → pending agents now h ≡ pending agents turns h
pending_kept [] turns now h same = refl
pending_kept (agent ∷ rest) turns now h same =
    ap (λ actions. actions ++ pending rest now h) (filter_agree_on (is_pending now) (is_pending turns) (h agent) (same agent))
    ∙ ap (λ actions. filter (is_pending turns) (h agent) ++ actions) (pending_kept rest turns now h same)

module _ (s : System) (order : ℕ → List ℕ) (processor date cycle : ℕ) (low : date * s.unit.quantum ≤ cycle) where
  abbrev before : List (Option Turn)
  before = turns_of s order cycle processor

  -- its agents, in the order in force at a cycle
  abbrev own : ℕ → List ℕ
  own c = served s.unit processor (order c)

  -- As long as the order and who is pending stay, each cycle goes to what the first one does
  pub in_a_row : (turn : Option Turn) → turn_of (soonest (pending (own cycle) before (history s (date + 1)))) ≡ turn → (n : ℕ) → cycle + n ≤ (date + 1) * s.unit.quantum → ((k : ℕ) → k < n → order (cycle + k) ≡ order cycle)
      → ((k : ℕ) → k < n → (agent : ℕ) → All (StaysSo before (given_to turn k before)) (history s (date + 1) agent)) → turns_of s order (cycle + n) processor ≡ given_to turn n before
  in_a_row turn first zero high orders same = let e : cycle + 0 ≡ cycle = omega arith in ap (λ m. turns_of s order m processor) e
  in_a_row turn first (suc n) high orders same =
      let e : cycle + suc n ≡ cycle + n + 1 = omega arith in
      let rest : turns_of s order (cycle + n) processor ≡ given_to turn n before = in_a_row turn first n (omega (arith, high)) (λ k less. orders k (omega (arith, less))) (λ k less. same k (omega (arith, less))) in
      ap (λ m. turns_of s order m processor) e
      ∙ next_turn s order processor date (cycle + n) (omega (arith, low)) (omega (arith, high))
      ∙ ap (λ o. turn_of (soonest (pending (served s.unit processor o) (turns_of s order (cycle + n) processor) (history s (date + 1)))) ∷ turns_of s order (cycle + n) processor) (orders n (omega arith))
      ∙ ap (λ turns. turn_of (soonest (pending (own cycle) turns (history s (date + 1)))) ∷ turns) rest
      ∙ ap (λ actions. turn_of (soonest actions) ∷ given_to turn n before) (pending_kept (own cycle) before (given_to turn n before) (history s (date + 1)) (same n (omega arith)))
      ∙ ap (λ t. t ∷ given_to turn n before) first

-- Cycles that nobody gets look at nothing
pub idle_reach : (s : System) (processor : ℕ) (turns : ℕ → List (Option Turn)) (h : History) (variable : ℕ) → ((ts : ℕ → List (Option Turn)) → reach s (gone_to s.unit processor None ts) h variable ≡ reach s ts h variable) → (n : ℕ)
    → reach s (given_on s.unit processor None n turns) h variable ≡ reach s turns h variable
idle_reach s processor turns h variable law zero = refl
idle_reach s processor turns h variable law (suc n) = law (given_on s.unit processor None n turns) ∙ idle_reach s processor turns h variable law n
