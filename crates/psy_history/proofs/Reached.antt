-- How far back rings are reached for: the ages of the looks that cycles executed, one by one.
use Rattle.std.proofs.Common.{◌≡◌, ◌⊎◌, ℕ, suc, ◌+◌, ◌/◌, ◌*◌, ◌<◌, ◌≤◌, ◌==◌, ◌&&◌, List, [], ◌∷◌, ◌++◌, length, Option, Some, None, refl, sym, ap, ◌∙◌, subst, inl, inr, arith, add-one}
use Rattle.std.specs.Prelude.{filter}
use Rattle.std.specs.List.{Contains, flat_map, range_with_len}
use Rattle.std.proofs.lemmas.Bool.{and_parts, cases_Bool, eq-eqb, eqb-true}
use Rattle.std.proofs.lemmas.List.Elements.{Contains-append_cases, Contains-append_left, Contains-append_right}
use Rattle.std.proofs.lemmas.List.FromFn.{get_or-range_with_len, length-range_with_len}
use Rattle.std.proofs.lemmas.Option.{none-some, same_Some}
use Rattle.psy_lists.proofs.lemmas.Members.{contains_none, contains_front, contains_behind, front_or_behind, filter_in, filter_from, flat_map_in, flat_map_from}
use Rattle.psy_budget.specs.Charges.{cycle_of}
use Rattle.psy_code.specs.Views.{Looked}
use Rattle.psy_history.specs.Actions.{Action, History, System}
use Rattle.psy_history.specs.History.{action_of, history}
use Rattle.psy_history.specs.Schedule.{Turn, cycle_of_unit, is_of, turn_of, units}
use Rattle.psy_history.specs.Summary.{age_in, ages_of, numbers_in, reach}
use Rattle.psy_base.specs.Extremes.{greater, greatest_of}
use Rattle.psy_history.specs.Regular.{first_number}
use Rattle.psy_history.specs.Rings.{age_at}
use Rattle.psy_history.specs.Processors.{processor_at}
use Rattle.psy_history.specs.Scheduled.{gone_to, turns_by}
use Rattle.psy_history.proofs.Given.{given_unstarted}
use Rattle.psy_history.proofs.Greatest.{greatest_same}
use Rattle.psy_history.proofs.Growth.{grown, stays_started}
use Rattle.psy_history.proofs.Numbers.{agent_of, next_number, were_started}
use Rattle.psy_history.proofs.Turns.{serving}
use Rattle.psy_history.proofs.UnitCycles.{no_unit, unit_stays}

-- ---- one age

-- The age of the value that an action's look finds in a cycle
abbrev pub age_then : System → Action → Looked → ℕ → ℕ
age_then s r look cycle = age_at s look.variable look.back r.start (cycle / s.unit.quantum)

-- A look at the variable was executed in one of these cycles, and found a value of this age.
pub record IsReached (s : System) (turns : ℕ → List (Option Turn)) (h : History) (variable age : ℕ) : Type 0 where
  pub agent : ℕ
  pub known : agent < length s.unit.agents
  pub r : Action
  pub there : Contains (h agent) r
  pub look : Looked
  pub looked : Contains r.deeds.looks look
  pub at : look.variable ≡ variable
  pub cycle : ℕ
  pub executed : cycle_of_unit r.agent r.number (cycle_of (s.stalls r.agent) r.number look.number) (turns r.agent) ≡ Some cycle
  pub is : age ≡ age_then s r look cycle

pub in_range : (agent n : ℕ) → agent < n → Contains (range_with_len 0 n) agent
in_range agent n less = (agent, omega (arith, less, length-range_with_len 0 n), get_or-range_with_len 0 n agent agent less ∙ omega arith)

pub of_range : (agent n : ℕ) → Contains (range_with_len 0 n) agent → agent < n
of_range agent n (k, less, e) =
    let within : k < n = omega (arith, less, length-range_with_len 0 n) in
    omega (arith, within, sym (get_or-range_with_len 0 n k agent within), e)

age_from : (s : System) (r : Action) (look : Looked) (o : Option ℕ) (n : ℕ) → Contains (age_in s r look o) n → (cycle : ℕ) × (o ≡ Some cycle) × (n ≡ age_then s r look cycle)
age_from s r look None n c = absurd (contains_none n c)
age_from s r look (Some cycle) n c = elim (front_or_behind (age_then s r look cycle) [] n c) [
  | inl e ↦ (cycle, refl, sym e)
  | inr behind ↦ absurd (contains_none n behind)
]

-- ---- all ages

module _ (s : System) (turns : ℕ → List (Option Turn)) (h : History) (variable : ℕ) where
  abbrev ages_at : Action → Looked → List ℕ
  ages_at r look = age_in s r look (cycle_of_unit r.agent r.number (cycle_of (s.stalls r.agent) r.number look.number) (turns r.agent))

  abbrev ages_by : ℕ → List ℕ
  ages_by agent = flat_map (ages_of s turns variable) (h agent)

  -- The ages of all looks at the variable that the cycles executed
  abbrev pub all_ages : List ℕ
  all_ages = flat_map ages_by (range_with_len 0 (length s.unit.agents))

  pub reached_in : (n : ℕ) → Contains all_ages n → IsReached s turns h variable n
  reached_in n c =
      let (agent, known, its) = flat_map_from ages_by (range_with_len 0 (length s.unit.agents)) n c in
      let (r, there, of_r) = flat_map_from (ages_of s turns variable) (h agent) n its in
      let (look, chosen, one) = flat_map_from (ages_at r) (filter (λ (look : Looked). look.variable == variable) r.deeds.looks) n of_r in
      let (looked, at) = filter_from (λ (look : Looked). look.variable == variable) r.deeds.looks look chosen in
      let (cycle, executed, is) = age_from s r look (cycle_of_unit r.agent r.number (cycle_of (s.stalls r.agent) r.number look.number) (turns r.agent)) n one in
      record { agent = agent; known = of_range agent (length s.unit.agents) known; r = r; there = there; look = look; looked = looked; at = eqb-true look.variable variable at; cycle = cycle; executed = executed; is = is }

  pub in_reached : (n : ℕ) → IsReached s turns h variable n → Contains all_ages n
  in_reached n it =
      let one : Contains (ages_at it.r it.look) n = subst (λ o. Contains (age_in s it.r it.look o) n) (sym it.executed) (subst (Contains (age_then s it.r it.look it.cycle ∷ [])) (sym it.is) (contains_front (age_then s it.r it.look it.cycle) [])) in
      let chosen = filter_in (λ (look : Looked). look.variable == variable) it.r.deeds.looks it.look it.looked (eq-eqb it.look.variable variable it.at) in
      let of_r = flat_map_in (ages_at it.r) (filter (λ (look : Looked). look.variable == variable) it.r.deeds.looks) it.look n chosen one in
      let its = flat_map_in (ages_of s turns variable) (h it.agent) it.r n it.there of_r in
      flat_map_in ages_by (range_with_len 0 (length s.unit.agents)) it.agent n (in_range it.agent (length s.unit.agents) it.known) its

-- ---- with what was reached before

-- What stands behind others
beside : (xs these those : List ℕ) → ((n : ℕ) → Contains these n → Contains those n) → (n : ℕ) → Contains (xs ++ these) n → Contains (xs ++ those) n
beside xs these those on n c = elim (Contains-append_cases xs these n c) [ inl before ↦ Contains-append_left xs those n before | inr there ↦ Contains-append_right xs those n (on n there) ]

-- The figure of an opening is the greatest of its numbers, and each of them.
greatest_number : (o : Option ℕ) → greatest_of (numbers_in o) ≡ o
greatest_number None = refl
greatest_number (Some n) = refl

pub one_number : (o : Option ℕ) (n : ℕ) → Contains (numbers_in o) n → o ≡ Some n
one_number None n c = absurd (contains_none n c)
one_number (Some m) n c = elim (front_or_behind m [] n c) [ inl e ↦ ap Some e | inr behind ↦ absurd (contains_none n behind) ]

-- Where the same is reached, it is as far.
pub reach_same : (s : System) (these those : ℕ → List (Option Turn)) (h k : History) (variable : ℕ) → ((n : ℕ) → IsReached s these h variable n → IsReached s those k variable n) → ((n : ℕ) → IsReached s those k variable n → IsReached s these h variable n)
    → reach s these h variable ≡ reach s those k variable
reach_same s these those h k variable on back =
    let before = numbers_in (s.opening.reach variable) in
    let first = all_ages s these h variable in
    let second = all_ages s those k variable in
    greatest_same (before ++ first) (before ++ second) (
      beside before first second (λ n c. in_reached s those k variable n (on n (reached_in s these h variable n c))),
      beside before second first (λ n c. in_reached s these h variable n (back n (reached_in s those k variable n c))),
    )

-- One age more makes it as far as that one, if it wasn't further.
pub reach_one_more : (s : System) (these those : ℕ → List (Option Turn)) (h k : History) (variable age : ℕ) → IsReached s these h variable age → ((n : ℕ) → IsReached s these h variable n → (age ≡ n) ⊎ IsReached s those k variable n) → ((n : ℕ) → IsReached s those k variable n → IsReached s these h variable n)
    → reach s these h variable ≡ greater age (reach s those k variable)
reach_one_more s these those h k variable age one on back =
    let before = numbers_in (s.opening.reach variable) in
    let first = all_ages s these h variable in
    let second = before ++ all_ages s those k variable in
    greatest_same (before ++ first) (age ∷ second) (
      λ n c. elim (Contains-append_cases before first n c) [
        | inl was ↦ contains_behind age second n (Contains-append_left before (all_ages s those k variable) n was)
        | inr there ↦ elim (on n (reached_in s these h variable n there)) [
          | inl e ↦ subst (Contains (age ∷ second)) e (contains_front age second)
          | inr it ↦ contains_behind age second n (Contains-append_right before (all_ages s those k variable) n (in_reached s those k variable n it))
        ]
      ],
      λ n c. elim (front_or_behind age second n c) [
        | inl e ↦ Contains-append_right before first n (in_reached s these h variable n (subst (IsReached s these h variable) e one))
        | inr there ↦ beside before (all_ages s those k variable) first (λ m d. in_reached s these h variable m (back m (reached_in s those k variable m d))) n there
      ],
    )

-- ---- a cycle more

-- A look that the next cycle executes, which goes to an action: it is a look of that one, whose unit it pays.
pub record IsNow (s : System) (turns : ℕ → List (Option Turn)) (r q : Action) (look : Looked) (cycle : ℕ) : Type 0 where
  pub agent : r.agent ≡ q.agent
  pub number : r.number ≡ q.number
  pub unit : units r.agent r.number (turns r.agent) ≡ cycle_of (s.stalls r.agent) r.number look.number
  pub cycle_is : length (turns r.agent) ≡ cycle

-- What was reached is so in another history and with other cycles, if the action is there and its look executed in the same cycle.
reached_as : (s : System) (these those : ℕ → List (Option Turn)) (h k : History) (variable n : ℕ) (it : IsReached s these h variable n) → Contains (k it.agent) it.r
    → cycle_of_unit it.r.agent it.r.number (cycle_of (s.stalls it.r.agent) it.r.number it.look.number) (those it.r.agent) ≡ Some it.cycle → IsReached s those k variable n
reached_as s these those h k variable n it there executed =
    record { agent = it.agent; known = it.known; r = it.r; there = there; look = it.look; looked = it.looked; at = it.at; cycle = it.cycle; executed = executed; is = it.is }

-- Where the cycles went to the same, by agent, as much is reached.
pub reach_alike : (s : System) (these those : ℕ → List (Option Turn)) (h : History) (variable : ℕ) → ((agent : ℕ) → these agent ≡ those agent) → reach s these h variable ≡ reach s those h variable
reach_alike s these those h variable same =
    let unit_of = λ (r : Action) (look : Looked). cycle_of (s.stalls r.agent) r.number look.number in
    reach_same s these those h h variable
    (λ n it. reached_as s these those h h variable n it it.there (subst (λ turns. cycle_of_unit it.r.agent it.r.number (unit_of it.r it.look) turns ≡ Some it.cycle) (same it.r.agent) it.executed))
    (λ n it. reached_as s those these h h variable n it it.there (subst (λ turns. cycle_of_unit it.r.agent it.r.number (unit_of it.r it.look) turns ≡ Some it.cycle) (sym (same it.r.agent)) it.executed))

module _ (s : System) (turns : ℕ → List (Option Turn)) (h : History) (variable : ℕ) where
  abbrev unit_of : Action → Looked → ℕ
  unit_of r look = cycle_of (s.stalls r.agent) r.number look.number

  -- A unit that was had stays where it is, whichever processor has one more.
  gone_stays : (processor : ℕ) (turn : Option Turn) (agent number unit cycle : ℕ) → cycle_of_unit agent number unit (turns agent) ≡ Some cycle → cycle_of_unit agent number unit (gone_to s.unit processor turn turns agent) ≡ Some cycle
  gone_stays processor turn agent number unit cycle had = elim (cases_Bool (processor_at s.unit agent == processor)) [
    | inl t ↦ rw t (unit_stays turn (turns agent) agent number unit cycle had)
    | inr f ↦ rw f had
  ]

  -- What was reached stays so.
  pub reached_stays : (processor : ℕ) (turn : Option Turn) (n : ℕ) → IsReached s turns h variable n → IsReached s (gone_to s.unit processor turn turns) h variable n
  reached_stays processor turn n it =
      reached_as s turns (gone_to s.unit processor turn turns) h h variable n it it.there (gone_stays processor turn it.r.agent it.r.number (unit_of it.r it.look) it.cycle it.executed)

  -- An idle cycle executes no look.
  idle_was : (processor agent number unit cycle : ℕ) → cycle_of_unit agent number unit (gone_to s.unit processor None turns agent) ≡ Some cycle → cycle_of_unit agent number unit (turns agent) ≡ Some cycle
  idle_was processor agent number unit cycle had = elim (cases_Bool (processor_at s.unit agent == processor)) [
    | inl t ↦ rw t at had
    | inr f ↦ rw f at had
  ]

  pub reach_idle : (processor : ℕ) → reach s (gone_to s.unit processor None turns) h variable ≡ reach s turns h variable
  reach_idle processor =
      let gone = gone_to s.unit processor None turns in
      reach_same s gone turns h h variable (λ n it. reached_as s gone turns h h variable n it it.there (idle_was processor it.r.agent it.r.number (unit_of it.r it.look) it.cycle it.executed)) (reached_stays processor None)

  -- One more cycle of an action's processor that goes to it
  abbrev pub with_cycle : Action → ℕ → List (Option Turn)
  with_cycle r = gone_to s.unit (processor_at s.unit r.agent) (turn_of (Some r)) turns

  now_or_not : (r : Action) (n : ℕ) (it : IsReached s (with_cycle r) h variable n) → cycle_of_unit it.r.agent it.r.number (unit_of it.r it.look) (turn_of (Some r) ∷ turns it.r.agent) ≡ Some it.cycle → IsReached s turns h variable n ⊎ IsNow s turns r it.r it.look it.cycle
  now_or_not r n it had = elim (cases_Bool (is_of it.r.agent it.r.number (turn_of (Some r)) && units it.r.agent it.r.number (turns it.r.agent) == unit_of it.r it.look)) [
    | inl t ↦ (
        let both = and_parts (is_of it.r.agent it.r.number (turn_of (Some r))) (units it.r.agent it.r.number (turns it.r.agent) == unit_of it.r it.look) t in
        let its = and_parts (r.agent == it.r.agent) (r.number == it.r.number) both.0 in
        let agent = eqb-true r.agent it.r.agent its.0 in
        let number = eqb-true r.number it.r.number its.1 in
        let has = eqb-true (units it.r.agent it.r.number (turns it.r.agent)) (unit_of it.r it.look) both.1 in
        let now : Some (length (turns it.r.agent)) ≡ Some it.cycle = rw t at had in
        inr (record { agent = agent; number = number; unit = rw (agent, number) has; cycle_is = ap (λ a. length (turns a)) agent ∙ same_Some (length (turns it.r.agent)) it.cycle now }))
    | inr f ↦ inl (reached_as s (with_cycle r) turns h h variable n it it.there (rw f at had))
  ]

  -- What is reached with the next cycle was before, or is now.
  pub before_or_now : (r : Action) (n : ℕ) (it : IsReached s (with_cycle r) h variable n) → IsReached s turns h variable n ⊎ IsNow s turns r it.r it.look it.cycle
  before_or_now r n it = elim (cases_Bool (processor_at s.unit it.r.agent == processor_at s.unit r.agent)) [
    | inl t ↦ now_or_not r n it (rw t at it.executed)
    | inr f ↦ inl (reached_as s (with_cycle r) turns h h variable n it it.there (rw f at it.executed))
  ]

  -- A cycle that pays no instruction of its action executes no look.
  pub reach_stalled : (r : Action) → ((instr : ℕ) → units r.agent r.number (turns r.agent) ≡ cycle_of (s.stalls r.agent) r.number instr → ⊥) → reach s (with_cycle r) h variable ≡ reach s turns h variable
  reach_stalled r none =
      reach_same s (with_cycle r) turns h h variable (λ n it. elim (before_or_now r n it) [ inl before ↦ before | inr now ↦ absurd (none it.look.number now.unit) ]) (reached_stays (processor_at s.unit r.agent) (turn_of (Some r)))

-- Where no cycle is done, no look was executed.
pub reach_none : (s : System) (h : History) (variable : ℕ) → reach s (λ agent. []) h variable ≡ s.opening.reach variable
reach_none s h variable =
    let before = numbers_in (s.opening.reach variable) in
    greatest_same (before ++ all_ages s (λ agent. []) h variable) before (
      λ n c. elim (Contains-append_cases before (all_ages s (λ agent. []) h variable) n c) [ inl was ↦ was | inr there ↦ absurd (none-some _ (reached_in s (λ agent. []) h variable n there).executed) ],
      λ n c. Contains-append_left before (all_ages s (λ agent. []) h variable) n c,
    )
    ∙ greatest_number (s.opening.reach variable)

-- The actions that a date starts have no unit in the cycles before it.
module _ (s : System) (order : ℕ → List ℕ) (date cycles variable : ℕ) (some : 1 ≤ s.unit.quantum) (within : cycles ≤ date * s.unit.quantum) where
  abbrev done : ℕ → List (Option Turn)
  done = turns_by s order cycles

  not_new : (agent : ℕ) (r : Action) (unit cycle : ℕ) → Contains (history s (suc date) agent) r → cycle_of_unit r.agent r.number unit (done r.agent) ≡ Some cycle → Contains (history s date agent) r
  not_new agent r unit cycle there had = elim (grown s date agent) [
    | inl (same, other) ↦ subst (λ actions. Contains actions r) same there
    | inr (next, is_next, at, more) ↦ elim (front_or_behind (action_of s (history s date) agent next) (history s date agent) r (subst (λ actions. Contains actions r) more there)) [
      | inl e ↦ (
          let number = next_number s date agent (history s date agent) next (were_started s date agent) is_next in
          let high : first_number s agent + length (history s date agent) ≤ r.number = omega (arith, number, ap (λ (q : Action). q.number) e) in
          let none = given_unstarted s (serving s order (processor_at s.unit agent)) date cycles agent r.number some within high in
          let known : r.agent ≡ agent = agent_of s (suc date) agent r there in
          let few : units r.agent r.number (done r.agent) ≤ unit = rw known (omega (arith, none)) in
          absurd (none-some cycle (sym (no_unit r.agent r.number unit (done r.agent) few) ∙ had)))
      | inr before ↦ before
    ]
  ]

  pub reach_date : reach s done (history s (date + 1)) variable ≡ reach s done (history s date) variable
  reach_date =
      let started : (n : ℕ) → IsReached s done (history s (suc date)) variable n → IsReached s done (history s date) variable n =
      λ n it. reached_as s done done (history s (suc date)) (history s date) variable n it (not_new it.agent it.r (cycle_of (s.stalls it.r.agent) it.r.number it.look.number) it.cycle it.there it.executed) it.executed in
      let stays : (n : ℕ) → IsReached s done (history s date) variable n → IsReached s done (history s (suc date)) variable n =
      λ n it. reached_as s done done (history s date) (history s (suc date)) variable n it (stays_started s date (suc date) it.agent it.r (omega arith) it.there) it.executed in
      rw (add-one date) (reach_same s done done (history s (suc date)) (history s date) variable started stays)
