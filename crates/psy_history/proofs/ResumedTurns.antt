-- A run that is taken up again at a quiet date gives its cycles to the actions to which the whole run gives them.
use Rattle.std.proofs.Common.{◌≡◌, ◌⊎◌, ℕ, suc, ◌+◌, ◌*◌, ◌/◌, ◌==◌, ◌≤◌, All, false, List, [], ◌∷◌, ◌++◌, length, Option, Some, append-nil, refl, sym, ap, ap₂, ◌∙◌, subst, inl, inr, arith}
use Rattle.std.specs.Prelude.{◌&&◌, filter, if◌then◌else◌, nat_lt}
use Rattle.std.specs.List.{Contains}
use Rattle.std.proofs.lemmas.Bool.{cases_Bool, eqb-true}
use Rattle.std.proofs.lemmas.List.Elements.{All-contains, filter-append}
use Rattle.std.proofs.lemmas.Nat.{le-div}
use Rattle.psy_lists.proofs.lemmas.Members.{contains_none}
use Rattle.psy_history.specs.Actions.{Action, Next, System, next_of}
use Rattle.psy_history.specs.History.{history}
use Rattle.psy_history.specs.Processors.{processor_at, served}
use Rattle.psy_history.specs.Regular.{IsLawful, first_number, number_of as number_in}
use Rattle.psy_history.specs.Resuming.{resumed_at}
use Rattle.psy_history.specs.Schedule.{Turn, cycle_of_unit, finish, is_of, is_pending, pending, soonest, turn_of, units, work}
use Rattle.psy_history.specs.Scheduled.{IsFinished, turns_by}
use Rattle.psy_history.proofs.Finishes.{another, as_many}
use Rattle.psy_history.proofs.Given.{given_unstarted}
use Rattle.psy_history.proofs.Growth.{at_each_date, kept_on}
use Rattle.psy_history.proofs.Numbers.{agent_of, next_number, number_since, were_started}
use Rattle.psy_history.proofs.SameElements.{filter_each, filter_no}
use Rattle.psy_history.proofs.Turns.{next_turn, serving, turns_in}
use Rattle.psy_history.proofs.UnitCycles.{no_unit}

-- ---- what turns tell of an action

-- Of an action, these turns tell what those tell.
pub record TellSame (agent number : ℕ) (these those : List (Option Turn)) : Type 0 where
  pub long : length these ≡ length those
  pub had : units agent number these ≡ units agent number those
  pub ended : finish agent number these ≡ finish agent number those
  pub paid : (unit : ℕ) → cycle_of_unit agent number unit these ≡ cycle_of_unit agent number unit those

-- So they do with one turn more.
tell_more : (agent number : ℕ) (turn : Option Turn) (these those : List (Option Turn)) → TellSame agent number these those
    → TellSame agent number (turn ∷ these) (turn ∷ those)
tell_more agent number turn these those same = record {
  long = ap suc same.long;
  had = ap (λ n. if is_of agent number turn then suc n else n) same.had;
  ended = ap₂ (λ n m. if is_of agent number turn then n + 1 else m) same.long same.ended;
  paid = λ unit. ap₂ (λ n m. if is_of agent number turn && n == unit then Some m else cycle_of_unit agent number unit these) same.had same.long
      ∙ ap (λ o. if is_of agent number turn && units agent number those == unit then Some (length those) else o) (same.paid unit);
}

-- An action that had no cycle has no finish.
no_finish : (agent number : ℕ) (turns : List (Option Turn)) → units agent number turns ≡ 0 → finish agent number turns ≡ 0
no_finish agent number [] none = refl
no_finish agent number (turn ∷ turns) none = elim (cases_Bool (is_of agent number turn)) [
  | inl t ↦ (let some : suc (units agent number turns) ≡ 0 = rw t at none in absurd (omega (arith, some)))
  | inr f ↦ rw f (no_finish agent number turns (rw f at none))
]

-- As long turns in which it had no cycle tell the same.
tell_none : (agent number : ℕ) (these those : List (Option Turn)) → length these ≡ length those → units agent number these ≡ 0
    → units agent number those ≡ 0 → TellSame agent number these those
tell_none agent number these those long none other = record {
  long = long;
  had = none ∙ sym other;
  ended = no_finish agent number these none ∙ sym (no_finish agent number those other);
  paid = λ unit. no_unit agent number unit these (omega (arith, none)) ∙ sym (no_unit agent number unit those (omega (arith, other)));
}

-- ---- the two runs

module _ (s : System) (lawful : IsLawful s) (sizes : List ℕ) (order : ℕ → List ℕ) (date : ℕ) (some : 1 ≤ s.unit.quantum)
    (finished : (agent : ℕ) → All (IsFinished s order (date * s.unit.quantum)) (history s date agent))
    (on : (later agent : ℕ) → date ≤ later → history s later agent ≡ history (resumed_at s sizes order date) later agent ++ history s date agent)
    (none : (agent : ℕ) → history (resumed_at s sizes order date) date agent ≡ []) where
  abbrev t : System
  t = resumed_at s sizes order date

  -- the cycles before the date
  abbrev first : ℕ
  first = date * s.unit.quantum

  -- ---- old actions

  -- A cycle behind the date tells nothing of an action that started before it.
  abbrev pub TellsOld : Action → ℕ → Type 0
  TellsOld r cycles =
      (is_pending (turns_by s order cycles r.agent) r ≡ false)
      × (finish r.agent r.number (turns_by s order cycles r.agent) ≡ finish r.agent r.number (turns_by s order first r.agent))
      × ((unit : ℕ) → cycle_of_unit r.agent r.number unit (turns_by s order cycles r.agent) ≡ cycle_of_unit r.agent r.number unit (turns_by s order first r.agent))

  pub old_told : (agent cycles : ℕ) (r : Action) → first ≤ cycles → Contains (history s date agent) r → TellsOld r cycles
  old_told agent cycles r far there =
      let own = serving s order (processor_at s.unit r.agent) in
      kept_on (TellsOld r) (λ n h. let other = another s own lawful date agent r there n h.0 in (rw other h.0, rw other h.1, λ unit. rw other (h.2 unit)))
      first cycles far (All-contains (IsFinished s order first) (history s date agent) r (finished agent) there, refl, λ unit. refl)

  -- ---- new actions

  -- Where the later run has an action of an agent, it has a first one.
  begins : (dates agent : ℕ) → (history t dates agent ≡ []) ⊎ ((n : Next) × (t.opening.starts agent ≡ Some n))
  begins =
      at_each_date t (λ dates agent actions. (actions ≡ []) ⊎ ((n : Next) × (t.opening.starts agent ≡ Some n))) (λ agent. inl refl) (λ date agent actions h. h)
      (λ date agent n before next at. inr (elim (before agent) [ inl e ↦ (n, sym (ap (next_of t agent) e) ∙ next) | inr is ↦ is ]))

  -- The number is behind those of the old actions.
  abbrev IsNew : ℕ → ℕ → Type 0
  IsNew agent number = (first_number s agent + length (history s date agent) ≤ number) × (first_number t agent ≤ number)

  are_new : (later agent : ℕ) (r : Action) → Contains (history t later agent) r → IsNew r.agent r.number
  are_new later agent r c = elim (begins later agent) [
    | inl e ↦ absurd (contains_none r (subst (λ xs. Contains xs r) e c))
    | inr (n, starts) ↦ (
        let low = number_since t later agent r c in
        let is : first_number t agent ≡ n.number = ap number_in starts in
        let number = next_number s date agent (history s date agent) n (were_started s date agent) starts in
        let both : IsNew agent r.number = (omega (arith, number, low, is), low) in
        subst (λ a. IsNew a r.number) (sym (agent_of t later agent r c)) both)
  ]

  -- ---- the cycles of a processor

  module _ (processor : ℕ) where
    abbrev own : ℕ → List ℕ
    own = serving s order processor

    -- both give them to the same actions
    abbrev AreTold : ℕ → Type 0
    AreTold cycles = (agent number : ℕ) → IsNew agent number → TellSame agent number (turns_in s own cycles) (turns_in t own cycles)

    told_first : AreTold first
    told_first agent number (new, since) =
        tell_none agent number (turns_in s own first) (turns_in t own first) (as_many s own first ∙ sym (as_many t own first))
        (given_unstarted s own date first agent number some (omega arith) new)
        (given_unstarted t own date first agent number some (omega arith) (omega (arith, since, ap length (none agent))))

    module _ (cycles : ℕ) (far : first ≤ cycles) (told : AreTold cycles) where
      abbrev these : List (Option Turn)
      these = turns_in s own cycles

      abbrev those : List (Option Turn)
      those = turns_in t own cycles

      abbrev dates : ℕ
      dates = cycles / s.unit.quantum + 1

      late : date ≤ dates
      late = omega (arith, le-div date cycles s.unit.quantum (omega (arith, some)) (omega (arith, far)))

      old_done : (agent : ℕ) → processor_at s.unit agent ≡ processor → filter (is_pending these) (history s date agent) ≡ []
      old_done agent here = filter_no (is_pending these) (history s date agent) (λ r c.
          let its : processor_at s.unit r.agent ≡ processor = ap (processor_at s.unit) (agent_of s date agent r c) ∙ here in
          subst (λ p. is_pending (turns_in s (serving s order p) cycles) r ≡ false) its (old_told agent cycles r far c).0)

      new_same : (agent : ℕ) → filter (is_pending these) (history t dates agent) ≡ filter (is_pending those) (history t dates agent)
      new_same agent = filter_each (is_pending these) (is_pending those) (history t dates agent) (λ r c.
          ap (λ n. nat_lt n (work r)) (told r.agent r.number (are_new dates agent r c)).had)

      one_agent : (agent : ℕ) → processor_at s.unit agent ≡ processor
          → filter (is_pending these) (history s dates agent) ≡ filter (is_pending those) (history t dates agent)
      one_agent agent here =
          ap (filter (is_pending these)) (on dates agent late)
          ∙ filter-append (is_pending these) (history t dates agent) (history s date agent)
          ∙ ap₂ (λ new old. new ++ old) (new_same agent) (old_done agent here)
          ∙ append-nil (filter (is_pending those) (history t dates agent))

      all_agents : (agents : List ℕ) → pending (served s.unit processor agents) these (history s dates) ≡ pending (served s.unit processor agents) those (history t dates)
      all_agents [] = refl
      all_agents (agent ∷ agents) = elim (cases_Bool (processor_at s.unit agent == processor)) [
        | inl here ↦ rw here (ap₂ (λ its others. its ++ others) (one_agent agent (eqb-true (processor_at s.unit agent) processor here)) (all_agents agents))
        | inr other ↦ rw other (all_agents agents)
      ]

      same_turn : next_turn s own cycles ≡ next_turn t own cycles
      same_turn = ap (λ actions. turn_of (soonest actions)) (all_agents (order cycles))

      told_next : AreTold (suc cycles)
      told_next agent number new =
          subst (λ turn. TellSame agent number (next_turn s own cycles ∷ these) (turn ∷ those)) same_turn
          (tell_more agent number (next_turn s own cycles) these those (told agent number new))

    told_on : (cycles : ℕ) → first ≤ cycles → AreTold cycles
    told_on cycles far =
        let IsSince : ℕ → Type 0 = λ n. (first ≤ n) × AreTold n in
        let kept : IsSince cycles = kept_on IsSince (λ n h. (omega (arith, h.0), told_next n h.0 h.1)) first cycles far (omega arith, told_first) in
        kept.1

  -- Of an action of the later run the cycles of its processor tell the same in both.
  pub new_told : (later cycles agent : ℕ) (r : Action) → first ≤ cycles → Contains (history t later agent) r
      → TellSame r.agent r.number (turns_by s order cycles r.agent) (turns_by t order cycles r.agent)
  new_told later cycles agent r far c = told_on (processor_at s.unit r.agent) cycles far r.agent r.number (are_new later agent r c)
