-- An action that is due by a date finished no later than its deadline.
use Rattle.std.proofs.Common.{◌≡◌, ℕ, zero, suc, ◌+◌, ◌*◌, ◌≤◌, All, List, [], ◌∷◌, length, refl, sym, ap, ◌∙◌, subst, inl, inr, arith}
use Rattle.std.specs.Prelude.{false, Option, Some}
use Rattle.std.specs.List.{Contains}
use Rattle.std.proofs.lemmas.Bool.{cases_Bool, ltb-false}
use Rattle.std.proofs.lemmas.List.Elements.{All-contains}
use Rattle.std.proofs.lemmas.Nat.{mul-le}
use Rattle.std.proofs.lemmas.Option.{same_Some}
use Rattle.psy_lists.proofs.lemmas.Members.{contains_none, contains_front, contains_behind, front_or_behind, all_members}
use Rattle.psy_history.specs.Actions.{Action, Next, System, next_of}
use Rattle.psy_history.specs.History.{action_of, history}
use Rattle.psy_history.specs.Schedule.{Turn, finish, is_of, is_pending, units, work}
use Rattle.psy_history.specs.Regular.{IsLawful, IsRegular}
use Rattle.psy_history.specs.Processors.{processor_at}
use Rattle.psy_history.specs.Scheduled.{IsFinished, IsSupplied, turns_by}
use Rattle.psy_history.proofs.Growth.{at_each_date, grown, kept_on, stays_started}
use Rattle.psy_history.proofs.KeptDates.{due_over, earlier_over}
use Rattle.psy_history.proofs.Numbers.{agent_of}
use Rattle.psy_history.proofs.OwnAgents.{one_of_them}
use Rattle.psy_history.proofs.Turns.{next_is_pending, next_turn, serving, turns_in}

-- ---- a finish

finish_most : (agent number : ℕ) (turns : List (Option Turn)) → finish agent number turns ≤ length turns
finish_most agent number [] = omega arith
finish_most agent number (turn ∷ turns) = elim (cases_Bool (is_of agent number turn)) [
  | inl t ↦ rw t (omega arith)
  | inr f ↦ (let rest = finish_most agent number turns in rw f (omega (arith, rest)))
]

pub as_many : (s : System) (order : ℕ → List ℕ) (cycles : ℕ) → length (turns_in s order cycles) ≡ cycles
as_many s order zero = refl
as_many s order (suc cycles) = ap suc (as_many s order cycles)

-- ---- an action that was started is there from its start on

pub started_by : (s : System) (dates agent : ℕ) (r : Action) → Contains (history s dates agent) r → Contains (history s (suc r.start) agent) r
started_by s = at_each_date s (λ date agent actions. (r : Action) → Contains actions r → Contains (history s (suc r.start) agent) r) (λ agent r c. absurd (contains_none r c)) (λ date agent actions h. h) (λ date agent n before next at r c.
    elim (front_or_behind (action_of s (history s date) agent n) (history s date agent) r c) [
      | inl is ↦ subst (λ (q : Action). Contains (history s (suc q.start) agent) q) is (subst (λ d. Contains (history s (suc d) agent) (action_of s (history s date) agent n)) (sym at) (first date agent n next at))
      | inr behind ↦ before agent r behind
    ])
  where
    first : (date agent : ℕ) (n : Next) → next_of s agent (history s date agent) ≡ Some n → n.start ≡ date → Contains (history s (suc date) agent) (action_of s (history s date) agent n)
    first date agent n next at = elim (grown s date agent) [
      | inl (is, other) ↦ absurd (other n next at)
      | inr (m, next', at', is) ↦ subst (λ xs. Contains xs (action_of s (history s date) agent n)) (sym is) (subst (λ k. Contains (action_of s (history s date) agent k ∷ history s date agent) (action_of s (history s date) agent n)) (same_Some n m (sym next ∙ next')) (contains_front (action_of s (history s date) agent n) (history s date agent)))
    ]

-- ---- an action that is finished keeps its finish

module _ (s : System) (order : ℕ → List ℕ) (lawful : IsLawful s) (dates agent : ℕ) (r : Action) (there : Contains (history s dates agent) r) where
  abbrev IsOver : ℕ → Type 0
  IsOver cycles = is_pending (turns_in s order cycles) r ≡ false

  pub another : (cycles : ℕ) → IsOver cycles → is_of r.agent r.number (next_turn s order cycles) ≡ false
  another cycles finished = elim (cases_Bool (is_of r.agent r.number (next_turn s order cycles))) [
    | inl t ↦ (
        let fewer = next_is_pending s order cycles dates agent r there t in
        let all = ltb-false (units r.agent r.number (turns_in s order cycles)) (work r) finished in
        absurd (omega (arith, fewer, all))
        )
    | inr f ↦ f
  ]

  pub finish_kept : (cycles more : ℕ) → cycles ≤ more → IsOver cycles → IsOver more × (finish r.agent r.number (turns_in s order more) ≡ finish r.agent r.number (turns_in s order cycles))
  finish_kept cycles more later finished =
      kept_on (λ n. IsOver n × (finish r.agent r.number (turns_in s order n) ≡ finish r.agent r.number (turns_in s order cycles)))
      (λ n h. let other = another n h.0 in (rw other h.0, rw other h.1)) cycles more later (finished, refl)

-- ---- on the processor of its agent

module _ (s : System) (order : ℕ → List ℕ) (until : ℕ) (supplied : IsSupplied s order until) where
  abbrev processor_of : ℕ → ℕ
  processor_of agent = processor_at s.unit agent

  -- What is due by a date is finished by then,
  pub due_finished : (date agent : ℕ) (r : Action) → date ≤ until → Contains (history s date agent) r → r.deadline ≤ date → IsFinished s order (date * s.unit.quantum) r
  due_finished date agent r early c due =
      let over = due_over s order until supplied (processor_of agent) date agent r (one_of_them s.unit agent) early refl c due in
      subst (λ a. is_pending (turns_by s order (date * s.unit.quantum) a) r ≡ false) (sym (agent_of s date agent r c)) over

  -- and so are all but the last action of an agent.
  pub earlier_finished : (date cycles agent : ℕ) (r : Action) (before : List Action) → date ≤ until → date * s.unit.quantum ≤ cycles → history s (date + 1) agent ≡ r ∷ before → All (IsFinished s order cycles) before
  earlier_finished date cycles agent r before early far e = all_members (IsFinished s order cycles) before (λ x c.
      let over = earlier_over s order until supplied (processor_of agent) date cycles agent r before (one_of_them s.unit agent) early refl far e in
      let its : x.agent ≡ agent = agent_of s (date + 1) agent x (subst (λ xs. Contains xs x) (sym e) (contains_behind r before x c)) in
      subst (λ a. is_pending (turns_by s order cycles a) x ≡ false) (sym its) (All-contains (λ q. is_pending (turns_by s order cycles agent) q ≡ false) before x over c))

  -- By its deadline it is finished, whenever that is looked at,
  pub finished_in_time : (dates agent : ℕ) (r : Action) → Contains (history s dates agent) r → r.deadline ≤ until → IsFinished s order (r.deadline * s.unit.quantum) r
  finished_in_time dates agent r there due =
      let its : IsRegular s agent r = All-contains (IsRegular s agent) (history s dates agent) r (supplied.lawful.actions dates agent).each there in
      let begun = stays_started s (suc r.start) r.deadline agent r its.due (started_by s dates agent r there) in
      due_finished r.deadline agent r due begun (omega arith)

  -- And the cycle behind its last one is no later.
  pub finishes_in_time : (cycles agent : ℕ) (r : Action) → until * s.unit.quantum ≤ cycles → Contains (history s until agent) r → r.deadline ≤ until → finish r.agent r.number (turns_by s order cycles r.agent) ≤ r.deadline * s.unit.quantum
  finishes_in_time cycles agent r far there due =
      let own = serving s order (processor_of r.agent) in
      let finished = finished_in_time until agent r there due in
      let early = mul-le r.deadline s.unit.quantum until s.unit.quantum due (omega arith) in
      let kept = (finish_kept s own supplied.lawful until agent r there (r.deadline * s.unit.quantum) cycles (omega (arith, early, far)) finished).1 in
      let most = finish_most r.agent r.number (turns_in s own (r.deadline * s.unit.quantum)) in
      omega (arith, kept, most, as_many s own (r.deadline * s.unit.quantum))
