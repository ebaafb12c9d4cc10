-- The steps on states: a date is quiet, or one agent is the first whose action is under way; and bytes spell one state, or have one least fault.
use Rattle.std.proofs.Common.{◌≡◌, ◌∙◌, sym, ap, subst, refl, ℕ, List, None, Some, inl, inr}
use Rattle.std.proofs.lemmas.Bool.{cases_order, false≢true}
use Rattle.std.proofs.lemmas.Option.{none-some, same_Some}
use Rattle.psy_dates.specs.declared.opening.Opening.{Opening as State}
use Rattle.psy_history.specs.Actions.{System}
use Rattle.psy_kernel.specs.Freezing.{IsFirstBusy}
use Rattle.psy_snap.specs.Bytes.{spelling}
use Rattle.psy_snap.specs.Faults.{Fault, faults_of, least_fault}
use Rattle.psy_snap.specs.Forms.{Form}
use Rattle.psy_snap.specs.Ranges.{FitsState}
use Rattle.psy_snap.specs.Shapes.{HasForm}
use Rattle.psy_tree.specs.Parts.{agent_at}
use Rattle.psy_run.specs.declared.refusal.Refusal.{Refusal}
use Rattle.psy_run.specs.declared.refusal.Refusal.TheVariants.{Busy, State as BadState}
use Rattle.psy_run.specs.Steps.{IsBusyAt, IsUnsound, leaving, restoring, resting}
use Rattle.psy_run.proofs.Courses.{IsOne, one_then}
use Rattle.psy_run.proofs.DecidedSteps.{decided_holding}

-- ---- quiet dates

-- At a date one agent at most is the first whose action is under way.
first_busy-one : (s : System) (date agent other : ℕ) → IsFirstBusy s date agent → IsFirstBusy s date other → agent ≡ other
first_busy-one s date agent other one two = elim (cases_order agent other) [
  | inl same ↦ same
  | inr apart ↦ elim apart [
    | inl less ↦ absurd (false≢true (sym (two.first agent less) ∙ one.busy))
    | inr more ↦ absurd (false≢true (sym (one.first other more) ∙ two.busy))
  ]
]

-- Where a date isn't quiet, the refusal tells that agent.
busy_is : (s : System) (date : ℕ) (refusal : Refusal) → IsBusyAt s date refusal → (agent : ℕ) × (refusal ≡ Busy (agent_at s.unit agent).name) × IsFirstBusy s date agent
busy_is s date (Busy name) (agent, first, is) = (agent, ap Busy is, first)
busy_is s date _ never = absurd never

one_resting : (s : System) (date : ℕ) → IsOne (resting s date)
one_resting s date = record {
  gift = λ x y p q. refl;
  stop = λ r t p q.
      let (agent, is, first) = busy_is s date r p in
      let (other, also, leads) = busy_is s date t q in
      is ∙ ap (λ a. Busy (agent_at s.unit a).name) (first_busy-one s date agent other first leads) ∙ sym also;
  apart = λ x r p q. let (agent, is, first) = busy_is s date r q in false≢true (sym (p agent) ∙ first.busy);
}

pub one_leaving : (s : System) (date : ℕ) (state : List ℕ) → IsOne (leaving s date state)
one_leaving s date state = one_then _ _ (one_resting s date) (λ done quiet. (decided_holding state).one)

-- ---- states of a form

-- States of one form and without a fault that are spelled alike are the same.
abbrev pub StatesDecide : Type 0
StatesDecide = (form : Form) (state other : State) → HasForm form state → FitsState state → HasForm form other → FitsState other → least_fault (faults_of form (spelling state)) ≡ None → spelling state ≡ spelling other → state ≡ other

-- Bytes that are refused as a state have a least fault.
unsound_is : (form : Form) (bytes : List ℕ) (refusal : Refusal) → IsUnsound form bytes refusal → (fault : Fault) × (refusal ≡ BadState fault.number fault.place) × (least_fault (faults_of form bytes) ≡ Some fault)
unsound_is form bytes (BadState number place) found = (record { number = number; place = place }, refl, found)
unsound_is form bytes _ never = absurd never

pub one_restoring : StatesDecide → (form : Form) (bytes : List ℕ) → IsOne (restoring form bytes)
one_restoring distinct form bytes = record {
  gift = λ x y p q. distinct form x y p.formed p.ranges q.formed q.ranges (subst (λ text. least_fault (faults_of form text) ≡ None) (sym p.spelled) p.sound) (p.spelled ∙ sym q.spelled);
  stop = λ r s p q.
      let (fault, is, found) = unsound_is form bytes r p in
      let (other, also, least) = unsound_is form bytes s q in
      is ∙ ap (λ (f : Fault). BadState f.number f.place) (same_Some fault other (sym found ∙ least)) ∙ sym also;
  apart = λ x r p q. let (fault, is, found) = unsound_is form bytes r q in none-some fault (sym p.sound ∙ found);
}
