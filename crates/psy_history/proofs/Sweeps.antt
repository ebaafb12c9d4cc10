-- When a receiver's streams are rid of what has expired, and of what its action took.
use Rattle.std.proofs.Common.{◌≡◌, ℕ, suc, Bool, true, false, not, if◌then◌else◌, List, [], ◌∷◌, length, Option, Some, None, refl, sym, ap, ◌∙◌, inl, inr, arith}
use Rattle.std.specs.Prelude.{nat_le}
use Rattle.std.specs.List.{Contains}
use Rattle.std.proofs.lemmas.Bool.{and_cases, and_left, and_right, cases_Bool, eq-eqb, eqb-false, eqb-true, le-leb, ne_eqb}
use Rattle.std.proofs.lemmas.Bool.Decides.{nat_tests}
use Rattle.psy_lists.proofs.lemmas.Members.{contains_front}
use Rattle.psy_history.specs.Actions.{Action, Next, System, Verdict, Done, Trapped, Overran, is_done, is_done_by, is_silent, next_by, next_of, rests}
use Rattle.psy_history.specs.Visible.{swept, taken}
use Rattle.psy_history.specs.Queues.{ends_at, given_up, sweeps}

-- ---- verdicts at a date and one later

-- Where an action doesn't end at a date, it is done by that date as by the one before.
pub done_alike : (d : ℕ) (v : Verdict) → ends_at (suc d) v ≡ false → is_done_by d v ≡ is_done_by (suc d) v
done_alike d (Done point end) other = (let no_end = eqb-false end (suc d) other in later end no_end)
  where
    later : (end : ℕ) → (end ≡ suc d → ⊥) → nat_le end d ≡ nat_le end (suc d)
    later end not = grind (arith, nat_tests)
done_alike d (Trapped kind) other = refl
done_alike d Overran other = refl

-- An action that is not done at a date doesn't end there.
pub ends_not : (date : ℕ) (v : Verdict) → ((point : ℕ) → v ≡ Done point date → ⊥) → ends_at date v ≡ false
ends_not date (Done point end) not = ne_eqb end date (λ e. not point (ap (Done point) e))
ends_not date (Trapped kind) not = refl
ends_not date Overran not = refl

-- One that is done there does.
pub done_ends : (date point : ℕ) (v : Verdict) → v ≡ Done point date → (ends_at date v ≡ true) × (is_done_by date v ≡ true) × (is_done v ≡ true)
done_ends date point v e = (ap (ends_at date) e ∙ eq-eqb date date refl, ap (is_done_by date) e ∙ le-leb date date (omega arith), ap is_done e)

-- ---- a silent receiver

-- Where an agent isn't silent at a date, it wasn't before,
loud_earlier : (quiet : Bool) (d : ℕ) (actions : List Action) → rests quiet (suc d) actions ≡ false → rests quiet d actions ≡ false
loud_earlier quiet d [] loud = loud
loud_earlier quiet d (r ∷ before) loud = elim (and_cases (not (is_done r.verdict)) (nat_le r.deadline (suc d)) loud) [
  | inl done ↦ and_left (not (is_done r.verdict)) (nat_le r.deadline d) done
  | inr early ↦ and_right (not (is_done r.verdict)) (nat_le r.deadline d) (sooner r.deadline early)
]
  where
    sooner : (n : ℕ) → nat_le n (suc d) ≡ false → nat_le n d ≡ false
    sooner n late = grind (arith, nat_tests)

-- And its streams were last rid of what had expired where they were a date before.
pub loud_swept : (quiet : Bool) (d : ℕ) (actions : List Action) → rests quiet (suc d) actions ≡ false → swept quiet (suc d) actions ≡ swept quiet d actions
loud_swept quiet d [] loud = ap (λ b. if b then Some (suc d) else None) loud ∙ sym (ap (λ b. if b then Some d else None) loud)
loud_swept quiet d (r ∷ before) loud =
    ap (λ b. Some (if b then suc d else r.start)) loud ∙ sym (ap (λ b. Some (if b then d else r.start)) (loud_earlier quiet d (r ∷ before) loud))

-- They are rid of it at each date where it is silent,
pub silent_swept : (quiet : Bool) (date : ℕ) (actions : List Action) → rests quiet date actions ≡ true → swept quiet date actions ≡ Some date
silent_swept quiet date [] silent = ap (λ b. if b then Some date else None) silent
silent_swept quiet date (r ∷ before) silent = ap (λ b. Some (if b then date else r.start)) silent

-- And at each of its starts.
pub start_swept : (quiet : Bool) (date : ℕ) (r : Action) (before : List Action) → r.start ≡ date → swept quiet date (r ∷ before) ≡ Some date
start_swept quiet date r before at = elim (cases_Bool (is_silent date (r ∷ before))) [
  | inl silent ↦ silent_swept quiet date (r ∷ before) silent
  | inr loud ↦ ap (λ b. Some (if b then date else r.start)) loud ∙ ap Some at
]

-- A receiver that starts nothing at a date is rid of what has expired where it is silent.
pub sweeps_silent : (quiet : Bool) (date : ℕ) (actions : List Action) (o : Option Next) → ((n : Next) → o ≡ Some n → n.start ≡ date → ⊥) → sweeps quiet date actions o ≡ true → rests quiet date actions ≡ true
sweeps_silent quiet date actions None other sweep = sweep
sweeps_silent quiet date actions (Some n) other sweep = absurd (other n refl (eqb-true n.start date sweep))

still_none : (quiet : Bool) (date : ℕ) (o : Option Next) → ((n : Next) → o ≡ Some n → quiet ≡ false) → sweeps quiet date [] o ≡ false → quiet ≡ false
still_none quiet date None loud still = still
still_none quiet date (Some n) loud still = loud n refl

-- Where its streams are left as they are, the receiver isn't silent.
pub still_loud : (s : System) (agent : ℕ) (quiet : Bool) (date : ℕ) (actions : List Action) → ((n : Next) → s.opening.starts agent ≡ Some n → quiet ≡ false)
    → sweeps quiet date actions (next_of s agent actions) ≡ false → rests quiet date actions ≡ false
still_loud s agent quiet date [] loud still = still_none quiet date (s.opening.starts agent) loud still
still_loud s agent quiet date (r ∷ before) loud still = by_verdict r.verdict refl still
  where
    by_verdict : (v : Verdict) → r.verdict ≡ v → sweeps quiet date (r ∷ before) (next_by r.number r.after v) ≡ false → is_silent date (r ∷ before) ≡ false
    by_verdict (Done point end) is still = and_left (not (is_done r.verdict)) (nat_le r.deadline date) (ap (λ x. not (is_done x)) is)
    by_verdict (Trapped kind) is still = still
    by_verdict Overran is still = still

-- Where no action ends at a date, none of them gives up a message there.
pub given_none : (date stream : ℕ) (actions : List Action) → ((r : Action) → Contains actions r → ends_at date r.verdict ≡ false) → given_up date stream actions ≡ 0
given_none date stream [] none = refl
given_none date stream (r ∷ before) none = ap (λ b. if b then length (taken r stream) else 0) (none r (contains_front r before))
