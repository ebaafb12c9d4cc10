-- The values committed up to a date, and the copies that are kept, where they were so for the dates before.
use Rattle.std.proofs.Common.{◌≡◌, ℕ, ◌+◌, suc, ◌-◌, ◌≤◌, Bool, true, false, List, [], ◌∷◌, length, Option, Some, None, refl, sym, ap, subst, ◌∙◌, inl, inr, arith}
use Rattle.std.specs.Prelude.{nat_le, ◌==◌, ◌≢◌, if◌then◌else◌, ℤ}
use Rattle.std.proofs.lemmas.Bool.{true≢false, cases_Bool, cases_eq, cases_order, cond-true, cond-false, eq-eqb, ne_eqb, le-leb, lt-leb}
use Rattle.psy_history.proofs.lemmas.Commits.{not_yet}
use Rattle.psy_history.specs.Actions.{Action, Next, System, Verdict, Done, Trapped, Overran, is_done, next_by, next_of}
use Rattle.psy_history.specs.Executors.{copy_in}
use Rattle.psy_history.specs.History.{action_of, history}
use Rattle.psy_history.specs.Schedule.{Turn, is_pending, units}
use Rattle.psy_history.specs.Visible.{commit, committed_in}
use Rattle.psy_history.specs.Regular.{IsLawful, WasStarted, first_number}
use Rattle.psy_dates.specs.declared.seat.Phase.{Phase}
use Rattle.psy_dates.specs.declared.seat.Phase.TheVariants as phase
use Rattle.psy_dates.specs.declared.seat.Seat.{Seat}
use Rattle.psy_dates.specs.Moves.{ends_at, ends_by}
use Rattle.psy_dates.specs.Standing.{IsSeated, KeepsCopy, SeatOf, TellsEnd, phase_by, phase_of}
use Rattle.psy_dates.proofs.lemmas.Begun.{ends_none, seat_of_last}
use Rattle.psy_dates.proofs.Histories.{goes_on, is_regular, starts, stays, was_started}
use Rattle.psy_dates.proofs.Phases.{by_ended, ended_before, of_done}
use Rattle.psy_dates.proofs.Seats.{acting}

-- One that was followed had ended by the date at which the next one started
followed : (s : System) (variable date agent by : ℕ) (n : Next) (r : Action) (before : List Action) (v : Verdict) → r.verdict ≡ v → next_by r.number r.after v ≡ Some n → n.start ≤ by → committed_in s variable by (r ∷ before) ≡ copy_in r.after variable
followed s variable date agent by n r before (Done point end) verdict next early =
    let ends : end ≡ n.start = cc in
    ap (commit variable by r.after (committed_in s variable by before)) verdict ∙ cond-true (nat_le end by) _ _ (le-leb end by (omega (arith, ends, early)))
followed s variable date agent by n r before (Trapped kind) verdict next early = cc
followed s variable date agent by n r before Overran verdict next early = cc

-- Those before an agent's last action commit nothing at a later date
older : (s : System) (variable date agent : ℕ) (r : Action) (before : List Action) → WasStarted s date agent before r → committed_in s variable date before ≡ committed_in s variable (date - 1) before
older s variable date agent r [] was = refl
older s variable date agent r (q ∷ before) was =
    followed s variable date agent date was.next q before q.verdict refl was.is_next (omega (arith, was.at)) ∙ sym (followed s variable date agent (date - 1) was.next q before q.verdict refl was.is_next (omega (arith, was.at)))

ends_not : (p : Phase) (at : Bool) → p ≢ phase.Ended → ends_by p at ≡ false
ends_not phase.Waiting at other = refl
ends_not phase.Acting at other = refl
ends_not phase.Ended at other = absurd (other refl)
ends_not phase.Stopped at other = refl
ends_not phase.Silent at other = refl

pub acts_not : phase.Acting ≡ phase.Ended → ⊥
acts_not e = cc

module _ (s : System) (lawful : IsLawful s) (date : ℕ) (turns : List (Option Turn)) (agent : ℕ) where
  -- an action that starts at a date commits nothing by it
  pub same_by : (variable : ℕ) → committed_in s variable date (history s (suc date) agent) ≡ committed_in s variable date (history s date agent)
  same_by variable = from (next_of s agent (history s date agent)) refl
    where
      from : (next : Option Next) → next_of s agent (history s date agent) ≡ next → committed_in s variable date (history s (suc date) agent) ≡ committed_in s variable date (history s date agent)
      from None e = ap (committed_in s variable date) (goes_on s date agent e)
      from (Some n) e = elim (cases_eq n.start date) [
        | inl at ↦ (
            let r = action_of s (history s date) agent n in
            let is = is_regular s lawful (suc date) agent r (history s date agent) (starts s date agent n e at) in
            ap (committed_in s variable date) (starts s date agent n e at)
            ∙ not_yet variable date r.after (committed_in s variable date (history s date agent)) r.verdict (λ point end done. omega (arith, is.due, at, (is.ends point end done).2)))
        | inr later ↦ ap (committed_in s variable date) (stays s date agent n e later)
      ]

  -- ---- an agent whose last action is this

  module _ (r : Action) (before : List Action) (is : history s date agent ≡ r ∷ before) (seat : Seat) (stands : SeatOf (date - 1) turns r seat) (late : seat.deadline ≤ date → seat.phase ≢ phase.Acting) where
    -- what is committed, by whether the action has ended
    of_verdict : (variable by point end : ℕ) → r.verdict ≡ Done point end → committed_in s variable by (r ∷ before) ≡ (if nat_le end by then copy_in r.after variable else committed_in s variable by before)
    of_verdict variable by point end verdict = ap (commit variable by r.after (committed_in s variable by before)) verdict

    done : (variable point end : ℕ) (value copy : ℤ) → r.verdict ≡ Done point end → value ≡ committed_in s variable (date - 1) (r ∷ before) → (phase_of (date - 1) turns r ≡ phase.Ended → copy ≡ copy_in r.after variable) → (if ends_at date (Some seat) then copy else value) ≡ committed_in s variable date (r ∷ before)
    done variable point end value copy verdict stood kept =
        let ends = (is_regular s lawful date agent r before is).ends point end verdict in
        let was = was_started s lawful date agent r before is in
        let is_now : phase_of (date - 1) turns r ≡ phase_by false (is_pending turns r) true = of_done (date - 1) turns r (ap is_done verdict) in
        let new = of_verdict variable date point end verdict in
        let old : value ≡ (if nat_le end (date - 1) then copy_in r.after variable else committed_in s variable (date - 1) before) = stood ∙ of_verdict variable (date - 1) point end verdict in
        let other : (end ≡ date → ⊥) → ends_at date (Some seat) ≡ false = λ o. elim (cases_Bool (is_pending turns r)) [
          | inl pending ↦ ap (λ p. ends_by p (seat.end == date)) (stands.phase ∙ is_now ∙ ap (λ p. phase_by false p true) pending)
          | inr finished ↦ (
              let at : seat.phase ≡ phase.Ended = stands.phase ∙ is_now ∙ ap (λ p. phase_by false p true) finished in
              let tells : TellsEnd seat (Done point end) phase.Ended = subst (λ v. TellsEnd seat v phase.Ended) verdict (subst (TellsEnd seat r.verdict) at stands.ends) in
              ap (λ p. ends_by p (seat.end == date)) at ∙ ne_eqb seat.end date (λ e. o (sym tells.0 ∙ e)))
        ] in
        elim (cases_order end date) [
          | inl now ↦ elim (cases_Bool (is_pending turns r)) [
            | inl pending ↦ absurd (late (omega (arith, stands.deadline, ends.2, now)) (stands.phase ∙ is_now ∙ ap (λ p. phase_by false p true) pending))
            | inr finished ↦ (
                let ended : phase_of (date - 1) turns r ≡ phase.Ended = is_now ∙ ap (λ p. phase_by false p true) finished in
                let at : seat.phase ≡ phase.Ended = stands.phase ∙ ended in
                let tells : TellsEnd seat (Done point end) phase.Ended = subst (λ v. TellsEnd seat v phase.Ended) verdict (subst (TellsEnd seat r.verdict) at stands.ends) in
                let commits : ends_at date (Some seat) ≡ true = ap (λ p. ends_by p (seat.end == date)) at ∙ eq-eqb seat.end date (tells.0 ∙ now) in
                cond-true (ends_at date (Some seat)) copy value commits ∙ kept ended ∙ sym (new ∙ cond-true (nat_le end date) _ _ (le-leb end date (omega (arith, now)))))
          ]
          | inr apart ↦ elim apart [
            | inl early ↦ cond-false (ends_at date (Some seat)) copy value (other (λ e. omega (arith, e, early)))
                ∙ old ∙ cond-true (nat_le end (date - 1)) _ _ (le-leb end (date - 1) (omega (arith, early))) ∙ sym (new ∙ cond-true (nat_le end date) _ _ (le-leb end date (omega (arith, early))))
            | inr later ↦ cond-false (ends_at date (Some seat)) copy value (other (λ e. omega (arith, e, later)))
                ∙ old ∙ cond-false (nat_le end (date - 1)) _ _ (lt-leb end (date - 1) (omega (arith, later))) ∙ sym (older s variable date agent r before was) ∙ sym (new ∙ cond-false (nat_le end date) _ _ (lt-leb end date later))
          ]
        ]

    stopped : (variable : ℕ) (value copy : ℤ) → is_done r.verdict ≡ false → ((by : ℕ) → committed_in s variable by (r ∷ before) ≡ committed_in s variable by before) → value ≡ committed_in s variable (date - 1) (r ∷ before) → (if ends_at date (Some seat) then copy else value) ≡ committed_in s variable date (r ∷ before)
    stopped variable value copy verdict same stood =
        let was = was_started s lawful date agent r before is in
        let not_ended : seat.phase ≢ phase.Ended = λ at. true≢false (sym (by_ended _ _ _ (sym stands.phase ∙ at)).1 ∙ verdict) in
        cond-false (ends_at date (Some seat)) copy value (ends_not seat.phase (seat.end == date) not_ended) ∙ stood ∙ same (date - 1) ∙ sym (older s variable date agent r before was) ∙ sym (same date)

    by_verdict : (variable : ℕ) (value copy : ℤ) (v : Verdict) → r.verdict ≡ v → value ≡ committed_in s variable (date - 1) (r ∷ before) → (phase_of (date - 1) turns r ≡ phase.Ended → copy ≡ copy_in r.after variable) → (if ends_at date (Some seat) then copy else value) ≡ committed_in s variable date (r ∷ before)
    by_verdict variable value copy (Done point end) e stood kept = done variable point end value copy e stood kept
    by_verdict variable value copy (Trapped kind) e stood kept = stopped variable value copy (ap is_done e) (λ by. ap (commit variable by r.after (committed_in s variable by before)) e) stood
    by_verdict variable value copy Overran e stood kept = stopped variable value copy (ap is_done e) (λ by. ap (commit variable by r.after (committed_in s variable by before)) e) stood

  pub committed_moves : (variable : ℕ) (value copy : ℤ) (seat : Seat) → (seat.deadline ≤ date → seat.phase ≢ phase.Acting) → IsSeated (s.opening.silent agent) s.opening.dates (date - 1) turns (history s date agent) seat → value ≡ committed_in s variable (date - 1) (history s date agent) → KeepsCopy (date - 1) turns variable (history s date agent) copy
      → (if ends_at date (Some seat) then copy else value) ≡ committed_in s variable date (history s (suc date) agent)
  committed_moves variable value copy seat late stands stood kept = from (history s date agent) refl stands stood kept ∙ sym (same_by variable)
    where
      from : (actions : List Action) → history s date agent ≡ actions → IsSeated (s.opening.silent agent) s.opening.dates (date - 1) turns actions seat → value ≡ committed_in s variable (date - 1) actions → KeepsCopy (date - 1) turns variable actions copy → (if ends_at date (Some seat) then copy else value) ≡ committed_in s variable date (history s date agent)
      from [] is waits stood kept = cond-false (ends_at date (Some seat)) copy value (ends_none (s.opening.silent agent) s.opening.dates (date - 1) turns seat (seat.end == date) waits) ∙ stood ∙ sym (ap (committed_in s variable date) is)
      from (r ∷ before) is stands stood kept = by_verdict r before is seat (seat_of_last (s.opening.silent agent) s.opening.dates (date - 1) turns r before seat stands) late variable value copy r.verdict refl stood kept ∙ sym (ap (committed_in s variable date) is)

  pub kept_moves : ((number : ℕ) → first_number s agent + length (history s date agent) ≤ number → units agent number turns ≡ 0) → (variable : ℕ) (copy : ℤ) → ((n : Next) → next_of s agent (history s date agent) ≡ Some n → first_number s agent + length (history s date agent) ≤ n.number) → KeepsCopy (date - 1) turns variable (history s date agent) copy → KeepsCopy date turns variable (history s (suc date) agent) copy
  kept_moves unstarted variable copy numbered kept = from (next_of s agent (history s date agent)) refl
    where
      before : (actions : List Action) → KeepsCopy (date - 1) turns variable actions copy → KeepsCopy date turns variable actions copy
      before [] h = tt {0}
      before (r ∷ actions) h = λ ended. h (ended_before date (date - 1) turns r ended)

      same : history s (suc date) agent ≡ history s date agent → KeepsCopy date turns variable (history s (suc date) agent) copy
      same e = subst (λ actions. KeepsCopy date turns variable actions copy) (sym e) (before (history s date agent) kept)

      from : (next : Option Next) → next_of s agent (history s date agent) ≡ next → KeepsCopy date turns variable (history s (suc date) agent) copy
      from None e = same (goes_on s date agent e)
      from (Some n) e = elim (cases_eq n.start date) [
        | inl at ↦ subst (λ actions. KeepsCopy date turns variable actions copy) (sym (starts s date agent n e at)) (λ ended. absurd (acts_not (sym (acting s lawful date turns agent unstarted n e at (numbered n e)) ∙ ended)))
        | inr later ↦ same (stays s date agent n e later)
      ]
