-- What is known behind a date of who moved there, and of when the next seat changes.
use Rattle.std.proofs.Common.{◌≡◌, ℕ, suc, ◌+◌, ◌-◌, ◌<◌, ◌≤◌, Bool, true, false, not, ◌&&◌, List, [], ◌∷◌, length, get_or, Option, Some, refl, sym, ap, subst, ◌∙◌, inl, inr, add-one, arith}
use Rattle.std.specs.Prelude.{if◌then◌else◌, nat_le, ◌==◌, ◌≢◌, slice_get}
use Rattle.std.proofs.lemmas.Bool.{cases_Bool, cond-true, leb-true, ne_eqb}
use Rattle.std.proofs.lemmas.Option.{same_Some, slice_get-get_or, slice_get_within}
use Rattle.psy_history.specs.Actions.{Action, System, is_done, is_silent, timing}
use Rattle.psy_history.specs.History.{history}
use Rattle.psy_history.specs.Regular.{IsLawful}
use Rattle.psy_history.specs.Schedule.{Turn, is_pending}
use Rattle.psy_meaning.specs.Timing.{Timing, first_date}
use Rattle.psy_dates.specs.declared.plan.Plan.{Plan}
use Rattle.psy_dates.specs.declared.seat.Phase.{Phase}
use Rattle.psy_dates.specs.declared.seat.Phase.TheVariants as phase
use Rattle.psy_dates.specs.declared.seat.Seat.{Seat}
use Rattle.psy_dates.specs.Messages.{nowhere}
use Rattle.psy_dates.specs.Movers.{IsBefore, NamesAll, NoneStopped, falls_by, falls_in, first_in, moves_by, moves_in, of_seat, starts_by, starts_in}
use Rattle.psy_dates.specs.Moves.{seat_by, seat_then, timing_in}
use Rattle.psy_dates.specs.Standing.{IsSeated}
use Rattle.psy_dates.proofs.Histories.{was_started}
use Rattle.psy_dates.proofs.lemmas.Begun.{AreBegun, seat_of_last}
use Rattle.psy_dates.proofs.lemmas.Moving.{moves_of, seat_still, silent_from}
use Rattle.psy_dates.proofs.lemmas.Names.{names_fewer}

-- ---- a seat that changes

-- Its agent acts then, or is silent: so no date of its next change is known.
abbrev IsFree : ℕ → ℕ → Seat → Type 0
IsFree date first seat = IsBefore date first seat seat.phase

moved_free : (least : ℕ) (timing : Timing) (date : ℕ) (seat : Seat) (p : Phase) → moves_by date (first_date timing) seat p ≡ true → IsFree least (first_date timing) (seat_by timing date seat p)
moved_free least timing date seat phase.Waiting e = subst (IsFree least (first_date timing)) (sym (cond-true (first_date timing == date) _ _ e)) (tt {0})
moved_free least timing date seat phase.Acting e = cc
moved_free least timing date seat phase.Ended e = subst (IsFree least (first_date timing)) (sym (cond-true (seat.end == date) _ _ e)) (tt {0})
moved_free least timing date seat phase.Stopped e = subst (IsFree least (first_date timing)) (sym (cond-true (nat_le seat.deadline date) _ _ e)) (tt {0})
moved_free least timing date seat phase.Silent e = cc

-- One that wasn't stopped isn't so behind the date.
abbrev IsLoud : Phase → Type 0
IsLoud p = (p ≢ phase.Stopped) × (p ≢ phase.Silent)

acting_loud : IsLoud phase.Acting
acting_loud = (λ e. cc, λ e. cc)

by_test : (b : Bool) (new old : Seat) → IsLoud new.phase → IsLoud old.phase → IsLoud (if b then new else old).phase
by_test true new old is was = is
by_test false new old is was = was

then_loud : (timing : Timing) (date : ℕ) (seat : Seat) (p : Phase) → seat.phase ≡ p → IsLoud seat.phase → IsLoud (seat_by timing date seat p).phase
then_loud timing date seat phase.Waiting at was = by_test (first_date timing == date) _ seat acting_loud was
then_loud timing date seat phase.Acting at was = was
then_loud timing date seat phase.Ended at was = by_test (seat.end == date) _ seat acting_loud was
then_loud timing date seat phase.Stopped at was = absurd (was.0 at)
then_loud timing date seat phase.Silent at was = was

-- ---- a seat before the date

due_is : (done due : Bool) → (not done && due) ≡ true → due ≡ true
due_is true due e = cc
due_is false due e = e

starts_not : (dates : ℕ) (seat : Seat) (p : Phase) → (suc seat.start ≡ dates → ⊥) → starts_by dates seat p ≡ false
starts_not dates seat phase.Waiting e = refl
starts_not dates seat phase.Acting e = ne_eqb (suc seat.start) dates e
starts_not dates seat phase.Ended e = refl
starts_not dates seat phase.Stopped e = refl
starts_not dates seat phase.Silent e = refl

falls_not : (dates : ℕ) (seat : Seat) (p : Phase) → (p ≡ phase.Silent → suc seat.deadline ≡ dates → ⊥) → falls_by dates seat p ≡ false
falls_not dates seat phase.Waiting e = refl
falls_not dates seat phase.Acting e = refl
falls_not dates seat phase.Ended e = refl
falls_not dates seat phase.Stopped e = refl
falls_not dates seat phase.Silent e = ne_eqb (suc seat.deadline) dates (e refl)

module _ (s : System) (lawful : IsLawful s) (date : ℕ) (begun : AreBegun s date) (turns : List (Option Turn)) (agent : ℕ) (seat : Seat) where
  -- Neither has its action started at the date, nor has it fallen silent there.
  abbrev pub IsEarlier : Type 0
  IsEarlier = (starts_by (suc date) seat seat.phase ≡ false) × (falls_by (suc date) seat seat.phase ≡ false)

  pub seat_earlier : IsSeated (s.opening.silent agent) s.opening.dates (date - 1) turns (history s date agent) seat → IsEarlier
  seat_earlier = from (s.opening.silent agent) (history s date agent) refl
    where
      from : (quiet : Bool) (actions : List Action) → history s date agent ≡ actions → IsSeated quiet s.opening.dates (date - 1) turns actions seat → IsEarlier
      from false [] is waits = (ap (starts_by (suc date) seat) waits, ap (falls_by (suc date) seat) waits)
      from true [] is rests = (ap (starts_by (suc date) seat) rests.phase, falls_not (suc date) seat seat.phase (λ p e. omega (arith, rests.deadline, begun.behind, e)))
      from quiet (r ∷ before) is sits =
          let of = seat_of_last quiet s.opening.dates (date - 1) turns r before seat sits in
          let was = was_started s lawful date agent r before is in
          let start : r.start ≡ was.next.start = ap (λ (q : Action). q.start) was.made in
          let late : seat.phase ≡ phase.Silent → r.deadline ≤ date - 1 = λ p.
          leb-true r.deadline (date - 1) (due_is (is_done r.verdict) (nat_le r.deadline (date - 1)) (silent_from (is_silent (date - 1) (r ∷ [])) (is_pending turns r) (is_done r.verdict) (sym of.phase ∙ p))) in
          (starts_not (suc date) seat seat.phase (λ e. omega (arith, e, of.start, start, was.at)), falls_not (suc date) seat seat.phase (λ p e. omega (arith, e, of.deadline, late p, was.at)))

-- ---- the seats behind the date

module _ (plan : Plan) (date : ℕ) (old new : List Seat) (seated : length new ≡ length old) (moved : (agent : ℕ) (seat : Seat) → slice_get old agent ≡ Some seat → slice_get new agent ≡ Some (seat_then (timing_in plan agent) date seat)) where
  -- a seat behind the date, by the one before
  was_seat : (agent : ℕ) (seat : Seat) → slice_get new agent ≡ Some seat → (before : Seat) × (slice_get old agent ≡ Some before) × (seat ≡ seat_then (timing_in plan agent) date before)
  was_seat agent seat at =
      let here = slice_get-get_or old agent nowhere (omega (arith, slice_get_within new agent seat at, seated)) in
      (get_or old agent nowhere, here, same_Some _ _ (sym at ∙ moved agent (get_or old agent nowhere) here))

  pub before_then : (least : ℕ) → ((agent : ℕ) (seat : Seat) → slice_get old agent ≡ Some seat → moves_in plan date old agent ≡ false → IsBefore least (first_in plan agent) seat seat.phase)
      → (agent : ℕ) (seat : Seat) → slice_get new agent ≡ Some seat → IsBefore least (first_in plan agent) seat seat.phase
  before_then least others agent seat at =
      let (before, was, is) = was_seat agent seat at in
      subst (IsFree least (first_in plan agent)) (sym is) (elim (cases_Bool (moves_in plan date old agent)) [
        | inl moves ↦ moved_free least (timing_in plan agent) date before before.phase (sym (moves_of plan date old agent before was) ∙ moves)
        | inr stays ↦ subst (IsFree least (first_in plan agent)) (sym (seat_still plan date old agent before was stays)) (others agent before was stays)
      ])

  pub loud_then : NoneStopped old → NoneStopped new
  loud_then none agent seat at =
      let (before, was, is) = was_seat agent seat at in
      subst (λ (x : Seat). IsLoud x.phase) (sym is) (then_loud (timing_in plan agent) date before before.phase refl (none agent before was))

  module _ (earlier : (agent : ℕ) (seat : Seat) → slice_get old agent ≡ Some seat → (starts_by (suc date) seat seat.phase ≡ false) × (falls_by (suc date) seat seat.phase ≡ false)) where
    -- Who doesn't move neither starts there, nor falls silent.
    unmoved : (agent : ℕ) → agent < length old → moves_in plan date old agent ≡ false → (starts_in (suc date) new agent ≡ false) × (falls_in (suc date) new agent ≡ false)
    unmoved agent l stays =
        let before = get_or old agent nowhere in
        let was = slice_get-get_or old agent nowhere l in
        let now : slice_get new agent ≡ Some before = moved agent before was ∙ ap Some (seat_still plan date old agent before was stays) in
        let not = earlier agent before was in
        (ap (of_seat (λ seat. starts_by (suc date) seat seat.phase)) now ∙ not.0, ap (of_seat (λ seat. falls_by (suc date) seat seat.phase)) now ∙ not.1)

    module _ (names : List ℕ) (all : NamesAll (moves_in plan date old) (length old) 0 names) where
      pub starts_then : NamesAll (starts_in (date + 1) new) (length new) 0 names
      starts_then =
          subst (λ n. NamesAll (starts_in n new) (length new) 0 names) (sym (add-one date)) (subst (λ n. NamesAll (starts_in (suc date) new) n 0 names) (sym seated)
          (names_fewer (moves_in plan date old) (starts_in (suc date) new) (length old) 0 names (λ agent l stays. (unmoved agent l stays).0) all))

      pub falls_then : NamesAll (falls_in (date + 1) new) (length new) 0 names
      falls_then =
          subst (λ n. NamesAll (falls_in n new) (length new) 0 names) (sym (add-one date)) (subst (λ n. NamesAll (falls_in (suc date) new) n 0 names) (sym seated)
          (names_fewer (moves_in plan date old) (falls_in (suc date) new) (length old) 0 names (λ agent l stays. (unmoved agent l stays).1) all))
