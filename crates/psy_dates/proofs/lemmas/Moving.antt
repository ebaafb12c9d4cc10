-- Seats that don't change at a date.
use Rattle.std.proofs.Common.{◌≡◌, ℕ, suc, ◌+◌, ◌≤◌, Bool, true, false, List, length, Option, Some, None, refl, sym, ap, ◌∙◌, inl, inr, arith}
use Rattle.std.specs.Prelude.{nat_le, ◌==◌, ◌≢◌, slice_get}
use Rattle.std.proofs.lemmas.Bool.{cases_lt, cond-false, eq-eqb, true≢false}
use Rattle.std.proofs.lemmas.Option.{slice_get_past}
use Rattle.psy_meaning.specs.Timing.{Timing, first_date}
use Rattle.psy_dates.specs.declared.plan.Plan.{Plan}
use Rattle.psy_dates.specs.declared.seat.Phase.{Phase}
use Rattle.psy_dates.specs.declared.seat.Phase.TheVariants as phase
use Rattle.psy_dates.specs.declared.seat.Seat.{Seat}
use Rattle.psy_dates.specs.Messages.{sweeps_by}
use Rattle.psy_dates.specs.Movers.{IsBefore, NamesAll, ends_in, falls_by, first_in, moves_by, moves_in, of_seat}
use Rattle.psy_dates.specs.Moves.{ends_at, ends_by, seat_by, seat_then, timing_in}
use Rattle.psy_dates.specs.Standing.{phase_by}
use Rattle.psy_dates.proofs.lemmas.Names.{names_fewer, names_none}

-- ---- one seat

-- One that doesn't change stays as it is.
still_seat : (timing : Timing) (date : ℕ) (seat : Seat) (p : Phase) → moves_by date (first_date timing) seat p ≡ false → seat_by timing date seat p ≡ seat
still_seat timing date seat phase.Waiting e = cond-false (first_date timing == date) _ _ e
still_seat timing date seat phase.Acting e = refl
still_seat timing date seat phase.Ended e = cond-false (seat.end == date) _ _ e
still_seat timing date seat phase.Stopped e = cond-false (nat_le seat.deadline date) _ _ e
still_seat timing date seat phase.Silent e = refl

-- It ends no action there.
ends_not : (date first : ℕ) (seat : Seat) (p : Phase) → moves_by date first seat p ≡ false → ends_by p (seat.end == date) ≡ false
ends_not date first seat phase.Waiting e = refl
ends_not date first seat phase.Acting e = refl
ends_not date first seat phase.Ended e = e
ends_not date first seat phase.Stopped e = refl
ends_not date first seat phase.Silent e = refl

-- Unless it is silent its streams stay.
pub sweeps_not : (date first : ℕ) (seat : Seat) (p : Phase) → p ≢ phase.Silent → moves_by date first seat p ≡ false → sweeps_by date first seat p ≡ false
sweeps_not date first seat phase.Waiting loud e = e
sweeps_not date first seat phase.Acting loud e = refl
sweeps_not date first seat phase.Ended loud e = e
sweeps_not date first seat phase.Stopped loud e = e
sweeps_not date first seat phase.Silent loud e = absurd (loud refl)

-- Who is silent in its last action fell so.
pub silent_from : (silent pending done : Bool) → phase_by silent pending done ≡ phase.Silent → silent ≡ true
silent_from true pending done e = refl
silent_from false true done e = cc
silent_from false false true e = cc
silent_from false false false e = cc

pub silent_by : (silent pending done : Bool) → silent ≡ true → phase_by silent pending done ≡ phase.Silent
silent_by silent pending done e = ap (λ b. phase_by b pending done) e

-- Who has started an action doesn't wait.
pub never_waits : (silent pending done : Bool) → phase_by silent pending done ≡ phase.Waiting → ⊥
never_waits true pending done e = cc
never_waits false true done e = cc
never_waits false false true e = cc
never_waits false false false e = cc

-- ---- the next date at which one changes

-- An earlier date is before it too.
pub before_less : (earlier date first : ℕ) (seat : Seat) (p : Phase) → earlier ≤ date → IsBefore date first seat p → IsBefore earlier first seat p
before_less earlier date first seat phase.Waiting l h = omega (arith, l, h)
before_less earlier date first seat phase.Acting l h = h
before_less earlier date first seat phase.Ended l h = omega (arith, l, h)
before_less earlier date first seat phase.Stopped l h = omega (arith, l, h)
before_less earlier date first seat phase.Silent l h = h

-- ---- whether it fell silent

-- A seat that is silent where another one is, and has its deadline, fell silent where that did.
pub falls_like : (dates : ℕ) (old seat : Seat) (p : Phase) → (p ≡ phase.Silent → old.phase ≡ phase.Silent) → seat.deadline ≡ old.deadline → falls_by dates old old.phase ≡ false → falls_by dates seat p ≡ false
falls_like dates old seat phase.Waiting so same e = refl
falls_like dates old seat phase.Acting so same e = refl
falls_like dates old seat phase.Ended so same e = refl
falls_like dates old seat phase.Stopped so same e = refl
falls_like dates old seat phase.Silent so same e = ap (λ n. suc n == dates) same ∙ sym (ap (falls_by dates old) (so refl)) ∙ e

-- One that is silent fell so at another date, where it didn't at this one.
pub fell_not : (date : ℕ) (seat : Seat) → falls_by (date + 1) seat seat.phase ≡ false → seat.phase ≡ phase.Silent → seat.deadline ≡ date → ⊥
fell_not date seat e silent on =
    let here : suc seat.deadline ≡ date + 1 = omega (arith, on) in
    true≢false (sym (eq-eqb (suc seat.deadline) (date + 1) here) ∙ sym (ap (falls_by (date + 1) seat) silent) ∙ e)

-- ---- an agent's seat

of_found : (test : Seat → Bool) (found : Option Seat) (seat : Seat) → found ≡ Some seat → of_seat test found ≡ test seat
of_found test found seat at = ap (of_seat test) at

module _ (plan : Plan) (date : ℕ) (seats : List Seat) where
  -- what a test of a seat says
  pub moves_of : (agent : ℕ) (seat : Seat) → slice_get seats agent ≡ Some seat → moves_in plan date seats agent ≡ moves_by date (first_in plan agent) seat seat.phase
  moves_of agent seat at = of_found (λ x. moves_by date (first_in plan agent) x x.phase) (slice_get seats agent) seat at

  pub seat_still : (agent : ℕ) (seat : Seat) → slice_get seats agent ≡ Some seat → moves_in plan date seats agent ≡ false → seat_then (timing_in plan agent) date seat ≡ seat
  seat_still agent seat at e = still_seat (timing_in plan agent) date seat seat.phase (sym (moves_of agent seat at) ∙ e)

  -- Who doesn't move doesn't end an action.
  pub ends_less : (agent : ℕ) → moves_in plan date seats agent ≡ false → ends_in date seats agent ≡ false
  ends_less agent = from (slice_get seats agent)
    where
      from : (found : Option Seat) → of_seat (λ seat. moves_by date (first_in plan agent) seat seat.phase) found ≡ false → ends_at date found ≡ false
      from None e = refl
      from (Some seat) e = ends_not date (first_in plan agent) seat seat.phase e

  pub names_ends : (end from : ℕ) (names : List ℕ) → NamesAll (moves_in plan date seats) end from names → NamesAll (ends_in date seats) end from names
  names_ends end from names = names_fewer (moves_in plan date seats) (ends_in date seats) end from names (λ agent l. ends_less agent)

-- Where nobody is named nobody ends an action.
pub none_ends : (date : ℕ) (seats : List Seat) (names : List ℕ) → length names ≡ 0 → NamesAll (ends_in date seats) (length seats) 0 names → (agent : ℕ) → ends_at date (slice_get seats agent) ≡ false
none_ends date seats names empty all agent = elim (cases_lt agent (length seats)) [
  | inl within ↦ names_none (ends_in date seats) (length seats) names empty all agent within
  | inr past ↦ ap (ends_at date) (slice_get_past seats agent past)
]
