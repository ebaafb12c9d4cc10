-- There is a seat for an agent with any actions.
use Rattle.std.proofs.Common.{◌≡◌, ℕ, List, [], ◌∷◌, Option, refl, sym, subst}
use Rattle.psy_history.specs.Actions.{Action, Verdict, Done, Trapped, Overran}
use Rattle.psy_history.specs.Schedule.{Turn}
use Rattle.psy_dates.specs.declared.seat.Phase.{Phase}
use Rattle.psy_dates.specs.declared.seat.Phase.TheVariants as phase
use Rattle.psy_dates.specs.declared.seat.Seat.{Seat}
use Rattle.psy_dates.specs.Messages.{nowhere}
use Rattle.psy_dates.specs.Standing.{SeatOf, SeatStands, TellsEnd, phase_of, trap_of}

-- The seat with the end of an action
abbrev ended_in : Seat → Verdict → Seat
ended_in seat (Done point end) = record seat { end = end; reached = point }
ended_in seat verdict = record seat { trap = trap_of verdict }

-- The seat of an action that is at this
abbrev seat_in : Action → Phase → Verdict → Seat
seat_in r at verdict = ended_in (record nowhere { phase = at; number = r.number; point = r.point; start = r.start; deadline = r.deadline }) verdict

tells : (r : Action) (at : Phase) (verdict : Verdict) → TellsEnd (seat_in r at verdict) verdict at
tells r phase.Waiting (Done point end) = tt {0}
tells r phase.Acting (Done point end) = tt {0}
tells r phase.Ended (Done point end) = (refl, refl)
tells r phase.Stopped (Done point end) = refl
tells r phase.Silent (Done point end) = refl
tells r phase.Waiting (Trapped kind) = tt {0}
tells r phase.Acting (Trapped kind) = tt {0}
tells r phase.Ended (Trapped kind) = tt {0}
tells r phase.Stopped (Trapped kind) = refl
tells r phase.Silent (Trapped kind) = refl
tells r phase.Waiting Overran = tt {0}
tells r phase.Acting Overran = tt {0}
tells r phase.Ended Overran = tt {0}
tells r phase.Stopped Overran = refl
tells r phase.Silent Overran = refl

module _ (date : ℕ) (turns : List (Option Turn)) where
  seat_by : (r : Action) (verdict : Verdict) → r.verdict ≡ verdict → (seat : Seat) × SeatOf date turns r seat
  seat_by r (Done point end) is = (seat_in r (phase_of date turns r) (Done point end), record { phase = refl; number = refl; point = refl; start = refl; deadline = refl; ends = subst (λ v. TellsEnd (seat_in r (phase_of date turns r) (Done point end)) v (phase_of date turns r)) (sym is) (tells r (phase_of date turns r) (Done point end)) })
  seat_by r (Trapped kind) is = (seat_in r (phase_of date turns r) (Trapped kind), record { phase = refl; number = refl; point = refl; start = refl; deadline = refl; ends = subst (λ v. TellsEnd (seat_in r (phase_of date turns r) (Trapped kind)) v (phase_of date turns r)) (sym is) (tells r (phase_of date turns r) (Trapped kind)) })
  seat_by r Overran is = (seat_in r (phase_of date turns r) Overran, record { phase = refl; number = refl; point = refl; start = refl; deadline = refl; ends = subst (λ v. TellsEnd (seat_in r (phase_of date turns r) Overran) v (phase_of date turns r)) (sym is) (tells r (phase_of date turns r) Overran) })

  pub some_seat : (actions : List Action) → (seat : Seat) × SeatStands date turns actions seat
  some_seat [] = (nowhere, refl)
  some_seat (r ∷ before) = seat_by r r.verdict refl
