-- What an agent is at, by its last action.
use Rattle.std.proofs.Common.{◌≡◌, ℕ, ◌<◌, ◌≤◌, Bool, true, false, not, ◌&&◌, List, Option, refl, ap, ◌∙◌, arith}
use Rattle.std.specs.Prelude.{nat_le}
use Rattle.std.proofs.lemmas.Bool.{and_right, lt-leb, lt-ltb}
use Rattle.psy_history.specs.Actions.{Action, Verdict, Done, Trapped, Overran, is_done}
use Rattle.psy_history.specs.Schedule.{Turn, is_pending, units, work}
use Rattle.psy_dates.specs.declared.seat.Phase.TheVariants as phase
use Rattle.psy_dates.specs.declared.seat.Seat.{Seat}
use Rattle.psy_dates.specs.Standing.{TellsEnd, phase_by, phase_of}

-- ---- by the tests

pub by_pending : (silent pending done : Bool) → silent ≡ false → pending ≡ true → phase_by silent pending done ≡ phase.Acting
by_pending silent pending done a b = ap (λ x. phase_by x pending done) a ∙ ap (λ x. phase_by false x done) b

pub by_ended : (silent pending done : Bool) → phase_by silent pending done ≡ phase.Ended → (pending ≡ false) × (done ≡ true)
by_ended true pending done e = cc
by_ended false true done e = cc
by_ended false false true e = (refl, refl)
by_ended false false false e = cc

-- ---- by the verdict

pub of_done : (date : ℕ) (turns : List (Option Turn)) (r : Action) → is_done r.verdict ≡ true → phase_of date turns r ≡ phase_by false (is_pending turns r) true
of_done date turns r e = ap (λ done. phase_by (not done && nat_le r.deadline date) (is_pending turns r) done) e

pub of_stopped : (date : ℕ) (turns : List (Option Turn)) (r : Action) → is_done r.verdict ≡ false → phase_of date turns r ≡ phase_by (nat_le r.deadline date) (is_pending turns r) false
of_stopped date turns r e = ap (λ done. phase_by (not done && nat_le r.deadline date) (is_pending turns r) done) e

-- One that starts at a date and had no cycle yet
pub of_started : (date : ℕ) (turns : List (Option Turn)) (r : Action) → date < r.deadline → 1 ≤ r.budget → 1 ≤ r.charge → units r.agent r.number turns ≡ 0 → phase_of date turns r ≡ phase.Acting
of_started date turns r due granted charged none =
    by_pending _ _ _ (and_right (not (is_done r.verdict)) (nat_le r.deadline date) (lt-leb r.deadline date due)) (lt-ltb (units r.agent r.number turns) (work r) (omega (arith, granted, charged, none)))

-- An agent that has ended an action at some date, had done so before
pub ended_before : (date other : ℕ) (turns : List (Option Turn)) (r : Action) → phase_of date turns r ≡ phase.Ended → phase_of other turns r ≡ phase.Ended
ended_before date other turns r e =
    let is = by_ended _ _ _ e in
    of_done other turns r is.1 ∙ ap (λ pending. phase_by false pending true) is.0

-- ---- what a seat tells

pub tells_acting : (seat : Seat) (verdict : Verdict) → TellsEnd seat verdict phase.Acting
tells_acting seat (Done point end) = tt {0}
tells_acting seat (Trapped kind) = tt {0}
tells_acting seat Overran = tt {0}

pub tells_silent : (seat : Seat) (verdict : Verdict) → is_done verdict ≡ false → TellsEnd seat verdict phase.Stopped → TellsEnd (record seat { phase = phase.Silent }) verdict phase.Silent
tells_silent seat (Done point end) e h = cc
tells_silent seat (Trapped kind) e h = h
tells_silent seat Overran e h = h
