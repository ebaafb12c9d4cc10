-- How the agents of a history begin, and what that says of their seats.
use Rattle.std.proofs.Common.{◌≡◌, ℕ, ◌<◌, ◌≤◌, Bool, true, false, List, [], ◌∷◌, length, Option, Some, None, refl, sym, ap, ◌∙◌, inl, inr, arith}
use Rattle.std.proofs.lemmas.Bool.{cases_lt}
use Rattle.psy_base.specs.declared.limits.TheConstants.{STALL}
use Rattle.psy_code.specs.declared.code.Code.{Code}
use Rattle.psy_history.specs.Actions.{Action, Next, System, first_action}
use Rattle.psy_history.specs.History.{history}
use Rattle.psy_history.specs.Openings.{IsSound}
use Rattle.psy_history.specs.Regular.{first_number, number_of}
use Rattle.psy_history.specs.Schedule.{Turn}
use Rattle.psy_meaning.specs.KnownWays.{Ways}
use Rattle.psy_dates.specs.declared.seat.Phase.TheVariants as phase
use Rattle.psy_dates.specs.declared.seat.Seat.{Seat}
use Rattle.psy_dates.specs.Moves.{IsNumbered, ends_by}
use Rattle.psy_dates.specs.Standing.{IsSeated, SeatOf}

-- What is known of them at a date behind those that were done before: no action starts before, nor one of a silent agent; an agent that isn't
-- silent and has no action begins as in a whole run; and the first numbers are small.
pub record AreBegun (s : System) (date : ℕ) : Type 0 where
  pub behind : s.opening.dates ≤ date
  pub none : (d agent : ℕ) → d < s.opening.dates → history s d agent ≡ []
  pub silent : (d agent : ℕ) → s.opening.silent agent ≡ true → history s d agent ≡ []
  pub waits : (agent : ℕ) → agent < length s.unit.agents → s.opening.silent agent ≡ false → history s date agent ≡ []
      → s.opening.starts agent ≡ Some (first_action s.unit s.nexts s.executor agent)
  pub unstarted : (agent : ℕ) → s.opening.silent agent ≡ true → s.opening.starts agent ≡ None
  pub numbers : (agent : ℕ) → first_number s agent ≤ STALL

-- A silent agent of a sound opening starts no action.
starts_none : (s : System) (ways : Ways) (code : Code) → IsSound s ways code → (agent : ℕ) → s.opening.silent agent ≡ true → (o : Option Next) → s.opening.starts agent ≡ o → o ≡ None
starts_none s ways code sound agent silent None is = refl
starts_none s ways code sound agent silent (Some n) is = (let no : true ≡ false = sym silent ∙ (sound.known agent n is).1 in absurd cc)

-- The first numbers of a sound opening
small_number : (s : System) (ways : Ways) (code : Code) → IsSound s ways code → (agent : ℕ) (o : Option Next) → s.opening.starts agent ≡ o → number_of o ≤ STALL
small_number s ways code sound agent None is = omega arith
small_number s ways code sound agent (Some n) is = elim (sound.places agent n is) [
  | inl begun ↦ begun.number
  | inr waits ↦ (let number : n.number ≡ 0 = ap (λ (m : Next). m.number) waits.first in omega (arith, number))
]

-- So much the laws say of a run.
pub are_begun : (s : System) (ways : Ways) (code : Code) (date : ℕ) → IsSound s ways code → s.opening.dates ≤ date
    → ((d agent : ℕ) → d < s.opening.dates → history s d agent ≡ []) → ((d agent : ℕ) → s.opening.silent agent ≡ true → history s d agent ≡ [])
    → ((d agent : ℕ) → s.opening.dates ≤ d → agent < length s.unit.agents → s.opening.silent agent ≡ false → history s d agent ≡ []
    → s.opening.starts agent ≡ Some (first_action s.unit s.nexts s.executor agent))
    → AreBegun s date
are_begun s ways code date sound behind none silent waits = record {
  behind = behind;
  none = none;
  silent = silent;
  waits = λ agent. waits date agent behind;
  unstarted = λ agent silent. starts_none s ways code sound agent silent (s.opening.starts agent) refl;
  numbers = λ agent. small_number s ways code sound agent (s.opening.starts agent) refl;
}

-- An action stands in a history behind those dates alone.
pub stands_behind : (s : System) (date : ℕ) → AreBegun s date → (d agent : ℕ) (r : Action) (before : List Action) → history s d agent ≡ r ∷ before → s.opening.dates ≤ d
stands_behind s date begun d agent r before is = elim (cases_lt d s.opening.dates) [
  | inl early ↦ (let no : [] ≡ r ∷ before = sym (begun.none d agent early) ∙ is in absurd cc)
  | inr late ↦ late
]

-- ---- seats

-- An agent without actions has ended none,
pub ends_none : (quiet : Bool) (before date : ℕ) (turns : List (Option Turn)) (seat : Seat) (at : Bool) → IsSeated quiet before date turns [] seat → ends_by seat.phase at ≡ false
ends_none false before date turns seat at waits = ap (λ p. ends_by p at) waits
ends_none true before date turns seat at rests = ap (λ p. ends_by p at) rests.phase

pub none_numbered : (quiet : Bool) (before date : ℕ) (turns : List (Option Turn)) (seat : Seat) → IsSeated quiet before date turns [] seat → IsNumbered seat
none_numbered false before date turns seat waits = λ ended. (let no : phase.Waiting ≡ phase.Ended = sym waits ∙ ended in absurd cc)
none_numbered true before date turns seat rests = λ ended. (let no : phase.Silent ≡ phase.Ended = sym rests.phase ∙ ended in absurd cc)

-- And that of an agent with actions is the one of its last action.
pub seat_of_last : (quiet : Bool) (before date : ℕ) (turns : List (Option Turn)) (r : Action) (earlier : List Action) (seat : Seat) → IsSeated quiet before date turns (r ∷ earlier) seat → SeatOf date turns r seat
seat_of_last false before date turns r earlier seat of = of
seat_of_last true before date turns r earlier seat of = of
