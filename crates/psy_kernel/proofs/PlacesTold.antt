-- A line at a place tells what is told of a date there.
use Rattle.std.proofs.Common.{◌≡◌, ℕ, ◌+◌, ◌-◌, ◌<◌, ◌≤◌, Bool, true, false, List, [], ◌∷◌, ◌++◌, length, slice_get, Option, Some, None, ℤ, refl, sym, ap, subst, ◌∙◌, arith}
use Rattle.std.proofs.lemmas.List.{append-nil}
use Rattle.psy_base.specs.declared.sizes.Sizes.{Sizes}
use Rattle.psy_clock.specs.declared.clock.Clock.{Clock}
use Rattle.psy_tree.specs.declared.unit.VarDecl.{VarDecl}
use Rattle.psy_history.specs.Actions.{System, publishing, variable_of}
use Rattle.psy_tree.specs.Parts.{agent_at}
use Rattle.psy_history.specs.History.{history}
use Rattle.psy_history.specs.Lines.{stops_of}
use Rattle.psy_history.specs.Schedule.{Turn}
use Rattle.psy_history.specs.Regular.{AreRegular}
use Rattle.psy_dates.specs.declared.seat.Seat.{Seat}
use Rattle.psy_dates.specs.declared.shared.Shared.{Shared}
use Rattle.psy_dates.specs.Standing.{IsQuiet, IsSeated, SeatStands, SharedStands, committed_at}
use Rattle.psy_kernel.specs.declared.engine.lines.Mark.{Mark}
use Rattle.psy_kernel.specs.Standing.{told_from}
use Rattle.psy_kernel.specs.Telling.{IsNextTold, IsToldBy, TellsStop, TellsValue, places_of, told_by}
use Rattle.psy_kernel.proofs.Publications.{value_told}
use Rattle.psy_kernel.proofs.Stops.{seat_told}
use Rattle.psy_kernel.proofs.ToldPlaces.{told_more, told_stop, told_value}

module _ (s : System) (sizes : Sizes) (turns : ℕ → List (Option Turn)) (date : ℕ) (shared : Shared) (stands : SharedStands s sizes turns (date + 1) shared) (place : ℕ) (result : Bool) (old new : List ℕ) where
  last : date + 1 - 1 ≡ date
  last = omega arith

  loud_told : (seat : Seat) (name : List ℕ) → AreRegular s (date + 1) place (history s (date + 1) place) → place < length s.unit.agents → SeatStands date (turns place) (history s (date + 1) place) seat
      → name ≡ (agent_at s.unit place).name → TellsStop seat name date result old new → IsToldBy s date (told_by s date place) result old new
  loud_told seat name regular within seated named told =
      let tells : TellsStop seat (agent_at s.unit place).name date result old new = subst (λ n. TellsStop seat n date result old new) named told in
      subst (λ es. IsToldBy s date es result old new) (sym (told_stop s date place within)) (seat_told s date (date + 1) place (turns place) seat old new result (history s (date + 1) place) seated regular tells)

  -- A silent agent without actions fell silent at a date that was done before, and tells nothing.
  quiet_told : s.opening.dates ≤ date → (seat : Seat) (name : List ℕ) → IsQuiet s.opening.dates seat → (result : Bool) → TellsStop seat name date result old new → IsToldBy s date [] result old new
  quiet_told later seat name rests true told = absurd (omega (arith, later, rests.deadline, told.1))
  quiet_told later seat name rests false told = (refl, told.1)

  pub agent_told : s.opening.dates ≤ date → (s.opening.silent place ≡ true → history s (date + 1) place ≡ []) → (seat : Seat) (name : List ℕ) → AreRegular s (date + 1) place (history s (date + 1) place) → place < length s.unit.agents
      → slice_get shared.seats.items place ≡ Some seat → name ≡ (agent_at s.unit place).name → TellsStop seat name date result old new → IsToldBy s date (told_by s date place) result old new
  agent_told later none seat name regular within at named told = by (s.opening.silent place) refl
    where
      seated : IsSeated (s.opening.silent place) s.opening.dates date (turns place) (history s (date + 1) place) seat
      seated = subst (λ d. IsSeated (s.opening.silent place) s.opening.dates d (turns place) (history s (date + 1) place) seat) last (stands.seats place seat at)

      by : (quiet : Bool) → s.opening.silent place ≡ quiet → IsToldBy s date (told_by s date place) result old new
      by true quiet =
          let rests : IsQuiet s.opening.dates seat = subst (λ rs. IsSeated true s.opening.dates date (turns place) rs seat) (none quiet) (subst (λ q. IsSeated q s.opening.dates date (turns place) (history s (date + 1) place) seat) quiet seated) in
          subst (λ es. IsToldBy s date es result old new) (sym (told_stop s date place within ∙ ap (stops_of date) (none quiet))) (quiet_told later seat name rests result told)
      by false loud = loud_told seat name regular within (subst (λ q. IsSeated q s.opening.dates date (turns place) (history s (date + 1) place) seat) loud seated) named told

  pub variable_told : s.opening.dates ≤ date → (v : VarDecl) (clock : Clock) (value : ℤ) → length s.unit.agents ≤ place → v ≡ variable_of s (place - length s.unit.agents) → clock ≡ publishing s (place - length s.unit.agents)
      → slice_get shared.committed.items (place - length s.unit.agents) ≡ Some value → TellsValue v clock value date result old new → IsToldBy s date (told_by s date place) result old new
  variable_told later v clock value behind named timed at told =
      let variable : ℕ = place - length s.unit.agents in
      let committed : value ≡ committed_at s (history s (date + 1)) variable date = subst (λ d. value ≡ committed_at s (history s (date + 1)) variable d) last (stands.committed variable value at) in
      let tells : TellsValue (variable_of s variable) (publishing s variable) value date result old new =
      subst (λ c. TellsValue (variable_of s variable) c value date result old new) timed (subst (λ w. TellsValue w clock value date result old new) named told) in
      subst (λ es. IsToldBy s date es result old new) (sym (told_value s date place behind)) (value_told s (history s (date + 1)) date variable later result value old new committed tells)

-- ---- the walk

module _ (s : System) (date : ℕ) where
  -- Behind a place that tells nothing as much is told as before it.
  pub walked_on : (place at : ℕ) (old new : List ℕ) → at < places_of s → told_from s date at 0 ≡ told_from s date place 0 → IsToldBy s date (told_by s date at) false old new → told_from s date (at + 1) 0 ≡ told_from s date place 0
  walked_on place at old new within same told =
      told_more s date at within ∙ ap (λ xs. told_from s date at 0 ++ xs) told.0 ∙ append-nil (told_from s date at 0) ∙ same

  -- Behind one that tells an event that one is told as well.
  pub walked_to : (place at : ℕ) (old new : List ℕ) → at < places_of s → told_from s date at 0 ≡ told_from s date place 0 → IsToldBy s date (told_by s date at) true old new
      → IsNextTold s date (places_of s) place 0 (Some (record { place = at + 1; shown = 0 })) old new
  walked_to place at old new within same told = (
    omega (arith, within),
    λ _. refl,
    told.0,
    told_more s date at within ∙ ap (λ xs. told_from s date at 0 ++ xs) told.1 ∙ ap (λ xs. xs ++ told.0 ∷ []) same,
    told.2,
  )

  -- The first event from a place on is the first one from another before which as much is told.
  pub told_as : (end first m place n : ℕ) (result : Option Mark) (old new : List ℕ) → told_from s date first m ≡ told_from s date place n → IsNextTold s date end first m result old new → IsNextTold s date end place n result old new
  told_as end first m place n None old new same told = (told.0 ∙ same, told.1)
  told_as end first m place n (Some mark) old new same told = (told.0, told.1, told.2, told.3 ∙ ap (λ xs. xs ++ told.2 ∷ []) same, told.4)
