-- The stop of an agent, by its seat and by its last action.
use Rattle.std.proofs.Common.{◌≡◌, ℕ, ◌≤◌, Bool, true, false, not, ◌&&◌, if◌then◌else◌, nat_le, ◌==◌, List, [], ◌∷◌, ◌++◌, All, length, Option, Some, None, refl, sym, ap, subst, ◌∙◌, arith}
use Rattle.std.proofs.lemmas.Bool.{eq-eqb, eqb-true, le-leb}
use Rattle.std.proofs.lemmas.List.{append-nil}
use Rattle.std.proofs.lemmas.List.Elements.{All-head}
use Rattle.psy_arith.specs.declared.operators.Trap.{Trap}
use Rattle.psy_history.specs.Actions.{Action, Next, System, Verdict, Done, Trapped, Overran, is_done, is_silent, next_by}
use Rattle.psy_history.specs.Executors.{Carried}
use Rattle.psy_tree.specs.Parts.{agent_at}
use Rattle.psy_history.specs.Lines.{Stop, stops_by, stops_of}
use Rattle.psy_history.specs.Schedule.{Turn, is_pending}
use Rattle.psy_history.specs.Regular.{AreRegular, IsRegular, WereStarted}
use Rattle.psy_dates.specs.declared.seat.Phase.TheVariants as phase
use Rattle.psy_dates.specs.declared.seat.Seat.{Seat}
use Rattle.psy_dates.specs.Standing.{SeatStands, TellsEnd, trap_of}
use Rattle.psy_dates.proofs.lemmas.Moving.{silent_by, silent_from}
use Rattle.psy_kernel.specs.Telling.{IsToldBy, TellsStop, stop_line}
use Rattle.psy_kernel.specs.Texts.{event_line}

-- ---- the verdict

nil_either : {X : Type 0} (b : Bool) (xs : List X) → xs ≡ [] → (if b then xs else []) ≡ []
nil_either true xs e = e
nil_either false xs e = refl

few_either : {X : Type 0} (b : Bool) (xs : List X) → length xs ≤ 1 → length (if b then xs else []) ≤ 1
few_either true xs l = l
few_either false xs l = omega arith

done_stops : (agent : ℕ) (v : Verdict) → is_done v ≡ true → stops_by agent v ≡ []
done_stops agent (Done point end) e = refl
done_stops agent (Trapped kind) e = cc
done_stops agent Overran e = cc

next_done : (number : ℕ) (carried : Carried) (v : Verdict) (n : Next) → next_by number carried v ≡ Some n → is_done v ≡ true
next_done number carried (Done point end) n e = refl
next_done number carried (Trapped kind) n e = cc
next_done number carried Overran n e = cc

one_stop : (agent : ℕ) (v : Verdict) → length (stops_by agent v) ≤ 1
one_stop agent (Done point end) = omega arith
one_stop agent (Trapped kind) = omega arith
one_stop agent Overran = omega arith

stops_as : (agent : ℕ) (v : Verdict) → is_done v ≡ false → stops_by agent v ≡ Stop agent (trap_of v) ∷ []
stops_as agent (Done point end) e = cc
stops_as agent (Trapped kind) e = refl
stops_as agent Overran e = refl

tells_trap : (seat : Seat) (v : Verdict) → is_done v ≡ false → TellsEnd seat v phase.Silent → seat.trap ≡ trap_of v
tells_trap seat (Done point end) e h = cc
tells_trap seat (Trapped kind) e h = h
tells_trap seat Overran e h = h

-- ---- earlier actions

-- All actions before the last one reached a point.
no_stops : (s : System) (date dates agent : ℕ) (r : Action) (before : List Action) → WereStarted s dates agent (r ∷ before) → stops_of date before ≡ []
no_stops s date dates agent r [] w = refl
no_stops s date dates agent r (q ∷ before) w =
    let done : is_done q.verdict ≡ true = next_done q.number q.after q.verdict w.0.next w.0.is_next in
    let here : (if q.deadline == date then stops_by q.agent q.verdict else []) ≡ [] = nil_either (q.deadline == date) (stops_by q.agent q.verdict) (done_stops q.agent q.verdict done) in
    let rest : stops_of date before ≡ [] = no_stops s date dates agent q before w.1 in
    ap (λ xs. xs ++ stops_of date before) here ∙ rest

append_none : {X : Type 0} (xs ys : List X) → ys ≡ [] → xs ++ ys ≡ xs
append_none xs ys e = ap (λ zs. xs ++ zs) e ∙ append-nil xs

last_stops : (s : System) (date dates agent : ℕ) (r : Action) (before : List Action) → WereStarted s dates agent (r ∷ before)
    → stops_of date (r ∷ before) ≡ (if r.deadline == date then stops_by r.agent r.verdict else [])
last_stops s date dates agent r before w = append_none (if r.deadline == date then stops_by r.agent r.verdict else []) (stops_of date before) (no_stops s date dates agent r before w)

-- An agent stops at most once.
pub stops_few : (s : System) (date dates agent : ℕ) (actions : List Action) → WereStarted s dates agent actions → length (stops_of date actions) ≤ 1
stops_few s date dates agent [] w = omega arith
stops_few s date dates agent (r ∷ before) w =
    let last : length (if r.deadline == date then stops_by r.agent r.verdict else []) ≤ 1 = few_either (r.deadline == date) (stops_by r.agent r.verdict) (one_stop r.agent r.verdict) in
    subst (λ xs. length xs ≤ 1) (sym (last_stops s date dates agent r before w)) last

-- ---- the seat

not_done : (done due : Bool) → (not done && due) ≡ true → done ≡ false
not_done true due e = cc
not_done false due e = refl

is_stopped : (done due : Bool) → done ≡ false → due ≡ true → (not done && due) ≡ true
is_stopped done due e h = cc

-- The line of a stop
event_stop : (s : System) (date agent : ℕ) (trap : Option Trap) → event_line s date (Stop agent trap) ≡ stop_line date (agent_at s.unit agent).name trap
event_stop s date agent None = refl
event_stop s date agent (Some kind) = refl

module _ (s : System) (date dates agent : ℕ) (turns : List (Option Turn)) (seat : Seat) (old new : List ℕ) where
  abbrev name : List ℕ
  name = (agent_at s.unit agent).name

  stop_told : (actions : List Action) → SeatStands date turns actions seat → WereStarted s dates agent actions → All (IsRegular s agent) actions
      → TellsStop seat name date true old new → IsToldBy s date (stops_of date actions) true old new
  stop_told [] stands w each told = absurd (cc (stands, told.0))
  stop_told (r ∷ before) stands w each told =
      let silent : is_silent date (r ∷ []) ≡ true = silent_from (is_silent date (r ∷ [])) (is_pending turns r) (is_done r.verdict) (sym stands.phase ∙ told.0) in
      let stopped : is_done r.verdict ≡ false = not_done (is_done r.verdict) (nat_le r.deadline date) silent in
      let due : (r.deadline == date) ≡ true = eq-eqb r.deadline date (sym stands.deadline ∙ told.1) in
      let mine : r.agent ≡ agent = (All-head (IsRegular s agent) r before each).agent_is in
      let trap : seat.trap ≡ trap_of r.verdict = tells_trap seat r.verdict stopped (subst (TellsEnd seat r.verdict) told.0 stands.ends) in
      let one : stops_of date (r ∷ before) ≡ Stop agent seat.trap ∷ [] =
      last_stops s date dates agent r before w
      ∙ ap (λ b. if b then stops_by r.agent r.verdict else []) due
      ∙ stops_as r.agent r.verdict stopped
      ∙ ap (λ a. Stop a (trap_of r.verdict) ∷ []) mine
      ∙ ap (λ t. Stop agent t ∷ []) (sym trap) in
      (Stop agent seat.trap, one, told.2 ∙ sym (event_stop s date agent seat.trap))

  none_told : (actions : List Action) → SeatStands date turns actions seat → WereStarted s dates agent actions
      → TellsStop seat name date false old new → IsToldBy s date (stops_of date actions) false old new
  none_told [] stands w told = (refl, told.1)
  none_told (r ∷ before) stands w told =
      (last_stops s date dates agent r before w ∙ by (r.deadline == date) refl (is_done r.verdict) refl, told.1)
    where
      by : (b : Bool) → (r.deadline == date) ≡ b → (v : Bool) → is_done r.verdict ≡ v → (if b then stops_by r.agent r.verdict else []) ≡ []
      by false e v d = refl
      by true e true d = done_stops r.agent r.verdict d
      by true e false d =
          let on : r.deadline ≡ date = eqb-true r.deadline date e in
          let silent : is_silent date (r ∷ []) ≡ true = is_stopped (is_done r.verdict) (nat_le r.deadline date) d (le-leb r.deadline date (omega (arith, on))) in
          absurd (told.0 (stands.phase ∙ silent_by (is_silent date (r ∷ [])) (is_pending turns r) (is_done r.verdict) silent) (stands.deadline ∙ on))

  -- A seat tells the stop of its agent.
  pub seat_told : (result : Bool) (actions : List Action) → SeatStands date turns actions seat → AreRegular s dates agent actions
      → TellsStop seat name date result old new → IsToldBy s date (stops_of date actions) result old new
  seat_told true actions stands regular told = stop_told actions stands regular.were_started regular.each told
  seat_told false actions stands regular told = none_told actions stands regular.were_started told
