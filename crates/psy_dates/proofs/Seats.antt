-- The seat of an agent stands for its actions up to a date, where it did so for those before.
use Rattle.std.proofs.Common.{◌≡◌, ℕ, suc, ◌+◌, ◌-◌, ◌<◌, ◌≤◌, Bool, true, false, List, [], ◌∷◌, length, Option, Some, None, refl, sym, ap, subst, ◌∙◌, inl, inr, arith}
use Rattle.std.specs.Prelude.{nat_le, ◌==◌, ◌≢◌}
use Rattle.std.proofs.lemmas.Bool.{cases_Bool, cases_eq, cond-true, cond-false, eq-eqb, ne_eqb, leb-true, leb-false, le-leb, lt-leb}
use Rattle.psy_history.specs.Actions.{Action, Next, System, Verdict, Done, Trapped, Overran, first_action, is_done, next_by, next_of, timing}
use Rattle.psy_history.specs.History.{action_of, history}
use Rattle.psy_history.specs.Schedule.{Turn, is_pending, units}
use Rattle.psy_meaning.specs.Timing.{deadline, first_date}
use Rattle.psy_history.specs.Regular.{IsLawful, first_number, number_of}
use Rattle.psy_dates.specs.declared.seat.Phase.{Phase}
use Rattle.psy_dates.specs.declared.seat.Phase.TheVariants as phase
use Rattle.psy_dates.specs.declared.seat.Seat.{Seat}
use Rattle.psy_dates.specs.Moves.{begun_at, seat_by, seat_then}
use Rattle.psy_dates.specs.Standing.{IsQuiet, IsSeated, SeatOf, SeatStands, TellsEnd, phase_by, phase_of}
use Rattle.psy_dates.proofs.lemmas.Begun.{AreBegun}
use Rattle.psy_dates.proofs.Histories.{goes_on, is_regular, starts, stays, was_started}
use Rattle.psy_dates.proofs.Phases.{of_done, of_started, of_stopped, tells_acting, tells_silent}

-- A seat that is left as it is
keeps : (date other : ℕ) (turns : List (Option Turn)) (r : Action) (seat : Seat) → SeatOf date turns r seat → phase_of other turns r ≡ phase_of date turns r → SeatOf other turns r seat
keeps date other turns r seat stands e = record { phase = stands.phase ∙ sym e; number = stands.number; point = stands.point; start = stands.start; deadline = stands.deadline; ends = stands.ends }

-- Where an action's cycles are none before it starts
module _ (s : System) (lawful : IsLawful s) (date : ℕ) (turns : List (Option Turn)) (agent : ℕ) (unstarted : (number : ℕ) → first_number s agent + length (history s date agent) ≤ number → units agent number turns ≡ 0) where
  -- the action that starts
  pub acting : (n : Next) → next_of s agent (history s date agent) ≡ Some n → n.start ≡ date → first_number s agent + length (history s date agent) ≤ n.number → phase_of date turns (action_of s (history s date) agent n) ≡ phase.Acting
  acting n next at new =
      let r = action_of s (history s date) agent n in
      let is = is_regular s lawful (suc date) agent r (history s date agent) (starts s date agent n next at) in
      of_started date turns r (omega (arith, is.due, at)) is.granted is.charged (unstarted n.number new)

  pub begins : (n : Next) → next_of s agent (history s date agent) ≡ Some n → n.start ≡ date → first_number s agent + length (history s date agent) ≤ n.number → SeatStands date turns (history s (suc date) agent) (begun_at (timing s agent) date n.number n.point)
  begins n next at new =
      let r = action_of s (history s date) agent n in
      let seat = begun_at (timing s agent) date n.number n.point in
      let of : SeatOf date turns r seat = record {
        phase = sym (acting n next at new);
        number = refl;
        point = refl;
        start = sym at;
        deadline = ap (deadline (timing s agent) n.point) (sym at);
        ends = tells_acting seat r.verdict;
      } in
      subst (λ actions. SeatStands date turns actions seat) (sym (starts s date agent n next at)) of

  -- ---- an agent without actions

  pub first : (seat : Seat) (n : Next) → s.opening.starts agent ≡ Some n → n.number ≡ 0 → n.point ≡ 0 → n.start ≡ first_date (timing s agent) → history s date agent ≡ [] → seat.phase ≡ phase.Waiting → SeatStands date turns (history s (suc date) agent) (seat_then (timing s agent) date seat)
  first seat n starts number point start none waits =
      let its = timing s agent in
      let next : next_of s agent (history s date agent) ≡ Some n = ap (next_of s agent) none ∙ starts in
      let by : seat_then its date seat ≡ seat_by its date seat phase.Waiting = ap (seat_by its date seat) waits in
      elim (cases_eq (first_date its) date) [
        | inl at ↦ (
            let is : seat_then its date seat ≡ begun_at its date n.number n.point = by ∙ cond-true (first_date its == date) _ _ (eq-eqb (first_date its) date at) ∙ ap (λ k. begun_at its date k 0) (sym number) ∙ ap (begun_at its date n.number) (sym point) in
            subst (SeatStands date turns (history s (suc date) agent)) (sym is) (begins n next (start ∙ at) (omega (arith, ap length none, ap number_of starts))))
        | inr later ↦ (
            let is : seat_then its date seat ≡ seat = by ∙ cond-false (first_date its == date) _ _ (ne_eqb (first_date its) date later) in
            let same = stays s date agent n next (λ at. later (sym start ∙ at)) ∙ none in
            subst (λ actions. SeatStands date turns actions (seat_then its date seat)) (sym same) (ap (λ x. x.phase) is ∙ waits))
      ]

  -- ---- an agent whose last action is this

  module _ (r : Action) (before : List Action) (is : history s date agent ≡ r ∷ before) (seat : Seat) (stands : SeatOf (date - 1) turns r seat) (late : seat.deadline ≤ date → seat.phase ≢ phase.Acting) where
    abbrev Moved : Type 0
    Moved = SeatStands date turns (history s (suc date) agent) (seat_then (timing s agent) date seat)

    -- the seat stays as it is, and no action starts
    unmoved : (p : Phase) → seat.phase ≡ p → seat_by (timing s agent) date seat p ≡ seat → phase_of date turns r ≡ p → history s (suc date) agent ≡ history s date agent → Moved
    unmoved p at by new same =
        let whole : seat_then (timing s agent) date seat ≡ seat = ap (seat_by (timing s agent) date seat) at ∙ by in
        let of = keeps (date - 1) date turns r seat stands (new ∙ sym at ∙ stands.phase) in
        subst (SeatStands date turns (history s (suc date) agent)) (sym whole) (subst (λ actions. SeatStands date turns actions seat) (sym (same ∙ is)) of)

    acts : seat.phase ≡ phase.Acting → date < r.deadline
    acts at = elim (cases_Bool (nat_le r.deadline date)) [
      | inl over ↦ absurd (late (omega (arith, stands.deadline, leb-true r.deadline date over)) at)
      | inr early ↦ leb-false r.deadline date early
    ]

    done : (point end : ℕ) → r.verdict ≡ Done point end → Moved
    done point end verdict =
        let its = timing s agent in
        let ends = (is_regular s lawful date agent r before is).ends point end verdict in
        let is_now : (d : ℕ) → phase_of d turns r ≡ phase_by false (is_pending turns r) true = λ d. of_done d turns r (ap is_done verdict) in
        let n : Next = record { number = r.number + 1; point = point; start = end; carried = r.after } in
        let next : next_of s agent (history s date agent) ≡ Some n = ap (next_of s agent) is ∙ ap (next_by r.number r.after) verdict in
        elim (cases_Bool (is_pending turns r)) [
          | inl pending ↦ (
              let now : (d : ℕ) → phase_of d turns r ≡ phase.Acting = λ d. is_now d ∙ ap (λ p. phase_by false p true) pending in
              let at : seat.phase ≡ phase.Acting = stands.phase ∙ now (date - 1) in
              let due = acts at in
              unmoved phase.Acting at refl (now date) (stays s date agent n next (λ e. omega (arith, due, ends.2, e))))
          | inr finished ↦ (
              let now : (d : ℕ) → phase_of d turns r ≡ phase.Ended = λ d. is_now d ∙ ap (λ p. phase_by false p true) finished in
              let at : seat.phase ≡ phase.Ended = stands.phase ∙ now (date - 1) in
              let tells : TellsEnd seat (Done point end) phase.Ended = subst (λ v. TellsEnd seat v phase.Ended) verdict (subst (TellsEnd seat r.verdict) at stands.ends) in
              elim (cases_eq end date) [
                | inl ended ↦ (
                    let whole : seat_then its date seat ≡ begun_at its date n.number n.point =
                    ap (seat_by its date seat) at ∙ cond-true (seat.end == date) _ _ (eq-eqb seat.end date (tells.0 ∙ ended)) ∙ ap (λ k. begun_at its date (k + 1) seat.reached) stands.number ∙ ap (begun_at its date (r.number + 1)) tells.1 in
                    subst (SeatStands date turns (history s (suc date) agent)) (sym whole) (begins n next ended (omega (arith, ap length is, (was_started s lawful date agent r before is).number))))
                | inr other ↦ unmoved phase.Ended at (cond-false (seat.end == date) _ _ (ne_eqb seat.end date (λ e. other (sym tells.0 ∙ e)))) (now date) (stays s date agent n next other)
              ])
        ]

    stopped : is_done r.verdict ≡ false → next_by r.number r.after r.verdict ≡ None → Moved
    stopped verdict none =
        let its = timing s agent in
        let is_now : (d : ℕ) → phase_of d turns r ≡ phase_by (nat_le r.deadline d) (is_pending turns r) false = λ d. of_stopped d turns r verdict in
        let same = goes_on s date agent (ap (next_of s agent) is ∙ none) in
        elim (cases_Bool (nat_le r.deadline (date - 1))) [
          | inl silent ↦ (
              let at : seat.phase ≡ phase.Silent = stands.phase ∙ is_now (date - 1) ∙ ap (λ b. phase_by b (is_pending turns r) false) silent in
              let over : nat_le r.deadline date ≡ true = le-leb r.deadline date (omega (arith, leb-true r.deadline (date - 1) silent)) in
              unmoved phase.Silent at refl (is_now date ∙ ap (λ b. phase_by b (is_pending turns r) false) over) same)
          | inr heard ↦ elim (cases_Bool (is_pending turns r)) [
            | inl pending ↦ (
                let at : seat.phase ≡ phase.Acting = stands.phase ∙ is_now (date - 1) ∙ ap (λ b. phase_by b (is_pending turns r) false) heard ∙ ap (λ p. phase_by false p false) pending in
                unmoved phase.Acting at refl (is_now date ∙ ap (λ b. phase_by b (is_pending turns r) false) (lt-leb r.deadline date (acts at)) ∙ ap (λ p. phase_by false p false) pending) same)
            | inr finished ↦ (
                let at : seat.phase ≡ phase.Stopped = stands.phase ∙ is_now (date - 1) ∙ ap (λ b. phase_by b (is_pending turns r) false) heard ∙ ap (λ p. phase_by false p false) finished in
                let by : seat_then its date seat ≡ seat_by its date seat phase.Stopped = ap (seat_by its date seat) at in
                elim (cases_Bool (nat_le r.deadline date)) [
                  | inl over ↦ (
                      let silent : Seat = record seat { phase = phase.Silent } in
                      let whole : seat_then its date seat ≡ silent = by ∙ cond-true (nat_le seat.deadline date) _ _ (ap (λ d. nat_le d date) stands.deadline ∙ over) in
                      let of : SeatOf date turns r silent = record {
                        phase = sym (is_now date ∙ ap (λ b. phase_by b (is_pending turns r) false) over);
                        number = stands.number;
                        point = stands.point;
                        start = stands.start;
                        deadline = stands.deadline;
                        ends = tells_silent seat r.verdict verdict (subst (TellsEnd seat r.verdict) at stands.ends);
                      } in
                      subst (SeatStands date turns (history s (suc date) agent)) (sym whole) (subst (λ actions. SeatStands date turns actions silent) (sym (same ∙ is)) of))
                  | inr early ↦ unmoved phase.Stopped at (cond-false (nat_le seat.deadline date) _ _ (ap (λ d. nat_le d date) stands.deadline ∙ early)) (is_now date ∙ ap (λ b. phase_by b (is_pending turns r) false) early ∙ ap (λ p. phase_by false p false) finished) same
                ])
          ]
        ]

    by_verdict : (v : Verdict) → r.verdict ≡ v → Moved
    by_verdict (Done point end) e = done point end e
    by_verdict (Trapped kind) e = stopped (ap is_done e) (ap (next_by r.number r.after) e)
    by_verdict Overran e = stopped (ap is_done e) (ap (next_by r.number r.after) e)

  -- ---- a silent agent without actions

  still_quiet : (before : ℕ) (seat : Seat) → IsQuiet before seat → IsQuiet before (seat_then (timing s agent) date seat)
  still_quiet before seat rests = (let same : seat_then (timing s agent) date seat ≡ seat = ap (seat_by (timing s agent) date seat) rests.phase in subst (IsQuiet before) (sym same) rests)

  -- The seat of each agent, silent from before or not
  pub seated_moves : (seat : Seat) → AreBegun s date → agent < length s.unit.agents → (seat.deadline ≤ date → seat.phase ≢ phase.Acting)
      → IsSeated (s.opening.silent agent) s.opening.dates (date - 1) turns (history s date agent) seat
      → IsSeated (s.opening.silent agent) s.opening.dates date turns (history s (suc date) agent) (seat_then (timing s agent) date seat)
  seated_moves seat begun less late stands = from (s.opening.silent agent) refl (history s date agent) refl stands
    where
      from : (quiet : Bool) → s.opening.silent agent ≡ quiet → (actions : List Action) → history s date agent ≡ actions → IsSeated quiet s.opening.dates (date - 1) turns actions seat
          → IsSeated quiet s.opening.dates date turns (history s (suc date) agent) (seat_then (timing s agent) date seat)
      from false loud [] is waits =
          let n : Next = first_action s.unit s.nexts s.executor agent in
          first seat n (begun.waits agent less loud is) refl refl refl is waits
      from false loud (r ∷ before) is of = by_verdict r before is seat of late r.verdict refl
      from true silent [] is rests =
          subst (λ actions. IsSeated true s.opening.dates date turns actions (seat_then (timing s agent) date seat)) (sym (begun.silent (suc date) agent silent)) (still_quiet s.opening.dates seat rests)
      from true silent (r ∷ before) is of = (let no : [] ≡ r ∷ before = sym (begun.silent date agent silent) ∙ is in absurd cc)
