-- What is kept of an agent's last action once that has ended, as long as the agent starts no other one.
use Rattle.std.proofs.Common.{◌≡◌, ℕ, suc, ◌+◌, ◌-◌, ◌<◌, ◌≤◌, Bool, true, false, List, [], ◌∷◌, length, Option, Some, None, refl, sym, ap, subst, ◌∙◌, inl, inr, arith}
use Rattle.std.specs.Prelude.{if◌then◌else◌, nat_le, ◌==◌, ◌≢◌}
use Rattle.std.proofs.lemmas.Bool.{cases_Bool, cases_eq, cond-true, cond-false, eqb-true}
use Rattle.std.proofs.lemmas.Option.{same_Some}
use Rattle.psy_code.specs.declared.look.Sent.{Sent}
use Rattle.psy_history.specs.Actions.{Action, Next, System, Verdict, Done, Trapped, Overran, next_by, next_of}
use Rattle.psy_history.specs.History.{history}
use Rattle.psy_history.specs.Schedule.{Turn, units}
use Rattle.psy_meaning.specs.Timing.{Timing}
use Rattle.psy_history.specs.Visible.{taken}
use Rattle.psy_history.specs.Queues.{ends_at as ended_at}
use Rattle.psy_history.specs.Regular.{IsLawful, first_number}
use Rattle.psy_dates.specs.declared.seat.Phase.{Phase}
use Rattle.psy_dates.specs.declared.seat.Phase.TheVariants as phase
use Rattle.psy_dates.specs.declared.seat.Seat.{Seat}
use Rattle.psy_dates.specs.Moves.{ends_at, ends_by, seat_by, seat_then}
use Rattle.psy_dates.specs.Standing.{IsSeated, KeepsSends, KeepsTakes, phase_of}
use Rattle.psy_dates.proofs.lemmas.Begun.{ends_none, seat_of_last}
use Rattle.psy_dates.proofs.lemmas.Moving.{never_waits}
use Rattle.psy_dates.proofs.Endings.{tells}
use Rattle.psy_dates.proofs.Histories.{goes_on, numbered, starts, stays, was_started}
use Rattle.psy_dates.proofs.Phases.{ended_before}
use Rattle.psy_dates.proofs.Seats.{acting}

-- Of an agent that has ended its action something of that is kept, and before its first one there is nothing.
abbrev pub Kept : {X : Type 0} → X → (Action → X) → ℕ → List (Option Turn) → List Action → X → Type 0
Kept nothing of date turns [] x = x ≡ nothing
Kept nothing of date turns (r ∷ before) x = phase_of date turns r ≡ phase.Ended → x ≡ of r

-- What was sent
pub sends_kept : (date : ℕ) (turns : List (Option Turn)) (actions : List Action) (sends : List Sent) → KeepsSends date turns actions sends → Kept [] (λ r. r.deeds.sends) date turns actions sends
sends_kept date turns [] sends h = h
sends_kept date turns (r ∷ before) sends h = h

pub kept_sends : (date : ℕ) (turns : List (Option Turn)) (actions : List Action) (sends : List Sent) → Kept [] (λ r. r.deeds.sends) date turns actions sends → KeepsSends date turns actions sends
kept_sends date turns [] sends h = h
kept_sends date turns (r ∷ before) sends h = h

-- How many messages of a stream were taken
pub takes_kept : (date : ℕ) (turns : List (Option Turn)) (stream : ℕ) (actions : List Action) (n : ℕ) → KeepsTakes date turns stream actions n → Kept 0 (λ r. length (taken r stream)) date turns actions n
takes_kept date turns stream [] n h = h
takes_kept date turns stream (r ∷ before) n h = h

pub kept_takes : (date : ℕ) (turns : List (Option Turn)) (stream : ℕ) (actions : List Action) (n : ℕ) → Kept 0 (λ r. length (taken r stream)) date turns actions n → KeepsTakes date turns stream actions n
kept_takes date turns stream [] n h = h
kept_takes date turns stream (r ∷ before) n h = h

-- An action that ends at a date is followed by one that starts there
follows_there : (date number : ℕ) (r : Action) (v : Verdict) → ended_at date v ≡ true → (m : Next) × (next_by number r.after v ≡ Some m) × (m.start ≡ date)
follows_there date number r (Done point end) e = (record { number = number + 1; point = point; start = end; carried = r.after }, refl, eqb-true end date e)
follows_there date number r (Trapped kind) e = cc
follows_there date number r Overran e = cc

-- The seat of an agent that ends its action, and of one that doesn't, behind a date
ended_by : (p : Phase) (at : Bool) → ends_by p at ≡ true → (p ≡ phase.Ended) × (at ≡ true)
ended_by phase.Waiting at e = cc
ended_by phase.Acting at e = cc
ended_by phase.Ended at e = (refl, e)
ended_by phase.Stopped at e = cc
ended_by phase.Silent at e = cc

starts_there : (timing : Timing) (date : ℕ) (seat : Seat) → ends_at date (Some seat) ≡ true → (seat_then timing date seat).start ≡ date
starts_there timing date seat e =
    let (ended, at) = ended_by seat.phase (seat.end == date) e in
    ap (λ p. (seat_by timing date seat p).start) ended ∙ ap (λ (x : Seat). x.start) (cond-true (seat.end == date) _ _ at)

silent_start : (seat : Seat) (silent : Bool) → (if silent then record seat { phase = phase.Silent } else seat).start ≡ seat.start
silent_start seat true = refl
silent_start seat false = refl

same_start : (timing : Timing) (date : ℕ) (seat : Seat) (p : Phase) → (p ≡ phase.Waiting → ⊥) → ends_by p (seat.end == date) ≡ false → (seat_by timing date seat p).start ≡ seat.start
same_start timing date seat phase.Waiting begun e = absurd (begun refl)
same_start timing date seat phase.Acting begun e = refl
same_start timing date seat phase.Ended begun e = ap (λ (x : Seat). x.start) (cond-false (seat.end == date) _ _ e)
same_start timing date seat phase.Stopped begun e = silent_start seat (nat_le seat.deadline date)
same_start timing date seat phase.Silent begun e = refl

-- An agent goes on with an action: it has ended none
pub goes_still : (timing : Timing) (date : ℕ) (seat : Seat) → (seat_then timing date seat).start < date → ends_at date (Some seat) ≡ false
goes_still timing date seat l = elim (cases_Bool (ends_at date (Some seat))) [
  | inl ends ↦ absurd (omega (arith, l, starts_there timing date seat ends))
  | inr still ↦ still
]

module _ (s : System) (lawful : IsLawful s) (date : ℕ) (turns : List (Option Turn)) (agent : ℕ) (seat : Seat) (late : seat.deadline ≤ date → seat.phase ≢ phase.Acting) (stands : IsSeated (s.opening.silent agent) s.opening.dates (date - 1) turns (history s date agent) seat) (X : Type 0) (nothing : X) (of : Action → X) (x : X) (kept : Kept nothing of (date - 1) turns (history s date agent) x) where
  -- It is gone where the action ends.
  abbrev pub kept_then : X
  kept_then = if ends_at date (Some seat) then nothing else x

  no_start : ((n : Next) → next_of s agent (history s date agent) ≡ Some n → n.start ≡ date → ⊥) → Kept nothing of date turns (history s date agent) kept_then
  no_start never = from (history s date agent) refl stands kept
    where
      from : (actions : List Action) → history s date agent ≡ actions → IsSeated (s.opening.silent agent) s.opening.dates (date - 1) turns actions seat → Kept nothing of (date - 1) turns actions x → Kept nothing of date turns actions kept_then
      from [] is waits here = cond-false (ends_at date (Some seat)) nothing x (ends_none (s.opening.silent agent) s.opening.dates (date - 1) turns seat (seat.end == date) waits) ∙ here
      from (r ∷ before) is seated here =
          let of_seat = seat_of_last (s.opening.silent agent) s.opening.dates (date - 1) turns r before seat seated in
          let told = tells s lawful date turns agent r before is seat of_seat late in
          let goes : ends_at date (Some seat) ≡ false = elim (cases_Bool (ended_at date r.verdict)) [
            | inl ends ↦ (let (m, next, at) = follows_there date r.number r r.verdict ends in absurd (never m (ap (next_of s agent) is ∙ next) at))
            | inr still ↦ told.ends ∙ still
          ] in
          λ ended. cond-false (ends_at date (Some seat)) nothing x goes ∙ here (ended_before date (date - 1) turns r ended)

  pub kept_moves : ((number : ℕ) → first_number s agent + length (history s date agent) ≤ number → units agent number turns ≡ 0) → Kept nothing of date turns (history s (suc date) agent) kept_then
  kept_moves unstarted = from (next_of s agent (history s date agent)) refl
    where
      acts_not : phase.Acting ≡ phase.Ended → ⊥
      acts_not e = cc

      from : (next : Option Next) → next_of s agent (history s date agent) ≡ next → Kept nothing of date turns (history s (suc date) agent) kept_then
      from None e = subst (λ actions. Kept nothing of date turns actions kept_then) (sym (goes_on s date agent e)) (no_start (λ n next at. cc))
      from (Some n) e = elim (cases_eq n.start date) [
        | inl at ↦ subst (λ actions. Kept nothing of date turns actions kept_then) (sym (starts s date agent n e at)) (λ ended. absurd (acts_not (sym (acting s lawful date turns agent unstarted n e at (numbered s lawful date agent n e)) ∙ ended)))
        | inr later ↦ subst (λ actions. Kept nothing of date turns actions kept_then) (sym (stays s date agent n e later)) (no_start (λ m next at. later (ap (λ (k : Next). k.start) (same_Some n m (sym e ∙ next)) ∙ at)))
      ]

  -- an agent that starts an action has kept nothing
  pub nothing_begun : (timing : Timing) → (seat_then timing date seat).start ≡ date → (seat_then timing date seat).phase ≡ phase.Acting → kept_then ≡ nothing
  nothing_begun timing at acts = elim (cases_Bool (ends_at date (Some seat))) [
    | inl ends ↦ cond-true (ends_at date (Some seat)) nothing x ends
    | inr still ↦ cond-false (ends_at date (Some seat)) nothing x still ∙ from still (history s date agent) refl stands kept
  ]
    where
      from : ends_at date (Some seat) ≡ false → (actions : List Action) → history s date agent ≡ actions → IsSeated (s.opening.silent agent) s.opening.dates (date - 1) turns actions seat → Kept nothing of (date - 1) turns actions x → x ≡ nothing
      from still [] is waits here = here
      from still (r ∷ before) is seated here =
          let of_seat = seat_of_last (s.opening.silent agent) s.opening.dates (date - 1) turns r before seat seated in
          let was = was_started s lawful date agent r before is in
          let begun : seat.phase ≡ phase.Waiting → ⊥ = λ waits. never_waits _ _ _ (sym of_seat.phase ∙ waits) in
          let start : r.start ≡ was.next.start = ap (λ (q : Action). q.start) was.made in
          absurd (omega (arith, at, same_start timing date seat seat.phase begun still, of_seat.start, start, was.at))
