-- The queue of a stream stands for what the stream holds up to a date, where it did so for the dates before.
use Rattle.std.proofs.Common.{◌≡◌, ℕ, zero, suc, ◌+◌, ◌-◌, ◌<◌, ◌≤◌, Bool, true, false, List, [], ◌∷◌, length, Option, Some, None, refl, sym, ap, subst, ◌∙◌, add-one, inl, inr, arith}
use Rattle.std.specs.Prelude.{drop, filter, if◌then◌else◌, nat_lt, ◌==◌, ◌≢◌}
use Rattle.std.proofs.lemmas.Bool.{cases_Bool, cases_eq, cond-true, cond-false, eqb-true, ne_eqb}
use Rattle.psy_base.specs.declared.message.Message.{Message}
use Rattle.psy_code.specs.declared.look.Sent.{Sent}
use Rattle.psy_queue.specs.Order.{Queued}
use Rattle.psy_history.specs.Actions.{Action, Next, System, Verdict, Done, Trapped, Overran, first_action, next_by, next_of, stream_of}
use Rattle.psy_history.specs.History.{action_of, history}
use Rattle.psy_history.specs.Schedule.{Turn}
use Rattle.psy_history.specs.Visible.{messages_by, messages_from, taken}
use Rattle.psy_history.specs.Queues.{ends_at as ended_at, entered, entering, entering_of, given_up, queue_of, settled, settled_by, sweeps}
use Rattle.psy_history.specs.Regular.{IsLawful}
use Rattle.psy_dates.specs.declared.seat.Phase.TheVariants as phase
use Rattle.psy_dates.specs.declared.seat.Seat.{Seat}
use Rattle.psy_dates.specs.Messages.{gone_by, settled_then, sweeps_by}
use Rattle.psy_dates.specs.Moves.{ends_at}
use Rattle.psy_dates.specs.Standing.{IsSeated, KeepsSends, KeepsTakes}
use Rattle.psy_dates.proofs.Endings.{tells}
use Rattle.psy_dates.proofs.lemmas.Begun.{AreBegun, ends_none, seat_of_last}
use Rattle.psy_dates.proofs.Entering.{length_entered}
use Rattle.psy_dates.proofs.Histories.{goes_on, is_regular, starts, stays, was_started}

-- ---- what goes

-- A queue that is settled alike
same_settled : (date : ℕ) (queue : Queued) (sweep : Bool) (some more : ℕ) → (sweep ≡ true → some ≡ more)
    → (if sweep then record queue { messages = filter (λ (m : Message). nat_lt date m.expiry) (drop some queue.messages) } else queue)
    ≡ record queue { messages = if sweep then filter (λ (m : Message). nat_lt date m.expiry) (drop more queue.messages) else queue.messages }
same_settled date queue true some more same = ap (λ n. record queue { messages = filter (λ (m : Message). nat_lt date m.expiry) (drop n queue.messages) }) (same refl)
same_settled date queue false some more same = refl

-- A queue that holds what is left of a stream's messages, where the receiver's actions before the date are these
abbrev settled_queue : System → ℕ → ℕ → ℕ → List Action → Queued → Queued
settled_queue s date stream agent actions queue = record queue { messages = settled_by (s.opening.silent agent) date stream actions (next_of s agent actions) queue.messages }

settled_alike : (s : System) (date stream agent first : ℕ) (actions : List Action) (seat : Seat) (took : ℕ) (queue : Queued) → sweeps_by date first seat seat.phase ≡ sweeps (s.opening.silent agent) date actions (next_of s agent actions) → (sweeps_by date first seat seat.phase ≡ true → gone_by took seat.phase ≡ given_up date stream actions)
    → settled_then date first seat took queue ≡ settled_queue s date stream agent actions queue
settled_alike s date stream agent first actions seat took queue swept gone =
    same_settled date queue (sweeps_by date first seat seat.phase) (gone_by took seat.phase) (given_up date stream actions) gone
    ∙ ap (λ (sweep : Bool). record queue { messages = if sweep then filter (λ (m : Message). nat_lt date m.expiry) (drop (given_up date stream actions) queue.messages) else queue.messages }) swept

-- ---- what enters

-- The messages of an action that ends at a date
sent_there : (s : System) (date stream agent : ℕ) (sends : List Sent) (v : Verdict) → ended_at date v ≡ true → messages_by s stream agent sends v ≡ messages_from s stream agent date 0 sends
sent_there s date stream agent sends (Done point end) e = ap (λ n. messages_from s stream agent n 0 sends) (eqb-true end date e)
sent_there s date stream agent sends (Trapped kind) e = cc
sent_there s date stream agent sends Overran e = cc

module _ (s : System) (lawful : IsLawful s) (date : ℕ) (turns : List (Option Turn)) (agent : ℕ) (seat : Seat) (late : seat.deadline ≤ date → seat.phase ≢ phase.Acting) (stands : IsSeated (s.opening.silent agent) s.opening.dates (date - 1) turns (history s date agent) seat) where
  -- the messages of an agent's action that ends there
  pub enters_there : (stream : ℕ) (sends : List Sent) → KeepsSends (date - 1) turns (history s date agent) sends → (if ends_at date (Some seat) then messages_from s stream agent date 0 sends else []) ≡ entering_of s date stream (history s date agent)
  enters_there stream sends kept = from (history s date agent) refl stands kept
    where
      mine : List Message
      mine = messages_from s stream agent date 0 sends

      from : (actions : List Action) → history s date agent ≡ actions → IsSeated (s.opening.silent agent) s.opening.dates (date - 1) turns actions seat → KeepsSends (date - 1) turns actions sends → (if ends_at date (Some seat) then messages_from s stream agent date 0 sends else []) ≡ entering_of s date stream actions
      from [] is waits keeps = cond-false (ends_at date (Some seat)) (messages_from s stream agent date 0 sends) [] (ends_none (s.opening.silent agent) s.opening.dates (date - 1) turns seat (seat.end == date) waits)
      from (r ∷ before) is seated keeps =
          let told = tells s lawful date turns agent r before is seat (seat_of_last (s.opening.silent agent) s.opening.dates (date - 1) turns r before seat seated) late in
          let its = messages_by s stream r.agent r.deeds.sends r.verdict in
          elim (cases_Bool (ended_at date r.verdict)) [
            | inl ends ↦ cond-true (ends_at date (Some seat)) (messages_from s stream agent date 0 sends) [] (told.ends ∙ ends)
                ∙ ap (messages_from s stream agent date 0) (keeps (told.ended ends).1)
                ∙ ap (λ a. messages_from s stream a date 0 r.deeds.sends) (sym (is_regular s lawful date agent r before is).agent_is)
                ∙ sym (sent_there s date stream r.agent r.deeds.sends r.verdict ends)
                ∙ sym (cond-true (ended_at date r.verdict) its [] ends)
            | inr still ↦ cond-false (ends_at date (Some seat)) (messages_from s stream agent date 0 sends) [] (told.ends ∙ still) ∙ sym (cond-false (ended_at date r.verdict) its [] still)
          ]

  -- a queue whose receiver this agent is
  pub settles_there : (stream took first : ℕ) → AreBegun s date → agent < length s.unit.agents → (first_action s.unit s.nexts s.executor agent).start ≡ first → KeepsTakes (date - 1) turns stream (history s date agent) took → (queue : Queued)
      → settled_then date first seat took queue ≡ settled_queue s date stream agent (history s date agent) queue
  settles_there stream took first begun less start kept queue = from (history s date agent) refl stands kept
    where
      -- an agent without actions waits, or it is silent
      none : (quiet : Bool) → s.opening.silent agent ≡ quiet → history s date agent ≡ [] → IsSeated quiet s.opening.dates (date - 1) turns [] seat → (sweeps_by date first seat seat.phase ≡ sweeps quiet date [] (s.opening.starts agent)) × (gone_by took seat.phase ≡ 0)
      none false loud is waits =
          (ap (sweeps_by date first seat) waits ∙ ap (λ k. k == date) (sym start) ∙ sym (ap (sweeps false date []) (begun.waits agent less loud is)), ap (gone_by took) waits)
      none true silent is rests =
          (ap (sweeps_by date first seat) rests.phase ∙ sym (ap (sweeps true date []) (begun.unstarted agent silent)), ap (gone_by took) rests.phase)

      from : (actions : List Action) → history s date agent ≡ actions → IsSeated (s.opening.silent agent) s.opening.dates (date - 1) turns actions seat → KeepsTakes (date - 1) turns stream actions took → settled_then date first seat took queue ≡ settled_queue s date stream agent actions queue
      from [] is seated keeps = (let its = none (s.opening.silent agent) refl is seated in settled_alike s date stream agent first [] seat took queue its.0 (λ sweep. its.1))
      from (r ∷ before) is seated keeps =
          let told = tells s lawful date turns agent r before is seat (seat_of_last (s.opening.silent agent) s.opening.dates (date - 1) turns r before seat seated) late in
          settled_alike s date stream agent first (r ∷ before) seat took queue (told.swept first) (λ sweep. elim (cases_Bool (ended_at date r.verdict)) [
            | inl ends ↦ ap (gone_by took) (told.ended ends).0 ∙ keeps (told.ended ends).1 ∙ sym (cond-true (ended_at date r.verdict) (length (taken r stream)) 0 ends)
            | inr still ↦ told.other took still (told.swept 0 ∙ sym (told.swept first) ∙ sweep) ∙ sym (cond-false (ended_at date r.verdict) (length (taken r stream)) 0 still)
          ])

-- ---- what was taken is there

module _ (s : System) (lawful : IsLawful s) (agent : ℕ) (r : Action) (before : List Action) where
  -- at the dates behind its start an action was there before
  was_there : (date : ℕ) → history s (suc date) agent ≡ r ∷ before → (r.start ≡ date → ⊥) → history s date agent ≡ r ∷ before
  was_there date is other = from (next_of s agent (history s date agent)) refl
    where
      from : (next : Option Next) → next_of s agent (history s date agent) ≡ next → history s date agent ≡ r ∷ before
      from None e = sym (goes_on s date agent e) ∙ is
      from (Some n) e = elim (cases_eq n.start date) [
        | inl at ↦ (
            let same : action_of s (history s date) agent n ∷ history s date agent ≡ r ∷ before = sym (starts s date agent n e at) ∙ is in
            let first : action_of s (history s date) agent n ≡ r = cc in
            absurd (other (sym (ap (λ (q : Action). q.start) first) ∙ at)))
        | inr later ↦ sym (stays s date agent n e later) ∙ is
      ]

  module _ (stream point end : ℕ) (receives : (stream_of s stream).receiver ≡ agent) (verdict : r.verdict ≡ Done point end)
      (next : (date : ℕ) → history s date agent ≡ r ∷ before → queue_of s (date + 1) stream ≡ entered (entering s date stream) (settled s date stream (queue_of s date stream)))
      (look : (date : ℕ) → history s (date + 1) agent ≡ r ∷ before → date < r.deadline → length (r.seen stream) ≤ length (queue_of s (date + 1) stream)) where
    -- nothing goes before the action ends
    unsettled : (date : ℕ) → history s date agent ≡ r ∷ before → date < end → settled s date stream (queue_of s date stream) ≡ queue_of s date stream
    unsettled date is early =
        let held = queue_of s date stream in
        ap (λ a. settled_by (s.opening.silent a) date stream (history s date a) (next_of s a (history s date a)) held) receives
        ∙ ap (λ actions. settled_by (s.opening.silent agent) date stream actions (next_of s agent actions) held) is
        ∙ cond-false (sweeps (s.opening.silent agent) date (r ∷ before) (next_of s agent (r ∷ before))) _ _ (ap (λ v. sweeps (s.opening.silent agent) date (r ∷ before) (next_by r.number r.after v)) verdict ∙ ne_eqb end date (λ e. omega (arith, e, early)))

    -- until the action ends the stream holds no less than what it saw
    pub seen_held : (date : ℕ) → history s (suc date) agent ≡ r ∷ before → date < end → length (r.seen stream) ≤ length (queue_of s (suc date) stream)
    seen_held date is early = elim (cases_eq r.start date) [
      | inl at ↦ at_start date is at
      | inr later ↦ on date is early later
    ]
      where
        at_start : (date : ℕ) → history s (suc date) agent ≡ r ∷ before → r.start ≡ date → length (r.seen stream) ≤ length (queue_of s (suc date) stream)
        at_start date is at =
            let due = (is_regular s lawful (suc date) agent r before is).due in
            subst (λ k. length (r.seen stream) ≤ length (queue_of s k stream)) (add-one date) (look date (ap (λ k. history s k agent) (add-one date) ∙ is) (omega (arith, due, at)))

        more : (date : ℕ) → history s date agent ≡ r ∷ before → date < end → length (queue_of s date stream) ≤ length (queue_of s (suc date) stream)
        more date is early =
            let held = queue_of s date stream in
            let new : queue_of s (suc date) stream ≡ entered (entering s date stream) held = ap (λ k. queue_of s k stream) (sym (add-one date)) ∙ next date is ∙ ap (entered (entering s date stream)) (unsettled date is early) in
            omega (arith, ap length new, length_entered (entering s date stream) held)

        on : (date : ℕ) → history s (suc date) agent ≡ r ∷ before → date < end → (r.start ≡ date → ⊥) → length (r.seen stream) ≤ length (queue_of s (suc date) stream)
        on zero is early later = absurd (later (omega (arith, ap (λ (q : Action). q.start) (was_started s lawful 1 agent r before is).made, (was_started s lawful 1 agent r before is).at)))
        on (suc date) is early later =
            let was = was_there (suc date) is later in
            let less : date < end = omega (arith, early) in
            let held : length (r.seen stream) ≤ length (queue_of s (suc date) stream) = elim (cases_eq r.start date) [
              | inl at ↦ at_start date was at
              | inr still ↦ on date was less still
            ] in
            omega (arith, held, more (suc date) was early)
