-- What actions sent and took, at a date: one that starts there has done nothing, and what one that goes on did stays.
use Rattle.std.proofs.Common.{◌≡◌, ℕ, ◌+◌, suc, ◌<◌, ◌≤◌, ◌&&◌, Bool, true, false, not, nat_le, List, [], ◌∷◌, length, Option, Some, slice_get, refl, sym, ap, subst, ◌∙◌, inl, inr, arith}
use Rattle.std.specs.List.{All, Contains}
use Rattle.std.proofs.lemmas.Bool.{cases_lt}
use Rattle.std.proofs.lemmas.Bool.Decides.{nat_tests}
use Rattle.std.proofs.lemmas.List.Elements.{All-head}
use Rattle.std.proofs.lemmas.Option.{slice_get-get_or, slice_get_within}
use Rattle.psy_code.specs.declared.code.Code.{Code}
use Rattle.psy_code.specs.Execution.{run_code}
use Rattle.psy_tree.specs.declared.unit.StreamDecl.{StreamDecl}
use Rattle.psy_history.specs.Actions.{Action, Next, System, is_done, is_silent, next_of, stream_of}
use Rattle.psy_meaning.specs.CodeWays.{agent_code_at}
use Rattle.psy_history.specs.History.{action_of, history}
use Rattle.psy_history.specs.Schedule.{Turn, is_pending, units}
use Rattle.psy_history.specs.Regular.{IsLawful, IsRegular, WereStarted, begun_by, first_number}
use Rattle.psy_dates.specs.declared.seat.Phase.TheVariants as phase
use Rattle.psy_dates.specs.declared.seat.Seat.{Seat}
use Rattle.psy_dates.specs.Outboxes.{Outboxed}
use Rattle.psy_dates.specs.Standing.{Begins, GoesOn, SeatOf}
use Rattle.psy_kernel.specs.Standing.{DeedsStand, charge_after}
use Rattle.psy_kernel.specs.Starting.{seat_at}
use Rattle.psy_kernel.proofs.Started.{Sits, grown_by, last_sits}

never_both : (b c : Bool) → c ≡ false → (b && c) ≡ false
never_both true c e = e
never_both false c e = refl

-- An action that is pending before its deadline is acting.
acting : (date : ℕ) (turns : List (Option Turn)) (r : Action) (seat : Seat) → SeatOf date turns r seat → date < r.deadline → is_pending turns r ≡ true → seat.phase ≡ phase.Acting
acting date turns r seat h due pending =
    let early : nat_le r.deadline date ≡ false = grind (arith, nat_tests, due) in
    let silent : is_silent date (r ∷ []) ≡ false = never_both (not (is_done r.verdict)) (nat_le r.deadline date) early in
    h.phase ∙ rw (silent, pending) refl

-- What is asked of the actions that a date starts
abbrev pub HaveBegun : System → ℕ → List Seat → List Outboxed → List ℕ → Type 0
HaveBegun s date seats boxes taken = (agent : ℕ) → Begins date seats agent
    → ((outbox : Outboxed) → slice_get boxes agent ≡ Some outbox → outbox.sends ≡ [])
    × ((stream : ℕ) (decl : StreamDecl) → slice_get s.unit.streams stream ≡ Some decl → decl.receiver ≡ agent → slice_get taken stream ≡ Some 0)

-- What is asked of those that go on
abbrev pub HaveStayed : System → ℕ → List Seat → List Outboxed → List Outboxed → List ℕ → List ℕ → Type 0
HaveStayed s date seats boxes_before boxes taken_before taken = (agent : ℕ) → GoesOn date seats agent
    → (slice_get boxes agent ≡ slice_get boxes_before agent)
    × ((stream : ℕ) (decl : StreamDecl) → slice_get s.unit.streams stream ≡ Some decl → decl.receiver ≡ agent → slice_get taken stream ≡ slice_get taken_before stream)

module _ (s : System) (code : Code) (date : ℕ) (turns : ℕ → List (Option Turn)) (lawful : IsLawful s)
    (unstarted : (agent number : ℕ) → first_number s agent + length (history s date agent) ≤ number → units agent number (turns agent) ≡ 0)
    (in_time : (agent : ℕ) (r : Action) → Contains (history s date agent) r → r.deadline ≤ date → is_pending (turns agent) r ≡ false)
    (seats : List Seat) (seated : length seats ≡ length s.unit.agents)
    (sits : (agent : ℕ) (seat : Seat) → slice_get seats agent ≡ Some seat → Sits s date (turns agent) agent (history s (suc date) agent) seat)
    (boxes_before boxes : List Outboxed) (boxed : length boxes ≡ length s.unit.agents)
    (taken_before taken : List ℕ) (taking : length taken ≡ length s.unit.streams)
    (begun : HaveBegun s date seats boxes taken) (stayed : HaveStayed s date seats boxes_before boxes taken_before taken)
    (was : (agent : ℕ) (outbox : Outboxed) → slice_get boxes_before agent ≡ Some outbox → DeedsStand s code (turns agent) (history s date agent) outbox.sends taken_before) where
  abbrev actions : ℕ → List Action
  actions agent = history s date agent

  abbrev seat_of : ℕ → Seat
  seat_of agent = seat_at seats agent

  is_stream : (stream n : ℕ) → slice_get taken stream ≡ Some n → slice_get s.unit.streams stream ≡ Some (stream_of s stream)
  is_stream stream n at = slice_get-get_or s.unit.streams stream _ (omega (arith, slice_get_within taken stream n at, taking))

  there : (agent : ℕ) → agent < length s.unit.agents → slice_get seats agent ≡ Some (seat_of agent)
  there agent l = slice_get-get_or seats agent _ (omega (arith, l, seated))

  -- ---- an action that starts

  first_deeds : (agent : ℕ) (n : Next) (outbox : Outboxed) → agent < length s.unit.agents → slice_get boxes agent ≡ Some outbox → n.start ≡ date
      → history s (suc date) agent ≡ action_of s (history s date) agent n ∷ actions agent → DeedsStand s code (turns agent) (action_of s (history s date) agent n ∷ actions agent) outbox.sends taken
  first_deeds agent n outbox l at now grew pending =
      let r = action_of s (history s date) agent n in
      let regular = All-head (IsRegular s agent) r (actions agent) (subst (All (IsRegular s agent)) grew (lawful.actions (suc date) agent).each) in
      let started = (subst (WereStarted s (suc date) agent) grew (lawful.actions (suc date) agent).were_started).0 in
      let none : units r.agent r.number (turns agent) ≡ 0 = ap (λ a. units a r.number (turns agent)) regular.agent_is ∙ unstarted agent r.number (omega (arith, started.number)) in
      let sitting : SeatOf date (turns agent) r (seat_of agent) = last_sits s date agent (turns agent) r (actions agent) (seat_of agent) (subst (λ rs. Sits s date (turns agent) agent rs (seat_of agent)) grew (sits agent (seat_of agent) (there agent l))) in
      let begins = begun agent (seat_of agent, there agent l, acting date (turns agent) r (seat_of agent) sitting (omega (arith, regular.due, now)) pending, sitting.start ∙ now) in
      let its = agent_code_at code r.agent in
      record {
        state = begun_by its r;
        running = ap (λ had. run_code code its (begun_by its r) (charge_after s r had).paid) none;
        sent = begins.0 outbox at;
        took = λ stream m is mine. (let none_taken : Some m ≡ Some 0 = sym is ∙ begins.1 stream (stream_of s stream) (is_stream stream m is) (mine ∙ regular.agent_is) in cc);
      }

  -- ---- one that goes on

  same_deeds : (agent : ℕ) (outbox : Outboxed) (rs : List Action) → agent < length s.unit.agents → slice_get boxes agent ≡ Some outbox → actions agent ≡ rs → Sits s date (turns agent) agent rs (seat_of agent)
      → ((before : Outboxed) → slice_get boxes_before agent ≡ Some before → DeedsStand s code (turns agent) rs before.sends taken_before) → DeedsStand s code (turns agent) rs outbox.sends taken
  same_deeds agent outbox [] l at is sitting old = tt {0}
  same_deeds agent outbox (r ∷ before) l at is sits_so old = λ pending.
      (let sitting = last_sits s date agent (turns agent) r before (seat_of agent) sits_so in
      let has : Contains (r ∷ before) r = (0, omega arith, refl) in
      let regular = All-head (IsRegular s agent) r before (subst (All (IsRegular s agent)) is (lawful.actions date agent).each) in
      let started = (subst (WereStarted s date agent) is (lawful.actions date agent).were_started).0 in
      let due : date < r.deadline = elim (cases_lt date r.deadline) [
        | inl less ↦ less
        | inr more ↦ (let over : is_pending (turns agent) r ≡ false = in_time agent r (subst (λ rs. Contains rs r) (sym is) has) more in absurd (cc (over, pending)))
      ] in
      let early : (seat_of agent).start < date = omega (arith, sitting.start, started.at, ap (λ (q : Action). q.start) started.made) in
      let stays = stayed agent (seat_of agent, there agent l, acting date (turns agent) r (seat_of agent) sitting due pending, early) in
      let did = old outbox (sym stays.0 ∙ at) pending in
      record {
        state = did.state;
        running = did.running;
        sent = did.sent;
        took = λ stream m is_taken mine. did.took stream m (sym (stays.1 stream (stream_of s stream) (is_stream stream m is_taken) (mine ∙ regular.agent_is)) ∙ is_taken) mine;
      })

  -- What the actions that are pending behind the date sent and took
  pub deeds_after : (agent : ℕ) (outbox : Outboxed) → slice_get boxes agent ≡ Some outbox → DeedsStand s code (turns agent) (history s (suc date) agent) outbox.sends taken
  deeds_after agent outbox at =
      let l : agent < length s.unit.agents = omega (arith, slice_get_within boxes agent outbox at, boxed) in
      elim (grown_by s (history s date) date agent (actions agent) (next_of s agent (actions agent))) [
        | inl same ↦ subst (λ rs. DeedsStand s code (turns agent) rs outbox.sends taken) (sym same)
            (same_deeds agent outbox (actions agent) l at refl (subst (λ rs. Sits s date (turns agent) agent rs (seat_of agent)) same (sits agent (seat_of agent) (there agent l))) (was agent))
        | inr grew ↦ subst (λ rs. DeedsStand s code (turns agent) rs outbox.sends taken) (sym grew.3) (first_deeds agent grew.0 outbox l at grew.2 grew.3)
      ]
