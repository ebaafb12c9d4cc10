-- What is left of a stream's messages at a date: those that its receiver's actions haven't taken by then, and that haven't been swept away.
use Rattle.std.proofs.Common.{◌≡◌, ◌↔◌, ℕ, suc, ◌+◌, ◌<◌, Bool, true, false, not, if◌then◌else◌, List, [], ◌∷◌, length, drop, take, Option, Some, refl, sym, ap, ◌∙◌, subst, inl, inr, arith}
use Rattle.std.specs.Prelude.{◌==◌, ◌&&◌, filter, nat_le, nat_lt}
use Rattle.std.specs.List.{Contains, count_by, list_any}
use Rattle.std.proofs.lemmas.Bool.{and_from, and_left, and_parts, cases_Bool, eq-eqb, lt-leb, ltb-true, not-true, not_from_false}
use Rattle.psy_base.specs.declared.message.Message.{Message}
use Rattle.psy_lists.proofs.lemmas.Members.{contains_none, front_or_behind, filter_in, filter_from}
use Rattle.psy_history.specs.Actions.{Action, Next, System, Done, is_done, is_done_by, is_silent, next_by, next_of, stream_of}
use Rattle.psy_history.specs.History.{action_of, history}
use Rattle.psy_history.specs.Visible.{is_fresh, is_same, is_untaken, messages, swept, taken}
use Rattle.psy_history.specs.Queues.{ends_at, given_up, queue_of, settled, sweeps}
use Rattle.psy_history.proofs.Growth.{grown, next_done}
use Rattle.psy_history.proofs.HeldMessages.{StaysThere, contains_queue, fresh_late, strictly_queue}
use Rattle.psy_history.proofs.LastActions.{ended_before, ended_by, last_began}
use Rattle.psy_history.proofs.MessageOrder.{seen_front}
use Rattle.psy_history.proofs.NextStarts.{regular_head}
use Rattle.psy_history.proofs.QueueLooks.{seen_held}
use Rattle.psy_history.proofs.SentMessages.{AreClockLaws, HasStreams, sent_known}
use Rattle.psy_history.proofs.StartedActions.{start_below}
use Rattle.psy_history.proofs.Sweeps.{done_alike, done_ends, ends_not, given_none, loud_swept, silent_swept, start_swept, still_loud, sweeps_silent}
use Rattle.psy_history.proofs.TakenMessages.{behind_front, front_of_front, untaken_alike, untaken_behind, untaken_done}

module _ (s : System) (streams : HasStreams s) (laws : AreClockLaws) (d stream : ℕ) where
  abbrev receiver : ℕ
  receiver = (stream_of s stream).receiver

  abbrev quiet : Bool
  quiet = s.opening.silent receiver

  -- the receiver's actions before the date, and when it is done
  abbrev now : List Action
  now = history s (suc d) receiver

  abbrev later : List Action
  later = history s (suc (suc d)) receiver

  abbrev next : Option Next
  next = next_of s receiver now

  abbrev queue : List Message
  queue = queue_of s (suc d) stream

  abbrev swept_queue : List Message
  swept_queue = filter (λ (m : Message). nat_lt (suc d) m.expiry) (drop (given_up (suc d) stream now) queue)

  -- It stays when the date is done, and entered before it.
  abbrev IsLeft : Message → Type 0
  IsLeft m = StaysThere s (suc d) stream m × (m.entry < suc d)

  -- ---- the queue before the date

  -- what was known before is known when the date is done
  from_before : (m : Message) → Contains queue m → Contains (messages s (history s (suc (suc d))) stream) m × (is_untaken stream d now m ≡ true) × (is_fresh (swept quiet d now) m ≡ true) × (m.entry < suc d)
  from_before m c =
      let ((sent, untaken, fresh), early) = (contains_queue s streams laws d stream m).0 c in
      (sent_known s streams laws (suc d) (suc (suc d)) stream m (omega (arith, early)) sent, untaken, fresh, omega (arith, early))

  into_before : (m : Message) → Contains (messages s (history s (suc (suc d))) stream) m → is_untaken stream d now m ≡ true → is_fresh (swept quiet d now) m ≡ true → m.entry < suc d → Contains queue m
  into_before m sent untaken fresh early =
      (contains_queue s streams laws d stream m).1 ((sent_known s streams laws (suc (suc d)) (suc d) stream m (omega (arith, early)) sent, untaken, fresh), omega (arith, early))

  begun : (r : Action) → Contains now r → r.start < suc d
  begun r c = start_below s streams.lawful (suc d) receiver r c

  -- those behind the last one ended earlier
  older_ended : (r : Action) (before : List Action) → now ≡ r ∷ before → (x : Action) → Contains before x → ends_at (suc d) x.verdict ≡ false
  older_ended r before e x c =
      let (low, behind, seen) = last_began s (suc d) receiver r before e in
      let (to, end, ended, early) = ended_before s streams.lawful (suc d) receiver r before e x c in
      ends_not (suc d) x.verdict (λ point is.
      let same : Done to end ≡ Done point (suc d) = sym ended ∙ is in
      let at : end ≡ suc d = cc in
      omega (arith, at, early, low))

  -- ---- where the receiver's streams are left as they are

  left_alone : sweeps quiet (suc d) now next ≡ false → settled s (suc d) stream queue ≡ queue
  left_alone still = ap (λ (b : Bool). if b then swept_queue else queue) still

  swept_now : sweeps quiet (suc d) now next ≡ true → settled s (suc d) stream queue ≡ swept_queue
  swept_now sweep = ap (λ (b : Bool). if b then swept_queue else queue) sweep

  -- ---- where they are swept

  -- what stays is untaken, and expires later
  module _ (sweep : sweeps quiet (suc d) now next ≡ true) (at : swept quiet (suc d) later ≡ Some (suc d))
      (gone : (m : Message) → Contains (drop (given_up (suc d) stream now) queue) m ↔ (Contains queue m × (is_untaken stream (suc d) later m ≡ true)))
      (earlier : (m : Message) → is_untaken stream (suc d) later m ≡ true → is_untaken stream d now m ≡ true) where
    from_swept : (m : Message) → Contains swept_queue m → IsLeft m
    from_swept m c =
        let (there, late) = filter_from (λ (x : Message). nat_lt (suc d) x.expiry) (drop (given_up (suc d) stream now) queue) m c in
        let (held, untaken) = (gone m).0 there in
        let was = from_before m held in
        ((was.0, untaken, ap (λ (o : Option ℕ). is_fresh o m) at ∙ late), was.3)

    into_swept : (m : Message) → IsLeft m → Contains swept_queue m
    into_swept m ((sent, untaken, fresh), early) =
        let late : nat_lt (suc d) m.expiry ≡ true = sym (ap (λ (o : Option ℕ). is_fresh o m) at) ∙ fresh in
        let later : suc d < m.expiry = ltb-true (suc d) m.expiry late in
        let held = into_before m sent (earlier m untaken) (fresh_late quiet d now m begun (omega (arith, later))) early in
        filter_in (λ (x : Message). nat_lt (suc d) x.expiry) (drop (given_up (suc d) stream now) queue) m ((gone m).1 (held, untaken)) late

    swept_is : (m : Message) → Contains (settled s (suc d) stream queue) m ↔ IsLeft m
    swept_is m = subst (λ ms. Contains ms m ↔ IsLeft m) (sym (swept_now sweep)) (from_swept m, into_swept m)

  -- ---- where the receiver starts nothing

  module _ (same : later ≡ now) (other : (n : Next) → next ≡ Some n → n.start ≡ suc d → ⊥) where
    -- none of its actions ends there
    none_ends : (actions : List Action) → now ≡ actions → (x : Action) → Contains actions x → ends_at (suc d) x.verdict ≡ false
    none_ends [] e x c = absurd (contains_none x c)
    none_ends (r ∷ before) e x c = elim (front_or_behind r before x c) [
      | inl is ↦ subst (λ (y : Action). ends_at (suc d) y.verdict ≡ false) is (ends_not (suc d) r.verdict (λ point done.
          other (record { number = r.number + 1; point = point; start = suc d; carried = r.after }) (ap (next_of s receiver) e ∙ ap (next_by r.number r.after) done) refl))
      | inr behind ↦ older_ended r before e x behind
    ]

    -- so nothing more is taken
    untaken_same : (m : Message) → is_untaken stream (suc d) later m ≡ is_untaken stream d now m
    untaken_same m =
        ap (λ actions. is_untaken stream (suc d) actions m) same
        ∙ sym (untaken_alike stream d (suc d) now m (λ x c. done_alike d x.verdict (none_ends now refl x c)))

    -- and what was held stays, where nothing is swept away
    still_is : sweeps quiet (suc d) now next ≡ false → (m : Message) → Contains (settled s (suc d) stream queue) m ↔ IsLeft m
    still_is still m =
        let fresh : swept quiet (suc d) later ≡ swept quiet d now = ap (swept quiet (suc d)) same ∙ loud_swept quiet d now (still_loud s receiver quiet (suc d) now (streams.loud receiver) still) in
        let fresh_same : is_fresh (swept quiet (suc d) later) m ≡ is_fresh (swept quiet d now) m = ap (λ o. is_fresh o m) fresh in
        subst (λ ms. Contains ms m ↔ IsLeft m) (sym (left_alone still)) (
          λ c. (let (sent, untaken, fresh, early) = from_before m c in ((sent, untaken_same m ∙ untaken, fresh_same ∙ fresh), early)),
          λ h. (let ((sent, untaken, fresh), early) = h in into_before m sent (sym (untaken_same m) ∙ untaken) (sym fresh_same ∙ fresh) early),
        )

    kept_is : (m : Message) → Contains (drop (given_up (suc d) stream now) queue) m ↔ (Contains queue m × (is_untaken stream (suc d) later m ≡ true))
    kept_is m =
        let none : given_up (suc d) stream now ≡ 0 = given_none (suc d) stream now (none_ends now refl) in
        subst (λ n. Contains (drop n queue) m ↔ (Contains queue m × (is_untaken stream (suc d) later m ≡ true))) (sym none)
        (λ c. (c, untaken_same m ∙ (from_before m c).1), λ h. h.0)

    -- else what has expired goes
    silent_is : sweeps quiet (suc d) now next ≡ true → (m : Message) → Contains (settled s (suc d) stream queue) m ↔ IsLeft m
    silent_is sweep =
        swept_is sweep (ap (swept quiet (suc d)) same ∙ silent_swept quiet (suc d) now (sweeps_silent quiet (suc d) now next other sweep)) kept_is (λ m untaken. sym (untaken_same m) ∙ untaken)

    alone_is : (m : Message) → Contains (settled s (suc d) stream queue) m ↔ IsLeft m
    alone_is = elim (cases_Bool (sweeps quiet (suc d) now next)) [ inl sweep ↦ silent_is sweep | inr still ↦ still_is still ]

  -- ---- where its next action starts

  module _ (n : Next) (is_next : next ≡ Some n) (at : n.start ≡ suc d) (more : later ≡ action_of s (history s (suc d)) receiver n ∷ now) where
    abbrev q : Action
    q = action_of s (history s (suc d)) receiver n

    -- it isn't done yet
    q_going : is_done_by (suc d) q.verdict ≡ false
    q_going = elim (cases_Bool (is_done_by (suc d) q.verdict)) [
      | inl done ↦ (
          let (point, end, is, early) = ended_by (suc d) q done in
          let regular = regular_head s streams.lawful (suc (suc d)) receiver q now more in
          absurd (omega (arith, at, early, regular.due, (regular.ends point end is).2)))
      | inr going ↦ going
    ]

    -- so nothing more is taken
    untaken_still : (m : Message) → is_untaken stream (suc d) later m ≡ is_untaken stream (suc d) now m
    untaken_still m = ap (λ actions. is_untaken stream (suc d) actions m) more ∙ untaken_behind stream (suc d) q now m q_going

    -- the last one, if there is one, reached the point from which the next one starts
    module _ (r : Action) (before : List Action) (e : now ≡ r ∷ before) where
      done : r.verdict ≡ Done n.point (suc d)
      done =
          let is = (next_done r.number r.after r.verdict n (sym (ap (next_of s receiver) e) ∙ is_next)).0 in
          is ∙ ap (Done n.point) at

      going : is_done_by d r.verdict ≡ false
      going = ap (is_done_by d) done ∙ lt-leb (suc d) d (omega arith)

      behind_same : (m : Message) → is_untaken stream d before m ≡ is_untaken stream (suc d) before m
      behind_same m = untaken_alike stream d (suc d) before m (λ x c. done_alike d x.verdict (older_ended r before e x c))

      -- it hasn't ended before, and those behind it have
      untaken_before : (m : Message) → is_untaken stream d now m ≡ is_untaken stream (suc d) before m
      untaken_before m = ap (λ actions. is_untaken stream d actions m) e ∙ untaken_behind stream d r before m going ∙ behind_same m

      untaken_then : (m : Message) → is_untaken stream (suc d) later m ≡ (not (list_any (is_same m) (taken r stream)) && is_untaken stream (suc d) before m)
      untaken_then m = untaken_still m ∙ ap (λ actions. is_untaken stream (suc d) actions m) e ∙ untaken_done stream (suc d) r before m (done_ends (suc d) n.point r.verdict done).1

      -- what it took stands in front
      front : (i : ℕ) × (taken r stream ≡ take i queue)
      front =
          let loud : is_silent d (r ∷ before) ≡ false = and_left (not (is_done r.verdict)) (nat_le r.deadline d) (ap not (done_ends (suc d) n.point r.verdict done).2) in
          let seen = seen_held s streams laws d stream r before e loud going in
          let all = sym seen ∙ seen_front r.start queue (strictly_queue s streams laws (suc d) stream) in
          let k : ℕ = count_by (λ x. x == stream) r.deeds.takes in
          let (i, is) = front_of_front k (length (filter (λ (m : Message). nat_le m.visible r.start) queue)) queue in
          (i, ap (take k) all ∙ is)

      given : given_up (suc d) stream now ≡ length (taken r stream)
      given = ap (given_up (suc d) stream) e ∙ ap (λ b. if b then length (taken r stream) else 0) (done_ends (suc d) n.point r.verdict done).0

      taken_gone : (m : Message) → Contains (drop (given_up (suc d) stream now) queue) m ↔ (Contains queue m × (list_any (is_same m) (taken r stream) ≡ false))
      taken_gone m =
          let (i, is) = front in
          let of_front : Contains (drop (length (taken r stream)) queue) m ↔ (Contains queue m × (list_any (is_same m) (taken r stream) ≡ false)) =
          subst (λ xs. Contains (drop (length xs) queue) m ↔ (Contains queue m × (list_any (is_same m) xs ≡ false))) (sym is) (behind_front i queue m (strictly_queue s streams laws (suc d) stream)) in
          subst (λ k. Contains (drop k queue) m ↔ (Contains queue m × (list_any (is_same m) (taken r stream) ≡ false))) (sym given) of_front

      gone_done : (m : Message) → Contains (drop (given_up (suc d) stream now) queue) m ↔ (Contains queue m × (is_untaken stream (suc d) later m ≡ true))
      gone_done m = (
        λ c. (
            let (held, none) = (taken_gone m).0 c in
            (held, untaken_then m ∙ and_from (not (list_any (is_same m) (taken r stream))) _ (not_from_false (list_any (is_same m) (taken r stream)) none) (sym (untaken_before m) ∙ (from_before m held).1))),
        λ h. (
            let parts = and_parts (not (list_any (is_same m) (taken r stream))) (is_untaken stream (suc d) before m) (sym (untaken_then m) ∙ h.1) in
            (taken_gone m).1 (h.0, not-true (list_any (is_same m) (taken r stream)) parts.0)),
      )

      earlier_done : (m : Message) → is_untaken stream (suc d) later m ≡ true → is_untaken stream d now m ≡ true
      earlier_done m untaken = untaken_before m ∙ (and_parts (not (list_any (is_same m) (taken r stream))) (is_untaken stream (suc d) before m) (sym (untaken_then m) ∙ untaken)).1

    -- by whether there is a last one
    gone_by : (actions : List Action) → now ≡ actions → (m : Message) → Contains (drop (given_up (suc d) stream now) queue) m ↔ (Contains queue m × (is_untaken stream (suc d) later m ≡ true))
    gone_by [] e m =
        let none : given_up (suc d) stream now ≡ 0 = ap (given_up (suc d) stream) e in
        let untaken : is_untaken stream (suc d) later m ≡ true = untaken_still m ∙ ap (λ actions. is_untaken stream (suc d) actions m) e in
        subst (λ k. Contains (drop k queue) m ↔ (Contains queue m × (is_untaken stream (suc d) later m ≡ true))) (sym none) (λ c. (c, untaken), λ h. h.0)
    gone_by (r ∷ before) e m = gone_done r before e m

    earlier_by : (actions : List Action) → now ≡ actions → (m : Message) → is_untaken stream (suc d) later m ≡ true → is_untaken stream d now m ≡ true
    earlier_by [] e m untaken = ap (λ actions. is_untaken stream d actions m) e
    earlier_by (r ∷ before) e m untaken = earlier_done r before e m untaken

    starts_is : (m : Message) → Contains (settled s (suc d) stream queue) m ↔ IsLeft m
    starts_is =
        swept_is (ap (sweeps quiet (suc d) now) is_next ∙ eq-eqb n.start (suc d) at) (ap (swept quiet (suc d)) more ∙ start_swept quiet (suc d) q now at) (gone_by now refl) (earlier_by now refl)

  -- What is left at a date entered before it, and stays when it is done.
  pub settled_is : (m : Message) → Contains (settled s (suc d) stream queue) m ↔ IsLeft m
  settled_is = elim (grown s (suc d) receiver) [
    | inl (same, other) ↦ alone_is same other
    | inr (n, is_next, at, more) ↦ starts_is n is_next at more
  ]
