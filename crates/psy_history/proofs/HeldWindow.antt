-- The dates for which a message may be held: a message that is held entered less than so many dates before.
use Rattle.std.proofs.Common.{◌≡◌, ℕ, suc, ◌+◌, ◌-◌, ◌*◌, ◌<◌, ◌≤◌, All, Bool, true, false, List, [], ◌∷◌, Option, Some, None, refl, ap, ◌∙◌, inl, inr, arith}
use Rattle.std.specs.Prelude.{◌&&◌, not, nat_le, if◌then◌else◌}
use Rattle.std.specs.List.{Contains}
use Rattle.std.proofs.lemmas.Bool.{leb-false, ltb-true}
use Rattle.std.proofs.lemmas.List.Elements.{All-head, All-tail}
use Rattle.psy_base.specs.declared.message.Message.{Message}
use Rattle.psy_lists.proofs.lemmas.Members.{contains_none, front_or_behind, get_or_holds}
use Rattle.psy_clock.specs.declared.clock.Clock.{Clock}
use Rattle.psy_clock.specs.Dates.{IsClock, after_date, from_date}
use Rattle.psy_code.specs.declared.look.Sent.{Sent}
use Rattle.psy_history.specs.Actions.{Action, Next, System, Verdict, Done, Overran, Trapped, clock_of, is_done, next_by, next_of, stream_of, timing}
use Rattle.psy_base.specs.Extremes.{IsGreatest, most_of}
use Rattle.psy_history.specs.History.{history}
use Rattle.psy_meaning.specs.QueueSizes.{MayLast, lasting_of}
use Rattle.psy_meaning.specs.Sendings.{delay_of}
use Rattle.psy_meaning.specs.Timing.{end_date, first_date, following}
use Rattle.psy_history.specs.Visible.{is_fresh, message_of, swept}
use Rattle.psy_meaning.specs.Ways.{sending_of}
use Rattle.psy_history.specs.Regular.{IsLawful, IsRegular}
use Rattle.psy_history.proofs.Deadlines.{deadline_least, some_follows}
use Rattle.psy_history.proofs.NextStarts.{next_late, regular_head}
use Rattle.psy_history.proofs.SentMessages.{HasStreams}
use Rattle.psy_history.proofs.Timings.{every_tick}

-- ---- the greatest of some numbers

-- None is greater
pub most_above : (numbers : List ℕ) (n : ℕ) → Contains numbers n → n ≤ most_of numbers
most_above [] n c = absurd (contains_none n c)
most_above (first ∷ numbers) n c = elim (front_or_behind first numbers n c) [
  | inl e ↦ omega (arith, e)
  | inr there ↦ omega (arith, most_above numbers n there)
]

-- Where none is greater than a bound, neither is it
pub most_below : (numbers : List ℕ) (bound : ℕ) → All (λ n. n ≤ bound) numbers → most_of numbers ≤ bound
most_below [] bound all = omega arith
most_below (first ∷ numbers) bound all = omega (arith, All-head (λ n. n ≤ bound) first numbers all, most_below numbers bound (All-tail (λ n. n ≤ bound) first numbers all))

-- ---- the receiver

-- Fewer dates than these have passed since a stream was rid of what had expired, or in all.
abbrev IsNear : ℕ → ℕ → Option ℕ → Type 0
IsNear date ticks None = date < ticks
IsNear date ticks (Some last) = date < last + ticks

module _ (s : System) (lawful : IsLawful s) (receiver longest : ℕ) (greatest : IsGreatest (MayLast (timing s receiver)) longest) where
  -- An action that reaches a point lasts no longer.
  lasts : (r : Action) → IsRegular s receiver r → (point : ℕ) → Contains (following (timing s receiver) r.point) point → end_date (timing s receiver) r.start point ≤ r.start + longest
  lasts r regular point follows =
      let times = timing s receiver in
      let end = end_date times r.start point in
      let behind = deadline_least times r.point r.start point follows in
      let ticks : r.start + (end - r.start) ≡ end = omega (arith, behind, regular.due, regular.deadline) in
      let alike = regular.alike point follows in
      let most = greatest.most (end - r.start) (inr (r.point, regular.starts.met, point, regular.starts.may, follows, omega (arith, alike, ticks))) in
      omega (arith, most, ticks)

  -- Nor does one until it is due.
  due_near : (r : Action) → IsRegular s receiver r → r.deadline ≤ r.start + longest
  due_near r regular =
      let times = timing s receiver in
      let (point, follows) = some_follows times r.point r.start (omega (arith, regular.due, regular.deadline)) in
      omega (arith, lasts r regular point follows, deadline_least times r.point r.start point follows, regular.deadline)

  -- where it is stopped
  stopped_near : (date : ℕ) (r : Action) → IsRegular s receiver r → (b : Bool) → nat_le r.deadline date ≡ b → IsNear date longest (Some (if b then date else r.start))
  stopped_near date r regular true passed = omega (arith, due_near r regular, regular.due)
  stopped_near date r regular false due = omega (arith, due_near r regular, leb-false r.deadline date due)

  -- since the start of the last action, or none where the receiver is silent
  last_near : (date : ℕ) (r : Action) → IsRegular s receiver r → (v : Verdict) → r.verdict ≡ v → ((n : Next) → next_by r.number r.after v ≡ Some n → date < n.start)
      → IsNear date longest (Some (if not (is_done v) && nat_le r.deadline date then date else r.start))
  last_near date r regular (Done point end) done late =
      let ends = regular.ends point end done in
      omega (arith, late (record { number = r.number + 1; point = point; start = end; carried = r.after }) refl, ends.1, lasts r regular point ends.0)
  last_near date r regular (Trapped kind) done late = stopped_near date r regular (nat_le r.deadline date) refl
  last_near date r regular Overran done late = stopped_near date r regular (nat_le r.deadline date) refl

  -- How the receiver begins: it is silent, or it starts an action; where that is behind the dates that were done before, at its first date.
  pub record Opens (quiet : Bool) : Type 0 where
    pub some : 1 ≤ longest
    pub starts : quiet ≡ false → (n : Next) × (s.opening.starts receiver ≡ Some n)
    pub waits : (n : Next) → s.opening.starts receiver ≡ Some n → s.opening.dates ≤ n.start → n.start ≡ first_date (timing s receiver)

  none_near : (quiet : Bool) (date : ℕ) → s.opening.dates ≤ date → Opens quiet → history s (suc date) receiver ≡ [] → IsNear date longest (swept quiet date [])
  none_near true date later opens is = omega (arith, opens.some)
  none_near false date later opens is =
      let (n, starts) = opens.starts refl in
      let late = next_late s lawful (suc date) receiver n (ap (next_of s receiver) is ∙ starts) in
      omega (arith, late, opens.waits n starts (omega (arith, late, later)), greatest.most (first_date (timing s receiver)) (inl refl))

  -- A stream's receiver starts, or was rid of what had expired, so soon.
  pub swept_near : (quiet : Bool) (date : ℕ) → s.opening.dates ≤ date → Opens quiet → (actions : List Action) → history s (suc date) receiver ≡ actions → IsNear date longest (swept quiet date actions)
  swept_near quiet date later opens [] is = none_near quiet date later opens is
  swept_near quiet date later opens (r ∷ before) is =
      last_near date r (regular_head s lawful (suc date) receiver r before is) r.verdict refl
      (λ n next. next_late s lawful (suc date) receiver n (ap (next_of s receiver) is ∙ next))

-- ---- a message

-- What psy_clock's laws say of how far dates lie
pub record AreNear : Type 0 where
  pub late : (c : Clock) (t k : ℕ) → IsClock c → 1 ≤ k → t < after_date c t k
  pub after : (c : Clock) (t k : ℕ) → IsClock c → 1 ≤ k → after_date c t k ≤ t + k * c.period
  pub from : (c : Clock) (t k : ℕ) → IsClock c → from_date c t k < t + (k + 1) * c.period

module _ (s : System) (streams : HasStreams s) (near : AreNear) (stream : ℕ) where
  -- each clock is lawful
  clock_is : (clock : ℕ) → IsClock (clock_of s clock)
  clock_is clock = get_or_holds IsClock s.unit.clocks clock _ every_tick streams.clocks

  -- A message is kept for a tick at least.
  some_lasting : 1 ≤ lasting_of s.unit stream
  some_lasting =
      let decl = stream_of s stream in
      let is = clock_is decl.clock in
      let behind = near.late (clock_of s decl.clock) 0 decl.keep is (streams.keeps stream) in
      let most = near.after (clock_of s decl.clock) 0 decl.keep is (streams.keeps stream) in
      omega (arith, behind, most)

  -- A message expires no later than the delay of its send and the time for which it lasts say.
  pub expires_near : (agent end number delay : ℕ) (sent : Sent) → sent.stream ≡ stream → delay_of s.unit (sending_of sent) ≤ delay → (message_of s agent end number sent).expiry ≤ end + delay + lasting_of s.unit stream
  expires_near agent end number delay sent to soon =
      let decl = stream_of s sent.stream in
      let visible = from_date (clock_of s sent.clock) end sent.after in
      let seen = near.from (clock_of s sent.clock) end sent.after (clock_is sent.clock) in
      let kept = near.after (clock_of s decl.clock) visible decl.keep (clock_is decl.clock) (streams.keeps sent.stream) in
      let same : lasting_of s.unit sent.stream ≡ lasting_of s.unit stream = ap (lasting_of s.unit) to in
      omega (arith, soon, seen, kept, same)

  -- One that hasn't expired entered in the window.
  pub fresh_near : (date longest entry delay : ℕ) (m : Message) (o : Option ℕ) → IsNear date longest o → m.expiry ≤ entry + delay + lasting_of s.unit stream → is_fresh o m ≡ true
      → date < entry + (delay + lasting_of s.unit stream + longest - 1)
  fresh_near date longest entry delay m None soon by fresh = omega (arith, soon, some_lasting)
  fresh_near date longest entry delay m (Some last) soon by fresh = omega (arith, soon, by, ltb-true last m.expiry fresh)
