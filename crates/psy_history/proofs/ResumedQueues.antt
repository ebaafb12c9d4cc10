-- What a stream holds in a history that is taken up again at a quiet date: what it holds in the whole one, date by date, and so at most.
use Rattle.std.proofs.Common.{◌≡◌, ℕ, zero, suc, ◌+◌, ◌-◌, ◌≤◌, All, Bool, true, false, not, if◌then◌else◌, List, [], ◌∷◌, ◌++◌, drop, length, map, max, add-one, refl, sym, ap, ap₂, ◌∙◌, subst, inl, inr, arith}
use Rattle.std.specs.Prelude.{◌&&◌, Option, Some, None, filter, nat_lt}
use Rattle.std.specs.List.{Contains, range_with_len}
use Rattle.std.proofs.lemmas.Bool.{and_parts, cases_Bool, le-leb}
use Rattle.std.proofs.lemmas.List.{map-append}
use Rattle.std.proofs.lemmas.List.Elements.{All-head}
use Rattle.psy_base.specs.declared.message.Message.{Message}
use Rattle.psy_base.specs.Extremes.{most_of}
use Rattle.psy_lists.proofs.lemmas.Members.{contains_front}
use Rattle.psy_history.specs.Actions.{Action, Next, System, Done, is_done, next_of, rests, stream_of}
use Rattle.psy_history.specs.History.{history}
use Rattle.psy_history.specs.Queues.{ends_at, entered, entering, entering_of, queue_of, settled, settled_by, sweeps}
use Rattle.psy_history.specs.Resuming.{resumed_at}
use Rattle.psy_history.specs.Summary.{at_least, dates_from, most_held}
use Rattle.psy_history.specs.Visible.{held, is_fresh, is_untaken, messages_by, swept}
use Rattle.psy_history.proofs.Growth.{kept_on}
use Rattle.psy_history.proofs.HeldMessages.{contains_queue, strictly_queue}
use Rattle.psy_history.proofs.LikeActions.{flat_map_same}
use Rattle.psy_history.proofs.MessageOrder.{same_messages}
use Rattle.psy_history.proofs.QueueSteps.{next_is}
use Rattle.psy_history.proofs.ResumedStreams.{by_same, untaken_parts}
use Rattle.psy_history.proofs.SentMessages.{AreClockLaws, HasStreams, contains_messages, entered_behind}
use Rattle.psy_history.proofs.Sweeps.{ends_not, given_none, silent_swept}

-- ---- the receiver

-- What stays where new actions are added, stays where the history begins with them.
fresh_new : (quiet : Bool) (date : ℕ) (new old : List Action) (m : Message) → is_fresh (swept quiet date (new ++ old)) m ≡ true → is_fresh (swept (rests quiet date old) date new) m ≡ true
fresh_new quiet date (r ∷ new) old m fresh = fresh
fresh_new quiet date [] old m fresh = elim (cases_Bool (rests quiet date old)) [
  | inl silent ↦ ap (λ (b : Bool). is_fresh (if b then Some date else None) m) silent ∙ sym (ap (λ o. is_fresh o m) (silent_swept quiet date old silent)) ∙ fresh
  | inr loud ↦ ap (λ (b : Bool). is_fresh (if b then Some date else None) m) loud
]

-- Where all that was done was due by a date, an agent is silent later where it is at that date.
rests_since : (quiet : Bool) (date later : ℕ) (actions : List Action) → date ≤ later → All (λ r. r.deadline ≤ date) actions → rests quiet later actions ≡ rests quiet date actions
rests_since quiet date later [] l due = refl
rests_since quiet date later (r ∷ before) l due =
    let early : r.deadline ≤ date = All-head (λ (x : Action). x.deadline ≤ date) r before due in
    ap (λ b. not (is_done r.verdict) && b) (le-leb r.deadline later (omega (arith, early, l)) ∙ sym (le-leb r.deadline date early))

-- ---- the most of some numbers

-- Numbers in a row are those before one of them, and those from it on.
range_parts : (from some more many : ℕ) → many ≡ some + more → range_with_len from many ≡ range_with_len from some ++ range_with_len (from + some) more
range_parts from zero more many is = ap₂ range_with_len (omega arith) (omega (arith, is))
range_parts from (suc some) more zero is = absurd (omega (arith, is))
range_parts from (suc some) more (suc many) is =
    let behind : (from + 1) + some ≡ from + suc some = omega arith in
    ap (λ rest. from ∷ rest) (range_parts (from + 1) some more many (omega (arith, is)) ∙ ap (λ n. range_with_len (from + 1) some ++ range_with_len n more) behind)

dates_parts : (dates date until : ℕ) → dates ≤ suc date → date ≤ until → dates_from dates (until + 1) ≡ dates_from dates (date + 1) ++ range_with_len (suc date) (until + 1 - suc date)
dates_parts zero date until behind late =
    let at : 0 + (date + 1) ≡ suc date = omega arith in
    range_parts 0 (date + 1) (until + 1 - suc date) (until + 1) (omega (arith, late)) ∙ ap (λ n. range_with_len 0 (date + 1) ++ range_with_len n (until + 1 - suc date)) at
dates_parts (suc last) date until behind late =
    let at : suc last + (date + 1 - suc last) ≡ suc date = omega (arith, behind) in
    range_parts (suc last) (date + 1 - suc last) (until + 1 - suc date) (until + 1 - suc last) (omega (arith, behind, late))
    ∙ ap (λ n. range_with_len (suc last) (date + 1 - suc last) ++ range_with_len n (until + 1 - suc date)) at

most_parts : (these those : List ℕ) → most_of (these ++ those) ≡ max (most_of these) (most_of those)
most_parts [] those = omega arith
most_parts (n ∷ these) those = omega (arith, most_parts these those)

at_least_is : (before n : ℕ) → at_least before n ≡ max n before
at_least_is zero n = omega arith
at_least_is (suc before) n = refl

at_least_parts : (before : ℕ) (these those : List ℕ) → at_least before (most_of (these ++ those)) ≡ at_least (at_least before (most_of these)) (most_of those)
at_least_parts before these those =
    let whole = at_least_is before (most_of (these ++ those)) in
    let first = at_least_is before (most_of these) in
    let then_those = at_least_is (at_least before (most_of these)) (most_of those) in
    omega (arith, whole, first, then_those, most_parts these those)

-- ---- the streams

module _ (s : System) (streams : HasStreams s) (laws : AreClockLaws) (sizes : List ℕ) (order : ℕ → List ℕ) (date : ℕ) (behind : s.opening.dates ≤ suc date)
    (due : (agent : ℕ) → All (λ r. r.deadline ≤ date) (history s date agent))
    (ended : (agent point end : ℕ) (r : Action) → Contains (history s date agent) r → r.verdict ≡ Done point end → end ≤ date)
    (others : HasStreams (resumed_at s sizes order date))
    (actions : (later agent : ℕ) → date ≤ later → history s later agent ≡ history (resumed_at s sizes order date) later agent ++ history s date agent) (stream : ℕ) where
  abbrev t : System
  t = resumed_at s sizes order date

  abbrev receiver : ℕ
  receiver = (stream_of s stream).receiver

  abbrev quiet : Bool
  quiet = s.opening.silent receiver

  -- the receiver's actions before the date
  abbrev old : List Action
  old = history s date receiver

  -- ---- at the date

  from_first : (m : Message) → Contains (queue_of t (suc date) stream) m → Contains (queue_of s (suc date) stream) m
  from_first m c =
      let ((sent, untaken, fresh), early) = (contains_queue t others laws date stream m).0 c in
      elim ((contains_messages t others (history t (suc date)) stream m).0 sent) [
        | inl held ↦ held
        | inr of ↦ (let late : suc date ≤ m.entry = entered_behind t others laws (suc date) stream m of in absurd (omega (arith, early, late)))
      ]

  into_first : (m : Message) → Contains (queue_of s (suc date) stream) m → Contains (queue_of t (suc date) stream) m
  into_first m c =
      let ((sent, untaken, fresh), early) = (contains_queue s streams laws date stream m).0 c in
      let next : date ≤ suc date = omega arith in
      let parts = untaken_parts s streams laws sizes order date behind ended stream others (suc date) next (λ agent. actions (suc date) agent next) date m (omega arith) in
      let new = (and_parts (is_untaken stream date (history t (suc date) receiver) m) (is_untaken stream date (history s (suc date) receiver) m) (sym parts ∙ untaken)).0 in
      let whole : is_fresh (swept quiet date (history t (suc date) receiver ++ old)) m ≡ true = subst (λ its. is_fresh (swept quiet date its) m ≡ true) (actions (suc date) receiver next) fresh in
      let kept = fresh_new quiet date (history t (suc date) receiver) old m whole in
      (contains_queue t others laws date stream m).1 (((contains_messages t others (history t (suc date)) stream m).1 (inl c), new, kept), early)

  first_same : queue_of s (suc date) stream ≡ queue_of t (suc date) stream
  first_same =
      same_messages (queue_of s (suc date) stream) (queue_of t (suc date) stream) (strictly_queue s streams laws (suc date) stream) (strictly_queue t others laws (suc date) stream)
      (λ m. (into_first m, from_first m))

  -- ---- at each later date

  module _ (later : ℕ) (late : suc date ≤ later) where
    -- what has ended doesn't end then
    not_then : (agent : ℕ) (r : Action) → Contains (history s date agent) r → ends_at later r.verdict ≡ false
    not_then agent r there = ends_not later r.verdict (λ point done. let early = ended agent point later r there done in omega (arith, early, late))

    -- the same goes
    sweeps_same : (o : Option Next) → sweeps quiet later old o ≡ sweeps (rests quiet date old) later [] o
    sweeps_same None = rests_since quiet date later old (omega (arith, late)) (due receiver)
    sweeps_same (Some n) = refl

    settled_new : (new : List Action) (messages : List Message)
        → settled_by quiet later stream (new ++ old) (next_of s receiver (new ++ old)) messages ≡ settled_by (rests quiet date old) later stream new (next_of t receiver new) messages
    settled_new (r ∷ new) messages = refl
    settled_new [] messages =
        ap₂ (λ (sweep : Bool) given. if sweep then filter (λ (m : Message). nat_lt later m.expiry) (drop given messages) else messages)
        (sweeps_same (next_of s receiver old)) (given_none later stream old (not_then receiver))

    settled_same : (messages : List Message) → settled s later stream messages ≡ settled t later stream messages
    settled_same messages =
        ap (λ its. settled_by quiet later stream its (next_of s receiver its) messages) (actions later receiver (omega (arith, late)))
        ∙ settled_new (history t later receiver) messages

    -- and the same comes
    none_enters : (agent : ℕ) (its : List Action) → ((r : Action) → Contains its r → ends_at later r.verdict ≡ false) → entering_of s later stream its ≡ []
    none_enters agent [] none = refl
    none_enters agent (r ∷ before) none = ap (λ b. if b then messages_by s stream r.agent r.deeds.sends r.verdict else []) (none r (contains_front r before))

    entering_new : (agent : ℕ) (new : List Action) → entering_of s later stream (new ++ history s date agent) ≡ entering_of t later stream new
    entering_new agent [] = none_enters agent (history s date agent) (not_then agent)
    entering_new agent (r ∷ new) =
        ap (λ ms. if ends_at later r.verdict then ms else []) (sym (by_same s streams laws sizes order date behind ended stream r.agent r.deeds.sends r.verdict))

    entering_same : entering s later stream ≡ entering t later stream
    entering_same = flat_map_same (λ agent. entering_of s later stream (history s later agent)) (λ agent. entering_of t later stream (history t later agent))
        (λ agent. ap (entering_of s later stream) (actions later agent (omega (arith, late))) ∙ entering_new agent (history t later agent)) (range_with_len 0 (length s.unit.agents))

    step : queue_of s later stream ≡ queue_of t later stream → queue_of s (suc later) stream ≡ queue_of t (suc later) stream
    step same =
        ap (λ n. queue_of s n stream) (sym (add-one later))
        ∙ next_is s streams laws stream later (omega (arith, behind, late))
        ∙ ap₂ entered entering_same (settled_same (queue_of s later stream) ∙ ap (settled t later stream) same)
        ∙ sym (next_is t others laws stream later late)
        ∙ ap (λ n. queue_of t n stream) (add-one later)

  -- It holds the same from the date on.
  pub queue_resumed : (at : ℕ) → date ≤ at → queue_of s (suc at) stream ≡ queue_of t (suc at) stream
  queue_resumed at late =
      let IsSince : ℕ → Type 0 = λ n. (date ≤ n) × (queue_of s (suc n) stream ≡ queue_of t (suc n) stream) in
      let kept : IsSince at = kept_on IsSince (λ n h. (omega (arith, h.0), step (suc n) (omega (arith, h.0)) h.1)) date at late (omega arith, first_same) in
      kept.1

  -- ---- the most of it

  abbrev held_at : System → ℕ → ℕ
  held_at system day = length (held system (history system (day + 1)) stream day)

  held_same : (day : ℕ) → date ≤ day → held_at s day ≡ held_at t day
  held_same day late =
      ap (λ n. length (held s (history s n) stream day)) (add-one day) ∙ ap length (queue_resumed day late) ∙ sym (ap (λ n. length (held t (history t n) stream day)) (add-one day))

  -- And so the most that it held is the same.
  pub most_resumed : (until : ℕ) → date ≤ until → most_held s until stream ≡ most_held t until stream
  most_resumed until late =
      let done = dates_from s.opening.dates (date + 1) in
      let new = range_with_len (suc date) (until + 1 - suc date) in
      let before = s.opening.most stream in
      ap (λ days. at_least before (most_of (map (held_at s) days))) (dates_parts s.opening.dates date until behind late)
      ∙ ap (λ numbers. at_least before (most_of numbers)) (map-append (held_at s) done new)
      ∙ at_least_parts before (map (held_at s) done) (map (held_at s) new)
      ∙ ap (λ numbers. at_least (most_held s date stream) (most_of numbers)) (held_new (suc date) (until + 1 - suc date) (omega arith))
    where
      held_new : (from many : ℕ) → date ≤ from → map (held_at s) (range_with_len from many) ≡ map (held_at t) (range_with_len from many)
      held_new from zero since = refl
      held_new from (suc many) since = ap₂ (λ n numbers. n ∷ numbers) (held_same from since) (held_new (from + 1) many (omega (arith, since)))
