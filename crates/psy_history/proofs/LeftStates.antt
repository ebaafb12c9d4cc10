-- What a whole run leaves at a quiet date is sound: it may be taken up again there.
use Rattle.std.proofs.Common.{◌≡◌, ℕ, suc, ◌+◌, ◌*◌, ◌<◌, ◌≤◌, All, List, [], length, map, get_or, Option, Some, None, sym, ap, ◌∙◌, subst, inl, inr, arith}
use Rattle.std.specs.Prelude.{ℤ, nat_lt}
use Rattle.std.specs.List.{range_with_len}
use Rattle.std.proofs.lemmas.Bool.{cases_lt, cond-false, le-ltb}
use Rattle.std.proofs.lemmas.List.Elements.{All-contains, All-map, All-weaker}
use Rattle.std.proofs.lemmas.List.FromFn.{length-map-range_with_len}
use Rattle.std.proofs.lemmas.Option.{same_Some, slice_get-get_or, slice_get_within}
use Rattle.psy_base.specs.Extremes.{most_of}
use Rattle.psy_base.specs.declared.limits.TheConstants.{QUEUE}
use Rattle.psy_clock.specs.Dates.{count}
use Rattle.psy_code.specs.declared.code.Code.{Code}
use Rattle.psy_lists.proofs.lemmas.Members.{all_members}
use Rattle.psy_meaning.specs.Alike.{AllFit}
use Rattle.psy_meaning.specs.KnownWays.{Ways}
use Rattle.psy_meaning.specs.QueueSizes.{IsQueueSize}
use Rattle.psy_meaning.specs.RingSizes.{IsRingSize}
use Rattle.psy_history.specs.Actions.{Action, Opening, System, publishing, variable_of}
use Rattle.psy_history.specs.History.{history}
use Rattle.psy_history.specs.Openings.{AreInRing, IsHeldBefore, IsSound}
use Rattle.psy_history.specs.Queues.{queue_of}
use Rattle.psy_history.specs.Regular.{IsLawful, Runs}
use Rattle.psy_history.specs.Resuming.{IsQuiet, MayResume, MaySave, committed_at, resumed_at}
use Rattle.psy_history.specs.Rings.{ring_of}
use Rattle.psy_history.specs.Runs.{IsRun}
use Rattle.psy_history.specs.Scheduled.{IsFinished, turns_by}
use Rattle.psy_history.specs.Summary.{at_least, dates_from, most_held, reach}
use Rattle.psy_history.specs.Visible.{held, messages, past}
use Rattle.psy_history.proofs.Finishes.{due_finished}
use Rattle.psy_history.proofs.HeldWindow.{AreNear, most_below}
use Rattle.psy_history.proofs.LeftAgents.{left_begins, left_known, left_places}
use Rattle.psy_history.proofs.LeftFigures.{left_count, left_slack}
use Rattle.psy_history.proofs.LeftMessages.{left_messages, none_unknown}
use Rattle.psy_history.proofs.OldActions.{old_due}
use Rattle.psy_history.proofs.RingReaches.{reach_below}
use Rattle.psy_history.proofs.RingValues.{place_in}
use Rattle.psy_history.proofs.RunActions.{AreRunLaws}
use Rattle.psy_history.proofs.RunHistories.{all_leave, all_sent, next_ready}
use Rattle.psy_history.proofs.RunStreams.{has_streams}
use Rattle.psy_history.proofs.Seeing.{Fits, MessageFits, committed_fits, messages_fit, past_fits}
use Rattle.psy_history.proofs.SentMessages.{AreClockLaws, HasStreams}

-- A variable has one size of its ring.
one_size : (s : System) (ways : Ways) (variable size other : ℕ) → IsRingSize s.unit ways s.nexts variable size → IsRingSize s.unit ways s.nexts variable other → size ≡ other
one_size s ways variable size other a b =
    let depth = ap (λ v. v.depth) (same_Some a.decl b.decl (sym a.declared ∙ b.declared)) in
    omega (arith, depth, a.sum, b.sum, most_least a b, most_least b a)
  where
    most_least : {size other : ℕ} → (a : IsRingSize s.unit ways s.nexts variable size) → (b : IsRingSize s.unit ways s.nexts variable other) → a.most ≤ b.most
    most_least a b = elim a.one [
      | inl none ↦ omega (arith, none)
      | inr passes ↦ b.all a.most passes
    ]

module _ (s : System) (ways : Ways) (code : Code) (laws : AreRunLaws code) (clocks : AreClockLaws) (near : AreNear) (sizes : List ℕ) (order : ℕ → List ℕ) (date : ℕ)
    (save : MaySave s ways code sizes order date) (quiet : IsQuiet s date) (lawful : IsLawful s)
    (runs : (dates agent : ℕ) → All (Runs s ways code) (history s dates agent))
    (held_within : (date stream size : ℕ) → stream < length s.unit.streams → IsQueueSize s.unit ways s.nexts stream size → size ≤ QUEUE
    → length (queue_of s date stream) ≤ size + length (s.opening.messages stream))
    (queues : (stream : ℕ) → stream < length s.unit.streams → (size : ℕ) × IsQueueSize s.unit ways s.nexts stream size × (size ≤ QUEUE)) where
  abbrev t : System
  t = resumed_at s sizes order date

  abbrev run : IsRun s ways code
  run = save.run

  streams : HasStreams s
  streams = has_streams s ways code run lawful

  nothing_done : s.opening.dates ≡ 0
  nothing_done = ap (λ (o : Opening). o.dates) save.whole

  none_held : (stream : ℕ) → length (s.opening.messages stream) ≡ 0
  none_held stream = ap (λ (o : Opening). length (o.messages stream)) save.whole

  -- ---- values

  sent_before : (stream : ℕ) → All MessageFits (s.opening.messages stream)
  sent_before stream = All-weaker (IsHeldBefore s stream) MessageFits (λ m is. is.value) (s.opening.messages stream) (run.opened.messages stream).each

  fit : (dates stream : ℕ) → All MessageFits (messages s (history s dates) stream)
  fit dates stream = messages_fit s run.opened.committed run.opened.published sent_before run.inputs.values run.inits (history s dates) (all_leave s ways code laws run dates) stream

  committed_by : (variable : ℕ) (owner : Option ℕ) → Fits (committed_at s date variable owner)
  committed_by variable None = run.opened.committed variable
  committed_by variable (Some owner) = committed_fits s variable date (history s date owner) (run.opened.committed variable) (all_leave s ways code laws run date owner)

  module _ (variable : ℕ) where
    abbrev size : ℕ
    size = get_or sizes variable 0

    abbrev pasts : ℕ → ℤ
    pasts = past s (history s (suc date)) variable date

    ring_fits : AllFit (ring_of s (suc date) variable size)
    ring_fits = All-map Fits pasts (range_with_len 0 size) (λ k d less.
        past_fits s run.opened.committed run.opened.published sent_before run.inputs.values run.inits (history s (suc date)) (all_leave s ways code laws run (suc date)) variable date _)

    in_ring : (last : ℕ) → suc date ≡ suc last → variable < length s.unit.variables → AreInRing t ways last variable (ring_of s (suc date) variable size)
    in_ring last at less = record {
      size = λ other is. length-map-range_with_len pasts 0 size
          ∙ one_size s ways variable size other (save.rings.each variable size (slice_get-get_or sizes variable 0 (omega (arith, less, save.rings.count)))) is;
      first = λ back value there few.
          let within : back < size = omega (arith, slice_get_within (map pasts (range_with_len 0 size)) back value there, length-map-range_with_len pasts 0 size) in
          let is : pasts back ≡ value = same_Some (pasts back) value (sym (place_in pasts size back within) ∙ there) in
          let same : last ≡ date = omega (arith, at) in
          let beyond : count (publishing s variable) date ≤ back = subst (λ d. count (publishing s variable) d ≤ back) same few in
          sym is ∙ cond-false (nat_lt back (count (publishing s variable) date)) _ _ (le-ltb back (count (publishing s variable) date) beyond);
    }

  -- ---- streams

  module _ (stream : ℕ) where
    unknown : (dates : ℕ) → length s.unit.streams ≤ stream → messages s (history s dates) stream ≡ []
    unknown = λ dates past. none_unknown s ways code run streams clocks near (all_sent s ways code laws run) fit sizes order date save.near quiet nothing_done dates stream past

    queue_none : (at : ℕ) → length s.unit.streams ≤ stream → length (queue_of s (suc at) stream) ≤ 0
    queue_none at past = rw (unknown (suc at) past) (omega arith)

    few_held : (at : ℕ) → length (queue_of s (suc at) stream) ≤ QUEUE
    few_held at = elim (cases_lt stream (length s.unit.streams)) [
      | inl less ↦ (let (size, is, small) = queues stream less in omega (arith, held_within (suc at) stream size less is small, none_held stream, small))
      | inr past ↦ omega (arith, queue_none at past)
    ]

    within : (at size : ℕ) → IsQueueSize s.unit ways s.nexts stream size → length (queue_of s (suc at) stream) ≤ size
    within at size is = elim (cases_lt QUEUE size) [
      | inl more ↦ omega (arith, few_held at, more)
      | inr small ↦ elim (cases_lt stream (length s.unit.streams)) [
        | inl less ↦ omega (arith, held_within (suc at) stream size less is small, none_held stream)
        | inr past ↦ omega (arith, queue_none at past)
      ]
    ]

    most_in : (before size : ℕ) → before ≡ 0 → IsQueueSize s.unit ways s.nexts stream size → (dates : List ℕ)
        → at_least before (most_of (map (λ date. length (held s (history s (date + 1)) stream date)) dates)) ≤ size
    most_in before size none is dates =
        let holds : ℕ → ℕ = λ date. length (held s (history s (date + 1)) stream date) in
        let all : All (λ n. n ≤ size) (map holds dates) = All-map (λ n. n ≤ size) holds dates (all_members (λ date. holds date ≤ size) dates
        (λ at c. let next : suc at ≡ at + 1 = omega arith in subst (λ n. length (held s (history s n) stream at) ≤ size) next (within at size is))) in
        rw none (most_below (map holds dates) size all)

    left_most : (size : ℕ) → IsQueueSize s.unit ways s.nexts stream size → most_held s date stream ≤ size
    left_most size is = most_in (s.opening.most stream) size (ap (λ (o : Opening). o.most stream) save.whole) is (dates_from s.opening.dates (date + 1))

  -- ---- rings

  abbrev cycles : ℕ
  cycles = date * s.unit.quantum

  left_reach : (variable size n : ℕ) → IsRingSize s.unit ways s.nexts variable size → reach s (turns_by s order cycles) (history s date) variable ≡ Some n → n < size
  left_reach variable size n ring is = reach_below s ways code run order date cycles variable size n save.supplied (omega arith) ring runs date is

  -- ---- all of it

  left_sound : IsSound t ways code
  left_sound = record {
    begins = λ agent less loud. left_begins s ways code run lawful sizes order date quiet nothing_done agent less loud;
    known = λ agent n is. left_known s ways code run lawful sizes order date quiet nothing_done agent n is;
    places = λ agent n is. left_places s ways code run lawful sizes order date quiet nothing_done agent n save.near (save.copies agent) is;
    starts = λ agent n is. (next_ready s ways code laws run date agent n is).alike;
    carries = λ agent n is. (next_ready s ways code laws run date agent n is).carries;
    committed = λ variable. committed_by variable (variable_of s variable).owner;
    inputs = λ variable none. ap (committed_at s date variable) none ∙ run.opened.inputs variable none;
    published = ring_fits;
    rings = λ last variable at less. in_ring variable last at less;
    messages = λ stream. left_messages s ways code run streams clocks near (all_sent s ways code laws run) fit sizes order date save.near quiet nothing_done stream (few_held stream date);
    counts = λ agent. left_count s date agent save.near save.cycles (ap (λ (o : Opening). o.count agent) save.whole) (ap (λ (o : Opening). o.slack agent) save.whole);
    slacks = λ agent. left_slack s date agent save.near save.cycles (ap (λ (o : Opening). o.count agent) save.whole) (ap (λ (o : Opening). o.slack agent) save.whole)
        (turns_by s order cycles agent);
    reaches = left_reach;
    most = left_most;
  }

  finished : (agent : ℕ) → All (IsFinished s order cycles) (history s date agent)
  finished agent = all_members (IsFinished s order cycles) (history s date agent) (λ r c.
      let due = All-contains (λ (x : Action). x.deadline ≤ date) (history s date agent) r (old_due s lawful date quiet agent) c in
      due_finished s order date save.supplied date agent r (omega arith) c due)

  pub may_resume : MayResume s ways code sizes order date
  may_resume = record {
    run = run;
    rings = save.rings;
    quantum = save.supplied.quantum;
    behind = omega (arith, nothing_done);
    quiet = quiet;
    finished = finished;
    sound = left_sound;
  }
