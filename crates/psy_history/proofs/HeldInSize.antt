-- No stream holds more messages than its queue has places, and as it held when its history began.
use Rattle.std.proofs.Common.{◌≡◌, ℕ, zero, suc, ◌+◌, ◌-◌, ◌≤◌, All, Bool, true, false, List, [], ◌∷◌, ◌++◌, append-nil, length, length-append, refl, sym, ap, ◌∙◌, subst, arith}
use Rattle.std.specs.Prelude.{◌&&◌, nat_le, nat_lt, filter}
use Rattle.std.specs.List.{Contains, flat_map, range_with_len}
use Rattle.std.proofs.lemmas.Bool.{and_from, and_parts, leb-true, lt-ltb}
use Rattle.std.proofs.lemmas.List.Concat.{flat_map-append}
use Rattle.std.proofs.lemmas.List.Elements.{All-contains, filter-append}
use Rattle.psy_base.specs.declared.limits.TheConstants.{QUEUE}
use Rattle.psy_base.specs.declared.message.Message.{Message}
use Rattle.psy_lists.proofs.lemmas.Ranges.{range_longer}
use Rattle.psy_lists.proofs.lemmas.Searches.{filter_less}
use Rattle.psy_history.specs.Actions.{Action, System, stream_of, timing}
use Rattle.psy_base.specs.Extremes.{IsGreatest}
use Rattle.psy_history.specs.History.{history}
use Rattle.psy_meaning.specs.QueueSizes.{IsQueueSize, IsSizeFor, IsSpread, IsSpreadBelow, MayLast, lasting_of}
use Rattle.psy_meaning.specs.Sendings.{delay_of}
use Rattle.psy_history.specs.Visible.{held, is_fresh, is_held, is_untaken, message_of, messages_by, sent_to, swept}
use Rattle.psy_meaning.specs.Ways.{sending_of}
use Rattle.psy_history.specs.Ways.{IsSentBy}
use Rattle.psy_meaning.specs.KnownWays.{Ways, delay_by, is_sent}
use Rattle.psy_history.proofs.HeldWindow.{AreNear, Opens, expires_near, fresh_near, swept_near}
use Rattle.psy_history.proofs.MessagesOfSends.{of_send}
use Rattle.psy_history.proofs.PassingMessages.{filter_fewer, filter_none, passing_ordered}
use Rattle.psy_history.proofs.SendWeights.{SendsByWay}
use Rattle.psy_history.proofs.SentInTime.{is_recent, messages_of, most_in_time}
use Rattle.psy_history.proofs.SentMessages.{AreClockLaws, HasStreams, entered_behind, of_actions, sent_is}

-- ---- all agents

module _ (s : System) (ways : Ways) (streams : HasStreams s) (stream date : ℕ) (by_way : (dates agent : ℕ) → All (SendsByWay ways agent) (history s dates agent)) where
  -- the messages of an agent's actions that start by the date
  abbrev of_agent : ℕ → List Message
  of_agent agent = flat_map (messages_of s stream) (history s (suc date) agent)

  -- those of the first so many agents
  abbrev of_agents : ℕ → List Message
  of_agents n = flat_map of_agent (range_with_len 0 n)

  module _ (window : ℕ) where
    abbrev recent : Message → Bool
    recent = is_recent date window

    -- one agent's messages in the window
    one_agent : (agent bound : ℕ) → IsSpread s.unit ways s.nexts stream window agent bound → bound ≤ QUEUE → length (filter recent (of_agent agent)) ≤ bound
    one_agent agent bound (spots, edges, sent, graph, sends, greatest) small =
        let its = streams.lawful.actions (suc date) agent in
        most_in_time s stream date window (suc date) agent ways spots edges sent graph sends bound greatest small (history s (suc date) agent) its.were_started its.each (by_way (suc date) agent) (omega arith)

    -- those of the first so many agents
    all_agents : (n size : ℕ) → IsSpreadBelow s.unit ways s.nexts stream window n size → size ≤ QUEUE → length (filter recent (of_agents n)) ≤ size
    all_agents zero size below small = omega arith
    all_agents (suc n) size (others, one, below, spread, sum) small =
        let last : 0 + n ≡ n = omega arith in
        let split : of_agents (suc n) ≡ of_agents n ++ of_agent n =
        ap (flat_map of_agent) (range_longer 0 n ∙ ap (λ k. range_with_len 0 n ++ k ∷ []) last) ∙ flat_map-append of_agent (range_with_len 0 n) (n ∷ []) ∙ ap (λ ms. of_agents n ++ ms) (append-nil (of_agent n)) in
        let parts : length (filter recent (of_agents (suc n))) ≡ length (filter recent (of_agents n)) + length (filter recent (of_agent n)) =
        ap (λ ms. length (filter recent ms)) split ∙ ap length (filter-append recent (of_agents n) (of_agent n)) ∙ length-append (filter recent (of_agents n)) (filter recent (of_agent n)) in
        omega (arith, parts, sum, all_agents n others below (omega (arith, sum, small)), one_agent n one spread (omega (arith, sum, small)))

  -- ---- the messages that are held

  module _ (near : AreNear) (laws : AreClockLaws) (sends : (dates agent : ℕ) → All (λ r. All (IsSentBy ways s.unit) r.deeds.sends) (history s dates agent))
      (opens : (longest : ℕ) (greatest : IsGreatest (MayLast (timing s (stream_of s stream).receiver)) longest)
      → Opens s streams.lawful (stream_of s stream).receiver longest greatest (s.opening.silent (stream_of s stream).receiver)) where
    abbrev receiver : ℕ
    receiver = (stream_of s stream).receiver

    abbrev quiet : Bool
    quiet = s.opening.silent receiver

    -- the messages of all actions
    abbrev all : List Message
    all = of_agents (length s.unit.agents)

    abbrev there : Message → Bool
    there = is_held quiet stream date (history s (suc date) receiver)

    -- Somebody sends to the stream, and a message expires no later than the greatest delay of a send says.
    record IsNamed (m : Message) : Type 0 where
      named : is_sent ways stream ≡ true
      expires : m.expiry ≤ m.entry + delay_by ways stream + lasting_of s.unit stream

    -- So it is with each message of an action.
    is_named : (m : Message) → Contains all m → IsNamed m
    is_named m c =
        let (agent, r, known, there, its) = of_actions s streams (history s (suc date)) stream m c in
        let is = sent_is s streams laws stream r m its in
        let of = of_send s stream r.agent m.entry 0 r.deeds.sends m (subst (λ v. Contains (messages_by s stream r.agent r.deeds.sends v) m) is.done its) in
        let by = All-contains (IsSentBy ways s.unit) r.deeds.sends of.sent (All-contains (λ (x : Action). All (IsSentBy ways s.unit) x.deeds.sends) (history s (suc date) agent) r (sends (suc date) agent) there) of.there in
        let soon : delay_of s.unit (sending_of of.sent) ≤ delay_by ways stream = subst (λ to. delay_of s.unit (sending_of of.sent) ≤ delay_by ways to) of.to by.soon in
        let same : (message_of s r.agent m.entry of.number of.sent).expiry ≡ m.expiry = ap (λ (n : Message). n.expiry) of.is in
        record {
          named = subst (λ to. is_sent ways to ≡ true) of.to by.named;
          expires = omega (arith, same, expires_near s streams near stream r.agent m.entry of.number (delay_by ways stream) of.sent of.to soon);
        }

    -- A message that is held entered in the window.
    held_recent : (window longest : ℕ) → IsGreatest (MayLast (timing s receiver)) longest → window ≡ delay_by ways stream + lasting_of s.unit stream + longest - 1
        → (m : Message) → Contains all m → there m ≡ true → is_recent date window m ≡ true
    held_recent window longest greatest is m c passes =
        let actions = history s (suc date) receiver in
        let (entered, rest) = and_parts (nat_le m.entry date) (is_untaken stream date actions m && is_fresh (swept quiet date actions) m) passes in
        let fresh = (and_parts (is_untaken stream date actions m) (is_fresh (swept quiet date actions) m) rest).1 in
        let behind = entered_behind s streams laws (suc date) stream m (of_actions s streams (history s (suc date)) stream m c) in
        let later : s.opening.dates ≤ date = omega (arith, behind, leb-true m.entry date entered) in
        let soon = swept_near s streams.lawful receiver longest greatest quiet date later (opens longest greatest) actions refl in
        let near_by = fresh_near s streams near stream date longest m.entry (delay_by ways stream) m (swept quiet date actions) soon (is_named m c).expires fresh in
        and_from (nat_le m.entry date) (nat_lt date (m.entry + window)) entered (lt-ltb date (m.entry + window) (omega (arith, near_by, is)))

    -- Where nobody sends, there is no message of an action; else those that are held are among those of the window.
    by_sends : (size : ℕ) → size ≤ QUEUE → (b : Bool) → is_sent ways stream ≡ b → IsSizeFor s.unit ways s.nexts stream size b → length (filter there all) ≤ size
    by_sends size small false none is =
        let empty = filter_none there all (λ m c passes. let not = sym none ∙ (is_named m c).named in cc) in
        omega (arith, empty)
    by_sends size small true some (window, (longest, greatest, is), below) =
        let fewer = filter_fewer there (is_recent date window) all (held_recent window longest greatest is) in
        omega (arith, fewer, all_agents window (length s.unit.agents) size below small)

    -- No more messages are held at the date than the queue has places, and as were held before.
    pub held_in_size : (size : ℕ) → IsQueueSize s.unit ways s.nexts stream size → size ≤ QUEUE → length (held s (history s (suc date)) stream date) ≤ size + length (s.opening.messages stream)
    held_in_size size is small =
        let before = s.opening.messages stream in
        let parts : length (filter there (before ++ all)) ≡ length (filter there before) + length (filter there all) =
        ap length (filter-append there before all) ∙ length-append (filter there before) (filter there all) in
        let ordered : length (held s (history s (suc date)) stream date) ≡ length (filter there (before ++ all)) = passing_ordered there (sent_to s (history s (suc date)) stream) in
        omega (arith, ordered, parts, filter_less there before, by_sends size small (is_sent ways stream) refl is)
