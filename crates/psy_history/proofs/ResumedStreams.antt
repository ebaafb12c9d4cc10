-- What a history that is taken up again at a quiet date shows of a stream: what the whole one does.
use Rattle.std.proofs.Common.{◌≡◌, ◌⊎◌, ℕ, suc, ◌+◌, ◌≤◌, true, false, List, [], ◌∷◌, ◌++◌, refl, sym, ap, ◌∙◌, subst, inl, inr, arith}
use Rattle.std.specs.Prelude.{◌==◌, ◌&&◌, not, if◌then◌else◌}
use Rattle.std.specs.List.{Contains, list_any}
use Rattle.std.proofs.lemmas.Bool.{and_from, and_parts, cases_Bool, le-leb, ltb-true}
use Rattle.std.proofs.lemmas.List.Elements.{All-contains, Contains-append_cases, Contains-append_left}
use Rattle.std.proofs.lemmas.List.Folds.{list_all-append}
use Rattle.psy_base.specs.declared.message.Message.{Message}
use Rattle.psy_code.specs.declared.look.Sent.{Sent}
use Rattle.psy_lists.proofs.lemmas.Members.{filter_in, filter_from}
use Rattle.psy_history.specs.Actions.{Action, System, Verdict, Done, Trapped, Overran, is_done_by, stream_of}
use Rattle.psy_history.specs.History.{action_of, history}
use Rattle.psy_history.specs.Queues.{queue_of}
use Rattle.psy_history.specs.Resuming.{resumed_at}
use Rattle.psy_history.specs.Visible.{is_in_view, is_same, is_untaken, message_of, messages, messages_by, messages_from, seen_at, taken}
use Rattle.psy_history.proofs.Growth.{grown}
use Rattle.psy_history.proofs.HeldMessages.{contains_queue, fresh_late, from_view, in_view, untaken_late}
use Rattle.psy_history.proofs.LastActions.{ended_by}
use Rattle.psy_history.proofs.MessageOrder.{same_messages, strictly_filter}
use Rattle.psy_history.proofs.NextStarts.{regular_head}
use Rattle.psy_history.proofs.SentMessages.{AreClockLaws, HasStreams, IsBefore, IsOf, contains_messages, entered_behind, message_dates, sent_is, sent_known, strictly_messages}
use Rattle.psy_history.proofs.StartedActions.{start_below}
use Rattle.psy_history.proofs.TakenMessages.{untaken_alike, untaken_behind}

-- An action that doesn't end behind a date is done by each later date as by that one.
pub done_since : (date by : ℕ) (v : Verdict) → date ≤ by → ((point end : ℕ) → v ≡ Done point end → end ≤ date) → is_done_by by v ≡ is_done_by date v
done_since date by (Done point end) later ended =
    let early : end ≤ date = ended point end refl in
    le-leb end by (omega (arith, early, later)) ∙ sym (le-leb end date early)
done_since date by (Trapped kind) later ended = refl
done_since date by Overran later ended = refl

module _ (s : System) (streams : HasStreams s) (laws : AreClockLaws) (sizes : List ℕ) (order : ℕ → List ℕ) (date : ℕ) (behind : s.opening.dates ≤ suc date)
    (ended : (agent point end : ℕ) (r : Action) → Contains (history s date agent) r → r.verdict ≡ Done point end → end ≤ date) (stream : ℕ) where
  abbrev t : System
  t = resumed_at s sizes order date

  abbrev receiver : ℕ
  receiver = (stream_of s stream).receiver

  -- the receiver's actions before the date, and when it is done
  abbrev old : List Action
  old = history s date receiver

  abbrev now : List Action
  now = history s (suc date) receiver

  -- ---- what is sent

  -- the messages of an action are told by it and the program alone
  from_same : (agent end number : ℕ) (sends : List Sent) → messages_from t stream agent end number sends ≡ messages_from s stream agent end number sends
  from_same agent end number [] = refl
  from_same agent end number (sent ∷ sends) =
      ap (λ rest. if sent.stream == stream then message_of s agent end number sent ∷ rest else rest) (from_same agent end (number + 1) sends)

  pub by_same : (agent : ℕ) (sends : List Sent) (v : Verdict) → messages_by t stream agent sends v ≡ messages_by s stream agent sends v
  by_same agent sends (Done point end) = from_same agent end 0 sends
  by_same agent sends (Trapped kind) = refl
  by_same agent sends Overran = refl

  -- ---- what is taken

  -- what starts at the date has taken nothing by then
  untaken_now : (m : Message) → is_untaken stream date now m ≡ is_untaken stream date old m
  untaken_now m = elim (grown s date receiver) [
    | inl (same, other) ↦ ap (λ actions. is_untaken stream date actions m) same
    | inr (n, next, at, more) ↦ (
        let q : Action = action_of s (history s date) receiver n in
        let regular = regular_head s streams.lawful (suc date) receiver q old more in
        let going : is_done_by date q.verdict ≡ false = elim (cases_Bool (is_done_by date q.verdict)) [
          | inl done ↦ (let (point, end, is, early) = ended_by date q done in absurd (omega (arith, at, early, regular.due, (regular.ends point end is).2)))
          | inr going ↦ going
        ] in
        ap (λ actions. is_untaken stream date actions m) more ∙ untaken_behind stream date q old m going)
  ]

  -- what started before it takes nothing behind it
  untaken_old : (by : ℕ) (m : Message) → date ≤ by → is_untaken stream by old m ≡ is_untaken stream date now m
  untaken_old by m late = untaken_alike stream by date old m (λ r c. done_since date by r.verdict late (λ point end is. ended receiver point end r c is)) ∙ sym (untaken_now m)

  module _ (others : HasStreams t) (later : ℕ) (late : date ≤ later) (actions : (agent : ℕ) → history s later agent ≡ history t later agent ++ history s date agent) where
    -- A message is untaken where it was so at the date, and new actions don't take it.
    pub untaken_parts : (by : ℕ) (m : Message) → date ≤ by
        → is_untaken stream by (history s later receiver) m ≡ (is_untaken stream by (history t later receiver) m && is_untaken stream date now m)
    untaken_parts by m since =
        ap (λ actions. is_untaken stream by actions m) (actions receiver)
        ∙ list_all-append (λ (r : Action). not (is_done_by by r.verdict && list_any (is_same m) (taken r stream))) (history t later receiver) old
        ∙ ap (λ b. is_untaken stream by (history t later receiver) m && b) (untaken_old by m since)

    -- ---- who sent it

    -- a new action is one of the whole history
    new_whole : (m : Message) → IsOf t (history t later) stream m → IsOf s (history s later) stream m
    new_whole m (agent, r, less, there, its) =
        let within = Contains-append_left (history t later agent) (history s date agent) r there in
        (agent, r, less, subst (λ xs. Contains xs r) (sym (actions agent)) within, subst (λ ms. Contains ms m) (by_same r.agent r.deeds.sends r.verdict) its)

    -- A message of the whole history entered by the date, or was sent by a new action.
    pub sent_parts : (m : Message) → Contains (messages s (history s later) stream) m → (m.entry ≤ date) ⊎ IsOf t (history t later) stream m
    sent_parts m c = elim ((contains_messages s streams (history s later) stream m).0 c) [
      | inl held ↦ (let is = All-contains (IsBefore s.opening.dates) (s.opening.messages stream) m (streams.held stream) held in inl (omega (arith, is.entered, behind)))
      | inr (agent, r, less, there, its) ↦ (
          let parts = Contains-append_cases (history t later agent) (history s date agent) r (subst (λ xs. Contains xs r) (actions agent) there) in
          elim parts [
            | inl new ↦ inr (agent, r, less, new, subst (λ ms. Contains ms m) (sym (by_same r.agent r.deeds.sends r.verdict)) its)
            | inr before ↦ (let is = sent_is s streams laws stream r m its in inl (ended agent is.point m.entry r before is.done))
          ])
    ]

    -- what entered by the date is known at it
    known_now : (m : Message) → m.entry ≤ date → Contains (messages s (history s later) stream) m → Contains (messages s (history s (suc date)) stream) m
    known_now m early c = sent_known s streams laws later (suc date) stream m (omega (arith, early)) c

    -- ---- what is seen

    -- what the whole history shows, the resumed one does,
    into_new : (m : Message) → Contains (seen_at s (history s later) later stream) m → Contains (seen_at t (history t later) later stream) m
    into_new m c =
        let (sent, is) = filter_from (is_in_view stream later (history s later receiver)) (messages s (history s later) stream) m c in
        let view = in_view stream later (history s later receiver) m is in
        let (new, before) = and_parts (is_untaken stream later (history t later receiver) m) (is_untaken stream date now m) (sym (untaken_parts later m late) ∙ view.untaken) in
        let there : Contains (messages t (history t later) stream) m = (contains_messages t others (history t later) stream m).1 (elim (sent_parts m sent) [
          | inl early ↦ (
              let fresh = fresh_late (s.opening.silent receiver) date now m (λ r d. start_below s streams.lawful (suc date) receiver r d) (omega (arith, ltb-true later m.expiry view.fresh, late)) in
              inl ((contains_queue s streams laws date stream m).1 ((known_now m early sent, before, fresh), early)))
          | inr of ↦ inr of
        ]) in
        filter_in (is_in_view stream later (history t later receiver)) (messages t (history t later) stream) m there
        (from_view stream later (history t later receiver) m (record { entered = view.entered; visible = view.visible; fresh = view.fresh; untaken = new }))

    -- and back
    into_whole : (m : Message) → Contains (seen_at t (history t later) later stream) m → Contains (seen_at s (history s later) later stream) m
    into_whole m c =
        let (sent, is) = filter_from (is_in_view stream later (history t later receiver)) (messages t (history t later) stream) m c in
        let view = in_view stream later (history t later receiver) m is in
        let (there, before) = held_or_new m ((contains_messages t others (history t later) stream m).0 sent) in
        let untaken = untaken_parts later m late ∙ and_from (is_untaken stream later (history t later receiver) m) (is_untaken stream date now m) view.untaken before in
        filter_in (is_in_view stream later (history s later receiver)) (messages s (history s later) stream) m there
        (from_view stream later (history s later receiver) m (record { entered = view.entered; visible = view.visible; fresh = view.fresh; untaken = untaken }))
      where
        held_or_new : (m : Message) → Contains (queue_of s (suc date) stream) m ⊎ IsOf t (history t later) stream m
            → Contains (messages s (history s later) stream) m × (is_untaken stream date now m ≡ true)
        held_or_new m (inl held) =
            let ((sent, untaken, fresh), early) = (contains_queue s streams laws date stream m).0 held in
            (sent_known s streams laws (suc date) later stream m (omega (arith, early, late)) sent, untaken)
        held_or_new m (inr of) =
            let since : suc date ≤ m.entry = entered_behind t others laws later stream m of in
            let sent = (contains_messages s streams (history s later) stream m).1 (inr (new_whole m of)) in
            let dates = message_dates s streams laws (history s later) stream m sent in
            (sent, untaken_late s streams laws date stream m (omega (arith, since, dates.0)))

    -- What an action at a later date sees is the same in both.
    pub seen_resumed : seen_at s (history s later) later stream ≡ seen_at t (history t later) later stream
    seen_resumed =
        same_messages (seen_at s (history s later) later stream) (seen_at t (history t later) later stream)
        (strictly_filter (is_in_view stream later (history s later receiver)) (messages s (history s later) stream) (strictly_messages s streams laws later stream))
        (strictly_filter (is_in_view stream later (history t later receiver)) (messages t (history t later) stream) (strictly_messages t others laws later stream))
        (λ m. (into_new m, into_whole m))
