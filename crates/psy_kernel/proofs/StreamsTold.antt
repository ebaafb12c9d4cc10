-- A line of a message tells what a stream shows at a date.
use Rattle.std.proofs.Common.{◌≡◌, ℕ, ◌+◌, ◌-◌, ◌<◌, ◌≤◌, ◌==◌, Bool, true, false, not, List, [], ◌∷◌, ◌++◌, map, filter, length, get_or, slice_get, Option, Some, refl, sym, ap, subst, ◌∙◌, arith}
use Rattle.std.proofs.lemmas.List.{length-map}
use Rattle.std.proofs.lemmas.List.Filters.{length-filter_both}
use Rattle.psy_base.specs.declared.limits.TheConstants.{QUEUE}
use Rattle.psy_base.specs.declared.message.Message.{Message}
use Rattle.psy_base.specs.declared.sizes.Sizes.{Sizes}
use Rattle.psy_lists.proofs.lemmas.Places.{mapped}
use Rattle.psy_log.specs.Forms.{message_line}
use Rattle.psy_queue.specs.Order.{Queued}
use Rattle.psy_history.specs.Actions.{System, stream_of}
use Rattle.psy_history.specs.History.{history}
use Rattle.psy_history.specs.Lines.{Event, Show}
use Rattle.psy_history.specs.Schedule.{Turn}
use Rattle.psy_history.specs.Visible.{messages}
use Rattle.psy_history.specs.Queues.{queue_of}
use Rattle.psy_dates.specs.declared.shared.Shared.{Shared}
use Rattle.psy_dates.specs.Standing.{SharedStands}
use Rattle.psy_kernel.specs.Standing.{told_from}
use Rattle.psy_kernel.specs.Telling.{IsNextTold, IsShownBy, TellsMessage, places_of}
use Rattle.psy_kernel.proofs.ToldStreams.{end_of, message_more, stream_over}

-- The messages that become visible at a date
abbrev pub of_date : ℕ → List Message → List Message
of_date date = filter (λ (m : Message). m.visible == date)

module _ (s : System) (sizes : Sizes) (turns : ℕ → List (Option Turn)) (date : ℕ) (shared : Shared) (stands : SharedStands s sizes turns (date + 1) shared) (stream : ℕ)
    (shows : of_date date (messages s (history s (date + 1)) stream) ≡ of_date date (queue_of s (date + 1) stream)) where
  abbrev event_of : Message → Event
  event_of m = Show stream m.value

  pub queue_shows : (queue : Queued) → slice_get shared.queues.items stream ≡ Some queue → of_date date (messages s (history s (date + 1)) stream) ≡ of_date date queue.messages
  queue_shows queue at = shows ∙ ap (of_date date) (sym (stands.queues stream queue at).messages)

  fewer : (p : Message → Bool) (ms : List Message) → length (filter p ms) ≤ length ms
  fewer p ms = omega (arith, length-filter_both p (λ m. not (p m)) (λ m. refl) ms)

  -- A stream shows no more messages than a queue may have, and as many more as it held when the history began.
  pub shown_few : (bound : length (queue_of s (date + 1) stream) ≤ get_or sizes.queues stream 0 + length (s.opening.messages stream)) → get_or sizes.queues stream 0 ≤ QUEUE → length (s.opening.messages stream) ≤ QUEUE → stream < length s.unit.streams
      → length (map event_of (of_date date (messages s (history s (date + 1)) stream))) ≤ 131072
  shown_few bound small few within =
      omega (arith, length-map (of_date date (messages s (history s (date + 1)) stream)) event_of, ap length shows, fewer (λ m. m.visible == date) (queue_of s (date + 1) stream), bound, small, few)

  -- The queue of a stream tells what it shows.
  pub stream_told : (shown : ℕ) (old new : List ℕ) (result : Bool) (queue : Queued) (name : List ℕ) → slice_get shared.queues.items stream ≡ Some queue → name ≡ (stream_of s stream).name
      → TellsMessage queue.messages name date shown result old new → IsShownBy s date stream shown result old new
  stream_told shown old new true queue name at named told =
      let m : Message = told.0 in (
        event_of m,
        ap (λ ms. slice_get (map event_of ms) shown) (queue_shows queue at) ∙ mapped event_of (of_date date queue.messages) shown m told.1,
        told.2 ∙ ap (λ n. message_line date n m.value) named,
      )
  stream_told shown old new false queue name at named told = (
    subst (λ ms. length (map event_of ms) ≤ shown) (sym (queue_shows queue at)) (omega (arith, told.0, length-map (of_date date queue.messages) event_of)),
    told.1,
  )

-- ---- the walk

module _ (s : System) (date place shown at told : ℕ) (old new : List ℕ) (behind : places_of s ≤ at) (within : at < end_of s date) (same : told_from s date at told ≡ told_from s date place shown) where
  abbrev stream : ℕ
  stream = at - length s.unit.agents - length s.unit.variables

  -- Behind a stream that shows nothing more as much is told as before it.
  pub shown_on : IsShownBy s date stream told false old new → told_from s date (at + 1) 0 ≡ told_from s date place shown
  shown_on is = stream_over s date at told behind within is.0 ∙ same

  -- Behind one that shows a message its event is told as well.
  pub shown_to : IsShownBy s date stream told true old new → IsNextTold s date (end_of s date) place shown (Some (record { place = at; shown = told + 1 })) old new
  shown_to is = (
    omega (arith, within),
    λ l. absurd (omega (arith, l, behind)),
    is.0,
    message_more s date at told is.0 behind within is.1 ∙ ap (λ xs. xs ++ is.0 ∷ []) same,
    is.2,
  )
