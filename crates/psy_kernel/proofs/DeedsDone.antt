-- What an action has sent and taken behind an instruction.
use Rattle.std.proofs.Common.{◌≡◌, ◌⊎◌, ℕ, suc, ◌+◌, ◌-◌, ◌==◌, ◌<◌, ◌≤◌, Bool, true, false, if◌then◌else◌, List, [], ◌∷◌, ◌++◌, map, take, length, get_or, Option, None, Some, slice_get, slice_set, ℤ, refl, sym, ap, ◌∙◌, inl, inr, arith}
use Rattle.std.specs.Prelude.{filter, option_map}
use Rattle.std.specs.List.{count_by}
use Rattle.std.proofs.lemmas.Bool.{cases_eq, cond-false, cond-true, eq-eqb, ne_eqb}
use Rattle.std.proofs.lemmas.List.{length-take}
use Rattle.std.proofs.lemmas.List.Sums.{length-filter}
use Rattle.std.proofs.lemmas.Option.{same_Some, slice_get-get_or, slice_get-map, slice_get_within}
use Rattle.psy_code.specs.Execution.{deeds_then}
use Rattle.psy_code.specs.Views.{Call, Deeds, Past, Ready, Take, Send, Window, messages_of, found_in, without_first}
use Rattle.psy_dates.specs.Outboxes.{Outboxed}
use Rattle.psy_machine.specs.Stepping.{window_after}
use Rattle.psy_history.specs.Actions.{Action, System, stream_of}
use Rattle.psy_meaning.specs.Kept.{Receives}
use Rattle.psy_queue.specs.Order.{Queued}
use Rattle.psy_tree.specs.declared.unit.StreamDecl.{StreamDecl}
use Rattle.psy_kernel.specs.Acting.{AreDone, SeesAs}
use Rattle.psy_kernel.specs.Seeing.{Sight, is_mine, seen_by, window_in}
use Rattle.psy_dates.proofs.lemmas.Sets.{get_set_other}
use Rattle.psy_kernel.proofs.StreamsLeft.{drop_one, get_set_here, left_count, left_is, lists_many, messages_are}
use Rattle.psy_tree.specs.Parts.{no_stream}

-- ---- lists

-- One item more counts where it passes
filter_end : (p : ℕ → Bool) (xs : List ℕ) (x : ℕ) → length (filter p (xs ++ x ∷ [])) ≡ (if p x then length (filter p xs) + 1 else length (filter p xs))
filter_end p [] x = by (p x)
  where
    by : (test : Bool) → length (if test then x ∷ [] else []) ≡ (if test then 0 + 1 else 0)
    by true = refl
    by false = refl
filter_end p (y ∷ xs) x = by (p y) (p x) (filter_end p xs x)
  where
    by : (one other : Bool) → length (filter p (xs ++ x ∷ [])) ≡ (if other then length (filter p xs) + 1 else length (filter p xs))
        → length (if one then y ∷ filter p (xs ++ x ∷ []) else filter p (xs ++ x ∷ [])) ≡ (if other then length (if one then y ∷ filter p xs else filter p xs) + 1 else length (if one then y ∷ filter p xs else filter p xs))
    by true true h = omega (arith, h)
    by true false h = ap suc h
    by false true h = h
    by false false h = h

count_end : (p : ℕ → Bool) (xs : List ℕ) (x : ℕ) → count_by p (xs ++ x ∷ []) ≡ (if p x then count_by p xs + 1 else count_by p xs)
count_end p xs x = sym (length-filter p (xs ++ x ∷ [])) ∙ filter_end p xs x ∙ ap (λ n. if p x then n + 1 else n) (length-filter p xs)

-- How many messages there are
abbrev many : Option (List ℤ) → ℕ
many None = 0
many (Some messages) = length messages

many_without : (messages : Option (List ℤ)) → many (without_first messages) ≡ many messages - 1
many_without None = refl
many_without (Some messages) = drop_one messages

-- ---- streams that an agent receives

-- A stream of the program with this receiver is one that the agent receives
pub receives : (s : System) (agent stream : ℕ) → stream < length s.unit.streams → (stream_of s stream).receiver ≡ agent → Receives s.unit agent stream
receives s agent stream less e =
    slice_get-map (λ (d : StreamDecl). d.receiver == agent) s.unit.streams stream
    ∙ ap (λ o. option_map (λ (d : StreamDecl). d.receiver == agent) o) (slice_get-get_or s.unit.streams stream no_stream less)
    ∙ ap Some (eq-eqb (stream_of s stream).receiver agent e)

module _ (s : System) (r : Action) (sight : Sight) (taken : List ℕ) (sees : SeesAs s r sight taken) where
  mine_is : (stream : ℕ) → Receives s.unit r.agent stream → is_mine sight stream ≡ Some true
  mine_is stream its =
      ap (λ agent. slice_get (map (λ (d : StreamDecl). d.receiver == agent) sight.streams) stream) sees.agent
      ∙ ap (λ streams. slice_get (map (λ (d : StreamDecl). d.receiver == r.agent) streams) stream) sees.streams ∙ its

  module _ (taken' : List ℕ) (as_many : length taken' ≡ length taken) (outbox outbox' : Outboxed) (noted noted' : Option (ℕ × ℕ)) (call : Option Call)
      (after : window_in sight taken' outbox' noted' ≡ window_after (window_in sight taken outbox noted) call)
      (within : (stream n : ℕ) (queue : Queued) → slice_get sight.queues stream ≡ Some queue → slice_get taken' stream ≡ Some n → (slice_get taken stream ≡ Some n) ⊎ (n ≤ seen_by queue.messages sight.start))
      (deeds : Deeds) (did : AreDone s r deeds outbox.sends taken) where
    abbrev window : Window
    window = window_in sight taken outbox noted

    sent_by : (call : Option Call) → (window_after window call).sends ≡ (deeds_then deeds call).sends
    sent_by None = did.sent
    sent_by (Some (Past variable back)) = did.sent
    sent_by (Some (Ready stream)) = did.sent
    sent_by (Some (Take stream)) = did.sent
    sent_by (Some (Send sent)) = ap (λ sends. sends ++ sent ∷ []) did.sent

    -- ---- a stream

    module _ (stream n : ℕ) (at : slice_get taken' stream ≡ Some n) (own : (stream_of s stream).receiver ≡ r.agent) where
      known : stream < length s.unit.streams
      known = omega (arith, slice_get_within taken' stream n at, as_many, sees.counted)

      its : Receives s.unit r.agent stream
      its = receives s r.agent stream known own

      abbrev queue : Queued
      queue = get_or sight.queues stream (record { size = 0; messages = [] })

      queued : slice_get sight.queues stream ≡ Some queue
      queued = slice_get-get_or sight.queues stream (record { size = 0; messages = [] }) (omega (arith, known, sees.queued))

      abbrev m : ℕ
      m = get_or taken stream 0

      old : slice_get taken stream ≡ Some m
      old = slice_get-get_or taken stream 0 (omega (arith, known, sees.counted))

      abbrev k : ℕ
      k = seen_by queue.messages sight.start

      seen : k ≡ length (r.seen stream)
      seen = sees.seen stream queue its queued

      taken_is : m ≡ length (take (count_by (λ t. t == stream) deeds.takes) (r.seen stream))
      taken_is = did.took stream m old own

      few : n ≤ k
      few = elim (within stream n queue queued at) [
        | inl same ↦ (let e : n ≡ m = same_Some n m (sym same ∙ old) in omega (arith, e, taken_is, seen, length-take (count_by (λ t. t == stream) deeds.takes) (r.seen stream)))
        | inr h ↦ h
      ]

      left_then : many (messages_of (window_in sight taken' outbox' noted').view stream) ≡ k - n
      left_then =
          ap many (messages_are sight taken' (window_in sight taken' outbox' noted').view refl stream ∙ left_is sight taken' stream n queue (mine_is stream its) at queued)
          ∙ left_count sight.start queue n

      left_now : many (messages_of window.view stream) ≡ k - m
      left_now = ap many (messages_are sight taken window.view refl stream ∙ left_is sight taken stream m queue (mine_is stream its) old queued) ∙ left_count sight.start queue m

      left_after : many (messages_of (window_after window call).view stream) ≡ k - n
      left_after = sym (ap (λ (w : Window). many (messages_of w.view stream)) after) ∙ left_then

      -- an instruction that takes nothing of it
      stays : many (messages_of (window_after window call).view stream) ≡ many (messages_of window.view stream) → n ≡ length (take (count_by (λ t. t == stream) deeds.takes) (r.seen stream))
      stays e = omega (arith, e, left_after, left_now, few, taken_is, seen, length-take (count_by (λ t. t == stream) deeds.takes) (r.seen stream))

      -- one that takes its first message
      goes : many (messages_of (window_after window call).view stream) ≡ many (messages_of window.view stream) - 1 → n ≡ length (take (count_by (λ t. t == stream) deeds.takes + 1) (r.seen stream))
      goes e =
          omega (arith, e, left_after, left_now, few, taken_is, seen, length-take (count_by (λ t. t == stream) deeds.takes) (r.seen stream), length-take (count_by (λ t. t == stream) deeds.takes + 1) (r.seen stream))

      in_list : stream < length window.view.messages
      in_list = omega (arith, known, lists_many sight taken, ap length sees.streams)

      took_by : (c : Option Call) → call ≡ c → n ≡ length (take (count_by (λ t. t == stream) (deeds_then deeds c).takes) (r.seen stream))
      took_by None e = stays (ap (λ c. many (messages_of (window_after window c).view stream)) e)
      took_by (Some (Past variable back)) e = stays (ap (λ c. many (messages_of (window_after window c).view stream)) e)
      took_by (Some (Ready other)) e = stays (ap (λ c. many (messages_of (window_after window c).view stream)) e)
      took_by (Some (Send sent)) e = stays (ap (λ c. many (messages_of (window_after window c).view stream)) e)
      took_by (Some (Take other)) e =
          let here : many (messages_of (window_after window call).view stream) ≡ many (found_in (slice_get (slice_set window.view.messages other (without_first (messages_of window.view other))) stream) (λ messages. messages)) = ap (λ c. many (messages_of (window_after window c).view stream)) e in
          elim (cases_eq other stream) [
            | inl same ↦
                goes (here ∙ ap (λ t. many (found_in (slice_get (slice_set window.view.messages t (without_first (messages_of window.view t))) stream) (λ messages. messages))) same
                ∙ ap (λ o. many (found_in o (λ messages. messages))) (get_set_here window.view.messages stream (without_first (messages_of window.view stream)) in_list) ∙ many_without (messages_of window.view stream))
                ∙ ap (λ n. length (take n (r.seen stream))) (sym (count_end (λ t. t == stream) deeds.takes other ∙ cond-true (other == stream) (count_by (λ t. t == stream) deeds.takes + 1) (count_by (λ t. t == stream) deeds.takes) (eq-eqb other stream same)))
            | inr differs ↦
                stays (here ∙ ap (λ o. many (found_in o (λ messages. messages))) (get_set_other window.view.messages other stream (without_first (messages_of window.view other)) (λ e. differs (sym e))))
                ∙ ap (λ n. length (take n (r.seen stream))) (sym (count_end (λ t. t == stream) deeds.takes other ∙ cond-false (other == stream) (count_by (λ t. t == stream) deeds.takes + 1) (count_by (λ t. t == stream) deeds.takes) (ne_eqb other stream differs)))
          ]

    -- the outbox and the counts keep what the instruction did
    pub done_now : AreDone s r (deeds_then deeds call) outbox'.sends taken'
    done_now = record {
      sent = ap (λ (w : Window). w.sends) after ∙ sent_by call;
      took = λ stream n at own. took_by stream n at own call refl;
    }
