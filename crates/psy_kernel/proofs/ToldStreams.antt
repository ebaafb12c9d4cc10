-- What is told of a date, stream by stream and message by message, behind the agents and the variables.
use Rattle.std.proofs.Common.{◌≡◌, ℕ, zero, suc, ◌+◌, ◌-◌, ◌*◌, ◌<◌, ◌≤◌, if◌then◌else◌, List, [], ◌∷◌, ◌++◌, take, drop, length, slice_get, Some, refl, sym, ap, subst, ◌∙◌, inl, inr, arith, append_assoc, length-append}
use Rattle.std.specs.List.{flat_map, range_with_len}
use Rattle.std.proofs.Math.Numerals.{add-one}
use Rattle.std.proofs.lemmas.Bool.{cases_lt, lt-ltb, le-ltb}
use Rattle.std.proofs.lemmas.List.{append-nil, drop_all, length-take, take-append-drop, take_more}
use Rattle.std.proofs.lemmas.Option.{get_or_from_slice_get, slice_get_within}
use Rattle.psy_history.specs.Actions.{System}
use Rattle.psy_history.specs.Lines.{Event, events}
use Rattle.psy_kernel.specs.Standing.{shows_first, told_from}
use Rattle.psy_kernel.specs.Telling.{places_of, told_by}
use Rattle.psy_kernel.proofs.ToldPlaces.{agents, all_stops, flat_few, flat_more, none_first, range_all, shown, shows_to, stops, stops_to, streams, told_more, values, values_to, variables}

-- ---- lists

regrouped : {X : Type 0} (vs ws xs ys zs : List X) → vs ++ (ws ++ (xs ++ (ys ++ zs))) ≡ (vs ++ (ws ++ (xs ++ ys))) ++ zs
regrouped vs ws xs ys zs =
    ap (λ us. vs ++ (ws ++ us)) (sym (append_assoc xs ys zs)) ∙ ap (λ us. vs ++ us) (sym (append_assoc ws (xs ++ ys) zs)) ∙ sym (append_assoc vs (ws ++ (xs ++ ys)) zs)

-- Lists of at most 65,536 items, one behind the other
few_to : {X : Type 0} (f : ℕ → List X) (n i : ℕ) → i ≤ n → ((k : ℕ) → k < n → length (f k) ≤ 131072) → length (flat_map f (take i (range_with_len 0 n))) ≤ i * 131072
few_to f n zero l few = omega arith
few_to f n (suc i) l few =
    let before : length (flat_map f (take i (range_with_len 0 n))) ≤ i * 131072 = few_to f n i (omega (arith, l)) few in
    let here : length (f i) ≤ 131072 = few i (omega (arith, l)) in
    let all : length (flat_map f (take (i + 1) (range_with_len 0 n))) ≤ (i + 1) * 131072 =
    omega (arith, before, here, ap length (flat_more f n i (omega (arith, l))), length-append (flat_map f (take i (range_with_len 0 n))) (f i)) in
    subst (λ k. length (flat_map f (take k (range_with_len 0 n))) ≤ k * 131072) (add-one i) all

-- ---- the streams

module _ (s : System) (date : ℕ) where
  -- The place behind those of the streams
  abbrev pub end_of : ℕ
  end_of = agents s date + variables s date + streams s date

  abbrev stream_of : ℕ → ℕ
  stream_of place = place - agents s date - variables s date

  first_is : (stream n : ℕ) → stream < streams s date → shows_first s date stream n ≡ take n (shown s date stream)
  first_is stream n l = ap (λ b. if b then take n (shown s date stream) else []) (lt-ltb stream (streams s date) l)

  first_none : (stream n : ℕ) → streams s date ≤ stream → shows_first s date stream n ≡ []
  first_none stream n l = ap (λ b. if b then take n (shown s date stream) else []) (le-ltb stream (streams s date) l)

  -- The next message of a stream is the next event.
  pub message_more : (place n : ℕ) (event : Event) → places_of s ≤ place → place < end_of → slice_get (shown s date (stream_of place)) n ≡ Some event
      → told_from s date place (n + 1) ≡ told_from s date place n ++ event ∷ []
  message_more place n event le l at =
      let stream : ℕ = stream_of place in
      let within : stream < streams s date = omega (arith, le, l) in
      let more : shows_first s date stream (n + 1) ≡ shows_first s date stream n ++ event ∷ [] =
      first_is stream (n + 1) within
      ∙ take_more (shown s date stream) n event (slice_get_within (shown s date stream) n event at)
      ∙ ap (λ e. take n (shown s date stream) ++ e ∷ []) (get_or_from_slice_get (shown s date stream) n event event at)
      ∙ ap (λ xs. xs ++ event ∷ []) (sym (first_is stream n within)) in
      ap (λ xs. stops_to s date place ++ (values_to s date (place - agents s date) ++ (shows_to s date stream ++ xs))) more
      ∙ regrouped (stops_to s date place) (values_to s date (place - agents s date)) (shows_to s date stream) (shows_first s date stream n) (event ∷ [])

  -- Behind the messages of a stream those of the next one are told.
  pub stream_more : (place n : ℕ) → places_of s ≤ place → place < end_of → told_from s date (place + 1) 0 ≡ told_from s date place n ++ drop n (shown s date (stream_of place))
  stream_more place n le l =
      let stream : ℕ = stream_of place in
      let within : stream < streams s date = omega (arith, le, l) in
      let next : stream_of (place + 1) ≡ stream + 1 = omega (arith, le) in
      let behind : agents s date ≤ place = omega (arith, le) in
      let values_all : values_to s date (place + 1 - agents s date) ≡ values_to s date (place - agents s date) =
      ap (flat_map (values s date)) (range_all (variables s date) (place + 1 - agents s date) (omega (arith, le)) ∙ sym (range_all (variables s date) (place - agents s date) (omega (arith, le)))) in
      let all : shown s date stream ≡ shows_first s date stream n ++ drop n (shown s date stream) =
      sym (take-append-drop n (shown s date stream)) ∙ ap (λ xs. xs ++ drop n (shown s date stream)) (sym (first_is stream n within)) in
      let shows_more : shows_to s date (stream + 1) ++ shows_first s date (stream + 1) 0 ≡ shows_to s date stream ++ (shows_first s date stream n ++ drop n (shown s date stream)) =
      ap (λ xs. shows_to s date (stream + 1) ++ xs) (none_first s date (stream + 1))
      ∙ append-nil (shows_to s date (stream + 1))
      ∙ flat_more (shown s date) (streams s date) stream within
      ∙ ap (λ xs. shows_to s date stream ++ xs) all in
      ap (λ k. stops_to s date (place + 1) ++ (values_to s date (place + 1 - agents s date) ++ (shows_to s date k ++ shows_first s date k 0))) next
      ∙ ap (λ xs. stops_to s date (place + 1) ++ (values_to s date (place + 1 - agents s date) ++ xs)) shows_more
      ∙ ap (λ xs. stops_to s date (place + 1) ++ (xs ++ (shows_to s date stream ++ (shows_first s date stream n ++ drop n (shown s date stream))))) values_all
      ∙ ap (λ xs. xs ++ (values_to s date (place - agents s date) ++ (shows_to s date stream ++ (shows_first s date stream n ++ drop n (shown s date stream))))) (all_stops s date place behind)
      ∙ regrouped (stops_to s date place) (values_to s date (place - agents s date)) (shows_to s date stream) (shows_first s date stream n) (drop n (shown s date stream))

  -- Where all messages of a stream are told, as much is told as before those of the next one.
  pub stream_over : (place n : ℕ) → places_of s ≤ place → place < end_of → length (shown s date (stream_of place)) ≤ n → told_from s date (place + 1) 0 ≡ told_from s date place n
  stream_over place n le l all =
      stream_more place n le l ∙ ap (λ xs. told_from s date place n ++ xs) (drop_all n (shown s date (stream_of place)) all) ∙ append-nil (told_from s date place n)

  -- ---- the whole

  abbrev IsFront : ℕ → ℕ → Type 0
  IsFront place n = (more : List Event) × (told_from s date end_of 0 ≡ told_from s date place n ++ more)

  -- Behind the last stream nothing more is told.
  pub at_end : (place n : ℕ) → end_of ≡ place → told_from s date end_of 0 ≡ told_from s date place n
  at_end place n e =
      let last : streams s date ≤ stream_of place = omega (arith, e) in
      ap (λ p. told_from s date p 0) e
      ∙ ap (λ xs. stops_to s date place ++ (values_to s date (place - agents s date) ++ (shows_to s date (stream_of place) ++ xs))) (first_none (stream_of place) 0 last ∙ sym (first_none (stream_of place) n last))

  behind : (k place n : ℕ) → place + k ≡ end_of → (place < places_of s → n ≡ 0) → IsFront place n
  behind zero place n e none = ([], at_end place n (omega (arith, e)) ∙ sym (append-nil (told_from s date place n)))
  behind (suc k) place n e none =
      let rest = behind k (place + 1) 0 (omega (arith, e)) (λ _. refl) in
      elim (cases_lt place (places_of s)) [
        | inl l ↦ subst (IsFront place) (sym (none l)) (
          told_by s date place ++ rest.0,
          rest.1 ∙ ap (λ xs. xs ++ rest.0) (told_more s date place l) ∙ append_assoc (told_from s date place 0) (told_by s date place) rest.0,
        )
        | inr le ↦ (
          drop n (shown s date (stream_of place)) ++ rest.0,
          rest.1 ∙ ap (λ xs. xs ++ rest.0) (stream_more place n le (omega (arith, e))) ∙ append_assoc (told_from s date place n) (drop n (shown s date (stream_of place))) rest.0,
        )
      ]

  -- What is told up to a place is the front of all that is told.
  pub told_front : (place n : ℕ) → place ≤ end_of → (place < places_of s → n ≡ 0) → (more : List Event) × (told_from s date end_of 0 ≡ told_from s date place n ++ more)
  told_front place n l none = behind (end_of - place) place n (omega (arith, l)) none

  -- All that is told of the date is told at the places.
  pub all_told : events s date ≡ told_from s date end_of 0
  all_told =
      let values_end : variables s date ≤ end_of - agents s date = omega arith in
      let shows_end : streams s date ≤ stream_of end_of = omega arith in
      ap (λ xs. flat_map (stops s date) (range_with_len 0 (agents s date)) ++ (flat_map (values s date) (range_with_len 0 (variables s date)) ++ xs)) (
      sym (append-nil (flat_map (shown s date) (range_with_len 0 (streams s date))))
      ∙ ap (λ xs. flat_map (shown s date) (range_with_len 0 (streams s date)) ++ xs) (sym (none_first s date (stream_of end_of)))
      ∙ ap (λ xs. flat_map (shown s date) xs ++ shows_first s date (stream_of end_of) 0) (sym (range_all (streams s date) (stream_of end_of) shows_end))
      )
      ∙ ap (λ xs. flat_map (stops s date) (range_with_len 0 (agents s date)) ++ (flat_map (values s date) xs ++ (shows_to s date (stream_of end_of) ++ shows_first s date (stream_of end_of) 0))) (sym (range_all (variables s date) (end_of - agents s date) values_end))
      ∙ ap (λ xs. flat_map (stops s date) xs ++ (values_to s date (end_of - agents s date) ++ (shows_to s date (stream_of end_of) ++ shows_first s date (stream_of end_of) 0))) (sym (range_all (agents s date) end_of (omega arith)))

  few_first : ((stream : ℕ) → stream < streams s date → length (shown s date stream) ≤ 131072) → (stream n : ℕ) → length (shows_first s date stream n) ≤ 131072
  few_first few stream n = elim (cases_lt stream (streams s date)) [
    | inl l ↦ omega (arith, ap length (first_is stream n l), length-take n (shown s date stream), few stream l)
    | inr le ↦ omega (arith, ap length (first_none stream n le))
  ]

  -- Where no agent or variable tells more than one event, and no stream more than a queue has places, there are few.
  pub told_few : ((agent : ℕ) → length (stops s date agent) ≤ 1) → ((variable : ℕ) → length (values s date variable) ≤ 1) → ((stream : ℕ) → stream < streams s date → length (shown s date stream) ≤ 131072)
      → (place n : ℕ) → place ≤ end_of → length (told_from s date place n) ≤ place + place + place * 131072 + 131072
  told_few one_stop one_value few place n l =
      let stream : ℕ = stream_of place in
      let first = take place (range_with_len 0 (agents s date)) in
      let second = take (place - agents s date) (range_with_len 0 (variables s date)) in
      let of_agents : length (stops_to s date place) ≤ length first = flat_few (stops s date) first one_stop in
      let of_variables : length (values_to s date (place - agents s date)) ≤ length second = flat_few (values s date) second one_value in
      let of_streams : length (shows_to s date stream) ≤ stream * 131072 = few_to (shown s date) (streams s date) stream (omega (arith, l)) few in
      let of_message : length (shows_first s date stream n) ≤ 131072 = few_first few stream n in
      let third = shows_to s date stream ++ shows_first s date stream n in
      omega (
        arith,
        of_agents,
        of_variables,
        of_streams,
        of_message,
        length-take place (range_with_len 0 (agents s date)),
        length-take (place - agents s date) (range_with_len 0 (variables s date)),
        length-append (stops_to s date place) (values_to s date (place - agents s date) ++ third),
        length-append (values_to s date (place - agents s date)) third,
        length-append (shows_to s date stream) (shows_first s date stream n),
      )
