-- Two histories in which the agents that reach an agent act the same: what an agent that reaches it sees of its streams, and of what the
-- variables published that its text looks at, is the same.
use Rattle.std.proofs.Common.{◌≡◌, ◌⊎◌, ℕ, ◌+◌, ◌-◌, ◌<◌, ◌&&◌, false, List, [], ◌∷◌, ◌++◌, length, map, Option, Some, None, refl, sym, ap, ap₂, ◌∙◌, subst, inl, inr, arith}
use Rattle.std.proofs.Math.Path.{fun_ext}
use Rattle.std.proofs.lemmas.Bool.{cases_Bool, cases_lt, eqb-true}
use Rattle.std.proofs.lemmas.List.{get_or-map, length-map}
use Rattle.std.proofs.lemmas.List.Elements.{All-head, All-tail}
use Rattle.std.proofs.lemmas.List.FromFn.{fill_by_all, get_or-map-range_with_len, length-map-range_with_len}
use Rattle.std.proofs.lemmas.List.Sums.{sum_by-cons}
use Rattle.std.proofs.lemmas.Option.{get_or_from_slice_get, slice_get-get_or, slice_get_past, slice_get_within}
use Rattle.std.specs.List.{All, Contains, count_by, filter, flat_map, range_with_len}
use Rattle.std.specs.Prelude.{ℤ, ◌==◌, Bool, true, cond, if◌then◌else◌, nat_le, nat_lt, slice_get, take}
use Rattle.psy_base.specs.declared.message.Message.{Message}
use Rattle.psy_lists.proofs.lemmas.Members.{contains_none, contains_front, contains_behind, filter_in, filter_from}
use Rattle.psy_budget.specs.declared.charge.Stall.{Stall}
use Rattle.psy_clock.specs.Dates.{count, date}
use Rattle.psy_code.specs.declared.look.Sent.{Sent}
use Rattle.psy_code.specs.Views.{found_in, past_of}
use Rattle.psy_tree.specs.declared.unit.StreamDecl.{StreamDecl}
use Rattle.psy_tree.specs.declared.unit.Unit.{Unit as Whole}
use Rattle.psy_history.specs.Actions.{Action, History, System, Verdict, Done, Trapped, Overran, publishing, stream_of, variable_of}
use Rattle.psy_tree.specs.Parts.{agent_at}
use Rattle.psy_meaning.specs.Kept.{Receives}
use Rattle.psy_meaning.specs.Sendings.{sendings_in}
use Rattle.psy_history.specs.Visible.{in_order, is_in_view, messages, messages_by, messages_from, past, published_by, seen_at, sent_to, values_for, view_of}
use Rattle.psy_meaning.specs.Ways.{Sending, sending_of}
use Rattle.psy_history.specs.Compiled.{stated}
use Rattle.psy_history.specs.Feeding.{AreSame, Reaches, by_chain, by_stream, by_variable, pasts_in}
use Rattle.psy_history.proofs.LikeActions.{flat_map_same}
use Rattle.psy_history.proofs.SameActions.{committed_same, messages_of_same, untaken_same}
use Rattle.psy_history.proofs.StatedHistories.{IsOfAgent}

-- ---- lists of what is made of the first numbers

-- They are the same where each element is,
pub map_below : {X : Type 0} (f g : ℕ → X) (n : ℕ) (d : X) → ((i : ℕ) → i < n → f i ≡ g i) → map f (range_with_len 0 n) ≡ map g (range_with_len 0 n)
map_below f g n d same = sym (fill_by_all f (map g (range_with_len 0 n)) n d (length-map-range_with_len g 0 n) (λ i l. get_or-map-range_with_len g 0 n i i d l (omega arith) ∙ sym (same i l)))

-- And so is an element alone.
found_below : {X : Type 0} (f g : ℕ → X) (n i : ℕ) (d : X) → (i < n → f i ≡ g i) → slice_get (map f (range_with_len 0 n)) i ≡ slice_get (map g (range_with_len 0 n)) i
found_below f g n i d same = elim (cases_lt i n) [
  | inl less ↦ (
      slice_get-get_or (map f (range_with_len 0 n)) i d (omega (arith, less, length-map-range_with_len f 0 n))
      ∙ ap Some (get_or-map-range_with_len f 0 n i i d less (omega arith) ∙ same less ∙ sym (get_or-map-range_with_len g 0 n i i d less (omega arith)))
      ∙ sym (slice_get-get_or (map g (range_with_len 0 n)) i d (omega (arith, less, length-map-range_with_len g 0 n))))
  | inr past ↦ (
      slice_get_past (map f (range_with_len 0 n)) i (omega (arith, past, length-map-range_with_len f 0 n))
      ∙ sym (slice_get_past (map g (range_with_len 0 n)) i (omega (arith, past, length-map-range_with_len g 0 n))))
]

-- ---- an agent whose text holds no send to a stream

abbrev is_to : ℕ → Sending → Bool
is_to stream s = s.stream == stream

-- Where no send is to the stream, there are no messages,
none_from : (s : System) (stream agent end number : ℕ) (sends : List Sent) → ((sent : Sent) → Contains sends sent → (sent.stream == stream) ≡ false) → messages_from s stream agent end number sends ≡ []
none_from s stream agent end number [] none = refl
none_from s stream agent end number (sent ∷ sends) none = rw (none sent (contains_front sent sends)) (none_from s stream agent end (number + 1) sends (λ x c. none x (contains_behind sent sends x c)))

module _ (s : System) (unit : Whole) (stream agent : ℕ) (none : filter (is_to stream) (sendings_in (agent_at unit agent).stmts) ≡ []) where
  -- none of an action of an agent whose text holds none,
  none_by : (r : Action) → IsOfAgent unit agent r → messages_by s stream r.agent r.deeds.sends r.verdict ≡ []
  none_by r its = from r.verdict refl
    where
      misses : (point end : ℕ) → r.verdict ≡ Done point end → (sent : Sent) → Contains r.deeds.sends sent → (sent.stream == stream) ≡ false
      misses point end is sent c = elim (cases_Bool (sent.stream == stream)) [
        | inl hits ↦ absurd (contains_none (sending_of sent) (subst (λ xs. Contains xs (sending_of sent)) none (filter_in (is_to stream) (sendings_in (agent_at unit agent).stmts) (sending_of sent) (its.sends point end is sent c) hits)))
        | inr other ↦ other
      ]

      from : (v : Verdict) → r.verdict ≡ v → messages_by s stream r.agent r.deeds.sends v ≡ []
      from (Done point end) is = none_from s stream r.agent end 0 r.deeds.sends (misses point end is)
      from (Trapped kind) is = refl
      from Overran is = refl

  -- and none of all its actions.
  none_of : (actions : List Action) → All (IsOfAgent unit agent) actions → flat_map (λ (r : Action). messages_by s stream r.agent r.deeds.sends r.verdict) actions ≡ []
  none_of [] all = refl
  none_of (r ∷ before) all = ap₂ (λ (first : List Message) more. first ++ more) (none_by r (All-head (IsOfAgent unit agent) r before all)) (none_of before (All-tail (IsOfAgent unit agent) r before all))

-- ---- streams that an agent receives

-- It is one of the unit's streams, with the agent as its receiver.
received : (s : System) (agent stream : ℕ) → Receives s.unit agent stream → (stream < length s.unit.streams) × ((stream_of s stream).receiver ≡ agent)
received s agent stream its =
    let streams = s.unit.streams in
    let test = λ (d : StreamDecl). d.receiver == agent in
    let less : stream < length streams = omega (arith, slice_get_within (map test streams) stream true its, length-map streams test) in
    let found = sym (get_or-map test streams stream _ false less) ∙ get_or_from_slice_get (map test streams) stream true false its in
    (less, eqb-true (stream_of s stream).receiver agent found)

-- Of a stream from which an action took, it took nothing or it is the agent's.
took : (unit : Whole) (agent stream : ℕ) (takes : List ℕ) → All (Receives unit agent) takes → (count_by (λ t. t == stream) takes ≡ 0) ⊎ Receives unit agent stream
took unit agent stream [] all = inl refl
took unit agent stream (t ∷ takes) all = elim (cases_Bool (t == stream)) [
  | inl hits ↦ inr (subst (Receives unit agent) (eqb-true t stream hits) (All-head (Receives unit agent) t takes all))
  | inr misses ↦ elim (took unit agent stream takes (All-tail (Receives unit agent) t takes all)) [
    | inl none ↦ inl (sum_by-cons (λ s. cond (s == stream) 1 0) t takes ∙ rw (misses, none) refl)
    | inr its ↦ inr its
  ]
]

module _ (unit : Whole) (nexts : List (List (List ℕ))) (stalls others : ℕ → List Stall) (inputs : List (List ℤ)) where
  abbrev these : System
  these = stated unit nexts stalls inputs

  abbrev those : System
  those = stated unit nexts others inputs

  module _ (h k : History) (text : (agent : ℕ) → All (IsOfAgent unit agent) (h agent)) (other_text : (agent : ℕ) → All (IsOfAgent unit agent) (k agent))
      (to : ℕ) (same : (from : ℕ) → Reaches unit to from → AreSame (h from) (k from)) (agent : ℕ) (reach : Reaches unit to agent) where
    -- ---- messages

    module _ (stream : ℕ) (less : stream < length unit.streams) (is : (stream_of these stream).receiver ≡ agent) where
      abbrev sends_in : ℕ → List Sending
      sends_in from = sendings_in (agent_at unit from).stmts

      -- An agent sends the same to the stream: it feeds the receiver, or sends nothing there.
      by_sends : (from : ℕ) (sends : List Sending) → filter (is_to stream) (sends_in from) ≡ sends
          → flat_map (λ (r : Action). messages_by these stream r.agent r.deeds.sends r.verdict) (h from) ≡ flat_map (λ (r : Action). messages_by those stream r.agent r.deeds.sends r.verdict) (k from)
      by_sends from [] none = none_of these unit stream from none (h from) (text from) ∙ sym (none_of those unit stream from none (k from) (other_text from))
      by_sends from (s ∷ more) some =
          let (there, hits) = filter_from (is_to stream) (sends_in from) s (subst (λ xs. Contains xs s) (sym some) (contains_front s more)) in
          let at = ap (slice_get unit.streams) (eqb-true s.stream stream hits) ∙ slice_get-get_or unit.streams stream _ less in
          let feeds = by_stream s (stream_of these stream) there at is in
          messages_of_same unit nexts stalls others inputs stream (h from) (k from) (same from (by_chain from agent feeds reach))

      sent_same : sent_to these h stream ≡ sent_to those k stream
      sent_same = flat_map_same (λ from. flat_map (λ (r : Action). messages_by these stream r.agent r.deeds.sends r.verdict) (h from)) (λ from. flat_map (λ (r : Action). messages_by those stream r.agent r.deeds.sends r.verdict) (k from))
          (λ from. by_sends from (filter (is_to stream) (sends_in from)) refl) (range_with_len 0 (length unit.agents))

      -- The agent sees the same messages of the stream.
      pub seen_same : (start : ℕ) → seen_at these h start stream ≡ seen_at those k start stream
      seen_same start =
          let receiver = (stream_of these stream).receiver in
          let its = subst (λ a. AreSame (h a) (k a)) (sym is) (same agent reach) in
          ap (λ sent. filter (is_in_view stream start (h receiver)) (in_order sent)) sent_same
          ∙ ap (λ test. filter test (messages those k stream)) (fun_ext (λ m. ap (λ left. nat_le m.entry start && (nat_le m.visible start && (nat_lt start m.expiry && left))) (untaken_same stream start m (h receiver) (k receiver) its)))

    -- An action that takes from streams of the agent alone takes the same.
    pub taken_same : (start stream : ℕ) (takes : List ℕ) → All (Receives unit agent) takes → take (count_by (λ t. t == stream) takes) (seen_at these h start stream) ≡ take (count_by (λ t. t == stream) takes) (seen_at those k start stream)
    taken_same start stream takes all = elim (took unit agent stream takes all) [
      | inl none ↦ rw none refl
      | inr its ↦ (let (less, is) = received these agent stream its in ap (take (count_by (λ t. t == stream) takes)) (seen_same stream less is start))
    ]

    values_same : (start stream : ℕ) → stream < length unit.streams → values_for these (seen_at these h start) agent stream ≡ values_for those (seen_at those k start) agent stream
    values_same start stream less = elim (cases_Bool ((stream_of these stream).receiver == agent)) [
      | inl its ↦ ap (λ ms. if (stream_of these stream).receiver == agent then Some (map (λ (m : Message). m.value) ms) else None) (seen_same stream less (eqb-true (stream_of these stream).receiver agent its) start)
      | inr other ↦ rw other refl
    ]

    -- It sees the same messages,
    pub messages_same : (start : ℕ) → (view_of these h agent start (seen_at these h start)).messages ≡ (view_of those k agent start (seen_at those k start)).messages
    messages_same start = map_below (values_for these (seen_at these h start) agent) (values_for those (seen_at those k start) agent) (length unit.streams) None (values_same start)

    -- ---- values

    module _ (variable : ℕ) (looks : Contains (pasts_in (agent_at unit agent).stmts) variable) (less : variable < length unit.variables) where
      by_owner : (date : ℕ) (owner : Option ℕ) → (variable_of these variable).owner ≡ owner → published_by these h variable date owner ≡ published_by those k variable date owner
      by_owner date None is = refl
      by_owner date (Some owner) is =
          let feeds = by_variable variable (variable_of these variable) (slice_get-get_or unit.variables variable _ less) is looks in
          committed_same unit nexts stalls others inputs variable date (h owner) (k owner) (same owner (by_chain owner agent feeds reach))

      past_same : (start back : ℕ) → past these h variable start back ≡ past those k variable start back
      past_same start back =
          let clock = publishing these variable in
          ap (λ value. if nat_lt back (count clock start) then value else (variable_of these variable).init) (by_owner (date clock (count clock start - 1 - back)) (variable_of these variable).owner refl)

    -- and of what variables published, the same where its text looks.
    pub pasts_same : (start variable back : ℕ) → Contains (pasts_in (agent_at unit agent).stmts) variable
        → past_of (view_of these h agent start (seen_at these h start)) variable back ≡ past_of (view_of those k agent start (seen_at those k start)) variable back
    pasts_same start variable back looks =
        ap (λ found. found_in found (λ values. slice_get values back))
        (found_below (λ v. map (past these h v start) (range_with_len 0 (variable_of these v).depth)) (λ v. map (past those k v start) (range_with_len 0 (variable_of these v).depth)) (length unit.variables) variable []
        (λ less. ap (λ (p : ℕ → ℤ). map p (range_with_len 0 (variable_of these variable).depth)) (fun_ext (past_same variable looks less start))))
