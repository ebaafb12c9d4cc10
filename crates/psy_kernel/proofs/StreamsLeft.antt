-- What an action has left of the streams that it receives.
use Rattle.std.proofs.Common.{◌≡◌, ℕ, zero, suc, ◌+◌, ◌-◌, ◌<◌, ◌≤◌, Bool, true, false, List, [], ◌∷◌, map, take, drop, length, Option, None, Some, slice_get, slice_set, ℤ, refl, sym, ap, ◌∙◌, subst, inl, inr, arith, add-one}
use Rattle.std.specs.Prelude.{IsSome, ◌==◌, if◌then◌else◌, filter, nat_le}
use Rattle.std.specs.List.{range_with_len}
use Rattle.std.proofs.lemmas.Bool.{cases_eq, cases_lt}
use Rattle.std.proofs.lemmas.List.{length-drop, length-map, length-set, length-take}
use Rattle.std.proofs.lemmas.List.FromFn.{get_or-map-range_with_len, length-map-range_with_len}
use Rattle.std.proofs.lemmas.Option.{slice_get-get_or, slice_get_past, slice_get_within}
use Rattle.psy_base.specs.declared.message.Message.{Message}
use Rattle.psy_code.specs.Views.{View, first_of, found_in, messages_of, without_first}
use Rattle.psy_queue.specs.Order.{Queued, message_values}
use Rattle.psy_tree.specs.declared.unit.StreamDecl.{StreamDecl}
use Rattle.psy_kernel.specs.Seeing.{Sight, is_mine, left_by, left_in, left_of, seen_by}
use Rattle.psy_kernel.proofs.SeenValues.{none_some, slice_get-drop, slice_get-take}
use Rattle.psy_dates.proofs.lemmas.Sets.{get_set_other}

-- ---- lists

module _ {X : Type 0} where
  -- a list with the same item at a place is the same
  pub set_same : (xs : List X) (place : ℕ) (x : X) → slice_get xs place ≡ Some x → slice_set xs place x ≡ xs
  set_same [] place x e = refl
  set_same (y ∷ xs) zero x e = let same : x ≡ y = cc in ap (λ z. z ∷ xs) same
  set_same (y ∷ xs) (suc place) x e = ap (λ zs. y ∷ zs) (set_same xs place x e)

  -- lists with the same items at all places are the same
  pub same_lists : (xs ys : List X) → ((place : ℕ) → slice_get xs place ≡ slice_get ys place) → xs ≡ ys
  same_lists [] [] h = refl
  same_lists [] (y ∷ ys) h = absurd (let wrong : None ≡ Some y = h 0 in cc)
  same_lists (x ∷ xs) [] h = absurd (let wrong : Some x ≡ None = h 0 in cc)
  same_lists (x ∷ xs) (y ∷ ys) h = let first : Some x ≡ Some y = h 0 in let same : x ≡ y = cc in ap (λ z. z ∷ xs) same ∙ ap (λ zs. y ∷ zs) (same_lists xs ys (λ place. h (suc place)))

  -- the item set at a place that there is
  pub get_set_here : (xs : List X) (place : ℕ) (x : X) → place < length xs → slice_get (slice_set xs place x) place ≡ Some x
  get_set_here [] place x less = absurd (omega (arith, less))
  get_set_here (y ∷ xs) zero x less = refl
  get_set_here (y ∷ xs) (suc place) x less = get_set_here xs place x (omega (arith, less))

  pub filter_few : (p : X → Bool) (xs : List X) → length (filter p xs) ≤ length xs
  filter_few p [] = omega arith
  filter_few p (x ∷ xs) = by (p x) (filter_few p xs)
    where
      by : (test : Bool) → length (filter p xs) ≤ length xs → length (if test then x ∷ filter p xs else filter p xs) ≤ suc (length xs)
      by true h = omega (arith, h)
      by false h = omega (arith, h)

  pub drop_more : (n : ℕ) (xs : List X) → drop 1 (drop n xs) ≡ drop (n + 1) xs
  drop_more n xs = behind n xs ∙ ap (λ m. drop m xs) (sym (add-one n))
    where
      behind : (n : ℕ) (xs : List X) → drop 1 (drop n xs) ≡ drop (suc n) xs
      behind zero [] = refl
      behind zero (x ∷ xs) = refl
      behind (suc n) [] = refl
      behind (suc n) (x ∷ xs) = behind n xs

first_is : (xs : List ℤ) → first_of xs ≡ slice_get xs 0
first_is [] = refl
first_is (x ∷ xs) = refl

pub drop_one : (xs : List ℤ) → length (drop 1 xs) ≡ length xs - 1
drop_one [] = refl
drop_one (x ∷ xs) = omega arith

-- ---- what is left of a queue

module _ (start : ℕ) (queue : Queued) where
  abbrev pub seen : ℕ
  seen = seen_by queue.messages start

  pub seen_few : seen ≤ length queue.messages
  seen_few = filter_few (λ (m : Message). nat_le m.visible start) queue.messages

  -- how many messages are left
  pub left_count : (n : ℕ) → length (left_in start n queue) ≡ seen - n
  left_count n =
      omega (arith, length-drop n (take seen (message_values queue.messages)), length-take seen (message_values queue.messages), length-map queue.messages (λ (m : Message). m.value), seen_few)

  -- the first one
  pub left_first : (n : ℕ) (value : ℤ) → n < seen → slice_get (message_values queue.messages) n ≡ Some value → first_of (left_in start n queue) ≡ Some value
  left_first n value less at =
      first_is (left_in start n queue) ∙ slice_get-drop n (take seen (message_values queue.messages)) 0 ∙ slice_get-take seen (message_values queue.messages) (0 + n) (omega (arith, less))
      ∙ ap (slice_get (message_values queue.messages)) (omega arith) ∙ at

  -- where all were taken there is none
  nothing : (xs : List ℤ) → length xs ≡ 0 → xs ≡ []
  nothing [] e = refl
  nothing (x ∷ xs) e = absurd (omega (arith, e))

  pub left_none : (n : ℕ) → seen ≤ n → left_in start n queue ≡ []
  left_none n past = nothing (left_in start n queue) (omega (arith, left_count n, past))

  -- those behind it
  pub left_more : (n : ℕ) → drop 1 (left_in start n queue) ≡ left_in start (n + 1) queue
  left_more n = drop_more n (take seen (message_values queue.messages))

-- ---- what is left of a stream

-- An agent that has something left of a stream receives it, and there are the stream's queue and the count of what it took
pub record IsLeft (sight : Sight) (taken : List ℕ) (stream : ℕ) : Type 0 where
  pub mine : is_mine sight stream ≡ Some true
  pub n : ℕ
  pub at : slice_get taken stream ≡ Some n
  pub queue : Queued
  pub queued : slice_get sight.queues stream ≡ Some queue
  pub left : left_of sight taken stream ≡ Some (left_in sight.start n queue)

-- What it has left of a stream that it receives
pub left_is : (sight : Sight) (taken : List ℕ) (stream n : ℕ) (queue : Queued) → is_mine sight stream ≡ Some true → slice_get taken stream ≡ Some n → slice_get sight.queues stream ≡ Some queue
    → left_of sight taken stream ≡ Some (left_in sight.start n queue)
left_is sight taken stream n queue mine at queued =
    ap (λ m. left_by sight.start m (slice_get taken stream) (slice_get sight.queues stream)) mine
    ∙ ap (λ t. left_by sight.start (Some true) t (slice_get sight.queues stream)) at
    ∙ ap (λ q. left_by sight.start (Some true) (Some n) q) queued

module _ (sight : Sight) (taken : List ℕ) where
  abbrev left : ℕ → Option (List ℤ)
  left = left_of sight taken

  some_by : (stream : ℕ) (mine : Option Bool) (n : Option ℕ) (queue : Option Queued) → is_mine sight stream ≡ mine → slice_get taken stream ≡ n → slice_get sight.queues stream ≡ queue
      → IsSome (left_by sight.start mine n queue) → IsLeft sight taken stream
  some_by stream None n queue a b c some = absurd (none_some (List ℤ) some)
  some_by stream (Some false) n queue a b c some = absurd (none_some (List ℤ) some)
  some_by stream (Some true) None queue a b c some = absurd (none_some (List ℤ) some)
  some_by stream (Some true) (Some n) None a b c some = absurd (none_some (List ℤ) some)
  some_by stream (Some true) (Some n) (Some queue) a b c some = record { mine = a; n = n; at = b; queue = queue; queued = c; left = left_is sight taken stream n queue a b c }

  is_left : (stream : ℕ) → IsSome (left_of sight taken stream) → IsLeft sight taken stream
  is_left stream some = some_by stream (is_mine sight stream) (slice_get taken stream) (slice_get sight.queues stream) refl refl refl some

  mine_none : (stream : ℕ) → length sight.streams ≤ stream → is_mine sight stream ≡ None
  mine_none stream past = slice_get_past (map (λ (s : StreamDecl). s.receiver == sight.agent) sight.streams) stream (omega (arith, past, length-map sight.streams (λ (s : StreamDecl). s.receiver == sight.agent)))

  -- a list of what is left, by stream
  abbrev lists : List (Option (List ℤ))
  lists = map (left_of sight taken) (range_with_len 0 (length sight.streams))

  pub lists_many : length lists ≡ length sight.streams
  lists_many = length-map-range_with_len (left_of sight taken) 0 (length sight.streams)

  pub listed : (stream : ℕ) → stream < length sight.streams → slice_get lists stream ≡ Some (left_of sight taken stream)
  listed stream less =
      slice_get-get_or lists stream None (omega (arith, less, lists_many))
      ∙ ap Some (get_or-map-range_with_len (left_of sight taken) 0 (length sight.streams) stream stream None less (omega arith))

  -- the messages that are seen of a stream are those left
  pub messages_are : (view : View) → view.messages ≡ lists → (stream : ℕ) → messages_of view stream ≡ left_of sight taken stream
  messages_are view is stream = ap (λ ls. found_in (slice_get ls stream) (λ ms. ms)) is ∙ elim (cases_lt stream (length sight.streams)) [
    | inl less ↦ ap (λ o. found_in o (λ ms. ms)) (listed stream less)
    | inr past ↦
        ap (λ o. found_in o (λ ms. ms)) (slice_get_past lists stream (omega (arith, past, lists_many)))
        ∙ sym (ap (λ m. left_by sight.start m (slice_get taken stream) (slice_get sight.queues stream)) (mine_none stream past))
  ]

  pub served : (view : View) → view.messages ≡ lists → (stream : ℕ) → IsSome (messages_of view stream) → IsLeft sight taken stream
  served view is stream some = is_left stream (subst IsSome (messages_are view is stream) some)

  -- ---- a message is taken

  module _ (stream : ℕ) (its : IsLeft sight taken stream) where
    known : stream < length sight.streams
    known = elim (cases_lt stream (length sight.streams)) [
      | inl less ↦ less
      | inr past ↦ absurd (let wrong : None ≡ Some true = sym (mine_none stream past) ∙ its.mine in cc)
    ]

    abbrev more : List ℕ
    more = slice_set taken stream (its.n + 1)

    more_left : left_of sight more stream ≡ without_first (left_of sight taken stream)
    more_left =
        left_is sight more stream (its.n + 1) its.queue its.mine (get_set_here taken stream (its.n + 1) (slice_get_within taken stream its.n its.at)) its.queued
        ∙ ap Some (sym (left_more sight.start its.queue its.n)) ∙ sym (ap without_first its.left)

    other_left : (other : ℕ) → (other ≡ stream → ⊥) → left_of sight more other ≡ left_of sight taken other
    other_left other differs = ap (λ n. left_by sight.start (is_mine sight other) n (slice_get sight.queues other)) (get_set_other taken stream other (its.n + 1) differs)

    -- all else is left as it was
    pub taken_lists : map (left_of sight more) (range_with_len 0 (length sight.streams)) ≡ slice_set lists stream (without_first (left_of sight taken stream))
    taken_lists = same_lists (map (left_of sight more) (range_with_len 0 (length sight.streams))) (slice_set lists stream (without_first (left_of sight taken stream))) (λ place. elim (cases_lt place (length sight.streams)) [
      | inl less ↦
          slice_get-get_or (map (left_of sight more) (range_with_len 0 (length sight.streams))) place None (omega (arith, less, length-map-range_with_len (left_of sight more) 0 (length sight.streams)))
          ∙ ap Some (get_or-map-range_with_len (left_of sight more) 0 (length sight.streams) place place None less (omega arith))
          ∙ elim (cases_eq place stream) [
            | inl same ↦
                ap (λ p. Some (left_of sight more p)) same ∙ ap Some more_left
                ∙ sym (ap (slice_get (slice_set lists stream (without_first (left_of sight taken stream)))) same ∙ get_set_here lists stream (without_first (left_of sight taken stream)) (omega (arith, known, lists_many)))
            | inr differs ↦ ap Some (other_left place differs) ∙ sym (get_set_other lists stream place (without_first (left_of sight taken stream)) differs ∙ listed place less)
          ]
      | inr past ↦
          slice_get_past (map (left_of sight more) (range_with_len 0 (length sight.streams))) place (omega (arith, past, length-map-range_with_len (left_of sight more) 0 (length sight.streams)))
          ∙ sym (slice_get_past (slice_set lists stream (without_first (left_of sight taken stream))) place (omega (arith, past, lists_many, length-set lists stream (without_first (left_of sight taken stream)))))
    ])

    -- where there is none, a take leaves all as it was
    pub none_lists : seen_by its.queue.messages sight.start ≤ its.n → slice_set lists stream (without_first (left_of sight taken stream)) ≡ lists
    none_lists past =
        let empty : left_of sight taken stream ≡ Some [] = its.left ∙ ap Some (left_none sight.start its.queue its.n past) in
        set_same lists stream (without_first (left_of sight taken stream)) (listed stream known ∙ ap Some (empty ∙ sym (ap without_first empty)))
