-- What is left of the proof of `eyes::EyesLook::take`.
use Rattle.std.proofs.Common.{rules, ◌≡◌, ◌⊎◌, map, ◌≤◌, ◌<◌, ◌+◌, ℕ, ℤ, List, Option, Some, length, slice_get, slice_set, refl, sym, ap, ◌∙◌, inl, inr, arith, of_z, to_z}
use Rattle.std.specs.Int.{w32}
use Rattle.std.proofs.lemmas.Bool.{cases_eq}
use Rattle.std.proofs.lemmas.Int.{to_z-of_z}
use Rattle.std.proofs.lemmas.List.{length-set}
use Rattle.std.proofs.lemmas.Option.{get_or_from_slice_get, same_Some, slice_get_within}
use Rattle.std.specs.List.{range_with_len}
use Rattle.psy_base.specs.declared.message.Message.{Message}
use Rattle.psy_code.specs.Views.{Window, first_of, found_in, without_first}
use Rattle.psy_queue.specs.Order.{Queued}
use Rattle.psy_kernel.specs.declared.eyes.Eyes.{Eyes}
use Rattle.psy_kernel.specs.Looking.{window_of}
use Rattle.psy_kernel.specs.Seeing.{is_mine, left_in, left_of, seen_by, view_in}
use Rattle.psy_dates.proofs.lemmas.Sets.{get_set_other, get_set_same}
use Rattle.psy_kernel.proofs.StreamsLeft.{IsLeft, left_first, left_none, messages_are, none_lists, seen_few, served, taken_lists}
use Rattle.psy_kernel.proofs.eyes.EyesLook.take.Goals as goal

-- The eyes, and the stream from which they take
module _ (eyes : Eyes) (stream : ℕ) where
  abbrev taken : List ℕ
  taken = eyes.taken.now.items

  -- the window with other messages
  abbrev with_messages : List (Option (List ℤ)) → Window
  with_messages messages = record (window_of eyes) { view = view_in eyes.scene.now.rings eyes.scene.now.variables eyes.scene.now.clocks eyes.scene.now.start eyes.scene.now.date messages }

  module _ (its : IsLeft eyes.scene.now taken stream) (place seen : ℕ) (place_is : place ≡ its.n) (seen_is : seen ≡ seen_by its.queue.messages eyes.scene.now.start) where
    next_is : found_in (found_in (slice_get (window_of eyes).view.messages stream) (λ messages. messages)) first_of ≡ first_of (left_in eyes.scene.now.start its.n its.queue)
    next_is = ap (λ messages. found_in messages first_of) (messages_are eyes.scene.now taken (window_of eyes).view refl stream ∙ its.left)

    without_is : slice_set (window_of eyes).view.messages stream (without_first (left_of eyes.scene.now taken stream)) ≡ slice_set (window_of eyes).view.messages stream (without_first (found_in (slice_get (window_of eyes).view.messages stream) (λ messages. messages)))
    without_is = ap (λ messages. slice_set (window_of eyes).view.messages stream (without_first messages)) (sym (messages_are eyes.scene.now taken (window_of eyes).view refl stream))

    -- another message than that of the stream is left where it is
    rest : (after : List ℕ) → after ≡ slice_set taken stream (place + 1) → place < seen → (other n : ℕ) (queue : Queued) → slice_get eyes.scene.now.queues other ≡ Some queue → slice_get after other ≡ Some n
        → (slice_get taken other ≡ Some n) ⊎ (n ≤ seen_by queue.messages eyes.scene.now.start)
    rest after is less other n queue queued at = elim (cases_eq other stream) [
      | inl same ↦
          (let set : n ≡ place + 1 = get_set_same taken stream (place + 1) n (sym (ap (λ ns. slice_get ns stream) is) ∙ ap (slice_get after) (sym same) ∙ at) in
          let one : queue ≡ its.queue = same_Some queue its.queue (sym queued ∙ ap (slice_get eyes.scene.now.queues) same ∙ its.queued) in
          inr (omega (arith, set, less, seen_is, ap (λ (q : Queued). seen_by q.messages eyes.scene.now.start) one)))
      | inr differs ↦ inl (sym (ap (λ ns. slice_get ns other) is ∙ get_set_other taken stream other (place + 1) differs) ∙ at)
    ]

pub index-place-requires : goal.index-place-requires
index-place-requires c =
    let eyes : Eyes = c.args.self.now in
    let its = served eyes.scene.now eyes.taken.now.items (window_of eyes).view refl c.args.stream c.requires.0 in
    let less : c.args.stream < length eyes.taken.now.items = slice_get_within eyes.taken.now.items c.args.stream its.n its.at in
    search rules

pub seen-requires : goal.seen-requires
seen-requires c =
    let eyes : Eyes = c.args.self.now in
    let its = served eyes.scene.now eyes.taken.now.items (window_of eyes).view refl c.args.stream c.requires.0 in
    slice_get_within eyes.scene.now.queues c.args.stream its.queue its.queued

pub returns-then-place-seen-clause-value : goal.returns-then-place-seen-clause-value
returns-then-place-seen-clause-value c =
    let eyes : Eyes = c.args.self.now in
    let its = served eyes.scene.now eyes.taken.now.items (window_of eyes).view refl c.args.stream c.requires.0 in
    let place_is : c.index-place.result.now ≡ its.n = c.index-place.ensures ∙ get_or_from_slice_get eyes.taken.now.items c.args.stream its.n c.index-place.result.now its.at in
    let seen_is = c.seen.ensures its.queue its.queued in
    sym (next_is eyes c.args.stream its c.index-place.result.now c.seen.result place_is seen_is ∙ ap first_of (left_none eyes.scene.now.start its.queue its.n (omega (arith, place_is, seen_is, c.if-place-seen.true))))

pub returns-then-place-seen-clause-rest : goal.returns-then-place-seen-clause-rest
returns-then-place-seen-clause-rest c =
    let eyes : Eyes = c.args.self.now in
    let its = served eyes.scene.now eyes.taken.now.items (window_of eyes).view refl c.args.stream c.requires.0 in
    let place_is : c.index-place.result.now ≡ its.n = c.index-place.ensures ∙ get_or_from_slice_get eyes.taken.now.items c.args.stream its.n c.index-place.result.now its.at in
    let seen_is = c.seen.ensures its.queue its.queued in
    ap (with_messages eyes c.args.stream)
    (sym (none_lists eyes.scene.now eyes.taken.now.items c.args.stream its (omega (arith, place_is, seen_is, c.if-place-seen.true))) ∙ without_is eyes c.args.stream its c.index-place.result.now c.seen.result place_is seen_is)

pub index_mut-requires : goal.index_mut-requires
index_mut-requires c =
    let eyes : Eyes = c.args.self.now in
    let its = served eyes.scene.now eyes.taken.now.items (window_of eyes).view refl c.args.stream c.requires.0 in
    let less : c.args.stream < length eyes.taken.now.items = slice_get_within eyes.taken.now.items c.args.stream its.n its.at in
    search rules

pub value-requires : goal.value-requires
value-requires c =
    let eyes : Eyes = c.args.self.now in
    let its = served eyes.scene.now eyes.taken.now.items (window_of eyes).view refl c.args.stream c.requires.0 in
    (its.queue, its.queued, omega (arith, c.seen.ensures its.queue its.queued, c.if-place-seen.false, seen_few eyes.scene.now.start its.queue))

pub returns-clause-value : goal.returns-clause-value
returns-clause-value c =
    let eyes : Eyes = c.args.self.now in
    let its = served eyes.scene.now eyes.taken.now.items (window_of eyes).view refl c.args.stream c.requires.0 in
    let place_is : c.index-place.result.now ≡ its.n = c.index-place.ensures ∙ get_or_from_slice_get eyes.taken.now.items c.args.stream its.n c.index-place.result.now its.at in
    let seen_is = c.seen.ensures its.queue its.queued in
    let bits : to_z w32 (of_z w32 c.value.result) ≡ c.value.result = grind (arith, to_z-of_z) in
    let value : slice_get (map (λ (m : Message). m.value) its.queue.messages) its.n ≡ Some c.value.result = ap (slice_get (map (λ (m : Message). m.value) its.queue.messages)) (sym place_is) ∙ c.value.ensures its.queue its.queued in
    sym (next_is eyes c.args.stream its c.index-place.result.now c.seen.result place_is seen_is ∙ left_first eyes.scene.now.start its.queue its.n c.value.result (omega (arith, place_is, seen_is, c.if-place-seen.false)) value ∙ ap Some (sym bits))

pub returns-clause-rest : goal.returns-clause-rest
returns-clause-rest c =
    let eyes : Eyes = c.args.self.now in
    let its = served eyes.scene.now eyes.taken.now.items (window_of eyes).view refl c.args.stream c.requires.0 in
    let place_is : c.index-place.result.now ≡ its.n = c.index-place.ensures ∙ get_or_from_slice_get eyes.taken.now.items c.args.stream its.n c.index-place.result.now its.at in
    let seen_is = c.seen.ensures its.queue its.queued in
    ap (with_messages eyes c.args.stream)
    (ap (λ n. map (left_of eyes.scene.now (slice_set eyes.taken.now.items c.args.stream (n + 1))) (range_with_len 0 (length eyes.scene.now.streams))) place_is
    ∙ taken_lists eyes.scene.now eyes.taken.now.items c.args.stream its ∙ without_is eyes c.args.stream its c.index-place.result.now c.seen.result place_is seen_is)

pub returns-clause-kept : goal.returns-clause-kept
returns-clause-kept c =
    let eyes : Eyes = c.args.self.now in
    let its = served eyes.scene.now eyes.taken.now.items (window_of eyes).view refl c.args.stream c.requires.0 in
    let place_is : c.index-place.result.now ≡ its.n = c.index-place.ensures ∙ get_or_from_slice_get eyes.taken.now.items c.args.stream its.n c.index-place.result.now its.at in
    let seen_is = c.seen.ensures its.queue its.queued in
    record {
      same_taken = refl;
      same_outbox = refl;
      scene = refl;
      size = refl;
      count = length-set eyes.taken.now.items c.args.stream (c.index-place.result.now + 1);
      others = λ stream not. get_set_other eyes.taken.now.items c.args.stream stream (c.index-place.result.now + 1) (λ same. not (ap (is_mine eyes.scene.now) same ∙ its.mine));
      within = rest eyes c.args.stream its c.index-place.result.now c.seen.result place_is seen_is (slice_set eyes.taken.now.items c.args.stream (c.index-place.result.now + 1)) refl c.if-place-seen.false;
    }
