-- The greatest number of messages that a stream held, with one date more.
use Rattle.std.proofs.Common.{◌≡◌, ℕ, zero, suc, ◌+◌, ◌-◌, ◌<◌, ◌≤◌, List, [], ◌∷◌, ◌++◌, map, max, length, slice_get, get_or, Option, Some, refl, sym, ap, ◌∙◌, arith}
use Rattle.std.specs.Prelude.{slice_index_or}
use Rattle.std.specs.List.{range_with_len}
use Rattle.std.proofs.lemmas.List.FromFn.{map-range_with_len_more}
use Rattle.std.proofs.lemmas.Option.{slice_get-get_or, slice_get_within}
use Rattle.std.proofs.Math.Numerals.{add-one}
use Rattle.psy_base.specs.declared.sizes.Sizes.{Sizes}
use Rattle.psy_queue.specs.Order.{Queued}
use Rattle.psy_history.specs.Actions.{System}
use Rattle.psy_history.specs.History.{history}
use Rattle.psy_history.specs.Schedule.{Turn}
use Rattle.psy_history.specs.Summary.{at_least, dates_from}
use Rattle.psy_base.specs.Extremes.{most_of}
use Rattle.psy_history.specs.Visible.{held}
use Rattle.psy_history.specs.Queues.{queue_of}
use Rattle.psy_dates.specs.declared.shared.Shared.{Shared}
use Rattle.psy_dates.specs.Standing.{SharedStands}
use Rattle.psy_kernel.specs.Standing.{most_held_in}
use Rattle.psy_dates.specs.Movers.{IsDoneBelow}
use Rattle.psy_kernel.specs.Starting.{held_at}

most_more : (ns : List ℕ) (n : ℕ) → most_of (ns ++ n ∷ []) ≡ max (most_of ns) n
most_more [] n = omega arith
most_more (m ∷ ns) n = (let rest : most_of (ns ++ n ∷ []) ≡ max (most_of ns) n = most_more ns n in omega (arith, rest))

-- The dates behind the first so many, with one more
mapped_more : (f : ℕ → ℕ) (done date : ℕ) → done ≤ date → map f (dates_from done (date + 1)) ≡ map f (dates_from done date) ++ f date ∷ []
mapped_more f zero date behind = map-range_with_len_more f 0 date date (omega arith)
mapped_more f (suc last) date behind =
    let one : date + 1 - suc last ≡ date - suc last + 1 = omega (arith, behind) in
    ap (λ n. map f (range_with_len (suc last) n)) one ∙ map-range_with_len_more f (suc last) (date - suc last) date (omega (arith, behind))

least_more : (before m n : ℕ) → at_least before (max m n) ≡ max (at_least before m) n
least_more zero m n = refl
least_more (suc before) m n = omega arith

least_none : (before : ℕ) → at_least before 0 ≡ before
least_none zero = refl
least_none (suc before) = omega arith

module _ (s : System) (stream : ℕ) where
  abbrev held_by : ℕ → ℕ
  held_by date = length (held s (history s (date + 1)) stream date)

  -- The greatest one at the first so many dates, and before
  abbrev greatest : ℕ → ℕ
  greatest dates = at_least (s.opening.most stream) (most_of (map held_by (dates_from s.opening.dates dates)))

  greatest_is : (dates : ℕ) → s.opening.dates ≤ dates → most_held_in s dates stream ≡ greatest dates
  greatest_is zero behind = (let none : s.opening.dates ≡ 0 = omega (arith, behind) in
      sym (ap (λ n. at_least (s.opening.most stream) (most_of (map held_by (dates_from n 0)))) none ∙ least_none (s.opening.most stream)))
  greatest_is (suc date) behind = ap greatest (add-one date)

  -- The greatest one up to a date is that of the dates before, or what is held at the date.
  pub most_held_more : (date : ℕ) → s.opening.dates ≤ date → most_held_in s (date + 1) stream ≡ max (most_held_in s date stream) (held_by date)
  most_held_more date behind =
      greatest_is (date + 1) (omega (arith, behind))
      ∙ ap (λ ns. at_least (s.opening.most stream) (most_of ns)) (mapped_more held_by s.opening.dates date behind)
      ∙ ap (at_least (s.opening.most stream)) (most_more (map held_by (dates_from s.opening.dates date)) (held_by date))
      ∙ least_more (s.opening.most stream) (most_of (map held_by (dates_from s.opening.dates date))) (held_by date)
      ∙ ap (λ n. max n (held_by date)) (sym (greatest_is date behind))

module _ (s : System) (sizes : Sizes) (turns : ℕ → List (Option Turn)) (date : ℕ) (behind : s.opening.dates ≤ date) (shared : Shared) (stands : SharedStands s sizes turns (date + 1) shared)
    (before after : List ℕ) (count : length before ≡ length s.unit.streams) (was : (stream n : ℕ) → slice_get before stream ≡ Some n → n ≡ most_held_in s date stream)
    (done : IsDoneBelow (held_at shared.queues.items) (length shared.queues.items) before after) where
  -- By stream, the greatest number of messages is that of the dates up to this one.
  pub held_more : (stream n : ℕ) → slice_get after stream ≡ Some n → n ≡ most_held_in s (date + 1) stream
  held_more stream n at =
      let none : Queued = record { size = 0; messages = [] } in
      let queues = shared.queues.items in
      let within : stream < length s.unit.streams = omega (arith, slice_get_within after stream n at, done.count, count) in
      let queue : Queued = slice_index_or queues stream none in
      let there : slice_get queues stream ≡ Some queue = slice_get-get_or queues stream none (omega (arith, within, stands.queued)) in
      let old : ℕ = get_or before stream 0 in
      let had : slice_get before stream ≡ Some old = slice_get-get_or before stream 0 (omega (arith, within, count)) in
      let made : slice_get after stream ≡ Some (held_at queues stream old) = done.done stream old (omega (arith, within, stands.queued)) had in
      let is : n ≡ held_at queues stream old = (let both : Some n ≡ Some (held_at queues stream old) = sym at ∙ made in cc) in
      let holds : length queue.messages ≡ held_by s stream date = ap length ((stands.queues stream queue there).messages ∙ queue_is) in
      is ∙ ap (λ k. max k (length queue.messages)) (was stream old had) ∙ ap (λ k. max (most_held_in s date stream) k) holds ∙ sym (most_held_more s stream date behind)
    where
      queue_is : queue_of s (date + 1) stream ≡ held s (history s (date + 1)) stream date
      queue_is = ap (λ d. queue_of s d stream) (add-one date) ∙ ap (λ d. held s (history s d) stream date) (sym (add-one date))
