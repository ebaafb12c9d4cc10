-- A deadline is the least of the dates at which an action may end.
use Rattle.std.proofs.Common.{ℕ, ◌<◌, ◌≤◌, List, [], ◌∷◌, map, arith}
use Rattle.std.specs.List.{Contains}
use Rattle.std.proofs.lemmas.List.{length-map}
use Rattle.std.proofs.lemmas.List.Elements.{All-map}
use Rattle.psy_meaning.proofs.lemmas.Leasts.{least_below, least_above}
use Rattle.psy_lists.proofs.lemmas.Members.{contains_front, contains_map, all_members}
use Rattle.psy_meaning.specs.Timing.{Timing, deadline, end_date, following, least}

-- ---- the least of some numbers

one_there : (f : ℕ → ℕ) (xs : List ℕ) (n : ℕ) → n < least (map f xs) → (x : ℕ) × Contains xs x
one_there f [] n l = absurd (omega (arith, l))
one_there f (x ∷ xs) n l = (x, contains_front x xs)

-- ---- deadlines

module _ (times : Timing) (point start : ℕ) where
  pub deadline_least : (to : ℕ) → Contains (following times point) to → deadline times point start ≤ end_date times start to
  deadline_least to c = least_below (map (end_date times start) (following times point)) (end_date times start to) (contains_map (end_date times start) (following times point) to c)

  -- It lies behind the start where each end does, and one may follow.
  pub due_late : (to : ℕ) → Contains (following times point) to → ((to : ℕ) → Contains (following times point) to → start < end_date times start to) → start < deadline times point start
  due_late to c late =
      least_above start (map (end_date times start) (following times point)) (omega (arith, length-map (following times point) (end_date times start), c.1))
      (All-map (λ n. start < n) (end_date times start) (following times point) (all_members (λ k. start < end_date times start k) (following times point) late))

  pub some_follows : start < deadline times point start → (to : ℕ) × Contains (following times point) to
  some_follows due = one_there (end_date times start) (following times point) start due
