-- Each agent has one size of its outbox.
use Rattle.std.proofs.Common.{ℕ, zero, suc, ◌+◌, ◌≤◌, List, [], max, take, length, get_or, refl, subst, add-one, arith}
use Rattle.std.specs.List.{Contains}
use Rattle.std.proofs.lemmas.List.{take_all}
use Rattle.psy_meaning.specs.KnownWays.{HasMost, Ways}
use Rattle.psy_base.specs.Extremes.{IsGreatest, IsMost}
use Rattle.psy_meaning.specs.QueueSizes.{AreSendsBelow}
use Rattle.psy_sizes.specs.Sending.{HasSendsAmong, HasSendsBefore}
use Rattle.psy_sizes.proofs.OutboxesOf.{HaveOneMost, most_is, sends_some, sends_most, no_next, next_more, no_point, point_more}
use Rattle.psy_sizes.proofs.Passed.{most_max}

module _ (ways : Ways) (agent : ℕ) (one_most : HaveOneMost ways agent) (some_most : (from to stream : ℕ) → (n : ℕ) × HasMost ways agent from to stream n) (streams : ℕ) where
  -- The most sends of the ways to the first so many of some points
  most_first : (from : ℕ) (nexts : List ℕ) (k : ℕ) → k ≤ length nexts → (n : ℕ) × IsMost (HasSendsAmong ways agent streams from (take k nexts)) n
  most_first from nexts zero few = (0, no_next ways agent streams from)
  most_first from nexts (suc k) few =
      let to = get_or nexts k 0 in
      let (n, before) = most_first from nexts k (omega (arith, few)) in
      let (m, are) = sends_some ways agent from to (some_most from to) streams in
      let all = most_max (HasSendsAmong ways agent streams from (take k nexts)) (AreSendsBelow ways agent from to streams) (HasSendsAmong ways agent streams from (take (k + 1) nexts)) n m (max n m) refl
      before (sends_most ways agent one_most from to streams m are) (next_more ways agent streams from nexts k 0 (omega (arith, few))) in
      (max n m, subst (λ i. IsMost (HasSendsAmong ways agent streams from (take i nexts)) (max n m)) (add-one k) all)

  -- And of the ways to all of them
  most_among : (from : ℕ) (nexts : List ℕ) → (n : ℕ) × IsMost (HasSendsAmong ways agent streams from nexts) n
  most_among from nexts =
      let (n, is) = most_first from nexts (length nexts) (omega arith) in
      (n, subst (λ xs. IsMost (HasSendsAmong ways agent streams from xs) n) (take_all (length nexts) nexts (omega arith)) is)

  module _ (nexts : List (List ℕ)) where
    -- The most sends of the ways from the points before one to their next ones
    most_before : (points : ℕ) → (n : ℕ) × IsMost (HasSendsBefore ways agent streams nexts points) n
    most_before zero = (0, no_point ways agent streams nexts)
    most_before (suc point) =
        let (n, before) = most_before point in
        let (m, here) = most_among point (get_or nexts point []) in
        let all = most_max (HasSendsBefore ways agent streams nexts point) (HasSendsAmong ways agent streams point (get_or nexts point [])) (HasSendsBefore ways agent streams nexts (point + 1)) n m (max n m) refl before here
        (point_more ways agent streams nexts point) in
        (max n m, subst (λ i. IsMost (HasSendsBefore ways agent streams nexts i) (max n m)) (add-one point) all)

    -- An agent with a head that is followed by some point has a size of its outbox.
    pub outbox_some : (points to : ℕ) → 1 ≤ points → Contains (get_or nexts 0 []) to → (n : ℕ) × IsGreatest (HasSendsBefore ways agent streams nexts points) n
    outbox_some points to head next =
        let (n, is) = most_before points in
        let (m, sums) = sends_some ways agent 0 to (some_most 0 to) streams in
        (n, most_is (HasSendsBefore ways agent streams nexts points) n m (0, to, head, next, sums) is)
