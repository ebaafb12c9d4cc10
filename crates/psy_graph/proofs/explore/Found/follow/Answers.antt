-- What is left of the proof of `explore::Found::follow`.
use Rattle.std.proofs.Common.{◌≡◌, ℕ, ◌<◌, length, get_or, sym, ap, subst, ◌∙◌, arith}
use Rattle.std.specs.List.{Contains}
use Rattle.std.proofs.lemmas.List.{get_or_read}
use Rattle.std.proofs.lemmas.List.Elements.{All-contains, Contains-get_or}
use Rattle.psy_graph.proofs.lemmas.MayStarts.{may_point}
use Rattle.psy_meaning.specs.Timing.{following}
use Rattle.psy_graph.specs.declared.place.Place.{Place}
use Rattle.psy_graph.specs.Steps.{timing_by}
use Rattle.psy_graph.specs.Places.{IsMetAt, follower}
use Rattle.psy_graph.proofs.Finding.{worked, done_more, all_done}
use Rattle.psy_graph.proofs.explore.Found.follow.Goals as goal
use Rattle.psy_graph.proofs.explore.Found.follow.Goals.{After-index-from}

-- The place that is followed, in the work
from_is : (c : After-index-from) (d : Place) → c.index-from.result.now ≡ get_or c.args.self.now.work.items c.args.at d
from_is c d = get_or_read c.args.self.now.work.items c.args.at c.index-from.result.now c.requires.at c.index-from.ensures d

from_met : (c : After-index-from) → IsMetAt (timing_by c.args.times.now) c.index-from.result.now
from_met c =
    let timing = timing_by c.args.times.now in
    let work = c.args.self.now.work.items in
    let places = c.args.self.now.places.items in
    let d = c.index-from.result.now in
    let here : Contains places (get_or work c.args.at d) = worked timing work places c.args.at d c.requires.found c.requires.at in
    subst (IsMetAt timing) (sym (from_is c d)) (All-contains (IsMetAt timing) places (get_or work c.args.at d) c.requires.found.met here)

pub next-to-items-requires : goal.next-to-items-requires
next-to-items-requires c =
    let timing = timing_by c.args.times.now in
    let met = from_met (goal.at.next-to-items-requires c).After-index-from in
    omega (arith, may_point timing c.requires.timed c.index-from.result.now.point met.0 met.1, c.requires.timed.lists)

pub reach-requires-clause-at : goal.reach-requires-clause-at
reach-requires-clause-at c = (c.next.invariant.front c.args.at c.index-from.result.now c.requires.at).0

pub reach-requires-clause-follows : goal.reach-requires-clause-follows
reach-requires-clause-follows c d =
    let timing = timing_by c.args.times.now in
    let items = c.next-to-items.result.now in
    let to = get_or items c.next.to-index 0 in
    let same : c.index-from.result.now ≡ get_or c.next.self.work.items c.args.at d =
    from_is (goal.at.reach-requires-clause-follows c).After-index-from d ∙ sym (c.next.invariant.front c.args.at d c.requires.at).1 in
    subst (λ p. Contains (following timing p.point) to) same (subst (λ tos. Contains tos to) c.next-to-items.ensures (Contains-get_or items c.next.to-index 0 c.next-test.true))

pub next-preserved : goal.next-preserved
next-preserved c =
    let timing = timing_by c.args.times.now in
    let old = c.args.self.now in let mid = c.next.self in let new = c.reach.new.self in
    let items = c.next-to-items.result.now in
    let after = c.in_ok-reach.ensures in
    record {
      found = after.found;
      few = after.few;
      front = λ i d l. (let m = c.next.invariant.front i d l in let n = after.front i d m.0 in (n.0, n.1 ∙ m.1));
      grown = λ p h. after.grown p (c.next.invariant.grown p h);
      done = λ d. done_more (λ to. Contains new.places.items (follower timing (get_or old.work.items c.args.at d) to)) items c.next.to-index
          (λ k l. after.grown (follower timing (get_or old.work.items c.args.at d) (get_or items k 0)) (c.next.invariant.done d k l))
          (subst (λ p. Contains new.places.items (follower timing p (get_or items c.next.to-index 0))) (c.next.invariant.front c.args.at d c.requires.at).1 (after.reached d));
    }

pub returns-clause-followers : goal.returns-clause-followers
returns-clause-followers c d =
    let timing = timing_by c.args.times.now in
    let from = from_is (goal.at.returns-clause-followers c).After-index-from d in
    let p = get_or c.args.self.now.work.items c.args.at d in
    let places = c.next.self.places.items in
    let tos : c.next-to-items.result.now ≡ following timing p.point = c.next-to-items.ensures ∙ ap (λ q. following timing q.point) from in
    let done : (k : ℕ) → k < length (following timing p.point) → Contains places (follower timing p (get_or (following timing p.point) k 0)) =
    λ k l. subst (λ xs. k < length xs → Contains places (follower timing p (get_or xs k 0))) tos (λ m. c.next.invariant.done d k (omega (arith, m, c.next-test.false))) l in
    all_done timing places p done
