-- What is left of the proof of `explore::Found::reach`.
use Rattle.std.proofs.Common.{◌≡◌, ◌⊎◌, ℕ, ◌+◌, ◌*◌, ◌%◌, ◌≤◌, length, get_or, sym, ap, subst, ◌∙◌, inl, inr, arith}
use Rattle.std.specs.List.{Contains}
use Rattle.std.proofs.lemmas.List.{get_or_read}
use Rattle.std.proofs.lemmas.List.Elements.{All-contains}
use Rattle.std.proofs.lemmas.Result.{IfOk-weaker, IfErr-weaker}
use Rattle.psy_base.specs.declared.limits.TheConstants.{NODES}
use Rattle.psy_meaning.specs.Timing.{following}
use Rattle.psy_meaning.specs.Graph.{PassesNodes}
use Rattle.psy_graph.specs.declared.cycle.TheConstants.{FAR}
use Rattle.psy_graph.specs.declared.fault.GraphFault.{GraphFault}
use Rattle.psy_graph.specs.declared.fault.GraphFault.TheVariants.{Nodes as many_nodes, Memory as no_memory}
use Rattle.psy_graph.specs.declared.place.Place.{Place}
use Rattle.psy_graph.specs.Steps.{STEP, timing_by}
use Rattle.psy_graph.specs.Places.{AreFound, IsAdded, IsFront, IsMetAt, IsRoom, follower}
use Rattle.psy_graph.proofs.Reached.{follower_met, passes}
use Rattle.psy_graph.proofs.Finding.{found_added, added_has, added_kept, added_front, end_far, phase_near, place_made, worked}
use Rattle.psy_graph.proofs.explore.Found.reach.Goals as goal
use Rattle.psy_graph.proofs.explore.Found.reach.Goals.{After-index-from, After-end-end}

abbrev place : ℕ → ℕ → Place
place point phase = record { point = point; phase = phase }

-- The place that is followed, in the work
from_is : (c : After-index-from) (d : Place) → c.index-from.result.now ≡ get_or c.args.self.now.work.items c.args.at d
from_is c d = get_or_read c.args.self.now.work.items c.args.at c.index-from.result.now c.requires.at c.index-from.ensures d

from_met : (c : After-index-from) → IsMetAt (timing_by c.args.times.now) c.index-from.result.now
from_met c =
    let timing = timing_by c.args.times.now in
    let work = c.args.self.now.work.items in
    let places = c.args.self.now.places.items in
    let d = c.index-from.result.now in
    let here : Contains places (get_or work c.args.at d) = worked timing work places c.args.at d c.requires.found c.requires.at in
    subst (IsMetAt timing) (sym (from_is c d)) (All-contains (IsMetAt timing) places (get_or work c.args.at d) c.requires.found.met here)

from_near : (c : After-index-from) → c.index-from.result.now.phase ≤ STEP * (c.args.at + 1)
from_near c =
    let d = c.index-from.result.now in
    subst (λ p. p.phase ≤ STEP * (c.args.at + 1)) (sym (from_is c d)) (c.requires.found.near c.args.at d c.requires.at)

from_follows : (c : After-index-from) → Contains (following (timing_by c.args.times.now) c.index-from.result.now.point) c.args.to
from_follows c =
    let d = c.index-from.result.now in
    subst (λ p. Contains (following (timing_by c.args.times.now) p.point) c.args.to) (sym (from_is c d)) (c.requires.follows d)

-- The place that is found
found_place : (c : After-end-end) → place c.args.to (c.end-end.result % c.args.modulus) ≡ follower (timing_by c.args.times.now) c.index-from.result.now c.args.to
found_place c =
    let near = from_near (goal.at.After-end-end c).After-index-from in
    let far : c.end-end.result ≤ FAR = end_far c.args.at (length c.args.self.now.work.items) c.index-from.result.now.phase c.end-end.result c.requires.at (omega (arith, c.requires.found.count, c.requires.few)) near c.end-end.ensures.near in
    place_made (timing_by c.args.times.now) c.args.modulus c.index-from.result.now.phase c.args.to c.end-end.result c.requires.modulus c.end-end.ensures.value far

pub end-end-requires-clause-some : goal.end-end-requires-clause-some
end-end-requires-clause-some c = (c.requires.timed.within c.index-from.result.now.point c.args.to (from_follows (goal.at.end-end-requires-clause-some c).After-index-from)).0

pub end-end-requires-clause-to : goal.end-end-requires-clause-to
end-end-requires-clause-to c = (c.requires.timed.within c.index-from.result.now.point c.args.to (from_follows (goal.at.end-end-requires-clause-to c).After-index-from)).1

found_met : (c : After-end-end) → IsMetAt (timing_by c.args.times.now) (place c.args.to (c.end-end.result % c.args.modulus))
found_met c =
    let timing = timing_by c.args.times.now in
    let at = (goal.at.After-end-end c).After-index-from in
    subst (IsMetAt timing) (sym (found_place c)) (follower_met c.distances.ensures.again timing c.requires.timed c.index-from.result.now c.args.to (from_follows at) (from_met at))

found_near : (c : After-end-end) → c.end-end.result % c.args.modulus ≤ STEP * (length c.args.self.now.work.items + 1)
found_near c = phase_near c.args.at (length c.args.self.now.work.items) c.index-from.result.now.phase c.end-end.result c.args.modulus c.requires.at (from_near (goal.at.After-end-end c).After-index-from) c.end-end.ensures.near

pub returns-clause-found : goal.returns-clause-found
returns-clause-found c =
    let timing = timing_by c.args.times.now in
    let old = c.args.self.now in let new = c.add.new.self in
    let q = place c.args.to (c.end-end.result % c.args.modulus) in
    let at = (goal.at.returns-clause-found c).After-end-end in
    IfOk-weaker c.add.result (λ _. IsAdded q old.work.items old.places.items new.work.items new.places.items) (λ _. AreFound timing new.work.items new.places.items)
    (λ _ added. found_added q old.work.items old.places.items new.work.items new.places.items timing c.requires.found (found_met at) (found_near at) added) c.add.ensures.added

pub returns-clause-front : goal.returns-clause-front
returns-clause-front c =
    let old = c.args.self.now in let new = c.add.new.self in
    let q = place c.args.to (c.end-end.result % c.args.modulus) in
    IfOk-weaker c.add.result (λ _. IsAdded q old.work.items old.places.items new.work.items new.places.items) (λ _. IsFront old.work.items new.work.items)
    (λ _ added. added_front q old.work.items old.places.items new.work.items new.places.items added) c.add.ensures.added

pub returns-clause-grown : goal.returns-clause-grown
returns-clause-grown c =
    let old = c.args.self.now in let new = c.add.new.self in
    let q = place c.args.to (c.end-end.result % c.args.modulus) in
    IfOk-weaker c.add.result (λ _. IsAdded q old.work.items old.places.items new.work.items new.places.items) (λ _. (p : Place) → Contains old.places.items p → Contains new.places.items p)
    (λ _ added. added_kept q old.work.items old.places.items new.work.items new.places.items added) c.add.ensures.added

pub returns-clause-reached : goal.returns-clause-reached
returns-clause-reached c =
    let timing = timing_by c.args.times.now in
    let old = c.args.self.now in let new = c.add.new.self in
    let q = place c.args.to (c.end-end.result % c.args.modulus) in
    let is = found_place (goal.at.returns-clause-reached c).After-end-end in
    let from = from_is (goal.at.returns-clause-reached c).After-index-from in
    IfOk-weaker c.add.result (λ _. IsAdded q old.work.items old.places.items new.work.items new.places.items) (λ _. (d : Place) → Contains new.places.items (follower timing (get_or old.work.items c.args.at d) c.args.to))
    (λ _ added d. subst (Contains new.places.items) (is ∙ ap (λ p. follower timing p c.args.to) (from d)) (added_has q old.work.items old.places.items new.work.items new.places.items added)) c.add.ensures.added

pub returns-clause-cause : goal.returns-clause-cause
returns-clause-cause c =
    let timing = timing_by c.args.times.now in
    let places = c.args.self.now.places.items in
    let q = place c.args.to (c.end-end.result % c.args.modulus) in
    let at = (goal.at.returns-clause-cause c).After-end-end in
    let P : GraphFault → Type 0 = λ fault. (fault ≡ no_memory) ⊎ ((fault ≡ many_nodes c.args.agent) × (NODES ≤ length places) × (n : ℕ) × IsRoom places q n) in
    let Q : GraphFault → Type 0 = λ fault. (fault ≡ no_memory) ⊎ ((fault ≡ many_nodes c.args.agent) × PassesNodes timing) in
    IfErr-weaker c.add.result P Q (λ fault h. elim h [
      | inl e ↦ inl e
      | inr m ↦ inr (m.0, passes timing c.requires.timed places q m.2 c.requires.found.rise c.requires.found.met m.3 (found_met at) m.1)
    ]) c.add.ensures.full
