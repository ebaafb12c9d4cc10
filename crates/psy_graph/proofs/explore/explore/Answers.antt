-- What is left of the proof of `explore::explore`.
use Rattle.std.proofs.Common.{◌≡◌, ℕ, ◌%◌, ◌<◌, ◌≤◌, [], ◌∷◌, length, ap, sym, subst, arith}
use Rattle.std.proofs.Math.Nat.{mod-le}
use Rattle.psy_graph.specs.declared.place.Place.{Place}
use Rattle.psy_graph.specs.Steps.{STEP, timing_by}
use Rattle.psy_graph.specs.Places.{AreFound, ArePlaces, AreNear}
use Rattle.psy_graph.proofs.Finding.{found_first, first_near, first_made, work_more, work_done, work_near}
use Rattle.psy_graph.proofs.explore.explore.Goals as goal

abbrev place : ℕ → ℕ → Place
place point phase = record { point = point; phase = phase }

pub work-init : goal.work-init
work-init c =
    let timing = timing_by c.args.times.now in
    let p = place 0 (c.first.result % c.args.modulus) in
    let near : p.phase ≤ STEP = omega (arith, mod-le c.first.result c.args.modulus, c.first.ensures, first_near timing c.requires.timed) in
    let one : AreFound timing (p ∷ []) (p ∷ []) = found_first timing p (first_made timing c.args.modulus c.first.result c.requires.timed c.requires.modulus c.first.ensures) near in
    let few : length c.in_ok-found.found.places.items ≡ 1 = ap length c.in_ok-found.ensures.places in
    record {
      found = subst (λ w. AreFound timing w c.in_ok-found.found.places.items) (sym c.in_ok-found.ensures.work) (subst (AreFound timing (p ∷ [])) (sym c.in_ok-found.ensures.places) one);
      few = omega (arith, few);
      done = λ i d l _. absurd (omega (arith, l));
      at = omega arith;
    }

pub work-preserved : goal.work-preserved
work-preserved c =
    let timing = timing_by c.args.times.now in
    let old = c.work.found in let new = c.follow.new.self in
    let after = c.in_ok-follow.ensures in
    let l : c.work.at < length old.work.items = omega (arith, c.work-test.true, c.len.ensures, old.work.ok.0) in
    record {
      found = after.found;
      few = after.few;
      done = work_more timing old.work.items old.places.items new.work.items new.places.items c.work.at c.work.invariant.done l after.front after.grown after.followers;
      at = omega (arith, (after.front c.work.at (place 0 0) l).0);
    }

pub returns-clause-places : goal.returns-clause-places
returns-clause-places c =
    let timing = timing_by c.args.times.now in
    let found = c.work.found in
    let all : length found.work.items ≤ c.work.at = omega (arith, c.work-test.false, c.len.ensures, found.work.ok.0) in
    subst (ArePlaces timing) (sym c.from_vec.ensures)
    (work_done timing found.work.items found.places.items c.work.invariant.found (λ i d l. c.work.invariant.done i d (omega (arith, l, all)) l))

pub returns-clause-near : goal.returns-clause-near
returns-clause-near c =
    let found = c.work.found in
    subst AreNear (sym c.from_vec.ensures) (work_near (timing_by c.args.times.now) found.work.items found.places.items c.work.invariant.found c.work.invariant.few)
