-- What is left of the proof of `resume::publish_back`.
use Rattle.std.proofs.Common.{◌≡◌, ℕ, ◌+◌, ◌-◌, List, ◌∷◌, ◌++◌, drop, length, get_or, take, sym, ap, ◌∙◌, arith, length-append}
use Rattle.std.specs.Prelude.{ℤ, pos}
use Rattle.std.proofs.lemmas.List.{drop_more}
use Rattle.psy_dates.proofs.Filled.{taken_again}
use Rattle.psy_dates.proofs.resume.publish_back.Goals as goal

pub values-preserved : goal.values-preserved
values-preserved c =
    let vs = c.args.values.now in
    let ring = c.args.ring.now in
    let n : ℕ = length ring in
    let place : ℕ = c.values.place - 1 in
    let v : ℤ = get_or vs place (pos 0) in
    let front : List ℤ = drop c.values.place vs in
    let some = c.values-test.true in
    let after : place + 1 ≡ c.values.place = omega (arith, some) in
    let more : drop place vs ≡ v ∷ front = drop_more vs place (pos 0) (omega (arith, some, c.values.invariant.within)) ∙ ap (λ k. v ∷ drop k vs) after in
    let made : c.publish_at.new.ring ≡ take (length c.values.ring) (v ∷ c.values.ring) = c.publish_at.ensures in
    record {
      within = omega (arith, c.values.invariant.within);
      holds = made ∙ ap (λ held. take (length held) (v ∷ held)) c.values.invariant.holds ∙ taken_again n v (front ++ ring) (omega (arith, length-append front ring)) ∙ ap (λ xs. take n (xs ++ ring)) (sym more);
    }
