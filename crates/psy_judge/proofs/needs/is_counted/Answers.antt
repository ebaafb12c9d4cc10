-- What is left of the proof of `needs::is_counted`.
use Rattle.std.proofs.Common.{◌≡◌, ℕ, Bool, get_or, subst, ◌∙◌, inl, inr, arith}
use Rattle.std.proofs.lemmas.Bool.{cases_lt}
use Rattle.std.proofs.lemmas.List.{get_or_default}
use Rattle.std.proofs.lemmas.List.Elements.{Contains-get_or}
use Rattle.psy_flow.specs.Heights.{IsBalanced}
use Rattle.psy_flow.specs.Owners.{Function}
use Rattle.psy_judge.specs.Judged.{Judges}
use Rattle.psy_judge.proofs.CallsJudged.{counted_all}
use Rattle.psy_judge.proofs.needs.is_counted.Goals as goal

pub places-init : goal.places-init
places-init c = λ k less. absurd (omega (arith, less))

pub balanced_at-requires-clause-place : goal.balanced_at-requires-clause-place
balanced_at-requires-clause-place c =
    let k = c.places.place-index in
    ((c.requires.places (get_or c.args.places.now k 0)).0 (Contains-get_or c.args.places.now k 0 c.places-test.true)).0

pub returns-then-not-balanced_at : goal.returns-then-not-balanced_at
returns-then-not-balanced_at c counted =
    let k = c.places.place-index in
    let p : ℕ = get_or c.args.places.now k 0 in
    let within = ((c.requires.places p).0 (Contains-get_or c.args.places.now k 0 c.places-test.true)).0 in
    subst (λ (b : Bool). Judges b (IsBalanced c.args.code.now (Function c.args.number) p)) c.if-not-balanced_at.true (c.balanced_at.ensures (Function c.args.number) c.requires.tops) (counted.1 p within)

pub places-preserved : goal.places-preserved
places-preserved c = λ k low less. elim (cases_lt k c.places.place-index) [
  | inl under ↦ c.places.invariant k under less
  | inr past ↦ (let same : c.places.place-index ≡ k = omega (arith, past, low) in
      subst (λ j. IsBalanced c.args.code.now (Function c.args.number) (get_or c.args.places.now j 0)) same
      (subst (λ (b : Bool). Judges b (IsBalanced c.args.code.now (Function c.args.number) (get_or c.args.places.now c.places.place-index 0))) c.if-not-balanced_at.false
      (c.balanced_at.ensures (Function c.args.number) c.requires.tops)))
]

pub returns : goal.returns
returns c =
    counted_all c.args.code.now c.args.number c.args.places.now c.requires.number c.requires.places
    (λ place (k, less, same). subst (IsBalanced c.args.code.now (Function c.args.number)) (get_or_default c.args.places.now k 0 place less ∙ same)
    (c.places.invariant k (omega (arith, less, c.places-test.false)) less))
