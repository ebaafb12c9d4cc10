-- What is left of the proof of `whole::is_name`.
use Rattle.std.proofs.Common.{◌≡◌, ℕ, ◌==◌, true, List, [], ◌∷◌, ◌++◌, length, refl, sym, ap, subst, ◌∙◌, arith}
use Rattle.std.proofs.lemmas.Bool.{eqb-true, false≢true}
use Rattle.std.proofs.lemmas.List.{append-nil}
use Rattle.psy_text.specs.Fronts.{IsName}
use Rattle.psy_text.proofs.whole.is_name.Goals as goal

none_left : (rest : List ℕ) → (length rest == 0) ≡ true → rest ≡ []
none_left [] is = refl
none_left (b ∷ rest) is = absurd (omega (arith, eqb-true (length (b ∷ rest)) 0 is))

pub returns-in-Some : goal.returns-in-Some
returns-in-Some c =
    let found = c.in-Some.ensures.some in
    let name = c.in-Some.field-0-0.now in
    let rest = c.in-Some.rest.now in
    let word = c.args.word.now in (
      λ empty. subst IsName (sym (found.1.0 ∙ ap (λ r. name ++ r) (none_left rest (sym c.is_empty.ensures ∙ empty)) ∙ append-nil name)) found.0,
      λ is. (
          let one = c.one_name.ensures word name word rest [] found.0 is found.1 (sym (append-nil word), tt) in
          c.is_empty.ensures ∙ ap (λ (r : List ℕ). length r == 0) one.1),
    )

pub returns-in-None : goal.returns-in-None
returns-in-None c = (λ e. absurd (false≢true e), λ is. absurd (c.in-None.ensures.none refl c.args.word.now [] is (sym (append-nil c.args.word.now), tt)))
