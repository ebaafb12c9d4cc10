-- What is left of the proof of `before::zeros`.
use Rattle.std.proofs.Common.{◌∙◌, ℕ, ◌∷◌, [], ◌++◌, ap, sym, map, arith}
use Rattle.std.specs.List.{range_with_len}
use Rattle.std.proofs.lemmas.List.FromFn.{map-range_with_len_more}
use Rattle.psy_audit.proofs.before.zeros.Goals as goal

pub places-preserved : goal.places-preserved
places-preserved c =
    let f : ℕ → ℕ = λ n. 0 in
    c.in_ok-push.ensures.ok ∙ ap (λ xs. xs ++ c.zero_of.result ∷ []) c.places.invariant
    ∙ ap (λ x. map f (range_with_len 0 c.places.place) ++ x ∷ []) c.zero_of.ensures ∙ sym (map-range_with_len_more f 0 c.places.place c.places.place (omega arith))
