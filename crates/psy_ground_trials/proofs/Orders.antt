-- Orders of two agents.
use Rattle.std.proofs.Common.{◌≡◌, ℕ, ◌+◌, ◌<◌, [], ◌∷◌, sym, inl, inr, arith}
use Rattle.std.specs.Prelude.{◌≢◌}
use Rattle.std.specs.List.{Contains}
use Rattle.std.proofs.lemmas.Bool.{cases_order}
use Rattle.std.proofs.lemmas.List.Elements.{All-cons}
use Rattle.std.proofs.lemmas.List.Kept.{AllPairs-cons}
use Rattle.psy_ready.specs.Choice.{ListsEach}

module _ (a b : ℕ) (both : a + b ≡ 1) where
  found : (agent : ℕ) → agent < 2 → Contains (a ∷ b ∷ []) agent
  found agent less = elim (cases_order agent a) [
    | inl same ↦ (0, omega arith, sym same)
    | inr other ↦ (1, omega arith, elim other [ inl first ↦ omega (arith, both, first, less) | inr last ↦ omega (arith, both, last, less) ])
  ]

  -- Two agents, either of which may stand first
  pub lists_two : (agents : ℕ) → agents ≡ 2 → ListsEach agents (a ∷ b ∷ [])
  lists_two agents two = record {
    within = All-cons (λ agent. agent < agents) a (b ∷ []) (omega (arith, both, two)) (All-cons (λ agent. agent < agents) b [] (omega (arith, both, two)) (λ k d small. absurd (omega (arith, small))));
    once = AllPairs-cons (λ x y. x ≢ y) a (b ∷ []) (All-cons (λ y. a ≢ y) b [] (λ same. omega (arith, both, same)) (λ k d small. absurd (omega (arith, small))))
        (AllPairs-cons (λ x y. x ≢ y) b [] (λ k d small. absurd (omega (arith, small))) (λ i j d less small. absurd (omega (arith, small))));
    each = λ agent less. found agent (omega (arith, less, two));
  }
