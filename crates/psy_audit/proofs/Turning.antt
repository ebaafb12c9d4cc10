-- What is kept of the lines before a stretch tells what is asked of it.
use Rattle.std.proofs.Common.{◌≡◌, ◌∙◌, refl, sym, ap, ℕ, zero, suc, ◌<◌, ◌≤◌, ◌==◌, Bool, cond, ◌&&◌, ◌||◌, List, [], ◌∷◌, get_or, filter, inl, inr, arith}
use Rattle.std.specs.List.{list_any}
use Rattle.std.proofs.lemmas.Bool.{cases_Bool}
use Rattle.std.proofs.lemmas.List.FromFn.{get_or-map-range_with_len}
use Rattle.psy_base.specs.Extremes.{most_of}
use Rattle.psy_history.specs.Processors.{processor_at, processors}
use Rattle.psy_tree.specs.Parts.{homes}
use Rattle.psy_tree.specs.declared.unit.Unit.{Unit as Whole}
use Rattle.psy_audit.specs.declared.before.Before.{Before}
use Rattle.psy_audit.specs.declared.said.Segment.{Segment}
use Rattle.psy_audit.specs.Befores.{StandsFor}
use Rattle.psy_audit.specs.Traces.{Lines, segments}
use Rattle.psy_audit.specs.Turns.{past_on, segments_on, touches}

-- Some of one sort pass where some are of it and pass.
pub any_kept : {X : Type 0} (p q : X → Bool) (xs : List X) → list_any q (filter p xs) ≡ list_any (λ x. p x && q x) xs
any_kept p q [] = refl
any_kept p q (x ∷ xs) = elim (cases_Bool (p x)) [
  | inl passed ↦
      ap (λ b. list_any q (cond b (x ∷ filter p xs) (filter p xs))) passed ∙ ap (λ b. q x || b) (any_kept p q xs)
      ∙ sym (ap (λ b. b && q x || list_any (λ y. p y && q y) xs) passed)
  | inr failed ↦
      ap (λ b. list_any q (cond b (x ∷ filter p xs) (filter p xs))) failed ∙ any_kept p q xs
      ∙ sym (ap (λ b. b && q x || list_any (λ y. p y && q y) xs) failed)
]

most_bound : (xs : List ℕ) (i : ℕ) → get_or xs i 0 ≤ most_of xs
most_bound [] i = omega arith
most_bound (x ∷ xs) zero = omega arith
most_bound (x ∷ xs) (suc i) = let rest = most_bound xs i in omega (arith, rest)

-- The processor of an agent is one of those that there are.
pub home_few : (unit : Whole) (agent : ℕ) → processor_at unit agent < processors unit
unfolding processor_at processors
home_few unit agent = let most = most_bound (homes unit) agent in omega (arith, most)

module _ (unit : Whole) (lines : Lines) (b : Before) (stands : StandsFor unit lines b) where
  pub touches_before : (s : Segment) → list_any (λ (x : Segment). x.processor == s.processor && touches s x) b.segments ≡ list_any (touches s) (segments_on s.processor lines)
  touches_before s =
      ap (list_any (λ (x : Segment). x.processor == s.processor && touches s x)) stands.segments
      ∙ sym (any_kept (λ (x : Segment). x.processor == s.processor) (touches s) (segments lines))

  pub past_before : (processor : ℕ) → processor < processors unit → get_or b.past processor 0 ≡ past_on processor lines
  past_before processor less =
      ap (λ xs. get_or xs processor 0) stands.past ∙ get_or-map-range_with_len (λ p. past_on p lines) 0 (processors unit) processor processor 0 less (omega arith)
