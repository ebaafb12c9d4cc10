-- At a date that no clock has, no variable publishes.
use Rattle.std.proofs.Common.{◌≡◌, ℕ, zero, suc, ◌+◌, ◌-◌, ◌<◌, ◌≤◌, false, if◌then◌else◌, [], ◌∷◌, ◌++◌, length, Option, Some, None, refl, ap, ◌∙◌, arith}
use Rattle.std.proofs.lemmas.List.{append-nil}
use Rattle.psy_history.specs.Actions.{History, System, publishing, variable_of}
use Rattle.psy_history.specs.History.{history}
use Rattle.psy_history.specs.Lines.{Publish, is_date, publications_by}
use Rattle.psy_history.specs.Visible.{published}
use Rattle.psy_kernel.specs.Standing.{told_from}
use Rattle.psy_kernel.specs.Telling.{places_of, told_by}
use Rattle.psy_kernel.proofs.ToldPlaces.{told_more, told_value}

module _ (s : System) (date : ℕ) where
  none_by : (h : History) (variable : ℕ) (owner : Option ℕ) → is_date (publishing s variable) date ≡ false → publications_by s h date variable owner ≡ []
  none_by h variable None without = refl
  none_by h variable (Some owner) without = ap (λ b. if b then Publish variable (published s h variable date) ∷ [] else []) without

  module _ (without : (variable : ℕ) → variable < length s.unit.variables → is_date (publishing s variable) date ≡ false) where
    none_at : (place : ℕ) → length s.unit.agents ≤ place → place < places_of s → told_by s date place ≡ []
    none_at place behind within =
        let variable : ℕ = place - length s.unit.agents in
        told_value s date place behind ∙ none_by (history s (date + 1)) variable (variable_of s variable).owner (without variable (omega (arith, behind, within)))

    none_among : (n : ℕ) → n ≤ length s.unit.variables → told_from s date (length s.unit.agents + n) 0 ≡ told_from s date (length s.unit.agents) 0
    none_among zero l = ap (λ place. told_from s date place 0) (omega arith)
    none_among (suc n) l =
        let place : ℕ = length s.unit.agents + n in
        let within : place < places_of s = omega (arith, l) in
        ap (λ p. told_from s date p 0) (omega arith) ∙ told_more s date place within ∙ ap (λ xs. told_from s date place 0 ++ xs) (none_at place (omega arith) within)
        ∙ append-nil (told_from s date place 0) ∙ none_among n (omega (arith, l))

    -- As much is told before the variables as behind them.
    pub none_published : told_from s date (places_of s) 0 ≡ told_from s date (length s.unit.agents) 0
    none_published = none_among (length s.unit.variables) (omega arith)
