-- The agents of one processor, and those of the others.
use Rattle.std.proofs.Common.{◌≡◌, refl, sym, ap, ◌∙◌, inl, inr}
use Rattle.std.specs.Prelude.{ℕ, ◌==◌, if◌then◌else◌, List, [], ◌∷◌, ◌++◌, filter, Option}
use Rattle.std.proofs.lemmas.Bool.{cases_eq, cond-true, cond-false, eq-eqb, ne_eqb}
use Rattle.psy_history.specs.Actions.{History}
use Rattle.psy_history.specs.Processors.{processor_at, served}
use Rattle.psy_history.specs.Schedule.{Turn, is_pending, pending}
use Rattle.psy_tree.specs.declared.unit.Unit.{Unit as Whole}

-- A history of the agents of one processor alone
abbrev pub history_on : Whole → ℕ → History → History
history_on unit processor h agent = if processor_at unit agent == processor then h agent else []

pub on_own : (unit : Whole) (processor agent : ℕ) (h : History) → processor_at unit agent ≡ processor → history_on unit processor h agent ≡ h agent
on_own unit processor agent h of = cond-true (processor_at unit agent == processor) (h agent) [] (eq-eqb (processor_at unit agent) processor of)

pub on_other : (unit : Whole) (processor agent : ℕ) (h : History) → (processor_at unit agent ≡ processor → ⊥) → history_on unit processor h agent ≡ []
on_other unit processor agent h differs = cond-false (processor_at unit agent == processor) (h agent) [] (ne_eqb (processor_at unit agent) processor differs)

-- What is pending of the agents that a processor serves
pub served_pending : (unit : Whole) (processor : ℕ) (turns : List (Option Turn)) (h : History) (order : List ℕ) → pending (served unit processor order) turns h ≡ pending order turns (history_on unit processor h)
served_pending unit processor turns h [] = refl
served_pending unit processor turns h (agent ∷ order) =
    let rest = served unit processor order in
    let own : History = history_on unit processor h in
    let before = served_pending unit processor turns h order in
    elim (cases_eq (processor_at unit agent) processor) [
      | inl of ↦
          ap (λ agents. pending agents turns h) (cond-true (processor_at unit agent == processor) (agent ∷ rest) rest (eq-eqb (processor_at unit agent) processor of))
          ∙ ap (λ actions. filter (is_pending turns) (h agent) ++ actions) before
          ∙ ap (λ actions. filter (is_pending turns) actions ++ pending order turns own) (sym (on_own unit processor agent h of))
      | inr differs ↦
          ap (λ agents. pending agents turns h) (cond-false (processor_at unit agent == processor) (agent ∷ rest) rest (ne_eqb (processor_at unit agent) processor differs))
          ∙ before
          ∙ ap (λ actions. filter (is_pending turns) actions ++ pending order turns own) (sym (on_other unit processor agent h differs))
    ]
