-- What the code of an action looks at: a look has the number of the instruction that makes it.
use Rattle.std.proofs.Common.{◌≡◌, ◌⊎◌, ℕ, List, [], Option, Some, None, sym, ap, inl, inr}
use Rattle.std.specs.List.{Contains}
use Rattle.std.proofs.lemmas.List.Elements.{Contains-push_cases}
use Rattle.psy_code.specs.Execution.{NoRun, RanTo, Run, Running, TrappedBy, deeds_then}
use Rattle.psy_code.specs.Views.{Call, Deeds, Looked, Past, Ready, Send, Take}

-- What a run looked at
abbrev pub looks_of : Run → List Looked
looks_of (Running s) = s.deeds.looks
looks_of (RanTo point s) = s.deeds.looks
looks_of (TrappedBy kind s) = s.deeds.looks
looks_of NoRun = []

-- ---- one instruction

-- It makes this look, behind so many steps.
abbrev pub IsMade : ℕ → Option Call → Looked → Type 0
IsMade steps call look = (look.number ≡ steps) × (call ≡ Some (Past look.variable look.back))

pub before_or_made : (deeds : Deeds) (call : Option Call) (look : Looked) → Contains (deeds_then deeds call).looks look → Contains deeds.looks look ⊎ IsMade deeds.steps call look
before_or_made deeds None look c = inl c
before_or_made deeds (Some (Past variable back)) look c =
    let made : Looked = record { number = deeds.steps; variable = variable; back = back } in
    elim (Contains-push_cases deeds.looks made look c) [
      | inl before ↦ inl before
      | inr e ↦ inr (ap (λ (l : Looked). l.number) (sym e), ap (λ (l : Looked). Some (Past l.variable l.back)) e)
    ]
before_or_made deeds (Some (Ready stream)) look c = inl c
before_or_made deeds (Some (Take stream)) look c = inl c
before_or_made deeds (Some (Send sent)) look c = inl c
