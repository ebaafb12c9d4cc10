-- What the code of an action looks at: a look has the number of the instruction that makes it.
use Rattle.std.proofs.Common.{◌≡◌, ◌≢◌, ◌⊎◌, ℕ, zero, suc, ◌+◌, ◌<◌, ◌≤◌, List, [], ◌∷◌, Option, Some, None, refl, sym, ap, ◌∙◌, subst, inl, inr, arith}
use Rattle.std.specs.List.{Contains}
use Rattle.std.proofs.lemmas.List.Elements.{Contains-append_left, Contains-append_right, Contains-push_cases}
use Rattle.psy_lists.proofs.lemmas.Members.{contains_none, contains_front}
use Rattle.psy_code.specs.declared.code.AgentCode.{AgentCode}
use Rattle.psy_code.specs.declared.code.Code.{Code}
use Rattle.psy_code.specs.Execution.{Next, NoRun, Ended, RanTo, Run, RunState, Running, Stuck, Trapped, TrappedBy, Went, call_of, deeds_then, go_on, next_of, run_by, run_code, state_then}
use Rattle.psy_code.specs.Views.{Call, Deeds, Looked, Past, Ready, Send, Take, nothing_done}
use Rattle.psy_history.proofs.GoingOn.{goes_on}
use Rattle.psy_history.proofs.LateLooks.{steps_then}

-- What a run looked at
abbrev pub looks_of : Run → List Looked
looks_of (Running s) = s.deeds.looks
looks_of (RanTo point s) = s.deeds.looks
looks_of (TrappedBy kind s) = s.deeds.looks
looks_of NoRun = []

-- ---- one instruction

-- It makes this look, behind so many steps.
abbrev pub IsMade : ℕ → Option Call → Looked → Type 0
IsMade steps call look = (look.number ≡ steps) × (call ≡ Some (Past look.variable look.back))

pub before_or_made : (deeds : Deeds) (call : Option Call) (look : Looked) → Contains (deeds_then deeds call).looks look → Contains deeds.looks look ⊎ IsMade deeds.steps call look
before_or_made deeds None look c = inl c
before_or_made deeds (Some (Past variable back)) look c =
    let made : Looked = record { number = deeds.steps; variable = variable; back = back } in
    elim (Contains-push_cases deeds.looks made look c) [
      | inl before ↦ inl before
      | inr e ↦ inr (ap (λ (l : Looked). l.number) (sym e), ap (λ (l : Looked). Some (Past l.variable l.back)) e)
    ]
before_or_made deeds (Some (Ready stream)) look c = inl c
before_or_made deeds (Some (Take stream)) look c = inl c
before_or_made deeds (Some (Send sent)) look c = inl c

look_stays : (deeds : Deeds) (call : Option Call) (look : Looked) → Contains deeds.looks look → Contains (deeds_then deeds call).looks look
look_stays deeds None look c = c
look_stays deeds (Some (Past variable back)) look c = Contains-append_left deeds.looks (record { number = deeds.steps; variable = variable; back = back } ∷ []) look c
look_stays deeds (Some (Ready stream)) look c = c
look_stays deeds (Some (Take stream)) look c = c
look_stays deeds (Some (Send sent)) look c = c

-- ---- many instructions

-- The number is that of one of so many instructions behind these steps.
abbrev pub IsBetween : ℕ → ℕ → ℕ → Type 0
IsBetween steps n number = (steps ≤ number) × (number < steps + n)

module _ (code : Code) (its : AgentCode) where
  between_by : (n : ℕ) (s : RunState) (next : Next) (look : Looked) → ((t : RunState) → Contains (looks_of (run_code code its t n)) look → Contains t.deeds.looks look ⊎ IsBetween t.deeds.steps n look.number)
      → Contains (looks_of (go_on (run_by s (call_of code s.machine) next) (λ t. run_code code its t n))) look
      → Contains s.deeds.looks look ⊎ (IsMade s.deeds.steps (call_of code s.machine) look ⊎ IsBetween (s.deeds.steps + 1) n look.number)
  between_by n s (Went m) look on c =
      let call = call_of code s.machine in
      elim (on (state_then s call m) c) [
        | inl before ↦ elim (before_or_made s.deeds call look before) [ inl old ↦ inl old | inr made ↦ inr (inl made) ]
        | inr later ↦ inr (inr (subst (λ steps. IsBetween steps n look.number) (steps_then s.deeds call) later))
      ]
  between_by n s (Ended point m) look on c = elim (before_or_made s.deeds (call_of code s.machine) look c) [ inl old ↦ inl old | inr made ↦ inr (inl made) ]
  between_by n s (Trapped kind) look on c = inl c
  between_by n s Stuck look on c = absurd (contains_none look c)

  -- A look of a run was there before, or one of its instructions made it.
  looks_between : (n : ℕ) (s : RunState) (look : Looked) → Contains (looks_of (run_code code its s n)) look → Contains s.deeds.looks look ⊎ IsBetween s.deeds.steps n look.number
  looks_between zero s look c = inl c
  looks_between (suc n) s look c = elim (between_by n s (next_of code its s.view s.machine) look (λ t. looks_between n t look) c) [
    | inl old ↦ inl old
    | inr new ↦ elim new [
      | inl made ↦ inr (omega (arith, made.0), omega (arith, made.0))
      | inr later ↦ inr (omega (arith, later.0), omega (arith, later.1))
    ]
  ]

  stay_by : (n : ℕ) (s : RunState) (next : Next) (look : Looked) → ((t : RunState) → run_code code its t n ≢ NoRun → Contains t.deeds.looks look → Contains (looks_of (run_code code its t n)) look)
      → go_on (run_by s (call_of code s.machine) next) (λ t. run_code code its t n) ≢ NoRun → Contains s.deeds.looks look → Contains (looks_of (go_on (run_by s (call_of code s.machine) next) (λ t. run_code code its t n))) look
  stay_by n s (Went m) look on runs c = on (state_then s (call_of code s.machine) m) runs (look_stays s.deeds (call_of code s.machine) look c)
  stay_by n s (Ended point m) look on runs c = look_stays s.deeds (call_of code s.machine) look c
  stay_by n s (Trapped kind) look on runs c = c
  stay_by n s Stuck look on runs c = absurd (runs refl)

  -- A look that was there stays, where the run isn't stuck.
  looks_stay : (n : ℕ) (s : RunState) (look : Looked) → run_code code its s n ≢ NoRun → Contains s.deeds.looks look → Contains (looks_of (run_code code its s n)) look
  looks_stay zero s look runs c = c
  looks_stay (suc n) s look runs c = stay_by n s (next_of code its s.view s.machine) look (λ t. looks_stay n t look) runs c

  -- ---- the instruction that makes a look

  -- What the first instruction of a run asks for, the run looks at,
  pub asked_look : (n : ℕ) (s : RunState) (variable back : ℕ) → call_of code s.machine ≡ Some (Past variable back) → next_of code its s.view s.machine ≢ Stuck → run_code code its s (suc n) ≢ NoRun
      → Contains (looks_of (run_code code its s (suc n))) (record { number = s.deeds.steps; variable = variable; back = back })
  asked_look n s variable back asks able runs =
      let look : Looked = record { number = s.deeds.steps; variable = variable; back = back } in
      let (m, goes) = goes_on code its s.view s.machine (Past variable back) (tt {0}) asks able in
      let t : RunState = state_then s (call_of code s.machine) m in
      let on : run_code code its s (suc n) ≡ run_code code its t n = ap (λ next. go_on (run_by s (call_of code s.machine) next) (λ u. run_code code its u n)) goes in
      let made : Contains t.deeds.looks look = subst (λ call. Contains (deeds_then s.deeds call).looks look) (sym asks) (Contains-append_right s.deeds.looks (look ∷ []) look (contains_front look [])) in
      subst (λ run. Contains (looks_of run) look) (sym on) (looks_stay n t look (λ stuck. runs (on ∙ stuck)) made)

  -- and what it looks at under that number, the instruction asks for.
  pub look_asked : (n : ℕ) (s : RunState) (look : Looked) → Contains (looks_of (run_code code its s (suc n))) look → look.number ≡ s.deeds.steps → (Contains s.deeds.looks look → ⊥) → call_of code s.machine ≡ Some (Past look.variable look.back)
  look_asked n s look c number new = elim (between_by n s (next_of code its s.view s.machine) look (λ t. looks_between n t look) c) [
    | inl old ↦ absurd (new old)
    | inr other ↦ elim other [ inl made ↦ made.1 | inr later ↦ absurd (omega (arith, later.0, number)) ]
  ]

  -- A run that did nothing before looks at nothing under a number that it hasn't reached.
  pub none_ahead : (n : ℕ) (s t : RunState) (look : Looked) → s.deeds ≡ nothing_done → run_code code its s n ≡ Running t → n ≤ look.number → Contains t.deeds.looks look → ⊥
  none_ahead n s t look fresh running far c = elim (looks_between n s look (subst (λ run. Contains (looks_of run) look) (sym running) c)) [
    | inl before ↦ contains_none look (subst (λ (d : Deeds). Contains d.looks look) fresh before)
    | inr between ↦ omega (arith, between.1, far, ap (λ (d : Deeds). d.steps) fresh)
  ]
