-- The places of points, one point more and one agent more.
use Rattle.std.proofs.Common.{◌≡◌, ℕ, ◌+◌, List, [], ◌∷◌, ◌++◌, length, sym, subst, inl, inr, arith}
use Rattle.std.specs.List.{Contains}
use Rattle.std.proofs.lemmas.Bool.{cases_lt}
use Rattle.std.proofs.lemmas.List.Elements.{Contains-append_left, Contains-push, Contains-push_cases}
use Rattle.psy_code.specs.declared.code.Code.{Code}
use Rattle.psy_meaning.specs.CodeWays.{agent_code_at, place_of}
use Rattle.psy_flow.specs.CodeLists.{AreStarts, AreStartsUpTo, IsPointPlace}

module _ (code : Code) where
  pub starts_none : AreStartsUpTo code 0 0 []
  starts_none place = (
    (λ c. absurd (omega (arith, c.1))),
    (λ h. elim h [ inl (agent, less, at) ↦ absurd (omega (arith, less)) | inr (point, less, at) ↦ absurd (omega (arith, less)) ]),
  )

  pub one_point : (agent point : ℕ) (starts : List ℕ) → AreStartsUpTo code agent point starts → AreStartsUpTo code agent (point + 1) (starts ++ place_of code agent point ∷ [])
  one_point agent point starts kept place = (
    (λ c. elim (Contains-push_cases starts (place_of code agent point) place c) [
      | inl before ↦ elim ((kept place).0 before) [
        | inl earlier ↦ inl earlier
        | inr (p, less, is) ↦ inr (p, omega (arith, less), is)
      ]
      | inr is ↦ inr (point, omega arith, sym is)
    ]),
    (λ h. elim h [
      | inl earlier ↦ Contains-append_left starts (place_of code agent point ∷ []) place ((kept place).1 (inl earlier))
      | inr (p, less, is) ↦ elim (cases_lt p point) [
        | inl low ↦ Contains-append_left starts (place_of code agent point ∷ []) place ((kept place).1 (inr (p, low, is)))
        | inr not ↦ (let same : point ≡ p = omega (arith, less, not) in
            subst (Contains (starts ++ place_of code agent point ∷ [])) (sym (subst (λ q. place ≡ place_of code agent q) (sym same) is)) (Contains-push starts (place_of code agent point)))
      ]
    ]),
  )

  pub next_agent : (agent : ℕ) (starts : List ℕ) → AreStartsUpTo code agent (length (agent_code_at code agent).points) starts → AreStartsUpTo code (agent + 1) 0 starts
  next_agent agent starts kept place = (
    (λ c. elim ((kept place).0 c) [
      | inl (a, less, at) ↦ inl (a, omega (arith, less), at)
      | inr at ↦ inl (agent, omega arith, at)
    ]),
    (λ h. elim h [
      | inl (a, less, at) ↦ elim (cases_lt a agent) [
        | inl low ↦ (kept place).1 (inl (a, low, at))
        | inr not ↦ (let same : a ≡ agent = omega (arith, less, not) in (kept place).1 (inr (subst (λ b. IsPointPlace code b place) same at)))
      ]
      | inr (p, less, at) ↦ absurd (omega (arith, less))
    ]),
  )

  pub all_starts : (starts : List ℕ) → AreStartsUpTo code (length code.agents) 0 starts → AreStarts code starts
  all_starts starts kept place = (
    (λ c. elim ((kept place).0 c) [ inl at ↦ at | inr (p, less, at) ↦ absurd (omega (arith, less)) ]),
    (λ at. (kept place).1 (inl at)),
  )
