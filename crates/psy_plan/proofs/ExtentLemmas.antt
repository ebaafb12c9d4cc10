-- Up to which length the demand is looked at: the horizon of all processors, and of the first so many.
use Rattle.std.proofs.Common.{◌≡◌, ◌∙◌, ◌⊎◌, ℕ, ◌≤◌, ◌==◌, ◌++◌, max, Bool, true, false, if◌then◌else◌, List, [], ◌∷◌, All, length, get_or, refl, sym, subst, inl, inr, arith}
use Rattle.std.specs.List.{Contains}
use Rattle.std.proofs.lemmas.Bool.{cases_lt}
use Rattle.std.proofs.lemmas.List.Elements.{All-contains, All-get_or, All-nil, All-push, All-weaker, Contains-append_left, Contains-push}
use Rattle.std.proofs.lemmas.List.FromFn.{length-map-range_with_len}
use Rattle.psy_rate.specs.declared.line.Rate.{Rate}
use Rattle.psy_rate.specs.Horizons.{Covers, IsHorizon, IsHorizonOf}
use Rattle.psy_rate.specs.Lines.{lines_by, lines_on, no_line}
use Rattle.psy_plan.specs.declared.extent.Extent.{Extent}
use Rattle.psy_plan.specs.declared.extent.Extent.TheVariants.{Horizon, LastDate}
use Rattle.psy_plan.specs.Extents.{IsExtent, IsNearer}
use Rattle.psy_plan.proofs.ProcessorDemands.{by_each}

-- ---- the lines on a processor

-- What holds of each line, and of that of nothing, holds of the lines on a processor.
line_where : (P : Rate → Type 0) (here : Bool) (line : Rate) → P no_line → P line → P (if here then line else no_line)
line_where P true line none holds = holds
line_where P false line none holds = none

pub lines_hold : (P : Rate → Type 0) (homes : List ℕ) (processor : ℕ) (lines : List Rate) → P no_line → All P lines → All P (lines_on homes processor lines)
lines_hold P homes processor lines none all =
    by_each P (λ agent. if get_or homes agent 0 == processor then get_or lines agent no_line else no_line) (length lines)
    (λ agent less. line_where P (get_or homes agent 0 == processor) (get_or lines agent no_line) none (All-get_or P lines agent no_line less all))

pub length-lines_on : (homes : List ℕ) (processor : ℕ) (lines : List Rate) → length (lines_on homes processor lines) ≡ length lines
length-lines_on homes processor lines = length-map-range_with_len (λ agent. if get_or homes agent 0 == processor then get_or lines agent no_line else no_line) 0 (length lines)

-- ---- the horizon of the first so many groups

-- A group has a horizon up to a length.
abbrev HasUpTo : ℕ → ℕ → List Rate → Type 0
HasUpTo quantum most lines = (own : ℕ) × IsHorizonOf quantum lines own × (own ≤ most)

pub horizon_none : (quantum : ℕ) → IsHorizon quantum [] 0
horizon_none quantum = record { each = All-nil (HasUpTo quantum 0); one = inl refl }

-- One group more: the greater of both
pub horizon_more : (quantum : ℕ) (groups : List (List Rate)) (lines : List Rate) (own rest : ℕ) → IsHorizonOf quantum lines own → IsHorizon quantum groups rest → IsHorizon quantum (groups ++ lines ∷ []) (max own rest)
horizon_more quantum groups lines own rest its is = record {
  each = All-push (HasUpTo quantum (max own rest)) groups lines
      (All-weaker (HasUpTo quantum rest) (HasUpTo quantum (max own rest)) (λ other has. (has.0, has.1, omega (arith, has.2))) groups is.each) (own, its, omega arith);
  one = elim (cases_lt own rest) [
    | inl less ↦ (let same : rest ≡ max own rest = omega (arith, less) in before same is.one)
    | inr most ↦ (let same : own ≡ max own rest = omega (arith, most) in inr (lines, Contains-push groups lines, subst (IsHorizonOf quantum lines) same its))
  ];
}
  where
    before : rest ≡ max own rest → (rest ≡ 0) ⊎ ((group : List Rate) × Contains groups group × IsHorizonOf quantum group rest)
        → (max own rest ≡ 0) ⊎ ((group : List Rate) × Contains (groups ++ lines ∷ []) group × IsHorizonOf quantum group (max own rest))
    before same (inl none) = inl (sym same ∙ none)
    before same (inr (group, there, has)) = inr (group, Contains-append_left groups (lines ∷ []) group there, subst (IsHorizonOf quantum group) same has)

-- Where one group has none, all have none.
pub horizon_lacks : (quantum : ℕ) (groups : List (List Rate)) (lines : List Rate) → Contains groups lines → ((length : ℕ) → Covers quantum lines length → ⊥) → (length : ℕ) → IsHorizon quantum groups length → ⊥
horizon_lacks quantum groups lines there none length is =
    let has : HasUpTo quantum length lines = All-contains (HasUpTo quantum length) groups lines is.each there in
    none has.0 has.1.covers

-- ---- up to which length

-- The horizon of groups is one.
abbrev pub OneHorizon : Type 0
OneHorizon = (quantum : ℕ) (groups : List (List Rate)) (length other : ℕ) → IsHorizon quantum groups length → IsHorizon quantum groups other → length ≡ other

-- Without a horizon the demand is looked at up to the last date.
pub no_horizon : (quantum until : ℕ) (homes : List ℕ) (lines : List Rate) → ((length : ℕ) → IsHorizon quantum (lines_by homes lines) length → ⊥) → IsExtent quantum homes lines until (LastDate until)
no_horizon quantum until homes lines none = (refl, λ length is. absurd (none length is))

-- With one, up to which of both comes first
pub nearer_is : OneHorizon → (quantum until horizon : ℕ) (homes : List ℕ) (lines : List Rate) (extent : Extent) → IsHorizon quantum (lines_by homes lines) horizon → IsNearer horizon until extent → IsExtent quantum homes lines until extent
nearer_is one quantum until horizon homes lines (Horizon length) is (same, within) = (subst (IsHorizon quantum (lines_by homes lines)) (sym same) is, omega (arith, same, within))
nearer_is one quantum until horizon homes lines (LastDate date) is (same, behind) =
    (same, λ length other. let its : horizon ≡ length = one quantum (lines_by homes lines) horizon length is other in omega (arith, behind, its))
