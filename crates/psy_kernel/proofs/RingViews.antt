-- What an action sees by rings that stand for a history, and how large these are.
use Rattle.std.proofs.Common.{◌≡◌, sym, ap, ◌∙◌, subst, arith}
use Rattle.std.specs.Prelude.{ℕ, ◌+◌, ◌<◌, ◌≤◌, List, [], length, get_or, Option, Some, slice_get, ℤ}
use Rattle.std.specs.List.{All}
use Rattle.std.proofs.lemmas.Option.{get_or_from_slice_get, slice_get-get_or, slice_get_within}
use Rattle.psy_base.specs.declared.limits.TheConstants.{RING}
use Rattle.psy_base.specs.declared.sizes.Sizes.{Sizes}
use Rattle.psy_code.specs.Views.{past_of}
use Rattle.psy_dates.specs.declared.plan.Plan.{Plan}
use Rattle.psy_dates.specs.Plans.{IsPlan}
use Rattle.psy_dates.proofs.lemmas.Fits.{small_ring}
use Rattle.psy_history.specs.Rings.{age_at, ring_of}
use Rattle.psy_history.specs.Actions.{Action, System, variable_of}
use Rattle.psy_tree.specs.Parts.{no_variable}
use Rattle.psy_tree.specs.declared.unit.Unit.{Unit as Whole}
use Rattle.psy_tree.specs.declared.unit.VarDecl.{VarDecl}
use Rattle.psy_kernel.specs.Cycles.{AreRingsOf}
use Rattle.psy_kernel.specs.Seeing.{view_in}
use Rattle.psy_kernel.proofs.SeenValues.{found_at}

-- ---- sizes

-- A ring has no more places than it may.
pub few_places : (plan : Plan) → IsPlan plan → (s : System) → s.unit ≡ plan.unit → (dates : ℕ) (rings : List (List ℤ)) → AreRingsOf s plan.sizes dates rings → All (λ ring. length ring ≤ RING) rings
few_places plan is s e dates rings stand variable d less =
    let ring : List ℤ = get_or rings variable d in
    let its = stand.1 variable ring (slice_get-get_or rings variable d less) in
    let known : variable < length plan.unit.variables = omega (arith, less, stand.0, ap (λ (u : Whole). length u.variables) e) in
    omega (arith, its.size, small_ring plan is variable known)

-- ---- the view

module _ (s : System) (sizes : Sizes) (date : ℕ) (r : Action) (rings : List (List ℤ)) (stand : AreRingsOf s sizes (date + 1) rings) (messages : List (Option (List ℤ))) where
  -- what is found at each age that a ring has is what the action saw
  pub shows : ((variable back size : ℕ) (decl : VarDecl) → slice_get s.unit.variables variable ≡ Some decl → back < decl.depth → age_at s variable back r.start date < size → slice_get (ring_of s (date + 1) variable size) (age_at s variable back r.start date) ≡ past_of r.view variable back)
      → (variable back : ℕ) (decl : VarDecl) → slice_get s.unit.variables variable ≡ Some decl → back < decl.depth → age_at s variable back r.start date < get_or sizes.rings variable 0
      → past_of (view_in rings s.unit.variables s.unit.clocks r.start date messages) variable back ≡ past_of r.view variable back
  shows values variable back decl at inner near =
      let there : variable < length s.unit.variables = slice_get_within s.unit.variables variable decl at in
      let ring : List ℤ = get_or rings variable [] in
      let its = stand.1 variable ring (slice_get-get_or rings variable [] (omega (arith, there, stand.0))) in
      let deep : back < (variable_of s variable).depth = omega (arith, inner, ap (λ (v : VarDecl). v.depth) (get_or_from_slice_get s.unit.variables variable decl no_variable at)) in
      found_at rings s.unit.variables s.unit.clocks r.start date variable back there deep
      ∙ ap (λ items. slice_get items (age_at s variable back r.start date)) its.values
      ∙ values variable back (length ring) decl at inner (subst (λ n. age_at s variable back r.start date < n) (sym its.size) near)
