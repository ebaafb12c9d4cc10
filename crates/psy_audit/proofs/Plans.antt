-- What a plan that fits gives the judge of its traces.
use Rattle.std.proofs.Common.{subst, ◌<◌, ◌≤◌, length, get_or, arith}
use Rattle.std.proofs.lemmas.List.Elements.{All-get_or}
use Rattle.std.proofs.lemmas.Option.{get_or_from_slice_get, slice_get-get_or}
use Rattle.psy_base.specs.declared.limits.TheConstants.{RING}
use Rattle.psy_dates.specs.declared.plan.Plan.{Plan}
use Rattle.psy_dates.specs.Plans.{IsPlan}
use Rattle.psy_meaning.specs.Units.{IsBareVariable}
use Rattle.psy_audit.specs.Judging.{HasRings}

-- A plan that fits has a ring for each variable.
pub has_rings : (plan : Plan) → IsPlan plan → HasRings plan
has_rings plan is = record {
  bare = is.fits.bare;
  some = λ variable l.
      let sizes = plan.sizes.rings in
      let within : variable < length sizes = omega (arith, l, is.buffers.rings.count) in
      let ring = is.buffers.rings.each variable (get_or sizes variable 0) (slice_get-get_or sizes variable 0 within) in
      let own = get_or_from_slice_get plan.unit.variables variable ring.decl ring.decl ring.declared in
      let bare = subst (IsBareVariable plan.unit) own (All-get_or (IsBareVariable plan.unit) plan.unit.variables variable ring.decl l is.fits.bare.variables) in
      omega (arith, ring.sum, bare.depth.0);
  few = λ variable l.
      let sizes = plan.sizes.rings in
      let within : variable < length sizes = omega (arith, l, is.buffers.rings.count) in
      All-get_or (λ size. size ≤ RING) sizes variable 0 within is.buffers.small_rings;
}
