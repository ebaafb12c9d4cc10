-- What is left of the proof of `laws::kept`.
use Rattle.std.proofs.Common.{◌≡◌, ℕ, ◌<◌, refl, sym, subst, length}
use Rattle.std.specs.Prelude.{List}
use Rattle.psy_budget.specs.declared.charge.Stall.{Stall}
use Rattle.psy_dates.specs.Beginnings.{behind}
use Rattle.psy_dates.specs.declared.opening.Opening.{Opening as State}
use Rattle.psy_dates.specs.declared.plan.Plan.{Plan}
use Rattle.psy_dates.specs.Plans.{IsPlan, IsSoundFor, opened_of}
use Rattle.psy_graph.specs.Graphs.{IsTimed}
use Rattle.psy_history.specs.Actions.{Opening}
use Rattle.psy_history.specs.Openings.{IsSound}
use Rattle.psy_history.specs.Scripts.{stalls_of}
use Rattle.psy_kernel.specs.Freezing.{left_by, state_by}
use Rattle.psy_meaning.specs.KnownWays.{Listed}
use Rattle.psy_meaning.specs.RingSizes.{agent_timing}
use Rattle.psy_save.proofs.CellsLong.{carried_long}
use Rattle.psy_save.proofs.LeftStates.{await, fits_state, has_form}
use Rattle.psy_save.proofs.SavedRuns.{left_short, left_sound}
use Rattle.psy_save.proofs.laws.kept.Goals as goal

timed : (c : goal.After-taken_up) (plan : Plan) (its : IsPlan plan) → (agent : ℕ) → agent < length plan.unit.agents → IsTimed (agent_timing plan.unit plan.nexts agent)
timed c plan its agent less =
    subst (λ nexts. IsTimed (agent_timing plan.unit nexts agent)) its.nexts (c.one_graph.ensures.timed plan.unit its.ways agent its.fits.bare its.fits.lists less)

pub returns : goal.returns
returns c = λ p graphs until its are of none first compiled drawn quiet later near cycles.
    let stalls : ℕ → List Stall = stalls_of p.script in
    let opening : Opening = left_by p in
    let state : State = state_by p.plan opening in
    let of_plan : (by : IsPlan p.plan) → IsSound (opened_of p.plan opening p.inputs stalls) (Listed by.ways) p.plan.code =
    λ by. left_sound c.fitting.ensures c.regular.ensures.lawful p by are of none c.saved.ensures first near cycles quiet in
    let long = carried_long p.plan.unit p.plan.code p.plan.nexts compiled in
    let short = left_short c.fitting.ensures c.regular.ensures.lawful p its are of none in
    let has = has_form p.plan its graphs (timed c p.plan its) until p.plan.until opening p.inputs stalls (of_plan its) refl near later long short in
    let fits = fits_state p.plan its graphs (timed c p.plan its) until p.plan.until opening p.inputs stalls (of_plan its) refl near later long short in
    let begun = await p.plan its graphs (timed c p.plan its) until p.plan.until opening p.inputs stalls (of_plan its) refl near later long short in
    let same : behind p.plan state ≡ opening = c.taken_up.ensures p its are of none quiet first in
    let sound : IsSoundFor p.plan (behind p.plan state) p.inputs stalls =
    λ by. subst (λ o. IsSound (opened_of p.plan o p.inputs stalls) (Listed by.ways) p.plan.code) (sym same) (of_plan by) in
    (has, fits, c.faultless.ensures p.plan graphs until state p.inputs stalls its drawn has fits begun sound)
