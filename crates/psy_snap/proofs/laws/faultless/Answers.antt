-- What is left of the proof of `laws::faultless`.
use Rattle.std.proofs.Common.{ℕ, ◌<◌, length, subst}
use Rattle.psy_dates.specs.declared.plan.Plan.{Plan}
use Rattle.psy_dates.specs.Plans.{IsPlan}
use Rattle.psy_graph.specs.Graphs.{IsTimed}
use Rattle.psy_meaning.specs.RingSizes.{agent_timing}
use Rattle.psy_snap.proofs.StreamsRight.{none_at_fault}
use Rattle.psy_snap.proofs.laws.faultless.Goals as goal

timed : (c : goal.After-one_graph) (plan : Plan) (its : IsPlan plan) → (agent : ℕ) → agent < length plan.unit.agents → IsTimed (agent_timing plan.unit plan.nexts agent)
timed c plan its agent less =
    subst (λ nexts. IsTimed (agent_timing plan.unit nexts agent)) its.nexts (c.one_graph.ensures.timed plan.unit its.ways agent its.fits.bare its.fits.lists less)

pub returns : goal.returns
returns c = λ plan graphs until opening inputs stalls its drawn has fits await sound.
    none_at_fault plan its graphs drawn (timed c plan its) until opening has await inputs stalls (sound its) fits
