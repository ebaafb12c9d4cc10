-- What is left of the proof of `timing::earliest`.
use Rattle.std.proofs.Common.{◌≡◌, ℕ, ◌<◌, List, length, get_or, min, sym, ap, ◌∙◌, arith}
use Rattle.std.specs.Prelude.{map}
use Rattle.std.proofs.lemmas.List.{get_or-map, length-map}
use Rattle.psy_meaning.specs.RingSizes.{agent_timing}
use Rattle.psy_meaning.specs.Timing.{end_date}
use Rattle.psy_meaning.proofs.lemmas.Leasts.{least_is, least_one, least_more}
use Rattle.psy_audit.proofs.timing.earliest.Goals as goal

pub points-preserved : goal.points-preserved
points-preserved c =
    let points = c.args.points.now in
    let end = end_date (agent_timing c.args.plan.now.unit c.args.plan.now.nexts c.args.agent) c.args.start in
    let ends : List ℕ = map end points in
    let i = c.points.to-index in
    let within : i < length ends = omega (arith, c.points-test.true, length-map points end) in
    let at : c.end_of.result ≡ get_or ends i 0 = c.end_of.ensures ∙ sym (get_or-map end points i 0 0 c.points-test.true) in
    let less : c.min-least.result ≡ min c.points.least (get_or ends i 0) = c.min-least.ensures ∙ ap (min c.points.least) at in
    record {
      one = least_one ends i c.points.least c.min-least.result within c.points.invariant.one less;
      most = least_more ends i c.points.least c.min-least.result c.points.invariant.most less;
    }

pub returns : goal.returns
returns c =
    let points = c.args.points.now in
    let end = end_date (agent_timing c.args.plan.now.unit c.args.plan.now.nexts c.args.agent) c.args.start in
    least_is (map end points) c.points.least c.points.invariant.one (λ i l. c.points.invariant.most i (omega (arith, l, length-map points end)))
