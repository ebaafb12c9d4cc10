-- The summary of a plan's run has few lines.
use Rattle.std.proofs.Common.{◌≡◌, ◌∙◌, ap, suc, ◌+◌, ◌*◌, ◌^◌, ◌<◌, ◌++◌, map, length, length-append, arith}
use Rattle.std.proofs.lemmas.List.{length-map}
use Rattle.std.specs.List.{range_with_len}
use Rattle.std.proofs.lemmas.List.FromFn.{length-range_with_len}
use Rattle.psy_dates.specs.Plans.{IsPlan}
use Rattle.psy_history.specs.Scheduled.{turns_by}
use Rattle.psy_kernel.specs.Engines.{EngineState, history_of, summary_on, ties}
use Rattle.psy_kernel.specs.Texts.{agent_end, stream_end, variable_end}

-- The summary has its first line, and one for each agent, variable and stream
pub summary-count : (e : EngineState) → length (summary_on e) ≡ 1 + (length e.plan.unit.agents + (length e.plan.unit.variables + length e.plan.unit.streams))
summary-count e =
    let s = history_of e in
    let until = e.plan.until in
    let turns = turns_by s (ties e) (until * s.unit.quantum) in
    let agents = map (agent_end s turns until) (range_with_len 0 (length s.unit.agents)) in
    let variables = map (variable_end s turns e.plan.sizes until) (range_with_len 0 (length s.unit.variables)) in
    let streams = map (stream_end s e.plan.sizes until) (range_with_len 0 (length s.unit.streams)) in
    let a : length agents ≡ length s.unit.agents = length-map _ _ ∙ length-range_with_len 0 (length s.unit.agents) in
    let v : length variables ≡ length s.unit.variables = length-map _ _ ∙ length-range_with_len 0 (length s.unit.variables) in
    let t : length streams ≡ length s.unit.streams = length-map _ _ ∙ length-range_with_len 0 (length s.unit.streams) in
    let all : length (agents ++ (variables ++ streams)) ≡ length agents + (length variables + length streams) = length-append agents (variables ++ streams) ∙ ap (λ n. length agents + n) (length-append variables streams) in
    let whole : suc (length (agents ++ (variables ++ streams))) ≡ 1 + (length e.plan.unit.agents + (length e.plan.unit.variables + length e.plan.unit.streams)) = omega (arith, all, a, v, t) in
    whole

pub summary-few : (e : EngineState) → IsPlan e.plan → length (summary_on e) < 2 ^ 32
summary-few e plan =
    let bare = plan.fits.bare in
    let count = summary-count e in
    omega (arith, count, bare.agent_limit, bare.variable_limit, bare.stream_limit)
