-- What is left of the proof of `tops::longest_of_agent`.
use Rattle.std.proofs.Common.{◌≡◌, [], get_or, sym, ap, subst, ◌∙◌}
use Rattle.std.proofs.lemmas.List.{get_or_default}
use Rattle.psy_base.specs.Extremes.{IsGreatest}
use Rattle.psy_clock.specs.declared.clock.Clock.{Clock}
use Rattle.psy_tree.specs.declared.unit.AgentDecl.{AgentDecl}
use Rattle.psy_tree.specs.Parts.{agent_at, no_agent}
use Rattle.psy_meaning.specs.QueueSizes.{MayLast}
use Rattle.psy_meaning.specs.RingSizes.{agent_timing}
use Rattle.psy_meaning.specs.Timing.{first_date}
use Rattle.psy_meaning.specs.Units.{IsBareAgent}
use Rattle.psy_sizes.specs.Queues.{HasLength}
use Rattle.psy_sizes.proofs.Lasting.{begins, last_is, last_small, last_some}
use Rattle.psy_sizes.proofs.Sharing.{no_clock}
use Rattle.psy_sizes.proofs.tops.longest_of_agent.Goals as goal
use Rattle.psy_sizes.proofs.tops.longest_of_agent.Goals.{After-index-as_slice-number, After-longest}

own : (c : After-index-as_slice-number) → c.index-as_slice-number.result ≡ agent_at c.args.unit.now c.args.number
own c =
    let agents = c.args.unit.now.agents in
    let agent = c.index-as_slice-number.result in
    c.index-as_slice-number.is ∙ ap (λ xs. get_or xs c.args.number agent) c.as_slice.ensures ∙ get_or_default agents c.args.number agent no_agent c.requires.number

bare : (c : After-index-as_slice-number) → IsBareAgent c.args.unit.now (agent_at c.args.unit.now c.args.number)
bare c = c.requires.bare.agents c.args.number no_agent c.requires.number

-- What is found is the longest that the agent lasts.
found : (c : After-longest) → IsGreatest (MayLast (agent_timing c.args.unit.now c.args.ways.now.nexts c.args.number)) c.longest.result
found c =
    let unit = c.args.unit.now in
    let timing = agent_timing unit c.args.ways.now.nexts c.args.number in
    let at = (goal.at.After-longest c).After-index-as_slice-number in
    let agent = c.index-as_slice-number.result in
    let decl : AgentDecl = agent_at unit c.args.number in
    let nothing : Clock = record { period = 0; first = 0 } in
    let ticks = (get_or c.as_slice-2.result.now agent.clock nothing).first in
    let clock : get_or c.as_slice-2.result.now agent.clock nothing ≡ get_or unit.clocks decl.clock no_clock =
    ap (λ xs. get_or xs agent.clock nothing) c.as_slice-2.ensures ∙ ap (λ (a : AgentDecl). get_or unit.clocks a.clock nothing) (own at) ∙ get_or_default unit.clocks decl.clock nothing no_clock (bare at).clock in
    let starts : ticks ≡ first_date timing = ap (λ (k : Clock). k.first) clock ∙ sym (begins unit decl (get_or c.args.ways.now.nexts c.args.number []) (bare at)) in
    last_is timing c.args.graph.now c.requires.graph.0 ticks c.longest.result starts (subst (λ es. IsGreatest (HasLength ticks es) c.longest.result) c.as_slice-3.ensures c.longest.ensures)

pub returns-clause-longest : goal.returns-clause-longest
returns-clause-longest c = found (goal.at.returns-clause-longest c).After-longest

pub returns-clause-some : goal.returns-clause-some
returns-clause-some c =
    let unit = c.args.unit.now in
    let ways = c.args.ways.now in
    let number = c.args.number in
    last_some (agent_timing unit ways.nexts number) (c.one_graph.ensures.timed unit ways number c.requires.bare c.requires.ways c.requires.number) (c.distances.ensures.late, c.distances.ensures.near) c.longest.result (found (goal.at.returns-clause-some c).After-longest)

pub returns-clause-small : goal.returns-clause-small
returns-clause-small c =
    let unit = c.args.unit.now in
    let ways = c.args.ways.now in
    let number = c.args.number in
    last_small (agent_timing unit ways.nexts number) (c.one_graph.ensures.timed unit ways number c.requires.bare c.requires.ways c.requires.number) (c.distances.ensures.late, c.distances.ensures.near) c.longest.result (found (goal.at.returns-clause-small c).After-longest)
