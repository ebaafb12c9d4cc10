-- What is left of the proof of `engine::summary::tell_figure`.
use Rattle.std.proofs.Common.{◌≡◌, ℕ, ◌-◌, ◌<◌, ◌≤◌, length, get_or, slice_get, Some, None, refl, sym, ap, subst, ◌∙◌, arith}
use Rattle.std.proofs.lemmas.Option.{slice_get-get_or}
use Rattle.psy_log.specs.Forms.{agent_line, stream_line, variable_line}
use Rattle.psy_tree.specs.declared.unit.AgentDecl.{AgentDecl}
use Rattle.psy_tree.specs.declared.unit.StreamDecl.{StreamDecl}
use Rattle.psy_tree.specs.declared.unit.VarDecl.{VarDecl}
use Rattle.psy_kernel.specs.declared.engine.Runner.{Runner}
use Rattle.psy_kernel.specs.Telling.{figure_in}
use Rattle.psy_tree.specs.Parts.{agent_at, stream_at, variable_at}
use Rattle.psy_kernel.proofs.Named.{agent_found, stream_found, variable_found}
use Rattle.psy_kernel.proofs.FigureLines.{agent_figured, figured_length, stream_figured, variable_figured}
use Rattle.psy_kernel.proofs.engine.summary.tell_figure.Goals as goal

pub returns-then-agent-agents-clause-some : goal.returns-then-agent-agents-clause-some
returns-then-agent-agents-clause-some c =
    let plan = c.args.plan.now in
    let agent : ℕ = c.args.place - 1 in
    let runners = c.args.runners.now in
    let within : agent < length plan.unit.agents = subst (λ xs. agent < length xs) c.as_slice-agents.ensures c.if-agent-agents.true in
    let named : c.bytes.result.now ≡ (agent_at plan.unit agent).name =
    c.bytes.ensures ∙ ap (λ (a : AgentDecl). a.name) (agent_found plan.unit agent c.as_slice-agents.result.now c.index-agents-agent.result c.as_slice-agents.ensures c.if-agent-agents.true) in
    let runner : Runner = get_or runners agent c.index-runners-agent.result in
    let there : slice_get runners agent ≡ Some runner = slice_get-get_or runners agent c.index-runners-agent.result (omega (arith, within, c.requires.run)) in
    let told : c.set-then-agent-agents.new.self ≡ agent_line c.bytes.result.now runner.figure.count runner.figure.slack = c.set-then-agent-agents.ensures in
    λ _. agent_figured plan runners c.args.reaches.now c.args.helds.now c.args.place agent (omega (arith, c.if-place-eq0.false)) within
    ∙ ap Some (ap (λ o. agent_line (agent_at plan.unit agent).name (figure_in o).count (figure_in o).slack) there
    ∙ sym (told ∙ ap (λ name. agent_line name runner.figure.count runner.figure.slack) named))

pub returns-then-variable-variables-clause-some : goal.returns-then-variable-variables-clause-some
returns-then-variable-variables-clause-some c =
    let plan = c.args.plan.now in
    let counted : ℕ = c.args.place - 1 - length c.as_slice-agents.result.now in
    let variable : ℕ = c.args.place - 1 - length plan.unit.agents in
    let same : counted ≡ variable = ap (λ xs. c.args.place - 1 - length xs) c.as_slice-agents.ensures in
    let among : counted < length c.as_slice-variables.result.now = c.if-variable-variables.true in
    let within : variable < length plan.unit.variables = subst (λ n. n < length plan.unit.variables) same (subst (λ xs. counted < length xs) c.as_slice-variables.ensures among) in
    let behind : length plan.unit.agents ≤ c.args.place - 1 = subst (λ xs. length xs ≤ c.args.place - 1) c.as_slice-agents.ensures c.if-agent-agents.false in
    let named : c.bytes-then-variable-variables.result.now ≡ (variable_at plan.unit variable).name =
    c.bytes-then-variable-variables.ensures
    ∙ ap (λ (v : VarDecl). v.name) (variable_found plan.unit variable c.as_slice-variables.result.now counted c.index-variables-variable.result c.as_slice-variables.ensures same among) in
    let sized : get_or c.as_slice.result.now counted 0 ≡ get_or plan.sizes.rings variable 0 =
    ap (λ xs. get_or xs counted 0) c.as_slice.ensures ∙ ap (λ n. get_or plan.sizes.rings n 0) same in
    let reach : get_or c.args.reaches.now counted None ≡ get_or c.args.reaches.now variable None = ap (λ n. get_or c.args.reaches.now n None) same in
    let told : c.set-then-variable-variables.new.self ≡ variable_line c.bytes-then-variable-variables.result.now (get_or c.as_slice.result.now counted 0) (get_or c.args.reaches.now counted None) = c.set-then-variable-variables.ensures in
    λ _. variable_figured plan c.args.runners.now c.args.reaches.now c.args.helds.now c.args.place variable (omega (arith, c.if-place-eq0.false, behind)) within
    ∙ ap Some (sym (told ∙ ap (λ name. variable_line name (get_or c.as_slice.result.now counted 0) (get_or c.args.reaches.now counted None)) named
    ∙ ap (λ n. variable_line (variable_at plan.unit variable).name n (get_or c.args.reaches.now counted None)) sized
    ∙ ap (variable_line (variable_at plan.unit variable).name (get_or plan.sizes.rings variable 0)) reach))

pub returns-then-stream-streams-clause-some : goal.returns-then-stream-streams-clause-some
returns-then-stream-streams-clause-some c =
    let plan = c.args.plan.now in
    let counted : ℕ = c.args.place - 1 - length c.as_slice-agents.result.now - length c.as_slice-variables.result.now in
    let stream : ℕ = c.args.place - 1 - length plan.unit.agents - length plan.unit.variables in
    let agents : length c.as_slice-agents.result.now ≡ length plan.unit.agents = ap length c.as_slice-agents.ensures in
    let variables : length c.as_slice-variables.result.now ≡ length plan.unit.variables = ap length c.as_slice-variables.ensures in
    let same : counted ≡ stream = omega (arith, agents, variables) in
    let among : counted < length c.as_slice-streams.result.now = c.if-stream-streams.true in
    let within : stream < length plan.unit.streams = subst (λ n. n < length plan.unit.streams) same (subst (λ xs. counted < length xs) c.as_slice-streams.ensures among) in
    let named : c.bytes-then-stream-streams.result.now ≡ (stream_at plan.unit stream).name =
    c.bytes-then-stream-streams.ensures
    ∙ ap (λ (d : StreamDecl). d.name) (stream_found plan.unit stream c.as_slice-streams.result.now counted c.index-streams-stream.result c.as_slice-streams.ensures same among) in
    let sized : get_or c.as_slice-then-stream-streams.result.now counted 0 ≡ get_or plan.sizes.queues stream 0 =
    ap (λ xs. get_or xs counted 0) c.as_slice-then-stream-streams.ensures ∙ ap (λ n. get_or plan.sizes.queues n 0) same in
    let held : get_or c.args.helds.now counted 0 ≡ get_or c.args.helds.now stream 0 = ap (λ n. get_or c.args.helds.now n 0) same in
    let told : c.set-then-stream-streams.new.self ≡ stream_line c.bytes-then-stream-streams.result.now (get_or c.as_slice-then-stream-streams.result.now counted 0) (get_or c.args.helds.now counted 0) = c.set-then-stream-streams.ensures in
    λ _. stream_figured plan c.args.runners.now c.args.reaches.now c.args.helds.now c.args.place stream (omega (arith, c.if-place-eq0.false, c.if-agent-agents.false, c.if-variable-variables.false, agents, variables)) within
    ∙ ap Some (sym (told ∙ ap (λ name. stream_line name (get_or c.as_slice-then-stream-streams.result.now counted 0) (get_or c.args.helds.now counted 0)) named
    ∙ ap (λ n. stream_line (stream_at plan.unit stream).name n (get_or c.args.helds.now counted 0)) sized
    ∙ ap (stream_line (stream_at plan.unit stream).name (get_or plan.sizes.queues stream 0)) held))

pub returns-clause-none : goal.returns-clause-none
returns-clause-none c =
    let plan = c.args.plan.now in
    let agents : length c.as_slice-agents.result.now ≡ length plan.unit.agents = ap length c.as_slice-agents.ensures in
    let variables : length c.as_slice-variables.result.now ≡ length plan.unit.variables = ap length c.as_slice-variables.ensures in
    let streams : length c.as_slice-streams.result.now ≡ length plan.unit.streams = ap length c.as_slice-streams.ensures in
    λ _. (omega (arith, figured_length plan c.args.runners.now c.args.reaches.now c.args.helds.now, agents, variables, streams, c.if-place-eq0.false, c.if-agent-agents.false, c.if-variable-variables.false, c.if-stream-streams.false), refl)
