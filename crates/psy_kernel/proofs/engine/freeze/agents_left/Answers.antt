-- What is left of the proof of `engine::freeze::agents_left`.
use Rattle.std.proofs.Common.{◌≡◌, ◌<◌, get_or, length, slice_get, Some, [], ap, sym, subst, ◌∙◌, arith}
use Rattle.std.proofs.lemmas.Option.{slice_get-get_or}
use Rattle.psy_code.specs.declared.code.AgentCode.{AgentCode}
use Rattle.psy_meaning.specs.CodeWays.{agent_code_at}
use Rattle.psy_kernel.specs.Freezing.{MayLeave, agent_by, agent_left}
use Rattle.psy_kernel.specs.Starting.{seat_at}
use Rattle.psy_kernel.proofs.Pushed.{made_next, read_any}
use Rattle.psy_kernel.proofs.engine.freeze.agents_left.Goals as goal

pub agent_left-requires : goal.agent_left-requires
agent_left-requires c =
    let n = c.agents.agent in
    let code = c.args.code.now in
    let codes = c.as_slice-codes.result.now in
    let none : AgentCode = record { points = []; cells = []; counters = 0; copies = []; stack = 0; frames = 0 } in
    let within : n < length codes = omega (arith, c.agents-test.true, c.requires.coded, ap length c.as_slice-codes.ensures) in
    let its : agent_code_at code n ≡ c.index-codes-agent.result =
    ap (λ xs. get_or xs n none) (sym c.as_slice-codes.ensures) ∙ read_any codes n c.index-codes-agent.result none within c.index-codes-agent.is in
    subst (λ a. MayLeave a c.args.committed.now) its (c.requires.may n c.agents-test.true)

pub agents-preserved : goal.agents-preserved
agents-preserved c =
    let n = c.agents.agent in
    let code = c.args.code.now in
    let codes = c.as_slice-codes.result.now in
    let runners = c.args.runners.now in
    let committed = c.args.committed.now in
    let seat = seat_at c.args.seats.now n in
    let none : AgentCode = record { points = []; cells = []; counters = 0; copies = []; stack = 0; frames = 0 } in
    let within : n < length codes = omega (arith, c.agents-test.true, c.requires.coded, ap length c.as_slice-codes.ensures) in
    let its : agent_code_at code n ≡ c.index-codes-agent.result =
    ap (λ xs. get_or xs n none) (sym c.as_slice-codes.ensures) ∙ read_any codes n c.index-codes-agent.result none within c.index-codes-agent.is in
    let here : slice_get runners n ≡ Some c.index-runners-agent.result = slice_get-get_or runners n c.index-runners-agent.result c.agents-test.true ∙ ap Some (sym c.index-runners-agent.is) in
    let is : c.in_ok-agent_left.field-0 ≡ agent_left code committed c.args.seats.now runners n =
    c.in_ok-agent_left.ensures ∙ ap (λ a. agent_by a committed seat (Some c.index-runners-agent.result)) (sym its) ∙ ap (agent_by (agent_code_at code n) committed seat) (sym here) in
    made_next (agent_left code committed c.args.seats.now runners) c.agents.agents c.push.new.self n c.in_ok-agent_left.field-0 c.in_ok-push.ensures.ok c.agents.invariant is
