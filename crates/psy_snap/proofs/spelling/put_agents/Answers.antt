-- What is left of the proof of `spelling::put_agents`.
use Rattle.psy_base.specs.declared.limits.TheConstants.{FILE_BYTES}
use Rattle.psy_snap.specs.Bytes.{agent_bytes}
use Rattle.psy_snap.proofs.Written.{flat_passes}
use Rattle.psy_snap.proofs.spelling.put_agents.Goals as goal

pub returns-in-Err-clause-large : goal.returns-in-Err-clause-large
returns-in-Err-clause-large c = λ e.
    flat_passes agent_bytes c.args.agents.now c.agents.agent-index c.agent-item.result c.args.out.now c.agents.out FILE_BYTES c.agents-test.true (c.agent-item.is) c.agents.invariant (c.in-Err.ensures.large e)
