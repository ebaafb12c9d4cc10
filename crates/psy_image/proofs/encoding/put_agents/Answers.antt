-- What is left of the proof of `encoding::put_agents`.
use Rattle.std.proofs.Common.{◌++◌, length, arith}
use Rattle.psy_lists.proofs.lemmas.Places.{drop_read}
use Rattle.psy_image.specs.Bytes.{agent_bytes, agents_bytes, number_bytes, paired_bytes}
use Rattle.psy_image.proofs.Written.{paired_done, paired_goes}
use Rattle.psy_image.proofs.encoding.put_agents.Goals as goal

pub agents-preserved : goal.agents-preserved
agents-preserved c = paired_goes agent_bytes c.args.agents.now c.args.codes.now c.agents.at _ _ c.agents.out.items _ _ (drop_read c.args.agents.now c.agents.at c.index-agents-at.result (omega (arith, c.agents-test.true, c.min-len.ensures)) c.index-agents-at.is)
    (drop_read c.args.codes.now c.agents.at c.index-codes-at.result (omega (arith, c.agents-test.true, c.min-len.ensures)) c.index-codes-at.is) c.in_ok-put_agent.ensures c.agents.invariant

pub returns : goal.returns
unfolding agents_bytes
returns c = paired_done agent_bytes c.args.agents.now c.args.codes.now c.agents.at c.agents.out.items (c.args.out.now.items ++ (number_bytes (length c.args.codes.now) ++ paired_bytes agent_bytes c.args.agents.now c.args.codes.now)) (omega (arith, c.agents-test.false, c.min-len.ensures)) c.agents.invariant
