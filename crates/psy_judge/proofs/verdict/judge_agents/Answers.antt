-- What is left of the proof of `verdict::judge_agents`.
use Rattle.std.proofs.Common.{◌≡◌, ◌+◌, length, sym, subst, arith}
use Rattle.psy_judge.specs.Judged.{IsLeast}
use Rattle.psy_judge.specs.Judging.{IsDone, KeptBy}
use Rattle.psy_judge.proofs.OwnersJudged.{agent_more}
use Rattle.psy_judge.proofs.verdict.judge_agents.Goals as goal

pub agents-init : goal.agents-init
agents-init c = record { ready = c.requires.ready; least = c.requires.first }

pub agents-preserved : goal.agents-preserved
agents-preserved c =
    let functions = length c.args.code.now.functions in
    record {
      ready = c.in_ok-fault.ensures.ready;
      least =
          subst (λ f. IsLeast (KeptBy c.args.unit.now c.args.code.now (IsDone functions (c.agents.number + 1))) f) (sym c.lesser-least.ensures)
          (agent_more c.args.unit.now c.args.code.now functions c.agents.number c.agents.least c.in_ok-fault.fault c.agents.invariant.least c.in_ok-fault.ensures.least);
    }

pub returns : goal.returns
returns c =
    let all : c.agents.number ≡ length c.args.code.now.agents = omega (arith, c.agents-test.false, c.agents.auto.number-end, c.len-number-end.ensures) in
    record { least = subst (λ n. IsLeast (KeptBy c.args.unit.now c.args.code.now (IsDone (length c.args.code.now.functions) n)) c.agents.least) all c.agents.invariant.least }
