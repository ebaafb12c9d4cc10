-- What is left of the proof of `tight::demand`.
use Rattle.std.proofs.Common.{arith}
use Rattle.psy_lists.proofs.lemmas.Ranges.{sum_more}
use Rattle.psy_tree.specs.Parts.{homes}
use Rattle.psy_report.specs.Tightness.{demand_of}
use Rattle.psy_report.proofs.tight.demand.Goals as goal

pub agents-preserved : goal.agents-preserved
agents-preserved c =
    let of = demand_of c.args.lists.now (homes c.args.unit.now) c.args.processor c.args.within in
    record {
      sum = omega (arith, c.agents.invariant.sum, c.own_part-sum.ensures.part, sum_more of c.agents.agent);
      small = omega (arith, c.agents.invariant.small, c.own_part-sum.ensures.small);
    }
