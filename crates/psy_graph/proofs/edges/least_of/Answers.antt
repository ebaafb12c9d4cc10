-- What is left of the proof of `edges::least_of`.
use Rattle.std.proofs.Common.{arith}
use Rattle.psy_meaning.proofs.lemmas.Leasts.{least_is, least_one, least_more}
use Rattle.psy_graph.proofs.edges.least_of.Goals as goal

pub numbers-preserved : goal.numbers-preserved
numbers-preserved c =
    let xs = c.args.numbers.now in
    record {
      one = least_one xs c.numbers.number-index c.numbers.least c.min-least.result c.numbers-test.true c.numbers.invariant.one c.min-least.ensures;
      most = least_more xs c.numbers.number-index c.numbers.least c.min-least.result c.numbers.invariant.most c.min-least.ensures;
    }

pub returns : goal.returns
returns c = least_is c.args.numbers.now c.numbers.least c.numbers.invariant.one (λ i l. c.numbers.invariant.most i (omega (arith, l)))
