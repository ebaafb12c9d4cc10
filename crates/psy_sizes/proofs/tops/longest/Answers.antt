-- What is left of the proof of `tops::longest`.
use Rattle.std.proofs.Common.{subst}
use Rattle.std.proofs.lemmas.List.{take_all}
use Rattle.psy_base.specs.Extremes.{IsGreatest}
use Rattle.psy_sizes.specs.Queues.{HasLength}
use Rattle.psy_sizes.proofs.Lasting.{length_more}
use Rattle.psy_sizes.proofs.Tables.{no_edge}
use Rattle.psy_sizes.proofs.tops.longest.Goals as goal

pub edges-preserved : goal.edges-preserved
edges-preserved c = length_more c.args.first c.args.edges.now c.edges.edge-index no_edge c.edges.longest c.max-longest.result c.edges-test.true c.edges.invariant c.max-longest.ensures

pub returns : goal.returns
returns c = subst (λ es. IsGreatest (HasLength c.args.first es) c.edges.longest) (take_all c.edges.edge-index c.args.edges.now c.edges-test.false) c.edges.invariant
