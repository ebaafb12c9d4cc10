-- What is left of the proof of `cycle::common_multiple`.
use Rattle.std.proofs.Common.{ap, ◌∙◌, arith}
use Rattle.std.proofs.Math.Nat.{pos_of_dvd_of_pos}
use Rattle.psy_graph.specs.Steps.{joined}
use Rattle.psy_graph.proofs.lemmas.Cycles.{joined_by}
use Rattle.psy_graph.proofs.cycle.common_multiple.Goals as goal

pub nonzero_div-result : goal.nonzero_div-result
nonzero_div-result c = let some = pos_of_dvd_of_pos c.common_divisor.ensures.0 (omega (arith, c.requires.some.0)) in omega (arith, some)

pub returns : goal.returns
returns c = joined_by c.args.a c.from-period.result c.common_divisor.result c.common_divisor.ensures ∙ ap (joined c.args.a) c.from-period.ensures
