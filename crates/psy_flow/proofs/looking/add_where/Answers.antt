-- What is left of the proof of `looking::add_where`.
use Rattle.std.proofs.Common.{arith}
use Rattle.std.proofs.lemmas.Option.{slice_get_within}
use Rattle.psy_flow.proofs.looking.add_where.Goals as goal

pub returns-clause-longer : goal.returns-clause-longer
returns-clause-longer c =
    let kept = c.points.invariant in
    record { count = kept.count; each = λ place list at. kept.below place list (omega (arith, slice_get_within c.args.lists.now place list at, kept.count, c.points-test.false)) at }
