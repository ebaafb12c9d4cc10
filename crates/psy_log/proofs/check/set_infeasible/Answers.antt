-- What is left of the proof of `check::set_infeasible`.
use Rattle.std.proofs.Common.{sym}
use Rattle.psy_log.proofs.lemmas.Pieces.{infeasible_line-pieces}
use Rattle.psy_log.proofs.check.set_infeasible.Goals as goal

pub returns : goal.returns
returns c = rw (
  c.add-3.ensures,
  c.add_processor.ensures.named,
  c.add_u64-3.ensures.digits,
  c.add-2.ensures,
  c.add_u64-2.ensures.digits,
  c.add.ensures,
  c.add_u64.ensures.digits,
  c.start.ensures,
) (sym (infeasible_line-pieces c.args.length c.args.demand c.args.supply c.args.processor))
