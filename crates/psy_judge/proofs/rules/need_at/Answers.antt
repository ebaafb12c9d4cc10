-- What is left of the proof of `rules::need_at`.
use Rattle.std.proofs.Common.{sym}
use Rattle.std.specs.Prelude.{None}
use Rattle.psy_judge.proofs.ListReads.{read_none, read_some}
use Rattle.psy_judge.proofs.rules.need_at.Goals as goal

pub returns-in-None : goal.returns-in-None
returns-in-None c = sym (read_none c.args.needs.now c.args.function None c.in-None.ensures.value)

pub returns-in-Some : goal.returns-in-Some
returns-in-Some c = sym (read_some c.args.needs.now c.args.function c.in-Some.need.now None c.in-Some.ensures.value)
