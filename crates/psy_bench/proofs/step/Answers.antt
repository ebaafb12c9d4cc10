-- What is left of the proof of `step`.
use Rattle.std.proofs.Common.{subst, sym}
use Rattle.psy_bench.specs.Loop.{IsLoop, seen}
use Rattle.psy_bench.proofs.Stepping.{is_of, able, kept}
use Rattle.psy_bench.proofs.step.Goals as goal

pub step-requires-clause-of : goal.step-requires-clause-of
step-requires-clause-of c = is_of _ _ c.requires.code c.requires.stands

pub step-requires-clause-able : goal.step-requires-clause-able
step-requires-clause-able c = able _ (seen c.args.look.now).view _ c.requires.code c.requires.stands

pub returns : goal.returns
returns c = subst IsLoop (sym c.step.ensures.machine) (kept _ (seen c.args.look.now).view _ c.requires.code c.requires.stands)
