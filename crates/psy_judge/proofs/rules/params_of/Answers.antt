-- What is left of the proof of `rules::params_of`.
use Rattle.std.proofs.Common.{ap, sym}
use Rattle.psy_code.specs.declared.code.FunctionCode.{FunctionCode}
use Rattle.psy_judge.proofs.ListReads.{read_none, read_some}
use Rattle.psy_judge.proofs.rules.params_of.Goals as goal

pub returns-in-None : goal.returns-in-None
returns-in-None c = ap (λ (f : FunctionCode). f.params) (sym (read_none c.args.code.now.functions c.args.function _ c.in-None.ensures.value))

pub returns-in-Some : goal.returns-in-Some
returns-in-Some c = ap (λ (f : FunctionCode). f.params) (sym (read_some c.args.code.now.functions c.args.function c.in-Some.function.now _ c.in-Some.ensures.value))
