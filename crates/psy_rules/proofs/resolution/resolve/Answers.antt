-- What is left of the proof of `resolution::resolve`.
use Rattle.std.proofs.Common.{Option, subst}
use Rattle.psy_tree.specs.Rules.{LeastFault}
use Rattle.psy_rules.specs.declared.least.RuleAt.{RuleAt}
use Rattle.psy_rules.specs.Verdict.{Verdict}
use Rattle.psy_rules.proofs.resolution.resolve.Goals as goal

pub returns-in-Some-clause-all : goal.returns-in-Some-clause-all
returns-in-Some-clause-all c unit s =
    let V : Option RuleAt → Type 0 = Verdict c.args.raw.now in
    let least : LeastFault c.args.raw.now c.in-Some.fault.kind c.in-Some.fault.token = subst V c.in-Some.is c.in_ok-judged.ensures.least in
    absurd (s.no_fault c.in-Some.fault.kind c.in-Some.fault.token least.present)
