-- What is left of the proof of `help::help`.
use Rattle.std.proofs.Common.{subst}
use Rattle.psy_where.specs.declared.recall.What.{What}
use Rattle.psy_where.specs.Refusals.{IsPlaceOf}
use Rattle.psy_where.proofs.help.help.Goals as goal

pub returns-in-Parse-clause-beyond : goal.returns-in-Parse-clause-beyond
returns-in-Parse-clause-beyond c beyond place is =
    c.syntax_help.ensures.beyond beyond place (subst (λ (what : What). IsPlaceOf what c.args.text.now c.args.refusal.at place) c.in-Parse.is is)

pub returns-in-Rule-clause-beyond : goal.returns-in-Rule-clause-beyond
returns-in-Rule-clause-beyond c beyond place is =
    c.breach_of.ensures.beyond beyond place (subst (λ (what : What). IsPlaceOf what c.args.text.now c.args.refusal.at place) c.in-Rule.is is)
