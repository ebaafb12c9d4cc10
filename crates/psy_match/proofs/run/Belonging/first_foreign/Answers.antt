-- What is left of the proof of `run::Belonging::first_foreign`.
use Rattle.std.proofs.Common.{◌∙◌, sym}
use Rattle.psy_match.proofs.Belonged.{where_found, where_lacking, where_none}
use Rattle.psy_match.proofs.run.Belonging.first_foreign.Goals as goal

pub returns-in-Some : goal.returns-in-Some
returns-in-Some c = λ unit notes belongs few. where_found unit notes _ belongs few _ c.in-Some.is

pub returns-in-None : goal.returns-in-None
returns-in-None c = λ unit notes belongs few. where_none unit notes _ belongs few c.in-None.is (sym c.is_none.ensures ∙ c.if-is_none.true)

pub returns-in-None-2 : goal.returns-in-None-2
returns-in-None-2 c = λ unit notes belongs few.
    where_lacking unit notes _ belongs few c.in-None-2.is (sym c.is_none.ensures ∙ c.if-is_none.false) _ c.saturating_add.ensures
