-- What is left of the proof of `faults::publication_fault`.
use Rattle.std.proofs.Common.{◌∙◌, Bool, cond, not, Some, None, ap}
use Rattle.psy_audit.specs.Judging.{untied}
use Rattle.psy_audit.specs.Publications.{is_number}
use Rattle.psy_audit.proofs.Faulty.{number_before}
use Rattle.psy_audit.proofs.faults.publication_fault.Goals as goal

pub returns : goal.returns
returns c = λ lines stands.
    let t = c.args.table.now in
    let p = c.args.publication.now in
    c.fault_unless.ensures
    ∙ ap (λ (b : Bool). cond (not b) (Some 6) None)
    (c.is_number.ensures ∙ ap (λ n. is_number (untied t.plan.now) n p)
    (c.number_of-number.ensures ∙ number_before t.plan.now.unit lines c.args.before.now stands p.variable c.requires.variable))
