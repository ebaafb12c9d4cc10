-- What is left of the proof of `verdict::judge_lines`.
use Rattle.std.proofs.Common.{◌≡◌, ◌∙◌, ℕ, length, Some, Err, Result, ap, subst, sym, arith}
use Rattle.std.specs.Prelude.{option_map}
use Rattle.psy_audit.specs.Answers.{fault_at, wrong_of}
use Rattle.psy_audit.specs.declared.verdict.AuditFault.{AuditFault}
use Rattle.psy_audit.specs.declared.verdict.AuditFault.TheVariants.{Fault}
use Rattle.psy_audit.specs.declared.verdict.Legal.{Legal}
use Rattle.psy_audit.specs.Faults.{first_fault}
use Rattle.psy_audit.specs.Judging.{judged_of}
use Rattle.psy_audit.proofs.Befores.{acts_few, looks_few}
use Rattle.psy_audit.proofs.verdict.judge_lines.Goals as goal

-- The fault that is told has these numbers.
told : (a b n l : ℕ) → ◌≡◌ {A = Result Legal AuditFault} (Err (Fault a b)) (Err (Fault n l)) → (a ≡ n) × (b ≡ l)
told a b n l e = (cc, cc)

pub wrong_in-requires-clause-acts : goal.wrong_in-requires-clause-acts
wrong_in-requires-clause-acts c = c.as_slice-acts_seen.ensures ∙ c.in_ok-acts.ensures

pub legal_of-requires-clause-acts : goal.legal_of-requires-clause-acts
legal_of-requires-clause-acts c =
    let few = acts_few c.args.lines.now in
    omega (arith, ap length c.as_slice-acts_seen.ensures, ap length c.in_ok-acts.ensures, few, c.requires.few)

pub legal_of-requires-clause-looks : goal.legal_of-requires-clause-looks
legal_of-requires-clause-looks c =
    let few = looks_few c.args.lines.now in
    omega (arith, ap length c.as_slice-looks_seen.ensures, ap length c.in_ok-looks.ensures, few, c.requires.few)

pub returns-in-Some-clause-fault : goal.returns-in-Some-clause-fault
returns-in-Some-clause-fault c = λ number line e.
    let same = told c.in-Some.wrong.number c.in-Some.wrong.line number line e in
    let j = judged_of c.args.plan.now c.args.script.now in
    let first : first_fault j c.args.lines.now ≡ Some (fault_at c.in-Some.wrong.number c.in-Some.wrong.line) = sym c.in_ok-found.ensures ∙ ap (option_map wrong_of) c.in-Some.is in
    subst (λ l. first_fault j c.args.lines.now ≡ Some (fault_at number l)) same.1
    (subst (λ n. first_fault j c.args.lines.now ≡ Some (fault_at n c.in-Some.wrong.line)) same.0 first)
