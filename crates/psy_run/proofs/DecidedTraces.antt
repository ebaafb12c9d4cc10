-- The judge of a trace comes to one end: a text has a first fault, or is a legal trace, with so many actions and looks.
use Rattle.std.proofs.Common.{◌≡◌, ◌∙◌, sym, ap, refl, ℕ, List, length, inl, inr, Option, None, Some}
use Rattle.std.proofs.lemmas.Option.{none-some, same_Some}
use Rattle.psy_audit.specs.Answers.{fault_at}
use Rattle.psy_audit.specs.Faults.{Fault, first_fault}
use Rattle.psy_audit.specs.Texts.{lines_in}
use Rattle.psy_audit.specs.Traces.{Judged, acts as acts_told, looks as looks_told}
use Rattle.psy_run.specs.declared.refusal.Refusal.{Refusal}
use Rattle.psy_run.specs.declared.refusal.Refusal.TheVariants.{Trace}
use Rattle.psy_run.specs.Steps.{IsUntrue, auditing}
use Rattle.psy_run.proofs.Courses.{IsDecided, IsSome}

-- What is no legal trace has a first fault.
untrue_is : (j : Judged) (text : List ℕ) (refusal : Refusal) → IsUntrue j text refusal → (number : ℕ) × (line : ℕ) × (refusal ≡ Trace number line) × (first_fault j (lines_in j.unit j.until text) ≡ Some (fault_at number line))
untrue_is j text (Trace number line) found = (number, line, refl, found)
untrue_is j text _ never = absurd never

pub decided_auditing : (j : Judged) (text : List ℕ) → IsDecided (auditing j text)
decided_auditing j text = record {
  one = record {
    gift = λ x y p q. p.1 ∙ sym q.1;
    stop = λ r s p q.
        let (number, line, is, found) = untrue_is j text r p in
        let (other, there, also, first) = untrue_is j text s q in
        let same = same_Some (fault_at number line) (fault_at other there) (sym found ∙ first) in
        is ∙ ap (λ (f : Fault). Trace f.number f.line) same ∙ sym also;
    apart = λ x r p q. let (number, line, is, found) = untrue_is j text r q in none-some (fault_at number line) (sym p.0 ∙ found);
  };
  some = by (first_fault j (lines_in j.unit j.until text)) refl;
}
  where
    by : (o : Option Fault) → first_fault j (lines_in j.unit j.until text) ≡ o → IsSome (auditing j text)
    by None is = inl (record { acts = length (acts_told (lines_in j.unit j.until text)); looks = length (looks_told (lines_in j.unit j.until text)) }, (is, refl))
    by (Some fault) is = inr (Trace fault.number fault.line, is)
