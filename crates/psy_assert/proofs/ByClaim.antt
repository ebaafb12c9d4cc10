-- Verdicts, claim by claim.
use Rattle.std.proofs.Common.{◌≡◌, ℤ, List, Option, Bor, sym, ap, ℕ, w32, to_z, of_z, arith, ◌∙◌}
use Rattle.std.proofs.lemmas.Int.{ints}
use mir.Val.{SFits}
use Rattle.psy_log.specs.declared.note.Note.{Note}
use Rattle.psy_assert.specs.declared.terms.Assertion.{Assertion}
use Rattle.psy_assert.specs.declared.terms.Claim.TheVariants as claim
use Rattle.psy_assert.specs.declared.terms.Relation.{Relation}
use Rattle.psy_assert.specs.Spans.{first_date, last_date}
use Rattle.psy_assert.specs.Verdicts.{broken_by, failing, first_by, kept_by, newest, of_values, verdict_by, verdict_of}

-- A value of 32 bits is what its bits say.
pub clean : (z : ℤ) → SFits w32 z → to_z w32 (of_z w32 z) ≡ z
clean z fits = omega (arith, ints)

-- Values
pub by_values : (a : Assertion) (notes : List Note) (variable : Bor (List ℕ)) (relation : Relation) (value : ℤ) → a.claim ≡ claim.Values variable relation value
    → (first later last : Option Note) → first ≡ failing relation value (newest variable.now (first_date a.span) notes) → later ≡ first_by a.claim (first_date a.span) (last_date a.span) notes
    → last ≡ newest variable.now (last_date a.span) notes → of_values first later last ≡ verdict_of a notes
by_values a notes variable relation value is first later last at_first at_later at_last =
    ap (λ n. of_values n later last) at_first ∙ ap (λ n. of_values (failing relation value (newest variable.now (first_date a.span) notes)) later n) at_last
    ∙ ap (λ n. of_values (failing relation value (newest variable.now (first_date a.span) notes)) n (newest variable.now (last_date a.span) notes))
    (at_later ∙ ap (λ c. first_by c (first_date a.span) (last_date a.span) notes) is)
    ∙ sym (ap (λ c. verdict_by c (first_date a.span) (last_date a.span) notes) is)

-- No stop
pub by_no_stop : (a : Assertion) (notes : List Note) → a.claim ≡ claim.NoStop → (found : Option Note) → found ≡ first_by a.claim (first_date a.span) (last_date a.span) notes
    → broken_by found ≡ verdict_of a notes
by_no_stop a notes is found at = ap broken_by (at ∙ ap (λ c. first_by c (first_date a.span) (last_date a.span) notes) is) ∙ sym (ap (λ c. verdict_by c (first_date a.span) (last_date a.span) notes) is)

-- No message
pub by_no_message : (a : Assertion) (notes : List Note) (stream : Bor (List ℕ)) → a.claim ≡ claim.NoMessage stream → (found : Option Note)
    → found ≡ first_by a.claim (first_date a.span) (last_date a.span) notes → broken_by found ≡ verdict_of a notes
by_no_message a notes stream is found at = ap broken_by (at ∙ ap (λ c. first_by c (first_date a.span) (last_date a.span) notes) is) ∙ sym (ap (λ c. verdict_by c (first_date a.span) (last_date a.span) notes) is)

-- Some message
pub by_some_message : (a : Assertion) (notes : List Note) (stream : Bor (List ℕ)) → a.claim ≡ claim.SomeMessage stream → (found : Option Note)
    → found ≡ first_by a.claim (first_date a.span) (last_date a.span) notes → kept_by found ≡ verdict_of a notes
by_some_message a notes stream is found at = ap kept_by (at ∙ ap (λ c. first_by c (first_date a.span) (last_date a.span) notes) is) ∙ sym (ap (λ c. verdict_by c (first_date a.span) (last_date a.span) notes) is)
