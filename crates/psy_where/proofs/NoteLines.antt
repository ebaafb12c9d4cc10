-- What the one note of a line tells is all that the line tells.
use Rattle.std.proofs.Common.{◌≡◌, ◌∙◌, ℕ, List, ◌++◌, codes, None, ap, subst}
use Rattle.std.proofs.lemmas.Option.{none-some}
use Rattle.psy_log.specs.declared.form.Form.{Form}
use Rattle.psy_log.specs.declared.note.Note.{Note}
use Rattle.psy_log.specs.Forms.{says}
use Rattle.psy_log.specs.Table.{Said}
use Rattle.psy_notes.specs.Lines.{IsLineOf}
use Rattle.psy_where.specs.declared.recall.Refusal.{Refusal}
use Rattle.psy_where.specs.Explained.{IsNone}
use Rattle.psy_where.specs.Lacks.{lack_in}
use Rattle.psy_where.specs.Notes.{IsNoteOf}
use Rattle.psy_where.specs.Plains.{plain_in}
use Rattle.psy_where.specs.Refusals.{IsNoRefusal, Refuses}
use Rattle.psy_where.specs.Writings.{written_in}

-- A line says one note.
abbrev pub SayOne : Type 0
SayOne = (line : List ℕ) (some other : Note) → IsLineOf line some → IsLineOf line other → says some ≡ says other

-- The bytes that are read are those of the line with its feed.
pub note_read : (line whole bytes : List ℕ) (note : Note) → bytes ≡ whole → whole ≡ line ++ codes "\n" → IsLineOf bytes note → IsNoteOf line note
note_read line whole bytes note read is said = subst (λ (b : List ℕ). IsLineOf b note) (read ∙ is) said

-- A line whose note tells nothing tells nothing.
pub no_refusal_told : SayOne → (line : List ℕ) (note : Note) → IsNoteOf line note → ((refusal : Refusal) (sentence : List ℕ) → Refuses (says note) refusal sentence → ⊥) → IsNoRefusal line
no_refusal_told once line note said none refusal sentence is =
    none refusal sentence (subst (λ (saying : Form × List Said). Refuses saying refusal sentence) (once (line ++ codes "\n") is.0 note is.1 said) is.2)

pub nothing_told : SayOne → (line : List ℕ) (note : Note) → IsNoteOf line note → ((refusal : Refusal) (sentence : List ℕ) → Refuses (says note) refusal sentence → ⊥)
    → None ≡ plain_in (says note).0 (says note).1 → None ≡ lack_in (says note).0 (says note).1 → None ≡ written_in (says note).0 (says note).1 → IsNone line
nothing_told once line note said refusal no_plain no_lack no_written =
    record {
      refusal = no_refusal_told once line note said refusal;
      plain = λ plain is. none-some plain (no_plain ∙ ap (λ (saying : Form × List Said). plain_in saying.0 saying.1) (once (line ++ codes "\n") note is.0 said is.1) ∙ is.2);
      lack = λ lack is. none-some lack (no_lack ∙ ap (λ (saying : Form × List Said). lack_in saying.0 saying.1) (once (line ++ codes "\n") note is.0 said is.1) ∙ is.2);
      written = λ written is. none-some written (no_written ∙ ap (λ (saying : Form × List Said). written_in saying.0 saying.1) (once (line ++ codes "\n") note is.0 said is.1) ∙ is.2);
    }
