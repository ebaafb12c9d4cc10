-- A line alone says one note.
use Rattle.std.proofs.Common.{◌≡◌, ◌∙◌, ℕ, ◌==◌, true, false, List, [], ◌∷◌, ◌++◌, length, refl, sym, ap, append-nil, arith}
use Rattle.std.specs.Prelude.{Contains}
use Rattle.std.proofs.lemmas.Bool.{false≢true}
use Rattle.std.proofs.lemmas.Bool.Decides.{nat_tests}
use Rattle.psy_log.specs.declared.note.Note.{Note}
use Rattle.psy_log.specs.Forms.{line_of, says}
use Rattle.psy_notes.specs.declared.forms.TheConstants.{LINES}
use Rattle.psy_notes.specs.Lines.{IsLineOf}
use Rattle.psy_notes.specs.Notes.{IsTold}
use Rattle.psy_notes.proofs.Apart.{one_note}

pub one_line : (line : List ℕ) (some other : Note) → IsLineOf line some → IsLineOf line other → says some ≡ says other
one_line line some other is tells =
    (one_note LINES refl some other [] [] is.told tells.told is.form tells.form (ap (λ bytes. bytes ++ []) (sym is.written ∙ tells.written))).0

no_bytes : (bytes : List ℕ) → true ≡ (length bytes == 0) → bytes ≡ []
no_bytes [] none = refl
no_bytes (b ∷ bytes) none = absurd (grind (arith, nat_tests, none))

-- Nothing follows it, so that it is the whole line
pub whole_line : (line rest : List ℕ) (note : Note) → IsTold note → Contains LINES (says note).0 → line ≡ line_of note ++ rest → true ≡ (length rest == 0) → IsLineOf line note
whole_line line rest note told form is none =
    record { told = told; form = form; written = is ∙ ap (λ bytes. line_of note ++ bytes) (no_bytes rest none) ∙ append-nil (line_of note) }

-- Something follows it, so that the whole says no note
pub no_whole : (line rest : List ℕ) (some other : Note) → IsTold some → Contains LINES (says some).0 → line ≡ line_of some ++ rest → false ≡ (length rest == 0)
    → IsLineOf line other → ⊥
no_whole line rest some other told form is left tells =
    let once = one_note LINES refl some other rest [] told tells.told form tells.form (sym is ∙ tells.written ∙ sym (append-nil (line_of other))) in
    false≢true (left ∙ ap (λ bytes. length bytes == 0) once.1)
