-- The run in a text in another form, and why a text isn't read as a log.
use Rattle.std.proofs.Common.{◌≡◌, sym, refl, subst, ℕ, List, [], ◌∷◌, Some}
use Rattle.psy_log.specs.declared.note.Note.{Note}
use Rattle.psy_notes.specs.Stands.{run_begins}
use Rattle.psy_notes.specs.Texts.{BreaksAt, IsText}
use Rattle.psy_export.specs.Exports.{export_of}
use Rattle.psy_export.specs.declared.forms.Format.{Format}
use Rattle.psy_export.specs.declared.forms.Format.TheVariants as format
use Rattle.psy_passes.specs.Listing.{first_unlisted}
use Rattle.psy_passes.specs.Logs.{IsLog}
use Rattle.psy_passes.specs.Outcomes.{IsOfText}
use Rattle.psy_passes.specs.declared.fault.PassFault.{PassFault}
use Rattle.psy_passes.specs.declared.fault.PassFault.TheVariants as fault
use Rattle.psy_view.specs.Reading.{request_of_export}
use Rattle.psy_view.specs.Views.{IsFaultOf, IsNoLog, ViewOf, dumped, no_dump, no_table, tabled}

pub exported_of : (name bytes : List ℕ) (to : Format) (text : List ℕ) → ((notes : List Note) × IsLog bytes notes × (text ≡ export_of to notes))
    → ViewOf (request_of_export name to) (bytes ∷ []) 0 text
exported_of name bytes format.Table text log = subst (ViewOf (request_of_export name format.Table) (bytes ∷ []) 0) (sym log.2) (tabled name bytes log.0 log.1)
exported_of name bytes format.Dump text log = subst (ViewOf (request_of_export name format.Dump) (bytes ∷ []) 0) (sym log.2) (dumped name bytes log.0 log.1)

pub unexported : (name bytes : List ℕ) (to : Format) (told : List ℕ) → IsNoLog name bytes told → ViewOf (request_of_export name to) (bytes ∷ []) 1 told
unexported name bytes format.Table told no_log = no_table name bytes told no_log
unexported name bytes format.Dump told no_log = no_dump name bytes told no_log

pub fault_of : (bytes : List ℕ) (why : PassFault) → ((line : ℕ) → why ≡ fault.Line line → BreaksAt run_begins bytes line)
    → ((line : ℕ) → why ≡ fault.Unlisted line → (notes : List Note) × IsText run_begins bytes notes × (first_unlisted notes ≡ Some line))
    → (why ≡ fault.Many → ⊥) → IsOfText why → IsFaultOf bytes why
fault_of bytes (fault.Line line) at_line unlisted many only = at_line line refl
fault_of bytes (fault.Unlisted line) at_line unlisted many only = unlisted line refl
fault_of bytes fault.Many at_line unlisted many only = many refl
fault_of bytes fault.Memory at_line unlisted many only = tt
fault_of bytes fault.Unread at_line unlisted many only = only
fault_of bytes fault.Changed at_line unlisted many only = only
fault_of bytes fault.Unwritten at_line unlisted many only = only
