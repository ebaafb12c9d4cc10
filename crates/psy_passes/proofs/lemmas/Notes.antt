-- One note more.
use Rattle.std.proofs.Common.{◌≡◌, ◌∙◌, refl, sym, ap, subst, ℕ, List, [], ◌∷◌, ◌++◌, append_assoc, append-nil}
use Rattle.psy_log.specs.declared.note.Note.{Note}
use Rattle.psy_log.specs.Forms.{line_of}
use Rattle.psy_notes.specs.declared.stand.Stand.{Stand}
use Rattle.psy_notes.specs.Texts.{Leads, Steps, text_of}

pub Leads-more : (from : Stand) (notes : List Note) (between : Stand) (note : Note) (to : Stand) → Leads from notes between → Steps between note to → Leads from (notes ++ note ∷ []) to
Leads-more from [] between note to leads steps = (to, subst (λ s. Steps s note to) (sym leads) steps, refl)
Leads-more from (first ∷ notes) between note to leads steps = (leads.0, leads.1, Leads-more leads.0 notes between note to leads.2 steps)

pub text_of-more : (notes : List Note) (note : Note) (rest : List ℕ) → text_of (notes ++ note ∷ []) ++ rest ≡ text_of notes ++ (line_of note ++ rest)
text_of-more [] note rest = ap (λ t. t ++ rest) (append-nil (line_of note))
text_of-more (first ∷ notes) note rest =
    append_assoc (line_of first) (text_of (notes ++ note ∷ [])) rest ∙ ap (λ t. line_of first ++ t) (text_of-more notes note rest)
    ∙ sym (append_assoc (line_of first) (text_of notes) (line_of note ++ rest))
