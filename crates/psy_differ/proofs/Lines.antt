-- The lines of notes.
use Rattle.std.proofs.Common.{◌≡◌, ℕ, ◌+◌, ◌<◌, ◌≤◌, zero, suc, List, [], ◌∷◌, ◌++◌, length, map, take, get_or, Some, None, inl, inr, ◌⊎◌, sym, ap, subst, refl, ◌∙◌, arith}
use Rattle.std.specs.Prelude.{◌≢◌, All, min, slice_get}
use Rattle.std.proofs.lemmas.Bool.{cases_lt}
use Rattle.std.proofs.lemmas.Option.{slice_get-get_or, slice_get_within}
use Rattle.std.proofs.lemmas.List.{get_or-map, length-map, take_more_same}
use Rattle.psy_log.specs.declared.note.Note.{Note}
use Rattle.psy_log.specs.declared.note.Note.TheVariants as note
use Rattle.psy_log.specs.Forms.{line_of}
use Rattle.psy_notes.specs.declared.stand.Stand.{Stand}
use Rattle.psy_notes.specs.Notes.{IsTold}
use Rattle.psy_notes.specs.Stands.{run_begins}
use Rattle.psy_notes.specs.Texts.{IsText, Leads, text_of}
use Rattle.psy_differ.specs.Differences.{DifferFirst, Fits}

-- A line has room for the name in a note that can be told.
told_fits : (n : Note) → IsTold n → Fits n
told_fits (note.StopOverrun date agent) told = told.1.0.1
told_fits (note.StopTrap date agent trap) told = told.1.0.1
told_fits (note.Value date variable value) told = told.1.0.1
told_fits (note.Message date stream value) told = told.1.0.1
told_fits (note.AgentEnd agent count slack) told = told.0.1
told_fits (note.VariableEnd variable size reach) told = told.0.1
told_fits (note.StreamEnd stream size held) told = told.0.1
told_fits (note.VariableSize variable size) told = told.0.1
told_fits (note.StreamSize stream size) told = told.0.1
told_fits (note.Rate agent rate intercept) told = told.0.1
told_fits (note.AgentGraph agent nodes edges) told = told.0.1
told_fits (note.Read file) told = told.0.1
told_fits (note.Limit name number) told = told.0.1
told_fits (note.Refused what number None) told = told.0.1
told_fits (note.Refused what number (Some at)) told = told.0.1
told_fits (note.Busy agent) told = told.0.1
told_fits _ told = omega arith

-- So it has for each note of a text.
pub notes_fit : (from to : Stand) (notes : List Note) → Leads from notes to → All Fits notes
notes_fit from to [] leads k d within = absurd (omega (arith, within))
notes_fit from to (n ∷ notes) leads zero d within = told_fits n leads.1.0
notes_fit from to (n ∷ notes) leads (suc k) d within = notes_fit leads.0 to notes leads.2 k d (omega (arith, within))

-- Texts of the same lines are the same.
pub same_text : (notes others : List Note) → map line_of notes ≡ map line_of others → text_of notes ≡ text_of others
same_text [] [] e = refl
same_text [] (n ∷ others) e = absurd (omega (arith, ap length e))
same_text (n ∷ notes) [] e = absurd (omega (arith, ap length e))
same_text (n ∷ notes) (o ∷ others) e =
    ap (λ line. line ++ text_of notes) (ap (λ lines. get_or lines 0 []) e) ∙ ap (λ text. line_of o ++ text) (same_text notes others (ap (λ lines. tail_of lines) e))
  where
    tail_of : List (List ℕ) → List (List ℕ)
    tail_of [] = []
    tail_of (line ∷ lines) = lines

-- One line more
pub same_more : (notes others : List Note) (k : ℕ) (d e : Note) → k < length notes → k < length others
    → take k (map line_of notes) ≡ take k (map line_of others) → line_of (get_or notes k d) ≡ line_of (get_or others k e)
    → take (k + 1) (map line_of notes) ≡ take (k + 1) (map line_of others)
same_more notes others k d e within there so_far same =
    take_more_same (map line_of notes) (map line_of others) k [] (omega (arith, within, length-map notes line_of)) (omega (arith, there, length-map others line_of))
    so_far (get_or-map line_of notes k d [] within ∙ same ∙ sym (get_or-map line_of others k e [] there))

-- Lists of different lengths differ first where the shorter one ends.
pub differ_at_end : (xs ys : List (List ℕ)) (k : ℕ) → k ≡ min (length xs) (length ys) → length xs ≢ length ys → take k xs ≡ take k ys → DifferFirst xs ys k
differ_at_end xs ys k least other same = (same, λ e. by (cases_lt (length ys) (length xs)) e)
  where
    longer : (short bs : List (List ℕ)) → length short ≤ k → k < length bs → slice_get short k ≡ slice_get bs k → ⊥
    longer short bs ends within e = absurd (omega (arith, ends, slice_get_within short k (get_or bs k []) (e ∙ slice_get-get_or bs k [] within)))

    by : (length ys < length xs) ⊎ (length xs ≤ length ys) → slice_get xs k ≡ slice_get ys k → ⊥
    by (inl less) e = longer ys xs (omega (arith, least, less)) (omega (arith, least, less)) (sym e)
    by (inr most) e = longer xs ys (omega (arith, least, most)) (omega (arith, least, most, other)) e

-- Each note of a log has room for its name.
pub log_fits : (text : List ℕ) (notes now : List Note) → now ≡ notes → IsText run_begins text notes → All Fits now
log_fits text notes now same is = subst (All Fits) (sym same) (notes_fit run_begins is.last notes is.leads)

-- Logs of the same lines are the same.
pub same_logs : (first second : List ℕ) (notes others a b : List Note) → a ≡ notes → b ≡ others → IsText run_begins first notes → IsText run_begins second others
    → map line_of a ≡ map line_of b → first ≡ second
same_logs first second notes others a b is_first is_second text other lines =
    text.whole ∙ sym (ap text_of is_first) ∙ same_text a b lines ∙ ap text_of is_second ∙ sym other.whole
