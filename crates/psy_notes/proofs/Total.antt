-- Each text is one of notes or breaks at a line.
use Rattle.std.proofs.Common.{◌≡◌, ◌≢◌, inl, inr, ℕ, zero, suc, ◌+◌, ◌≤◌, Bool, true, false, List, [], ◌∷◌, ◌++◌, length, refl, sym, ap, ◌∙◌, append_assoc, arith}
use Rattle.psy_log.specs.declared.note.Note.{Note}
use Rattle.psy_log.specs.Forms.{line_of}
use Rattle.psy_notes.specs.declared.stand.Stand.{Stand}
use Rattle.psy_notes.specs.Stands.{may_end}
use Rattle.psy_notes.specs.Texts.{Steps, text_of, IsText, BreaksAt}
use Rattle.psy_notes.proofs.Lines.{length-line}

-- No notes have this text from this stand on
abbrev NoText : Stand → List ℕ → Type 0
NoText from text = (notes : List Note) → IsText from text notes → ⊥

-- The text breaks nowhere
abbrev NoBreak : Stand → List ℕ → Type 0
NoBreak from text = (line : ℕ) → BreaksAt from text line → ⊥

-- A text without bytes ends or breaks at its first line
either_empty : (from : Stand) (ends : Bool) → may_end from ≡ ends → NoText from [] → NoBreak from [] → ⊥
either_empty from true is no_text no_break = no_text [] (record { last = from; leads = refl; ends = is; whole = refl })
either_empty from false is no_text no_break = no_break 1 (record { notes = []; rest = []; last = from; leads = refl; cut = refl; stuck = inl (refl, is); number = refl })

-- A text breaks at its first line where nothing goes on there
at_first : (from : Stand) (text : List ℕ) → text ≢ [] → ((note : Note) (to : Stand) (more : List ℕ) → Steps from note to → text ≢ line_of note ++ more) → BreaksAt from text 1
at_first from text some none = record { notes = []; rest = text; last = from; leads = refl; cut = refl; stuck = inr (some, none); number = refl }

-- One line more in front of a whole text, and of one that breaks
text_behind : (from : Stand) (text : List ℕ) (note : Note) (to : Stand) (more : List ℕ) → Steps from note to → text ≡ line_of note ++ more → NoText from text → NoText to more
text_behind from text note to more steps is no_text notes read = no_text (note ∷ notes) (record { last = read.last; leads = (to, steps, read.leads); ends = read.ends; whole = is ∙ ap (λ t. line_of note ++ t) read.whole })

break_behind : (from : Stand) (text : List ℕ) (note : Note) (to : Stand) (more : List ℕ) → Steps from note to → text ≡ line_of note ++ more → NoBreak from text → NoBreak to more
break_behind from text note to more steps is no_break line breaks =
    no_break (line + 1) (record {
      notes = note ∷ breaks.notes;
      rest = breaks.rest;
      last = breaks.last;
      leads = (to, steps, breaks.leads);
      cut = is ∙ ap (λ t. line_of note ++ t) breaks.cut ∙ sym (append_assoc (line_of note) (text_of breaks.notes) breaks.rest);
      stuck = breaks.stuck;
      number = omega (arith, breaks.number);
    })

either_within : (most : ℕ) (from : Stand) (text : List ℕ) → length text ≤ most → NoText from text → NoBreak from text → ⊥
either_within most from [] within no_text no_break = either_empty from (may_end from) refl no_text no_break
either_within zero from (b ∷ text) within no_text no_break = omega arith
either_within (suc most) from (b ∷ text) within no_text no_break =
    no_break 1 (at_first from (b ∷ text) (λ e. omega (arith, ap length e)) (λ note to more steps is.
    either_within most to more (omega (arith, length-line note more steps.0, ap length is, within)) (text_behind from (b ∷ text) note to more steps is no_text) (break_behind from (b ∷ text) note to more steps is no_break)))

pub either : (first : Stand) (text : List ℕ) → NoText first text → NoBreak first text → ⊥
either first text no_text no_break = either_within (length text) first text (omega arith) no_text no_break
