-- The first name that isn't listed.
use Rattle.std.proofs.Common.{◌≡◌, ◌∙◌, ℕ, ◌+◌, ◌-◌, ◌^◌, ◌<◌, Bool, true, false, List, [], ◌∷◌, Option, None, Some, append-nil, cond, length, not, option_map, refl, sym, ap}
use Rattle.std.specs.List.{position, position_from}
use Rattle.std.proofs.lemmas.Iterator.Adapters.{position_from-zero}
use Rattle.psy_passes.specs.Listing.{agents_in, first_unlisted, streams_in, variables_in}
use Rattle.psy_passes.specs.Tables.{is_among}
use Rattle.psy_passes.specs.declared.listed.Listed.{Listed}
use Rattle.psy_log.specs.declared.note.Note.{Note}
use Rattle.psy_notes.specs.Stands.{run_begins}
use Rattle.psy_notes.specs.Texts.{IsText, text_of}
use Rattle.psy_passes.specs.NameChecks.{AreNamesOf}
use Rattle.psy_passes.specs.Runs.{tail_of}
use Rattle.psy_film.specs.Walks.{LooksThrough, first_other, found_or}

-- The law of names that are found
abbrev pub FoundUnlisted : Type 0
FoundUnlisted = (listed : Listed) (notes : List Note) → listed.agents ≡ agents_in notes → listed.variables ≡ variables_in notes → listed.streams ≡ streams_in notes
    → option_map (λ k. k + 1) (position (λ n. not (is_among listed n)) notes) ≡ first_unlisted notes

-- No note
pub none_yet : (listed : Listed) → LooksThrough listed [] 0 None
none_yet listed = record { counted = refl; goes_on = λ few more. refl }

-- One further
one_further : (t : Note → Bool) (i : ℕ) (notes : List Note) → option_map (λ k. k + 1) (position_from t i notes) ≡ position_from t (i + 1) notes
one_further t i [] = refl
one_further t i (n ∷ notes) = by (t n) (one_further t (i + 1) notes)
  where
    by : (b : Bool) → option_map (λ k. k + 1) (position_from t (i + 1) notes) ≡ position_from t (i + 1 + 1) notes
        → option_map (λ k. k + 1) (cond b (Some i) (position_from t (i + 1) notes)) ≡ cond b (Some (i + 1)) (position_from t (i + 1 + 1) notes)
    by true rest = refl
    by false rest = rest

or_none : (found : Option ℕ) → found_or found None ≡ found
or_none None = refl
or_none (Some number) = refl

-- What was found of a whole run is the first that its summary doesn't list.
pub found_first : FoundUnlisted → (listed : Listed) (tail : List ℕ) (notes : List Note) (count : ℕ) (found : Option ℕ) → AreNamesOf listed tail
    → IsText run_begins (text_of notes) notes → tail ≡ tail_of notes → length notes < 2 ^ 64 - 1 → LooksThrough listed notes count found
    → first_unlisted notes ≡ found
found_first law listed tail notes count found names read ends few looks =
    let own = names notes read ends in
    let t : Note → Bool = λ n. not (is_among listed n) in
    sym (law listed notes own.0 own.1 own.2) ∙ ap (option_map (λ k. k + 1)) (position_from-zero t notes) ∙ one_further t 0 notes
    ∙ ap (first_other listed 1) (sym (append-nil notes)) ∙ looks.goes_on few [] ∙ or_none found
