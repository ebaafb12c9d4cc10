-- What tellers have told of notes in a row.
use Rattle.std.proofs.Common.{◌≡◌, ◌∙◌, refl, sym, ap, ℕ, ◌+◌, ◌≤◌, Bool, true, List, [], ◌∷◌, ◌++◌, length, None, option_map, length-append, arith}
use Rattle.psy_log.specs.declared.note.Note.{Note}
use Rattle.psy_passes.specs.declared.listed.Listed.{Listed}
use Rattle.psy_passes.specs.Tables.{is_among}
use Rattle.psy_passes.specs.declared.reading.TheConstants.{LINES}
use Rattle.psy_passes.specs.Telling.{Told, told_nothing, told_more}
use Rattle.psy_passes.specs.declared.name_check.NameCheck.{NameCheck}
use Rattle.psy_passes.specs.declared.strict.Strict.{Strict}
use Rattle.psy_passes.specs.NameChecks.{Looks, TellsListed, first_other, with_next}
use Rattle.psy_passes.proofs.Firsts.{all_more, number_more}

-- What was found of the names of notes
abbrev Found : Listed → List Note → NameCheck → Type 0
Found listed notes new = (new.listed.now ≡ listed) × (new.notes ≡ length notes) × (new.unlisted ≡ option_map (λ k. k + 1) (first_other listed notes))

pub names_found : (old : NameCheck) (notes : List Note) (text : List ℕ) (new : NameCheck) → Told Looks old notes text new → old.notes ≡ 0 → old.unlisted ≡ None
    → length notes ≤ LINES → Found old.listed.now notes new
names_found old _ _ _ told_nothing none nowhere few = (refl, none, nowhere)
names_found old _ _ _ (told_more notes text now note piece next before looks) none nowhere few =
    let count : length (notes ++ note ∷ []) ≡ length notes + 1 = length-append notes (note ∷ []) in
    let found = names_found old notes text now before none nowhere (omega (arith, few, count)) in
    let number : next.notes ≡ length notes + 1 = looks.2 ∙ omega (arith, found.1, few, count) in
    let passes : Note → Bool = is_among old.listed.now in (
      looks.1 ∙ found.0,
      number ∙ sym count,
      looks.3 ∙ ap (λ o. with_next o (is_among now.listed.now note) next.notes) found.2
          ∙ ap (λ l. with_next (option_map (λ k. k + 1) (first_other old.listed.now notes)) (is_among l note) next.notes) found.0
          ∙ ap (λ n. with_next (option_map (λ k. k + 1) (first_other old.listed.now notes)) (passes note) n) number ∙ sym (number_more passes notes note),
    )

-- What was told of notes whose names are listed
abbrev Listed_told : {T : Type 0} → (T → Note → List ℕ → T → Type 0) → Strict T → List Note → List ℕ → Strict T → Type 0
Listed_told tells old notes text new = (new.listed ≡ old.listed) × (first_other old.listed notes ≡ None) × Told tells old.inner notes text new.inner

pub strictly_told : {T : Type 0} (tells : T → Note → List ℕ → T → Type 0) (old : Strict T) (notes : List Note) (text : List ℕ) (new : Strict T)
    → Told (TellsListed tells) old notes text new → Listed_told tells old notes text new
strictly_told tells old _ _ _ told_nothing = (refl, refl, told_nothing)
strictly_told tells old _ _ _ (told_more notes text now note piece next before told) =
    let so_far = strictly_told tells old notes text now before in
    let among : is_among old.listed note ≡ true = ap (λ l. is_among l note) (sym so_far.0) ∙ told.0 in
    (told.1 ∙ so_far.0, all_more (is_among old.listed) notes note so_far.1 among, told_more notes text now.inner note piece next.inner so_far.2 told.2)
