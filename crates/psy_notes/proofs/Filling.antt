-- A line is read place by place.
use Rattle.std.proofs.Common.{◌≡◌, ℕ, false, List, [], ◌∷◌, ◌++◌, length, map, refl, sym, ap, subst, ◌∙◌, append_assoc, append-nil, arith}
use Rattle.psy_tree.specs.Lexemes.{Each}
use Rattle.psy_log.specs.declared.form.Field.{Field}
use Rattle.psy_log.specs.Table.{Place, Word, Any, Said, end_before, place_of, spell, words, written}
use Rattle.psy_notes.specs.Notes.{Fills}
use Rattle.psy_notes.specs.Reading.{end_of, is_plain, ArePlain, FillsOne}
use Rattle.psy_notes.proofs.Lines.{one_word}
use Rattle.psy_notes.proofs.Plain.{plain_written}

-- Something fills these places in the line at the front of a text.
abbrev pub FillsFront : List Place → List ℕ → Type 0
FillsFront places text = (said : List Said) × (more : List ℕ) × Fills places said × (text ≡ spell (words places said) more)

-- So much was said at the places before those that are left, and the rest stands behind: what fills what is left there fills all, and something that
-- fills all leaves something to fill them.
pub record Halfway (places : List Place) (text : List ℕ) (done : List Said) (left : List Place) (rest : List ℕ) : Type 0 where
  pub on : (said : List Said) (more : List ℕ) → Fills left said → rest ≡ spell (words left said) more
      → Fills places (done ++ said) × (text ≡ spell (words places (done ++ said)) more)
  pub back : FillsFront places text → FillsFront left rest
  pub plain : ArePlain left

pub at_first : (places : List Place) (text : List ℕ) → ArePlain places → Halfway places text [] places text
at_first places text plain = record { on = λ said more fills is. (fills, is); back = λ front. front; plain = plain }

pub at_last : (places : List Place) (text : List ℕ) (done : List Said) (rest : List ℕ) → Halfway places text done [] rest → Fills places done × (text ≡ spell (words places done) rest)
at_last places text done rest half =
    let all = half.on [] rest tt refl in
    (subst (Fills places) (append-nil done) all.0, all.1 ∙ ap (λ said. spell (words places said) rest) (append-nil done))

end_same : (places : List Place) (said : List Said) → Fills places said → end_before (words places said) ≡ end_of places
end_same [] said fills = refl
end_same (Word word ∷ places) said fills = refl
end_same (Any what ∷ places) [] fills = absurd fills
end_same (Any what ∷ places) (next ∷ said) fills = refl

pub end_of-not_plain : (places : List Place) → is_plain (end_of places) ≡ false
end_of-not_plain [] = refl
end_of-not_plain (place ∷ places) = refl

-- A place's word and its end, in front of what fills the others
spelled : (word : List ℕ) (places : List Place) (said : List Said) (more : List ℕ) → Fills places said
    → word ++ end_of places ∷ spell (words places said) more ≡ spell (word ∷ words places said) more
spelled word places said more fills = ap (λ end. word ++ end ∷ spell (words places said) more) (sym (end_same places said fills))

module _ (places : List Place) (text : List ℕ) (done : List Said) (left : List Place) (rest word behind : List ℕ) where
  -- Where nothing fills what is left, nothing fills all
  pub stuck : (place : Place) → Halfway places text done (place ∷ left) rest → (FillsFront (place ∷ left) rest → ⊥) → (said : List Said) (more : List ℕ) → Fills places said → text ≡ spell (words places said) more → ⊥
  stuck place half none said more fills is = none (half.back (said, more, fills, is))

  -- What fills the front begins with a word that fills the first place, and its end
  abbrev FrontWord : Place → Type 0
  FrontWord place = (first : List ℕ) × (old new : List Said) × (more : List ℕ) × Each is_plain first × (rest ≡ first ++ end_of left ∷ more) × FillsOne place first old new × FillsFront left more

  front_by : (place : Place) (said : List Said) (more : List ℕ) → ArePlain (place ∷ left) → Fills (place ∷ left) said → rest ≡ spell (words (place ∷ left) said) more → FrontWord place
  front_by (Word own) said more plain fills is =
      (own, [], [], spell (words left said) more, plain.0, is ∙ sym (spelled own left said more fills), (refl, refl), (said, more, fills, refl))
  front_by (Any what) [] more plain fills is = absurd fills
  front_by (Any what) (next ∷ said) more plain fills is =
      (written next, [], next ∷ [], spell (words left said) more, plain_written what next fills.0, is ∙ sym (spelled (written next) left said more fills.1), (next, fills.0, refl, refl), (said, more, fills.1, refl))

  front_word : (place : Place) → ArePlain (place ∷ left) → FillsFront (place ∷ left) rest → FrontWord place
  front_word place plain front = front_by place front.0 front.1 plain front.2 front.3

  -- No word with that end
  pub no_word : (place : Place) → Halfway places text done (place ∷ left) rest → ((first more : List ℕ) → Each is_plain first → rest ≡ first ++ end_of left ∷ more → ⊥) → FillsFront (place ∷ left) rest → ⊥
  no_word place half none front = let first = front_word place half.plain front in none first.0 first.3 first.4 first.5

  -- A word that doesn't fill the place
  pub no_filling : (place : Place) → Halfway places text done (place ∷ left) rest → Each is_plain word → rest ≡ word ++ end_of left ∷ behind → ((old new : List Said) → FillsOne place word old new → ⊥) → FillsFront (place ∷ left) rest → ⊥
  no_filling place half plain is none front =
      let first = front_word place half.plain front in
      let one = one_word word first.0 (end_of left) (end_of left) behind first.3 plain first.4 (end_of-not_plain left) (end_of-not_plain left) (sym is ∙ first.5) in
      none first.1 first.2 (subst (λ w. FillsOne place w first.1 first.2) (sym one.0) first.6)

  fill_on : (place : Place) (now : List Said) → FillsOne place word done now → (said : List Said) → Fills left said
      → (whole : List Said) × (now ++ said ≡ done ++ whole) × Fills (place ∷ left) whole × (words (place ∷ left) whole ≡ word ∷ words left said)
  fill_on (Word own) now fill said fills = (said, ap (λ s. s ++ said) fill.1, fills, ap (λ w. w ∷ words left said) (sym fill.0))
  fill_on (Any what) now fill said fills =
      (fill.0 ∷ said, ap (λ s. s ++ said) fill.3 ∙ append_assoc done (fill.0 ∷ []) said, (fill.1, fills), ap (λ w. w ∷ words left said) (sym fill.2))

  -- One place more
  pub one_more : (place : Place) (now : List Said) → Halfway places text done (place ∷ left) rest → Each is_plain word → rest ≡ word ++ end_of left ∷ behind → FillsOne place word done now → Halfway places text now left behind
  one_more place now half plain is fill = record {
    on = λ said more fills read. (
        let whole = fill_on place now fill said fills in
        let spells = is ∙ ap (λ b. word ++ end_of left ∷ b) read ∙ spelled word left said more fills ∙ ap (λ ws. spell ws more) (sym whole.3) in
        let all = half.on whole.0 more whole.2 spells in
        (subst (Fills places) (sym whole.1) all.0, all.1 ∙ ap (λ s. spell (words places s) more) (sym whole.1)));
    back = λ front. (
        let first = front_word place half.plain (half.back front) in
        let one = one_word word first.0 (end_of left) (end_of left) behind first.3 plain first.4 (end_of-not_plain left) (end_of-not_plain left) (sym is ∙ first.5) in
        subst (FillsFront left) (sym one.2) first.7);
    plain = half.plain.1;
  }

-- No fields are no places
pub no_fields : (fields : List Field) → length fields ≡ 0 → map place_of fields ≡ []
no_fields [] is = refl
no_fields (field ∷ fields) is = absurd (omega (arith, is))
