-- The last of some values.
use Rattle.std.proofs.Common.{◌≡◌, ℕ, Bool, true, false, cond, List, [], ◌∷◌, ◌++◌, Option, None, Some, bytes_eq, refl, sym, ap, ◌∙◌, append-nil}
use Rattle.std.specs.List.{flat_map}
use Rattle.psy_log.specs.declared.note.Note.{Note}
use Rattle.psy_draw.specs.Columns.{Dated, dated}
use Rattle.psy_draw.specs.declared.values.Said.{Said}
use Rattle.psy_draw.specs.Gathering.{first_values}
use Rattle.psy_draw.specs.Lanes.{last_alone, values_before}
use Rattle.psy_draw.specs.Told.{said_of}
use Rattle.psy_draw.proofs.Fed.{tells_more}

-- The last of some values and one more is that one.
last_is : (values : List Dated) (v : Dated) → last_alone (values ++ v ∷ []) ≡ v ∷ []
last_is [] v = refl
last_is (a ∷ []) v = refl
last_is (a ∷ b ∷ values) v = last_is (b ∷ values) v

-- Of one that may stay out
last_or : (b : Bool) (v : Dated) (values : List Dated) → cond b (v ∷ []) (last_alone values) ≡ last_alone (values ++ cond b (v ∷ []) [])
last_or true v values = sym (last_is values v)
last_or false v values = ap last_alone (sym (append-nil values))

-- With one more note
first_more : (from : ℕ) (notes : List Note) (n : Note) (name : List ℕ) (more : List Dated) → more ≡ values_before from name n
    → last_alone (flat_map (values_before from name) notes ++ more) ≡ first_values from (notes ++ n ∷ []) name
first_more from notes n name more is =
    ap (λ vs. last_alone (flat_map (values_before from name) notes ++ vs)) is ∙ ap last_alone (sym (tells_more (values_before from name) notes n))

-- A note that tells a value
pub first_said : (from : ℕ) (notes : List Note) (n : Note) (name : List ℕ) (result : Option Said) (said : Said) → result ≡ Some said → said_of name result ≡ values_before from name n
    → cond (bytes_eq said.name.now name) (dated said.told.date said.told.value ∷ []) (first_values from notes name) ≡ first_values from (notes ++ n ∷ []) name
first_said from notes n name result said is tells =
    last_or (bytes_eq said.name.now name) (dated said.told.date said.told.value) (flat_map (values_before from name) notes)
    ∙ first_more from notes n name (said_of name (Some said)) (sym (ap (said_of name) is) ∙ tells)

-- And one that tells none
pub first_unsaid : (from : ℕ) (notes : List Note) (n : Note) (name : List ℕ) (result : Option Said) → result ≡ None → said_of name result ≡ values_before from name n
    → first_values from notes name ≡ first_values from (notes ++ n ∷ []) name
first_unsaid from notes n name result is tells =
    ap last_alone (sym (append-nil (flat_map (values_before from name) notes))) ∙ first_more from notes n name [] (sym (ap (said_of name) is) ∙ tells)
