-- Names that are read one behind the other, each another than all before it.
use Rattle.std.proofs.Common.{◌≡◌, ◌∙◌, ℕ, zero, suc, false, List, [], ◌∷◌, ◌++◌, Some, refl, sym, ap, inl, inr, arith}
use Rattle.std.specs.Prelude.{bytes_eq, slice_get}
use Rattle.std.specs.List.{All, list_any}
use Rattle.std.proofs.lemmas.Bool.{false≢true}
use Rattle.std.proofs.lemmas.List.Elements.{All-push}
use Rattle.std.proofs.lemmas.Map.Keys.{any_passes_from_place}
use Rattle.std.proofs.lemmas.Slice.Eq.{bytes_eq-Decides}
use Rattle.psy_tree.specs.declared.token.Kind.TheVariants as kinds
use Rattle.psy_tree.specs.Lexemes.{IsSpelling}
use Rattle.psy_tree.proofs.lemmas.Lists.{slice_get-either}
use Rattle.psy_meaning.specs.Units.{AllDiffer, IsName}

-- What spells a name is one.
pub name_of : (text : List ℕ) → IsSpelling (kinds.Name text) text → IsName text
name_of text (same, word, short, free) = (word, short)

-- Names that differ
pub record AreNames (names : List (List ℕ)) : Type 0 where
  pub each : All IsName names
  pub differ : AllDiffer names

absent : (names : List (List ℕ)) (name : List ℕ) (i : ℕ) → list_any (bytes_eq name) names ≡ false → slice_get names i ≡ Some name → ⊥
absent names name i new at =
    false≢true (sym new ∙ any_passes_from_place (bytes_eq name) names i name at ((bytes_eq-Decides name name).1 refl))

-- Where one stands, it is an earlier one, or the last.
at_last : (x name : List ℕ) (j : ℕ) → slice_get (x ∷ []) j ≡ Some name → (j ≡ 0) × (x ≡ name)
at_last x name zero at = (refl, cc)
at_last x name (suc j) at = cc

differ_push : (names : List (List ℕ)) (x : List ℕ) → AllDiffer names → list_any (bytes_eq x) names ≡ false → AllDiffer (names ++ x ∷ [])
differ_push names x old new i j name at_i at_j = elim (slice_get-either names (x ∷ []) i name at_i) [
  | inl own_i ↦ elim (slice_get-either names (x ∷ []) j name at_j) [
    | inl own_j ↦ old i j name own_i own_j
    | inr (k, is, last) ↦ absurd (absent names x i new (own_i ∙ ap Some (sym (at_last x name k last).1)))
  ]
  | inr (k, is, last) ↦ elim (slice_get-either names (x ∷ []) j name at_j) [
    | inl own_j ↦ absurd (absent names x j new (own_j ∙ ap Some (sym (at_last x name k last).1)))
    | inr (m, same, end) ↦ omega (arith, is, same, (at_last x name k last).0, (at_last x name m end).0)
  ]
]

pub names_push : (names : List (List ℕ)) (x : List ℕ) → AreNames names → IsName x → list_any (bytes_eq x) names ≡ false → AreNames (names ++ x ∷ [])
names_push names x old name new = record {
  each = All-push IsName names x old.each name;
  differ = differ_push names x old.differ new;
}
