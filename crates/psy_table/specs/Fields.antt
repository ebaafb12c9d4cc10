-- Fields of a line, as RFC 4180 spells them.
use Rattle.std.specs.Prelude.{ℕ, ◌==◌, ◌||◌, Bool, List, [], ◌∷◌, ◌++◌, if◌then◌else◌}
use Rattle.std.specs.List.{flat_map, list_any}

-- A comma, a quote, a carriage return or a line feed
abbrev pub is_special : ℕ → Bool
is_special byte = byte == 44 || (byte == 34 || (byte == 13 || byte == 10))

-- A quote twice, and any other byte once
abbrev pub doubled : ℕ → List ℕ
doubled byte = if byte == 34 then 34 ∷ 34 ∷ [] else byte ∷ []

-- A field: in quotes where it has a special byte
abbrev pub spelled : List ℕ → List ℕ
spelled text = if list_any is_special text then 34 ∷ flat_map doubled text ++ 34 ∷ [] else text

-- Texts, each behind a comma
abbrev pub fields : List (List ℕ) → List ℕ
fields texts = flat_map (λ text. 44 ∷ text) texts
