-- The bytes of a file that is the only one.
use Rattle.std.proofs.Common.{◌≡◌, ◌∙◌, refl, ap, ℕ, Bool, List, [], ◌∷◌, true, false, cond, Some, None, bytes_eq}
use Rattle.std.specs.Prelude.{option_map, unwrap_or}
use Rattle.std.proofs.lemmas.Slice.Eq.{bytes_eq-Decides}
use Rattle.psy_door.specs.Files.{bytes_under, files_of}
use Rattle.psy_door.proofs.lemmas.FilesLemmas.{get_files_of}

found : (file : List ℕ × List ℕ) (same : Bool) → unwrap_or (option_map (λ p. p.1) (cond same (Some file) None)) [] ≡ cond same file.1 []
found file true = refl
found file false = refl

-- Under a name stand its bytes, where it is that of the file.
pub bytes_of_one : (name text other : List ℕ) → bytes_under (files_of ((name, text) ∷ [])) other ≡ cond (bytes_eq other name) text []
bytes_of_one name text other = ap (λ found. unwrap_or found []) (get_files_of ((name, text) ∷ []) other) ∙ found (name, text) (bytes_eq other name)

-- Under its own name stand its bytes.
pub own : (name text : List ℕ) → bytes_under (files_of ((name, text) ∷ [])) name ≡ text
own name text = bytes_of_one name text name ∙ ap (λ b. cond b text []) ((bytes_eq-Decides name name).1 refl)
