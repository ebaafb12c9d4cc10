-- How the first pair with a name is found, in a list of files and in the map that it makes.
use Rattle.std.proofs.Common.{◌≡◌, ◌∙◌, ap, refl, ℕ, List, [], ◌∷◌, map, true, false, cond, Some, Vec, Global, bytes_eq}
use Rattle.std.specs.Prelude.{option_map, find}
use Rattle.std.specs.Ordering.{nat_cmp}
use Rattle.std.specs.Cmp.Lexicographic.{slice_cmp, nat_list_cmp_total}
use Rattle.std.specs.FinMap as m
use Rattle.std.proofs.lemmas.Map.Text.{is_eq-slice_cmp}
use Rattle.psy_door.specs.Files.{Pairs, files_of, named}

-- The lists of a name and a file, as pairs of bytes
abbrev pub pairs : List (List ℕ × Vec ℕ Global) → Pairs
pairs = map (λ p. (p.0, p.1.items))

pub named_map : (name : List ℕ) (files : List (List ℕ × Vec ℕ Global)) → named name (pairs files) ≡ option_map (λ p. p.1.items) (find (λ p. bytes_eq name p.0) files)
named_map name [] = refl
named_map name (f ∷ fs) =
    elim (bytes_eq name f.0) as (λ b. option_map (λ p. p.1) (cond b (Some (f.0, f.1.items)) (find (λ p. bytes_eq name p.0) (pairs fs))) ≡ option_map (λ p. p.1.items) (cond b (Some f) (find (λ p. bytes_eq name p.0) fs))) [
      | true ↦ refl
      | false ↦ named_map name fs
    ]

find_named : (name : List ℕ) (ps : Pairs) → m.find (slice_cmp nat_cmp) name ps ≡ named name ps
find_named name [] = refl
find_named name (p ∷ ps) =
    ap (λ b. cond b (Some p.1) (m.find (slice_cmp nat_cmp) name ps)) (is_eq-slice_cmp name p.0)
    ∙ elim (bytes_eq name p.0) as (λ b. cond b (Some p.1) (m.find (slice_cmp nat_cmp) name ps) ≡ option_map (λ p. p.1) (cond b (Some p) (find (λ p. bytes_eq name p.0) ps))) [
      | true ↦ refl
      | false ↦ find_named name ps
    ]

pub get_files_of : (pairs : Pairs) (name : List ℕ) → m.get (files_of pairs) name ≡ named name pairs
get_files_of pairs name = m.get-from_entries nat_list_cmp_total pairs name ∙ find_named name pairs
