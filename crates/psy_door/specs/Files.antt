-- What a shelf holds, where it tells it.
use Rattle.std.specs.Prelude.{ℕ, ◌+◌, List, [], min, Option, None, Some, unwrap_or, option_map, find, bytes_eq}
use Rattle.std.specs.Ordering.{nat_cmp}
use Rattle.std.specs.Cmp.Lexicographic.{slice_cmp}
use Rattle.std.specs.FinMap.{FinMap, get, from_entries}

-- Files by name: a finite map from the bytes of a name to the bytes of the file
abbrev pub Files : Type 0
Files = FinMap (slice_cmp nat_cmp) (List ℕ)

-- The bytes of the file with this name, and none where there is no such file
abbrev pub bytes_under : Files → List ℕ → List ℕ
bytes_under files name = unwrap_or (get files name) []

-- The fact holds of the files, where they are told
abbrev pub WhereTold : Option Files → (Files → Type 0) → Type 0
WhereTold None P = Unit {0}
WhereTold (Some files) P = P files

-- Files as pairs of a name and its bytes
abbrev pub Pairs : Type 0
Pairs = List (List ℕ × List ℕ)

-- The files that these pairs list; of two with one name the first stands
abbrev pub files_of : Pairs → Files
files_of pairs = from_entries pairs

-- The bytes of the first pair with this name
abbrev pub named : List ℕ → Pairs → Option (List ℕ)
named name pairs = option_map (λ p. p.1) (find (λ p. bytes_eq name p.0) pairs)

-- The bytes that a call takes from a file of so many, where it may have so many: all, but at most one more than it may have
abbrev pub taken_of : ℕ → ℕ → ℕ
taken_of most bytes = min bytes (most + 1)
