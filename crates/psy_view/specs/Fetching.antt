-- How the files that a request asks about are read, one behind the other.
use Rattle.std.specs.Prelude.{◌≡◌, ℕ, ◌<◌, ◌≤◌, true, List, [], ◌∷◌, Option, None, Some, length}
use Rattle.psy_door.specs.Faults.{Rose}
use Rattle.psy_door.specs.Files.{Files, WhereTold, bytes_under}
use Rattle.psy_view.specs.Asked.{File, of_run}
use Rattle.psy_export.specs.Refusals.{unread_line}
use Rattle.psy_view.specs.Refusals.{long_line}
use Rattle.psy_view.specs.declared.fetching.Fetched.{Fetched}
use Rattle.psy_view.specs.declared.fetching.Fetched.TheVariants as fetched
use Rattle.psy_view.specs.declared.fetching.FetchedRun.{FetchedRun}
use Rattle.psy_view.specs.declared.fetching.FetchedRun.TheVariants as run

-- The bytes of a file, where files are told, which are no more than it may have
abbrev pub IsTextOf : Option Files → File → List ℕ → Type 0
IsTextOf files file bytes = WhereTold files (λ told. bytes ≡ bytes_under told file.name) × (length bytes ≤ file.most)

-- The same for files, one behind the other
abbrev pub AreTexts : Option Files → List File → List (List ℕ) → Type 0
AreTexts files [] [] = Unit {0}
AreTexts files [] (bytes ∷ texts) = ⊥
AreTexts files (file ∷ more) [] = ⊥
AreTexts files (file ∷ more) (bytes ∷ texts) = IsTextOf files file bytes × AreTexts files more texts

-- The file has more bytes than are read together.
abbrev pub IsLong : Option Files → File → Type 0
IsLong files file = WhereTold files (λ told. file.most < length (bytes_under told file.name))

-- Of some files this one is come to: those before it were read, or are read piece by piece behind it.
pub data ComeTo (files : Option Files) : List File → File → Type 0 where
  first : (file : File) (more : List File) → ComeTo files (file ∷ more) file
  behind : (file : File) (bytes : List ℕ) (more : List File) (other : File) → IsTextOf files file bytes → ComeTo files more other
      → ComeTo files (file ∷ more) other
  behind_long : (file : File) (more : List File) (other : File) → file.in_pieces ≡ true → IsLong files file → ComeTo files more other
      → ComeTo files (file ∷ more) other

-- The status and the line for a file that couldn't be read, or that is too long
pub data IsUnread (files : Option Files) (before after : ℕ) (file : File) : ℕ → List ℕ → Type 0 where
  failed : Rose before after → IsUnread files before after file 3 (unread_line file.name)
  long : IsLong files file → IsUnread files before after file 1 (long_line file.name file.most)

-- What came of reading a file: its bytes, with no call that failed; or what is said in their place
abbrev pub Fetches : Option Files → ℕ → ℕ → File → Fetched → Type 0
Fetches files before after file (fetched.Text bytes) = IsTextOf files file bytes.items × (after ≡ before)
Fetches files before after file (fetched.Unread view) = IsUnread files before after file view.status view.text.items

-- What came of reading the file of a run: its bytes; that it is longer than is read together; or what is said in their place
abbrev pub FetchesRun : Option Files → ℕ → ℕ → List ℕ → FetchedRun → Type 0
FetchesRun files before after name (run.Read (Some bytes)) = IsTextOf files (of_run name) bytes.items × (after ≡ before)
FetchesRun files before after name (run.Read None) = IsLong files (of_run name) × (after ≡ before)
FetchesRun files before after name (run.Unread view) = Rose before after × (view.status ≡ 3) × (view.text.items ≡ unread_line name)
