-- What is written for a refusal: where it is, what it means, the line, and a mark below.
use Rattle.std.specs.Prelude.{◌≡◌, ℕ, List, ◌++◌, take, drop, codes, decimal, Option, None, Some}
use Rattle.std.specs.List.{prefix_len}
use Rattle.psy_show.specs.Lines.{shown, shown_line}
use Rattle.psy_tree.specs.Lexemes.{is_in_word}
use Rattle.psy_text.specs.Lines.{without_return}
use Rattle.psy_where.specs.declared.recall.What.{What}
use Rattle.psy_where.specs.declared.recall.What.TheVariants.{Inputs, Script}
use Rattle.psy_where.specs.declared.recall.Refusal.{Refusal}
use Rattle.psy_where.specs.Places.{told_column}
use Rattle.psy_spot.specs.Spots.{line_at, before_at, behind_at}
use Rattle.psy_where.specs.Refusals.{IsNoRefusal, IsPlaceOf, IsRefusal}
use Rattle.psy_where.specs.declared.lack.Lack.{Lack}
use Rattle.psy_where.specs.declared.plain.Plain.{Plain}
use Rattle.psy_where.specs.Helps.{IsHelp}
use Rattle.psy_where.specs.Lacks.{IsLack, lack_sentence}
use Rattle.psy_where.specs.Plains.{IsPlain, plain_sentence}
use Rattle.psy_where.specs.declared.written.Written.{Written}
use Rattle.psy_where.specs.Writings.{IsWritten, written_sentence}

-- How many columns of a line, from the place on, are marked: those of a word or a number that begins there, or all of a line of inputs or of a script
abbrev pub marked : What → List ℕ → Option ℕ
marked Inputs line = None
marked Script line = None
marked what line = Some (prefix_len is_in_word line)

-- The line from a place on, without its carriage return
abbrev pub rest_at : List ℕ → ℕ → List ℕ
rest_at text place = without_return (behind_at text place)

-- `NAME:LINE:COLUMN: SENTENCE`, the line around the place, and carets under what is marked
abbrev pub explanation : List ℕ → List ℕ → What → List ℕ → ℕ → List ℕ
explanation name text what sentence place =
    shown name ++ codes ":" ++ decimal (line_at text place) ++ codes ":" ++ decimal (told_column text place) ++ codes ": " ++ sentence ++ codes "\n"
    ++ shown_line (before_at text place) (rest_at text place) (marked what (rest_at text place))

-- `NAME: SENTENCE`
abbrev pub sentence_line : List ℕ → List ℕ → List ℕ
sentence_line name sentence = shown name ++ codes ": " ++ sentence ++ codes "\n"

-- What is written for a refusal of the text in a file of this name: its place is where it says, and help stands below.
abbrev pub IsPlaced : List ℕ → List ℕ → Refusal → List ℕ → List ℕ → Type 0
IsPlaced name text refusal sentence answer =
    (place : ℕ) × (help : List ℕ) × IsPlaceOf refusal.what text refusal.at place
    × IsHelp text (take place text) (drop place text) (rest_at text place) refusal help
    × (answer ≡ explanation name text refusal.what sentence place ++ help)

-- The line is one that psyc writes, and this explains it: of a refusal that tells a place in the text of a file of this name, of another line with which psyc
-- refuses, or of one that refuses nothing.
pub data Explains (name text line answer : List ℕ) : Type 0 where
  of_place : (refusal : Refusal) (sentence : List ℕ) → IsRefusal line refusal sentence → IsPlaced name text refusal sentence answer
      → Explains name text line answer
  of_plain : (plain : Plain) → IsPlain line plain → answer ≡ sentence_line name (plain_sentence plain) → Explains name text line answer
  of_lack : (lack : Lack) → IsLack line lack → answer ≡ sentence_line name (lack_sentence lack) → Explains name text line answer
  of_written : (written : Written) → IsWritten line written → answer ≡ sentence_line name (written_sentence written) → Explains name text line answer

-- The line says no note that psyc writes, or none of which anything is told.
pub record IsNone (line : List ℕ) : Type 0 where
  pub refusal : IsNoRefusal line
  pub plain : (plain : Plain) → IsPlain line plain → ⊥
  pub lack : (lack : Lack) → IsLack line lack → ⊥
  pub written : (written : Written) → IsWritten line written → ⊥

-- The line is a refusal, but the text has no such place.
abbrev pub IsBeyond : List ℕ → List ℕ → Type 0
IsBeyond text line =
    (refusal : Refusal) × (sentence : List ℕ) × IsRefusal line refusal sentence × ((place : ℕ) → IsPlaceOf refusal.what text refusal.at place → ⊥)
