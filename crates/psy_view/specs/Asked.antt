-- What the words of the command line ask for.
use Rattle.std.specs.Prelude.{◌≡◌, ℕ, ◌≤◌, ◌==◌, ◌||◌, Bool, true, false, not, List, [], ◌∷◌, ◌++◌, Some, codes}
use Rattle.std.specs.List.{list_all, list_any}
use Rattle.psy_base.specs.declared.limits.TheConstants.{FILE_BYTES, UNTIL}
use Rattle.psy_draw.specs.declared.window.Window.{Window}
use Rattle.psy_draw.specs.declared.window.TheConstants.Window.{WHOLE}
use Rattle.psy_text.specs.Words.{is_number, number_of}
use Rattle.psy_view.specs.declared.asked.TheConstants.{TEXT_BYTES}
use Rattle.psy_view.specs.declared.help.TheConstants.{HELP, VERSION}

-- A request, with the names of its files; a line that is to be explained is told in the words behind the name
pub data Request : Type 0 where
  Where : (name line : List ℕ) → Request
  Timeline : (name : List ℕ) (window : Window) (names : List (List ℕ)) → Request
  TimelineOf : (name program : List ℕ) (window : Window) (names : List (List ℕ)) → Request
  TimelineWith : (name program inputs : List ℕ) (window : Window) (names : List (List ℕ)) → Request
  Dot : (name : List ℕ) → Request
  DotOf : (name program : List ℕ) → Request
  Table : (name : List ℕ) → Request
  Dump : (name : List ℕ) → Request
  Flow : (name : List ℕ) → Request
  Listing : (name : List ℕ) → Request
  Report : (name : List ℕ) (until : ℕ) → Request
  Difference : (name other : List ℕ) → Request
  Expectation : (name claims : List ℕ) → Request

-- Words as they stood in one line, a space between two
abbrev pub line_of_words : List (List ℕ) → List ℕ
line_of_words [] = []
line_of_words (word ∷ []) = word
line_of_words (word ∷ words) = word ++ codes " " ++ line_of_words words

-- The word is a date up to which a program may run: a number of 1 to 12 digits, at most 1,000,000
pub record IsDate (word : List ℕ) (date : ℕ) : Type 0 where
  pub value : number_of word ≡ Some date
  pub most : date ≤ UNTIL

-- The word is that of a file: it has a `.` or a `/`, as no name and no date has.
abbrev pub is_file : List ℕ → Bool
is_file word = list_any (λ b. b == 46 || b == 47) word

-- The word is a name: it is no date and no file.
abbrev pub is_name : List ℕ → Bool
is_name word = not (is_number word || is_file word)

-- Words select the dates of a window, and names: they are two dates and names, or names alone, of all dates.
pub data Select (words : List (List ℕ)) : Window → List (List ℕ) → Type 0 where
  of_all_dates : list_all is_name words ≡ true → Select words WHOLE words
  of_two_dates : (from to : List ℕ) (first last : ℕ) (names : List (List ℕ)) → words ≡ from ∷ to ∷ names
      → number_of from ≡ Some first → number_of to ≡ Some last → list_all is_name names ≡ true
      → Select words (record { from = first; to = last }) names

-- Words select nothing.
abbrev pub SelectNothing : List (List ℕ) → Type 0
SelectNothing words = (window : Window) (names : List (List ℕ)) → Select words window names → ⊥

-- The first of some words is that of a file.
abbrev pub begins_with_file : List (List ℕ) → Bool
begins_with_file [] = false
begins_with_file (word ∷ words) = is_file word

-- The words ask for this: `where PROG LINE..`, `timeline LOG [PROG [INPUTS]] [FROM TO] [NAME..]`, `dot GRAPH [PROG]`, `csv LOG`, `vcd LOG`, `flow PROG`,
-- `list PROG`, `report PROG UNTIL`, `diff LOG LOG` or `expect LOG FILE`
pub data Asks (words : List (List ℕ)) : Request → Type 0 where
  asks_where : (name word : List ℕ) (more : List (List ℕ)) → words ≡ codes "where" ∷ name ∷ word ∷ more → Asks words (Where name (line_of_words (word ∷ more)))
  asks_timeline : (name : List ℕ) (more : List (List ℕ)) (window : Window) (names : List (List ℕ)) → words ≡ codes "timeline" ∷ name ∷ more
      → Select more window names → Asks words (Timeline name window names)
  asks_timeline_of : (name program : List ℕ) (more : List (List ℕ)) (window : Window) (names : List (List ℕ)) → words ≡ codes "timeline" ∷ name ∷ program ∷ more
      → is_file program ≡ true → Select more window names → Asks words (TimelineOf name program window names)
  asks_timeline_with : (name program inputs : List ℕ) (more : List (List ℕ)) (window : Window) (names : List (List ℕ))
      → words ≡ codes "timeline" ∷ name ∷ program ∷ inputs ∷ more → is_file program ≡ true → is_file inputs ≡ true → Select more window names
      → Asks words (TimelineWith name program inputs window names)
  asks_dot : (name : List ℕ) → words ≡ codes "dot" ∷ name ∷ [] → Asks words (Dot name)
  asks_dot_of : (name program : List ℕ) → words ≡ codes "dot" ∷ name ∷ program ∷ [] → Asks words (DotOf name program)
  asks_table : (name : List ℕ) → words ≡ codes "csv" ∷ name ∷ [] → Asks words (Table name)
  asks_dump : (name : List ℕ) → words ≡ codes "vcd" ∷ name ∷ [] → Asks words (Dump name)
  asks_flow : (name : List ℕ) → words ≡ codes "flow" ∷ name ∷ [] → Asks words (Flow name)
  asks_listing : (name : List ℕ) → words ≡ codes "list" ∷ name ∷ [] → Asks words (Listing name)
  asks_report : (name date : List ℕ) (until : ℕ) → words ≡ codes "report" ∷ name ∷ date ∷ [] → IsDate date until → Asks words (Report name until)
  asks_difference : (name other : List ℕ) → words ≡ codes "diff" ∷ name ∷ other ∷ [] → Asks words (Difference name other)
  asks_expectation : (name claims : List ℕ) → words ≡ codes "expect" ∷ name ∷ claims ∷ [] → Asks words (Expectation name claims)

-- The words ask for no view
abbrev pub AskNoView : List (List ℕ) → Type 0
AskNoView words = (request : Request) → Asks words request → ⊥

-- The words ask for this text: for help, which no words ask for too, or for the version
pub data AskForText (words : List (List ℕ)) : List ℕ → Type 0 where
  for_help_by_none : words ≡ [] → AskForText words HELP.now
  for_help : words ≡ codes "--help" ∷ [] → AskForText words HELP.now
  for_version : words ≡ codes "--version" ∷ [] → AskForText words VERSION.now

-- The words are of no listed form
abbrev pub AskNothing : List (List ℕ) → Type 0
AskNothing words = AskNoView words × ((text : List ℕ) → AskForText words text → ⊥)

-- A file that is asked about: its name, how many bytes of it are read together, and whether it may have more, and is read piece by piece then
pub record File : Type 0 where
  pub name : List ℕ
  pub most : ℕ
  pub in_pieces : Bool

-- The file of this name, which may have so many bytes
abbrev pub file_of : List ℕ → ℕ → File
file_of name most = record { name = name; most = most; in_pieces = false }

-- A file that someone wrote: it may have as many bytes as psyc reads
abbrev pub by_hand : List ℕ → File
by_hand name = file_of name FILE_BYTES

-- A file that psyc wrote: it may have 16,777,216 bytes
abbrev pub by_psyc : List ℕ → File
by_psyc name = file_of name TEXT_BYTES

-- The file of a run that is drawn or handed on: so many bytes are read together, and it may have more
abbrev pub of_run : List ℕ → File
of_run name = record { name = name; most = TEXT_BYTES; in_pieces = true }

-- The files that are asked about, in the order in which they are read
abbrev pub files_of : Request → List File
files_of (Where name line) = by_hand name ∷ []
files_of (Timeline name window names) = of_run name ∷ []
files_of (TimelineOf name program window names) = of_run name ∷ by_hand program ∷ []
files_of (TimelineWith name program inputs window names) = of_run name ∷ by_hand program ∷ by_hand inputs ∷ []
files_of (Dot name) = by_psyc name ∷ []
files_of (DotOf name program) = by_psyc name ∷ by_hand program ∷ []
files_of (Table name) = of_run name ∷ []
files_of (Dump name) = of_run name ∷ []
files_of (Flow name) = by_hand name ∷ []
files_of (Listing name) = by_hand name ∷ []
files_of (Report name until) = by_hand name ∷ []
files_of (Difference name other) = by_psyc name ∷ by_psyc other ∷ []
files_of (Expectation name claims) = by_psyc name ∷ by_hand claims ∷ []
