-- What was read from words.
use Rattle.std.specs.Prelude.{◌≡◌, ℕ, List, map, string_bytes}
use Rattle.psy_base.specs.declared.limits.TheConstants.{FILE_BYTES}
use Rattle.psy_draw.specs.declared.window.Window.{Window}
use Rattle.psy_export.specs.declared.forms.Format.{Format}
use Rattle.psy_export.specs.declared.forms.Format.TheVariants as format
use Rattle.psy_view.specs.declared.asked.Asked.{Asked as Read}
use Rattle.psy_view.specs.declared.asked.Asked.TheVariants as read
use Rattle.psy_view.specs.declared.asked.One.{One}
use Rattle.psy_view.specs.declared.asked.One.TheVariants as one
use Rattle.psy_view.specs.declared.asked.Selection.{Selection}
use Rattle.psy_view.specs.declared.asked.Two.{Two}
use Rattle.psy_view.specs.declared.asked.Two.TheVariants as two
use Rattle.psy_view.specs.declared.asked.TheConstants.{TEXT_BYTES}
use Rattle.psy_view.specs.Asked.{Request, Where, Timeline, TimelineOf, TimelineWith, Dot, DotOf, Table, Dump, Flow, Listing, Report, Difference, Expectation}
use Rattle.psy_view.specs.Asked.{Select, line_of_words}

-- The names that are selected
abbrev pub names_in : Selection → List (List ℕ)
names_in selection = map string_bytes selection.names.now

-- The request for a view of one file of this name
abbrev pub request_of_one : List ℕ → One → Request
request_of_one name (one.Where words) = Where name (line_of_words (map string_bytes words.now))
request_of_one name one.Dot = Dot name
request_of_one name one.Flow = Flow name
request_of_one name one.List = Listing name
request_of_one name (one.Report until) = Report name until

-- These dates and names are selected.
abbrev pub Selects : Window → List (List ℕ) → Selection → Type 0
Selects window names selection = (selection.window ≡ window) × (names_in selection ≡ names)

-- What words select
abbrev pub IsSelected : List (List ℕ) → Selection → Type 0
IsSelected words selection = Select words selection.window (names_in selection)

-- The request for a view of two files of these names
abbrev pub request_of_two : List ℕ → List ℕ → Two → Request
request_of_two name other two.Diff = Difference name other
request_of_two name other two.Expect = Expectation name other
request_of_two name other two.Dot = DotOf name other

-- The request for the run in the file of this name in a format
abbrev pub request_of_export : List ℕ → Format → Request
request_of_export name format.Table = Table name
request_of_export name format.Dump = Dump name

-- The request that was read from words
abbrev pub request_of : Read → Request
request_of (read.One name view) = request_of_one name.now view
request_of (read.Timeline name selection) = Timeline name.now selection.window (names_in selection)
request_of (read.Export name to) = request_of_export name.now to
request_of (read.Two name other view) = request_of_two name.now other.now view
request_of (read.Owned name program selection) = TimelineOf name.now program.now selection.window (names_in selection)
request_of (read.Fed name program inputs selection) = TimelineWith name.now program.now inputs.now selection.window (names_in selection)

-- How many bytes the one file may have
abbrev pub most_of_one : One → ℕ
most_of_one (one.Where words) = FILE_BYTES
most_of_one one.Flow = FILE_BYTES
most_of_one one.List = FILE_BYTES
most_of_one (one.Report until) = FILE_BYTES
most_of_one _ = TEXT_BYTES

-- How many bytes the second of two files may have
abbrev pub most_of_other : Two → ℕ
most_of_other two.Diff = TEXT_BYTES
most_of_other _ = FILE_BYTES
