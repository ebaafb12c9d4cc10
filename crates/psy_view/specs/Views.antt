-- The view of texts that a request asks for: the status, and what is written.
use Rattle.std.specs.Prelude.{◌≡◌, ℕ, ℤ, ◌-◌, ◌<◌, List, [], ◌∷◌, ◌++◌, length, take, codes, Option, None, Some}
use Rattle.std.specs.List.{slice_get}
use Rattle.psy_base.specs.declared.limits.TheConstants.{LINES}
use Rattle.psy_log.specs.declared.note.Note.{Note}
use Rattle.psy_log.specs.Forms.{limit_line, refused_line}
use Rattle.psy_text.specs.Lines.{lines_of}
use Rattle.psy_notes.specs.Stands.{run_begins, graph_begins}
use Rattle.psy_notes.specs.declared.stand.Stand.{Stand}
use Rattle.psy_notes.specs.Texts.{IsText, BreaksAt}
use Rattle.psy_passes.specs.declared.fault.PassFault.{PassFault}
use Rattle.psy_passes.specs.declared.fault.PassFault.TheVariants as fault
use Rattle.psy_passes.specs.Listing as listing
use Rattle.psy_passes.specs.Logs.{IsLog}
use Rattle.psy_table.specs.Rows.{csv_of}
use Rattle.psy_wave.specs.Changes.{vcd_of}
use Rattle.psy_differ.specs.Differences.{Differs}
use Rattle.psy_claims.specs.declared.fault.Slip.{Slip}
use Rattle.psy_claims.specs.Claims.{WrongAt}
use Rattle.psy_claims.specs.Outcome.{IsTried}
use Rattle.psy_where.specs.Explained.{Explains, IsNone, IsBeyond}
use Rattle.psy_draw.specs.Folded.{folded_of}
use Rattle.psy_draw.specs.Graph.{dot_of}
use Rattle.psy_draw.specs.Dates.{last_date}
use Rattle.psy_draw.specs.Listing.{first_unasked, first_unlisted}
use Rattle.psy_draw.specs.Pictures.{IsPicture}
use Rattle.psy_draw.specs.Places.{window_end}
use Rattle.psy_draw.specs.declared.window.Window.{Window}
use Rattle.psy_draw.specs.Knowledge.{Knowledge, nothing}
use Rattle.psy_match.specs.Belonging.{foreign_in_graph, foreign_in_run}
use Rattle.psy_match.specs.Feeding.{AreFed}
use Rattle.psy_match.specs.Points.{point_lines}
use Rattle.psy_match.specs.Homes.{homes_in}
use Rattle.psy_match.specs.Knowledge.{knowledge_in}
use Rattle.psy_script.specs.Faults.{HasManyLines, IsFirst, line_number}
use Rattle.psy_script.specs.Inputs.{AreListsOf, inputs_judge}
use Rattle.psy_script.specs.declared.fault.LineKind.{LineKind}
use Rattle.psy_tree.specs.declared.token.Token.{Token}
use Rattle.psy_tree.specs.declared.unit.Unit.{Unit as Whole}
use Rattle.psy_tree.specs.Tokens.{TokensOf}
use Rattle.psy_plan.specs.declared.refusal.Refusal.{Refusal}
use Rattle.psy_plan.specs.Lines.{line_of}
use Rattle.psy_plan.specs.Programs.{IsProgram, IsRefused}
use Rattle.psy_feed.specs.Drawing.{flow_of}
use Rattle.psy_gen.specs.Emission.{code_of}
use Rattle.psy_listing.specs.Listing.{listing_of}
use Rattle.psy_report.specs.Asked.{AreAsked}
use Rattle.psy_report.specs.Measured.{IsUnmeasured}
use Rattle.psy_report.specs.Reports.{IsReport}
use Rattle.psy_view.specs.Asked.{Request, Where, Timeline, TimelineOf, TimelineWith, Dot, DotOf, Table, Dump, Flow, Listing, Report, Difference, Expectation}
use Rattle.psy_export.specs.Refusals.{unlisted_line}
use Rattle.psy_view.specs.Refusals.{no_refusal_line, beyond_line, broken_text, unknown_line, empty_line, foreign_line, wrong_line}

-- Why no picture is drawn of a run with these notes, and what is told of that: it has a name that its summary doesn't list, the summary doesn't list a name
-- that was asked for, or the window is empty
pub data IsUnshown (name : List ℕ) (window : Window) (names : List (List ℕ)) (notes : List Note) : List ℕ → Type 0 where
  unlisted : (line : ℕ) → first_unlisted notes ≡ Some line → IsUnshown name window names notes (unlisted_line name line)
  unknown : (place : ℕ) (asked : List ℕ) → first_unlisted notes ≡ None → first_unasked notes names ≡ Some place → slice_get names place ≡ Some asked
      → IsUnshown name window names notes (unknown_line name asked)
  empty : first_unlisted notes ≡ None → first_unasked notes names ≡ None → window_end window (last_date notes) < window.from
      → IsUnshown name window names notes (empty_line name window.from window.to)

-- What is told of a run with these notes, of which a window and these names are to be drawn: the picture; or why there is none
pub data IsShown (name : List ℕ) (window : Window) (knowledge : Knowledge) (names : List (List ℕ)) (notes : List Note) : ℕ → List ℕ → Type 0 where
  drawn : (svg : List ℕ) → IsPicture name window knowledge names notes svg → IsShown name window knowledge names notes 0 svg
  undrawn : (told : List ℕ) → IsUnshown name window names notes told → IsShown name window knowledge names notes 1 told

-- What is told of a text that is to be drawn: what is told of its notes; or that it isn't what `psyc run` writes
pub data IsDrawn (name : List ℕ) (window : Window) (names : List (List ℕ)) (bytes : List ℕ) : ℕ → List ℕ → Type 0 where
  of_notes : (notes : List Note) (status : ℕ) (text : List ℕ) → IsText run_begins bytes notes → IsShown name window nothing names notes status text
      → IsDrawn name window names bytes status text
  no_run : (line : ℕ) → BreaksAt run_begins bytes line → IsDrawn name window names bytes 1 (broken_text name line (codes "run") bytes)

-- The text isn't what `psyc run` writes, or it has a name that its summary doesn't list; the line that says so, with the name of its file
pub data IsNoLog (name bytes : List ℕ) : List ℕ → Type 0 where
  broken : (line : ℕ) → BreaksAt run_begins bytes line → IsNoLog name bytes (broken_text name line (codes "run") bytes)
  has_unlisted : (notes : List Note) (line : ℕ) → IsText run_begins bytes notes → listing.first_unlisted notes ≡ Some line
      → IsNoLog name bytes (unlisted_line name line)

-- Why a text of these bytes isn't read as a log
abbrev pub IsFaultOf : List ℕ → PassFault → Type 0
IsFaultOf bytes (fault.Line line) = BreaksAt run_begins bytes line
IsFaultOf bytes (fault.Unlisted line) = (notes : List Note) × IsText run_begins bytes notes × (listing.first_unlisted notes ≡ Some line)
IsFaultOf bytes fault.Memory = Unit {0}
IsFaultOf bytes other = ⊥

-- What is told of two texts: nothing of logs that are the same; the first line in which logs differ; or the first line of one that isn't in form
pub data IsCompared (name other first second : List ℕ) : ℕ → List ℕ → Type 0 where
  same : (notes : List Note) → IsText run_begins first notes → first ≡ second → IsCompared name other first second 0 []
  differs : (text : List ℕ) → Differs first second text → IsCompared name other first second 1 text
  first_breaks : (line : ℕ) → BreaksAt run_begins first line → IsCompared name other first second 1 (broken_text name line (codes "run") first)
  second_breaks : (notes : List Note) (line : ℕ) → IsText run_begins first notes → BreaksAt run_begins second line
      → IsCompared name other first second 1 (broken_text other line (codes "run") second)

-- What is told of a log and of assertions: nothing where the run keeps all; the first that it doesn't; or the first line that is wrong
pub data IsExpected (name claims log text : List ℕ) : ℕ → List ℕ → Type 0 where
  kept : (notes : List Note) → IsLog log notes → IsTried claims notes text None → IsExpected name claims log text 0 []
  unkept : (notes : List Note) (told : List ℕ) → IsLog log notes → IsTried claims notes text (Some told) → IsExpected name claims log text 1 told
  wrong : (notes : List Note) (line : ℕ) (slip : Slip) → IsLog log notes → WrongAt notes 1 (lines_of text) line slip
      → IsExpected name claims log text 1 (wrong_line claims line slip)
  no_log : (told : List ℕ) → IsNoLog name log told → IsExpected name claims log text 1 told

-- A line without its last byte, which is its line feed
abbrev pub without_feed : List ℕ → List ℕ
without_feed line = take (length line - 1) line

-- What `where` tells of a line, over a text of these bytes in a file of this name: its explanation, and behind it what each agent of a processor may ask
-- for, where the line tells of a demand that this one can't supply; or why there is none
pub data IsWhere (name line bytes : List ℕ) : ℕ → List ℕ → Type 0 where
  explained : (text asked : List ℕ) → Explains name bytes line text → AreAsked bytes line asked → IsWhere name line bytes 0 (text ++ asked)
  no_refusal : IsNone line → IsWhere name line bytes 1 (no_refusal_line name)
  beyond : IsBeyond bytes line → IsWhere name line bytes 1 (beyond_line name)

-- What is told of a text that psyc refuses by this line: what `where` tells of the line, without its line feed
abbrev pub IsTold : List ℕ → List ℕ → List ℕ → List ℕ → Type 0
IsTold name bytes line text = (status : ℕ) × IsWhere name (without_feed line) bytes status text

-- ---- what psyc wrote, and a program

-- The bytes are what psyc wrote, and those are of this program, by `foreign`, which tells the first note that isn't.
pub record IsPair (begins : Stand) (foreign : Whole → List Note → Option ℕ) (bytes text : List ℕ) (notes : List Note) (unit : Whole) : Type 0 where
  pub written : IsText begins bytes notes
  pub program : IsProgram text unit
  pub own : foreign unit notes ≡ None

-- Why there is no such pair, and what is told of it: the first bytes aren't what that command of psyc writes, the second are of no program, or what
-- was written is of another one
pub data IsUnpaired (begins : Stand) (command : List ℕ) (foreign : Whole → List Note → Option ℕ) (name program bytes text : List ℕ) : List ℕ → Type 0 where
  breaks : (line : ℕ) → BreaksAt begins bytes line → IsUnpaired begins command foreign name program bytes text (broken_text name line command bytes)
  no_program : (notes : List Note) (refusal : Refusal) (told : List ℕ) → IsText begins bytes notes → IsRefused text refusal
      → IsTold program text (line_of refusal) told → IsUnpaired begins command foreign name program bytes text told
  is_foreign : (notes : List Note) (unit : Whole) (line : ℕ) → IsText begins bytes notes → IsProgram text unit → foreign unit notes ≡ Some line
      → IsUnpaired begins command foreign name program bytes text (foreign_line name line program)

-- The same of a run, and of a graph
abbrev pub IsRunPair : List ℕ → List ℕ → List Note → Whole → Type 0
IsRunPair bytes text notes unit = IsPair run_begins foreign_in_run bytes text notes unit

abbrev pub IsRunUnpaired : List ℕ → List ℕ → List ℕ → List ℕ → List ℕ → Type 0
IsRunUnpaired name program bytes text told = IsUnpaired run_begins (codes "run") foreign_in_run name program bytes text told

abbrev pub IsGraphPair : List ℕ → List ℕ → List Note → Whole → Type 0
IsGraphPair bytes text notes unit = IsPair graph_begins foreign_in_graph bytes text notes unit

abbrev pub IsGraphUnpaired : List ℕ → List ℕ → List ℕ → List ℕ → List ℕ → Type 0
IsGraphUnpaired name program bytes text told = IsUnpaired graph_begins (codes "graph") foreign_in_graph name program bytes text told

-- The lines of a program's points, by its tokens
abbrev pub AreLines : List ℕ → List (List (List ℕ)) → Type 0
AreLines text lines = (tokens : List Token) × TokensOf text tokens × (lines ≡ point_lines text tokens)

-- The line with which psyc refuses a text as inputs of a program
pub data RefusesInputs (unit : Whole) (fed : List ℕ) : List ℕ → Type 0 where
  at_line : (kind : LineKind) (line : ℕ) → IsFirst (inputs_judge unit) fed kind line
      → RefusesInputs unit fed (refused_line (codes "inputs") (line_number kind) (Some line))
  many_lines : HasManyLines fed → RefusesInputs unit fed (limit_line (codes "lines") LINES)

-- What is told of a run with these notes, by its program and inputs: the picture, with what the inputs publish behind the notes; why there is none; or why
-- the inputs are refused
pub data IsFed (name inputs : List ℕ) (window : Window) (names : List (List ℕ)) (notes : List Note) (unit : Whole) (fed : List ℕ) : ℕ → List ℕ → Type 0 where
  with_inputs : (lists : List (List ℤ)) (more : List Note) (svg : List ℕ) → AreListsOf unit fed lists → AreFed unit lists notes more
      → IsPicture name window (knowledge_in unit notes) names (notes ++ more) svg → IsFed name inputs window names notes unit fed 0 svg
  undrawn_with : (lists : List (List ℤ)) (told : List ℕ) → AreListsOf unit fed lists → IsUnshown name window names notes told
      → IsFed name inputs window names notes unit fed 1 told
  no_inputs : (line told : List ℕ) → RefusesInputs unit fed line → IsTold inputs fed line told → IsFed name inputs window names notes unit fed 1 told

-- ---- pictures of runs, however long they are

-- The notes are a run of the program with this text.
pub record IsOwnRun (text : List ℕ) (unit : Whole) (notes : List Note) : Type 0 where
  pub program : IsProgram text unit
  pub own : foreign_in_run unit notes ≡ None

-- Why they are none, and what is told of that: the text is of no program, or they are a run of another one
pub data IsOtherRun (name program text : List ℕ) (notes : List Note) : List ℕ → Type 0 where
  no_program_there : (refusal : Refusal) (told : List ℕ) → IsRefused text refusal → IsTold program text (line_of refusal) told
      → IsOtherRun name program text notes told
  of_another : (unit : Whole) (line : ℕ) → IsProgram text unit → foreign_in_run unit notes ≡ Some line
      → IsOtherRun name program text notes (foreign_line name line program)

-- The request is for a picture of the run in the file of this name.
abbrev pub IsForRun : Request → List ℕ → Type 0
IsForRun (Timeline log window names) name = log ≡ name
IsForRun (TimelineOf log program window names) name = log ≡ name
IsForRun (TimelineWith log program inputs window names) name = log ≡ name
IsForRun _ name = ⊥

-- What is told of a run with these notes, of which a picture is asked for, by the texts of the files behind its log
pub data IsToldOfNotes (notes : List Note) : Request → List (List ℕ) → ℕ → List ℕ → Type 0 where
  alone : (name : List ℕ) (window : Window) (names : List (List ℕ)) (status : ℕ) (told : List ℕ) → IsShown name window nothing names notes status told
      → IsToldOfNotes notes (Timeline name window names) [] status told
  by_program : (name program : List ℕ) (window : Window) (names : List (List ℕ)) (text : List ℕ) (unit : Whole) (status : ℕ) (told : List ℕ)
      → IsOwnRun text unit notes → IsShown name window (knowledge_in unit notes) names notes status told
      → IsToldOfNotes notes (TimelineOf name program window names) (text ∷ []) status told
  by_other : (name program : List ℕ) (window : Window) (names : List (List ℕ)) (text told : List ℕ) → IsOtherRun name program text notes told
      → IsToldOfNotes notes (TimelineOf name program window names) (text ∷ []) 1 told
  by_inputs : (name program inputs : List ℕ) (window : Window) (names : List (List ℕ)) (text fed : List ℕ) (unit : Whole) (status : ℕ) (told : List ℕ)
      → IsOwnRun text unit notes → IsFed name inputs window names notes unit fed status told
      → IsToldOfNotes notes (TimelineWith name program inputs window names) (text ∷ fed ∷ []) status told
  with_other : (name program inputs : List ℕ) (window : Window) (names : List (List ℕ)) (text fed told : List ℕ) → IsOtherRun name program text notes told
      → IsToldOfNotes notes (TimelineWith name program inputs window names) (text ∷ fed ∷ []) 1 told

-- What is told where a picture is asked for: what is told of the notes that the file of its run is read as; or what is told where it isn't read as a run
pub data IsTimeline (IsRead : List ℕ → List Note → Type 0) (IsUnread : List ℕ → List ℕ → Type 0) (request : Request) (texts : List (List ℕ))
    : ℕ → List ℕ → Type 0 where
  of_a_run : (name : List ℕ) (notes : List Note) (status : ℕ) (told : List ℕ) → IsForRun request name → IsRead name notes
      → IsToldOfNotes notes request texts status told → IsTimeline IsRead IsUnread request texts status told
  of_no_run : (name told : List ℕ) → IsForRun request name → IsUnread name told → IsTimeline IsRead IsUnread request texts 1 told

-- The text isn't what `psyc run` writes; the line that says so, with the name of its file
pub data IsNoRun (bytes name : List ℕ) : List ℕ → Type 0 where
  broken_at : (line : ℕ) → BreaksAt run_begins bytes line → IsNoRun bytes name (broken_text name line (codes "run") bytes)

-- The view, of texts of these bytes, that a request asks for; of a program that is refused, what `where` tells of the line
pub data ViewOf : Request → List (List ℕ) → ℕ → List ℕ → Type 0 where
  where_told : (name line bytes : List ℕ) (status : ℕ) (text : List ℕ) → IsWhere name line bytes status text → ViewOf (Where name line) (bytes ∷ []) status text
  timeline : (request : Request) (bytes : List ℕ) (texts : List (List ℕ)) (status : ℕ) (text : List ℕ)
      → IsTimeline (λ name notes. IsText run_begins bytes notes) (IsNoRun bytes) request texts status text → ViewOf request (bytes ∷ texts) status text
  dotted : (name bytes : List ℕ) (notes : List Note) → IsText graph_begins bytes notes → ViewOf (Dot name) (bytes ∷ []) 0 (dot_of notes)
  no_graph : (name bytes : List ℕ) (line : ℕ) → BreaksAt graph_begins bytes line
      → ViewOf (Dot name) (bytes ∷ []) 1 (broken_text name line (codes "graph") bytes)
  dotted_of : (name program bytes text : List ℕ) (notes : List Note) (unit : Whole) (lines : List (List (List ℕ))) → IsGraphPair bytes text notes unit
      → AreLines text lines → ViewOf (DotOf name program) (bytes ∷ text ∷ []) 0 (folded_of (homes_in unit) lines notes)
  undotted_of : (name program bytes text told : List ℕ) → IsGraphUnpaired name program bytes text told
      → ViewOf (DotOf name program) (bytes ∷ text ∷ []) 1 told
  tabled : (name bytes : List ℕ) (notes : List Note) → IsLog bytes notes → ViewOf (Table name) (bytes ∷ []) 0 (csv_of notes)
  no_table : (name bytes told : List ℕ) → IsNoLog name bytes told → ViewOf (Table name) (bytes ∷ []) 1 told
  dumped : (name bytes : List ℕ) (notes : List Note) → IsLog bytes notes → ViewOf (Dump name) (bytes ∷ []) 0 (vcd_of notes)
  no_dump : (name bytes told : List ℕ) → IsNoLog name bytes told → ViewOf (Dump name) (bytes ∷ []) 1 told
  flows : (name bytes : List ℕ) (unit : Whole) → IsProgram bytes unit → ViewOf (Flow name) (bytes ∷ []) 0 (flow_of unit)
  no_flow : (name bytes : List ℕ) (refusal : Refusal) (text : List ℕ) → IsRefused bytes refusal → IsTold name bytes (line_of refusal) text
      → ViewOf (Flow name) (bytes ∷ []) 1 text
  lists : (name bytes : List ℕ) (unit : Whole) (lines : List (List (List ℕ))) → IsProgram bytes unit → AreLines bytes lines
      → ViewOf (Listing name) (bytes ∷ []) 0 (listing_of unit (code_of unit) lines)
  no_listing : (name bytes : List ℕ) (refusal : Refusal) (text : List ℕ) → IsRefused bytes refusal → IsTold name bytes (line_of refusal) text
      → ViewOf (Listing name) (bytes ∷ []) 1 text
  reports : (name bytes : List ℕ) (until : ℕ) (unit : Whole) (text : List ℕ) → IsProgram bytes unit → IsReport unit until text
      → ViewOf (Report name until) (bytes ∷ []) 0 text
  no_report : (name bytes : List ℕ) (until : ℕ) (refusal : Refusal) (text : List ℕ) → IsRefused bytes refusal → IsTold name bytes (line_of refusal) text
      → ViewOf (Report name until) (bytes ∷ []) 1 text
  unmeasured : (name bytes : List ℕ) (until : ℕ) (unit : Whole) (refusal : Refusal) (text : List ℕ) → IsProgram bytes unit
      → IsUnmeasured unit until refusal → IsTold name bytes (line_of refusal) text → ViewOf (Report name until) (bytes ∷ []) 1 text
  compared : (name other first second : List ℕ) (status : ℕ) (text : List ℕ) → IsCompared name other first second status text
      → ViewOf (Difference name other) (first ∷ second ∷ []) status text
  expected : (name claims log text : List ℕ) (status : ℕ) (told : List ℕ) → IsExpected name claims log text status told
      → ViewOf (Expectation name claims) (log ∷ text ∷ []) status told
