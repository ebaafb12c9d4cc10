-- How the top call ends, clause by clause.
use Rattle.std.proofs.Common.{◌≡◌, ◌≢◌, ◌∙◌, sym, ap, subst, refl, ℕ, ◌+◌, ◌==◌, List, [], Bool, true, false, Option, None, Some, ◌⊎◌, inl, inr, IfSome, ℤ, arith}
use Rattle.std.proofs.lemmas.Bool.Decides.{nat_tests}
use Rattle.psy_base.specs.declared.sizes.Sizes.{Sizes}
use Rattle.psy_door.specs.Faults.{Rose}
use Rattle.psy_door.specs.Files.{Files}
use Rattle.psy_door.specs.Growth.{Grew, GrewByFront}
use Rattle.psy_dates.specs.declared.opening.Opening.{Opening as State}
use Rattle.psy_history.specs.Actions.{System}
use Rattle.psy_history.specs.declared.told.Script.{Script as Said}
use Rattle.psy_kernel.specs.declared.stage.Stage.TheVariants.{Over}
use Rattle.psy_kernel.specs.Progress.{Progress, stage_of}
use Rattle.psy_log.specs.Forms.{read_line}
use Rattle.psy_make.specs.Text.{made_text}
use Rattle.psy_snap.specs.Forms.{form_of}
use Rattle.psy_tree.specs.declared.unit.Unit.{Unit as Whole}
use Rattle.psy_plan.specs.declared.refusal.Refusal.{Refusal as Cause}
use Rattle.psy_plan.specs.declared.refusal.Refusal.TheVariants.{Lexical, Syntax, Deep, Rule, Many, Nodes, Edges, Ring, Queue, Cells, Infeasible}
use Rattle.psy_run.specs.declared.refusal.File.{File}
use Rattle.psy_run.specs.declared.refusal.File.TheVariants.{Program, Image as ImageFile, Inputs, Script, Trace as TraceFile, State as StateFile}
use Rattle.psy_run.specs.declared.refusal.Refusal.{Refusal}
use Rattle.psy_run.specs.declared.refusal.Refusal.TheVariants.{Words, TooLong, Unplanned, Line, Lines, Cycles, Image, Code, Large, Trace, LongTrace, State as BadState, LongState, Busy}
use Rattle.psy_run.specs.declared.refusal.Stop.{Stop}
use Rattle.psy_run.specs.declared.refusal.Stop.TheVariants as stop
use Rattle.psy_run.specs.Answer.{Answers, refused, served, translating, compiling, supplying, supplying_by, listing, scripting, serving, answering}
use Rattle.psy_run.specs.Asked.{Command, Asks, AskNothing, Run, Check, Graph, Make, Trial, Build, Exec, Audit, Trace as Tracing, Save, Resume}
use Rattle.psy_run.specs.Bounds.{IsBounded}
use Rattle.psy_run.specs.Courses.{Course, in_row}
use Rattle.psy_run.specs.Outcome.{Halts, halts_refused, halts_unread, halts_memory, Seen, coming, IsUnread, MayAnswer, may_refuse, may_miss, may_serve, Ends, ends_memory, ends_said, ends_cut, Says}
use Rattle.psy_run.specs.Refusals.{status_of, line_of, file_name}
use Rattle.psy_run.specs.Services.{Service, Ran, Checked, Drawn, Made, Tried, Built, Executed, Audited, Traced, Saved, Resumed, HasRun, Leaves, compiled_plan, meaning_of, no_inputs, no_script, state_text, text_of, trace_by}
use Rattle.psy_run.specs.Steps.{reading, auditing, judged_by, decoding, verifying, imaging, graphing, costing, pacing, fitting, holding, leaving, resting, restoring}

-- ---- the statuses of refusals

-- 2 for the words alone, and else 1, 5, 6, 7 or 9
data IsStatus : Refusal → ℕ → Type 0 where
  of_words : IsStatus Words 2
  of_other : (refusal : Refusal) (status : ℕ) → status ≢ 0 → status ≢ 2 → status ≢ 3 → status ≢ 4 → status ≢ 8 → IsStatus refusal status

one : (refusal : Refusal) → IsStatus refusal 1
one refusal = of_other refusal 1 (λ e. absurd (omega arith)) (λ e. absurd (omega arith)) (λ e. absurd (omega arith)) (λ e. absurd (omega arith)) (λ e. absurd (omega arith))

five : (refusal : Refusal) → IsStatus refusal 5
five refusal = of_other refusal 5 (λ e. absurd (omega arith)) (λ e. absurd (omega arith)) (λ e. absurd (omega arith)) (λ e. absurd (omega arith)) (λ e. absurd (omega arith))

six : (refusal : Refusal) → IsStatus refusal 6
six refusal = of_other refusal 6 (λ e. absurd (omega arith)) (λ e. absurd (omega arith)) (λ e. absurd (omega arith)) (λ e. absurd (omega arith)) (λ e. absurd (omega arith))

seven : (refusal : Refusal) → IsStatus refusal 7
seven refusal = of_other refusal 7 (λ e. absurd (omega arith)) (λ e. absurd (omega arith)) (λ e. absurd (omega arith)) (λ e. absurd (omega arith)) (λ e. absurd (omega arith))

planned_status : (cause : Cause) → IsStatus (Unplanned cause) (status_of (Unplanned cause))
planned_status (Lexical kind place) = one (Unplanned (Lexical kind place))
planned_status (Syntax token) = one (Unplanned (Syntax token))
planned_status (Deep token) = one (Unplanned (Deep token))
planned_status (Rule kind token) = one (Unplanned (Rule kind token))
planned_status (Many count) = seven (Unplanned (Many count))
planned_status Nodes = seven (Unplanned Nodes)
planned_status Edges = seven (Unplanned Edges)
planned_status Ring = seven (Unplanned Ring)
planned_status Queue = seven (Unplanned Queue)
planned_status Cells = seven (Unplanned Cells)
planned_status (Infeasible length demand supply processor) = five (Unplanned (Infeasible length demand supply processor))

is_status : (refusal : Refusal) → IsStatus refusal (status_of refusal)
is_status Words = of_words
is_status (TooLong file) = seven (TooLong file)
is_status (Unplanned cause) = planned_status cause
is_status (Line file kind line) = six (Line file kind line)
is_status Lines = seven Lines
is_status Cycles = seven Cycles
is_status (Image place) = one (Image place)
is_status (Code number place) = one (Code number place)
is_status Large = seven Large
is_status (Trace number line) = six (Trace number line)
is_status LongTrace = seven LongTrace
is_status (BadState number place) = six (BadState number place)
is_status LongState = seven LongState
is_status (Busy name) = of_other (Busy name) 9 (λ e. absurd (omega arith)) (λ e. absurd (omega arith)) (λ e. absurd (omega arith)) (λ e. absurd (omega arith)) (λ e. absurd (omega arith))

not_by : (refusal : Refusal) (status answer : ℕ) → IsStatus refusal status → answer ≢ 2 → (answer ≡ 0) ⊎ ((answer ≡ 3) ⊎ ((answer ≡ 4) ⊎ (answer ≡ 8))) → status ≢ answer
not_by _ _ answer of_words two which e = two (sym e)
not_by _ _ answer (of_other refusal status a b c d f) two which e = elim which [
  | inl zero ↦ a (e ∙ zero)
  | inr (inl three) ↦ c (e ∙ three)
  | inr (inr (inl four)) ↦ d (e ∙ four)
  | inr (inr (inr eight)) ↦ f (e ∙ eight)
]

some_by : (refusal : Refusal) (status : ℕ) → IsStatus refusal status → status ≢ 0
some_by _ _ of_words zero = absurd (omega (arith, zero))
some_by _ _ (of_other refusal status a b c d f) zero = a zero

-- No refusal is answered by 0.
pub status_some : (refusal : Refusal) → status_of refusal ≢ 0
status_some refusal = some_by refusal (status_of refusal) (is_status refusal)

two_by : (refusal : Refusal) (status : ℕ) → IsStatus refusal status → status ≡ 2 → refusal ≡ Words
two_by _ _ of_words e = refl
two_by _ _ (of_other refusal status a b c d f) e = absurd (b e)

-- ---- from a stop, and from what is served, to an end

ends_by : (seen : Seen) (old now : Option (List ℕ)) (before after answer status : ℕ) (text : List ℕ) → MayAnswer seen status text None → Says old now before after answer status text → Ends seen old now before after answer None
ends_by seen old now before after answer status text may (inl (is, grew)) = subst (λ s. Ends seen old now before after s None) (sym is) (ends_said status text None may grew)
ends_by seen old now before after answer status text may (inr (four, rose, front)) = subst (λ s. Ends seen old now before after s None) (sym four) (ends_cut status text None may rose front)

pub ends_stopped : (seen : Seen) (old now : Option (List ℕ)) (before after answer : ℕ) (at : Stop) → Halts (coming seen) seen.failed seen.before seen.after at
    → (at ≡ stop.Memory → (command : Command) × Asks seen.words command)
    → ((refusal : Refusal) → at ≡ stop.Refused refusal → Says old now before after answer (status_of refusal) (line_of refusal))
    → ((file : File) → at ≡ stop.Unread file → Says old now before after answer 3 (read_line (file_name file)))
    → (at ≡ stop.Memory → (answer ≡ 8) × Grew old now [])
    → Ends seen old now before after answer None
ends_stopped seen old now before after answer _ (halts_refused refusal stops) asked says reads memory = ends_by seen old now before after answer _ _ (may_refuse refusal stops) (says refusal refl)
ends_stopped seen old now before after answer _ (halts_unread file read rose) asked says reads memory = ends_by seen old now before after answer _ _ (may_miss file (record { reads = read; rose = rose })) (reads file refl)
ends_stopped seen old now before after answer _ halts_memory asked says reads memory =
    let asks = asked refl in
    let eight = memory refl in
    subst (λ s. Ends seen old now before after s None) (sym eight.0) (ends_memory asks.0 asks.1 eight.1)

pub ends_served : (seen : Seen) (old now : Option (List ℕ)) (before after : ℕ) (left : Option Progress) (done : Service) → (coming seen).gives done → Grew old now (text_of done) → Leaves done left → IsBounded done → Ends seen old now before after 0 left
ends_served seen old now before after left done gives grew leaves bounded = ends_said 0 (text_of done) left (may_serve done left gives leaves bounded) grew

pub ends_unwritten : (seen : Seen) (old now : Option (List ℕ)) (before after : ℕ) (left : Option Progress) (done : Service) → (coming seen).gives done → (other : Option Progress) × Leaves done other → IsBounded done → Rose before after → GrewByFront old now (text_of done) → left ≡ None → Ends seen old now before after 4 left
ends_unwritten seen old now before after left done gives (other, leaves) bounded rose front is = subst (Ends seen old now before after 4) (sym is) (ends_cut 0 (text_of done) other (may_serve done other gives leaves bounded) rose front)

-- ---- the clauses

-- Where no file is missing, no write failed and memory didn't run out, the answer is a defined one.
pub ends_answered : (seen : Seen) (old now : Option (List ℕ)) (before after answer : ℕ) (left : Option Progress) → Ends seen old now before after answer left → answer ≢ 3 → answer ≢ 4 → answer ≢ 8
    → (text : List ℕ) × Answers seen.words seen.files answer text × Grew old now text
ends_answered seen old now before after _ left (ends_memory command asks grew) three four eight = absurd (eight refl)
ends_answered seen old now before after _ _ (ends_said _ _ _ (may_refuse refusal stops) grew) three four eight = (line_of refusal, refused refusal stops, grew)
ends_answered seen old now before after _ _ (ends_said _ _ _ (may_miss file unread) grew) three four eight = absurd (three refl)
ends_answered seen old now before after _ _ (ends_said _ _ _ (may_serve done other gives leaves bounded) grew) three four eight = (text_of done, served done gives, grew)
ends_answered seen old now before after _ _ (ends_cut status text left may rose front) three four eight = absurd (four refl)

pub ends_done : (seen : Seen) (old now : Option (List ℕ)) (before after answer : ℕ) (left : Option Progress) → Ends seen old now before after answer left → (Rose seen.before seen.after → ⊥) → (Rose before after → ⊥)
    → ((text : List ℕ) × Answers seen.words seen.files answer text × Grew old now text) ⊎ (answer ≡ 8)
ends_done seen old now before after _ left (ends_memory command asks grew) shelf sink = inr refl
ends_done seen old now before after _ _ (ends_said _ _ _ (may_refuse refusal stops) grew) shelf sink = inl (line_of refusal, refused refusal stops, grew)
ends_done seen old now before after _ _ (ends_said _ _ _ (may_miss file unread) grew) shelf sink = absurd (shelf unread.rose)
ends_done seen old now before after _ _ (ends_said _ _ _ (may_serve done other gives leaves bounded) grew) shelf sink = inl (text_of done, served done gives, grew)
ends_done seen old now before after _ _ (ends_cut status text left may rose front) shelf sink = absurd (sink rose)

-- Words have one answer at most, where files are told.
abbrev pub OneAnswer : Type 0
OneAnswer = (words : List (List ℕ)) (files : Files) (status other : ℕ) (text another : List ℕ) → Answers words (Some files) status text → Answers words (Some files) other another → (status ≡ other) × (text ≡ another)

pub ends_complete : OneAnswer → (seen : Seen) (old now : Option (List ℕ)) (before after answer : ℕ) (left : Option Progress) → Ends seen old now before after answer left
    → (files : Files) (status : ℕ) (text : List ℕ) → seen.files ≡ Some files → Answers seen.words (Some files) status text → (Rose seen.before seen.after → ⊥) → (Rose before after → ⊥)
    → ((answer ≡ status) × Grew old now text) ⊎ (answer ≡ 8)
ends_complete one_answer seen old now before after answer left ends files status text told answers shelf sink = elim (ends_done seen old now before after answer left ends shelf sink) [
  | inr eight ↦ inr eight
  | inl (said, is, grew) ↦
      let same = one_answer seen.words files answer status said text (subst (λ f. Answers seen.words f answer said) told is) answers in
      inl (same.0, subst (Grew old now) same.1 grew)
]

-- Words of no listed form are refused, whatever else.
pub ends_words : (seen : Seen) (old now : Option (List ℕ)) (before after answer : ℕ) (left : Option Progress) → Ends seen old now before after answer left → AskNothing seen.words → (answer ≡ 2) ⊎ (answer ≡ 4)
unfolding in_row
ends_words seen old now before after _ left (ends_memory command asks grew) nothing = absurd (nothing command asks)
ends_words seen old now before after _ _ (ends_said _ _ _ (may_refuse refusal (inl (is, none))) grew) nothing = inl (λ i. status_of (is i))
ends_words seen old now before after _ _ (ends_said _ _ _ (may_refuse refusal (inr (command, asks, later))) grew) nothing = absurd (nothing command asks)
ends_words seen old now before after _ _ (ends_said _ _ _ (may_miss file unread) grew) nothing = elim unread.reads [
  | inl none ↦ absurd none
  | inr (command, asks, later) ↦ absurd (nothing command asks)
]
ends_words seen old now before after _ _ (ends_said _ _ _ (may_serve done other (command, asks, later) leaves bounded) grew) nothing = absurd (nothing command asks)
ends_words seen old now before after _ _ (ends_cut status text left may rose front) nothing = inr refl

-- No step behind the words stops with a refusal of them.
abbrev Never : {X : Type 0} → Course X → Type 0
Never c = c.stops Words → ⊥

never_then : {X Y : Type 0} (c : Course X) (f : X → Course Y) → Never c → ((x : X) → Never (f x)) → Never (in_row c f)
unfolding in_row
never_then c f first later (inl stops) = first stops
never_then c f first later (inr (x, gives, stops)) = later x stops

-- The words' refusal is none that has another status.
apart : (refusal : Refusal) → status_of refusal ≢ 2 → Words ≡ refusal → ⊥
apart refusal two e = two (sym (ap status_of e))

translating_never : (bytes : List ℕ) → Never (translating bytes)
translating_never bytes stops = stops

compiling_never : (files : Option Files) (name : List ℕ) → Never (compiling files name)
compiling_never files name = never_then (reading files Program name) _ (λ stops. apart (TooLong Program) (λ e. absurd (omega arith)) stops.0) translating_never

supplying_never : (unit : Whole) (until : ℕ) → Never (supplying unit until)
supplying_never unit until stops = stops

listing_never : (files : Option Files) (unit : Whole) (inputs : Option (List ℕ)) → Never (listing files unit inputs)
listing_never files unit None = λ stops. stops
listing_never files unit (Some name) = never_then (reading files Inputs name) _ (λ stops. apart (TooLong Inputs) (λ e. absurd (omega arith)) stops.0) (λ bytes stops. stops)

scripting_never : (files : Option Files) (unit : Whole) (script : Option (List ℕ)) → Never (scripting files unit script)
scripting_never files unit None = λ stops. stops
scripting_never files unit (Some name) = never_then (reading files Script name) _ (λ stops. apart (TooLong Script) (λ e. absurd (omega arith)) stops.0) (λ bytes stops. stops)

pacing_never : (unit : Whole) (until : ℕ) → Never (pacing unit until)
pacing_never unit until stops = apart Cycles (λ e. absurd (omega arith)) stops.0

fitting_never : (trace : List ℕ) → Never (fitting trace)
fitting_never trace stops = apart LongTrace (λ e. absurd (omega arith)) stops.0

holding_never : (state : List ℕ) → Never (holding state)
holding_never state stops = apart LongState (λ e. absurd (omega arith)) stops.0

leaving_never : (s : System) (date : ℕ) (state : List ℕ) → Never (leaving s date state)
leaving_never s date state = never_then (resting s date) (λ done. holding state) (λ stops. stops) (λ done. holding_never state)

serving_never : (files : Option Files) (command : Command) → Never (serving files command)
serving_never files (Run name until inputs script) =
    never_then (compiling files name) _ (compiling_never files name)
    (λ unit. never_then (supplying unit until) _ (supplying_never unit until)
    (λ supply. never_then (listing files unit inputs) _ (listing_never files unit inputs)
    (λ lists. never_then (scripting files unit script) _ (scripting_never files unit script) (λ said. never_then (pacing unit until) _ (pacing_never unit until) (λ done stops. stops)))))
serving_never files (Check name until) =
    never_then (compiling files name) _ (compiling_never files name)
    (λ unit. never_then (supplying unit until) _ (supplying_never unit until) (λ supply stops. stops))
serving_never files (Graph name) =
    never_then (compiling files name) _ (compiling_never files name) (λ unit. never_then (graphing unit) _ (λ stops. stops) (λ graphs. never_then (costing unit) _ (λ stops. stops) (λ costs stops. stops)))
serving_never files (Make seed) = λ stops. stops
serving_never files (Trial seed until) =
    never_then (translating (made_text seed)) _ (translating_never (made_text seed))
    (λ unit. never_then (supplying unit until) _ (supplying_never unit until) (λ supply. never_then (pacing unit until) _ (pacing_never unit until) (λ done stops. stops)))
serving_never files (Build name) =
    never_then (compiling files name) _ (compiling_never files name)
    (λ unit. never_then (imaging unit) _ (λ stops. apart Large (λ e. absurd (omega arith)) stops.0) (λ image stops. stops))
serving_never files (Exec name until inputs script) =
    never_then (reading files ImageFile name) _ (λ stops. apart (TooLong ImageFile) (λ e. absurd (omega arith)) stops.0)
    (λ bytes. never_then (decoding bytes) _ (λ stops. stops)
    (λ it. never_then (verifying it) _ (λ stops. stops)
    (λ ways. never_then (supplying_by it.unit ways until) _ (λ stops. stops)
    (λ supply. never_then (listing files it.unit inputs) _ (listing_never files it.unit inputs)
    (λ lists. never_then (scripting files it.unit script) _ (scripting_never files it.unit script) (λ said. never_then (pacing it.unit until) _ (pacing_never it.unit until) (λ done stops. stops)))))))
serving_never files (Audit name until trace script) =
    never_then (compiling files name) _ (compiling_never files name)
    (λ unit. never_then (supplying unit until) _ (supplying_never unit until)
    (λ supply. never_then (reading files TraceFile trace) _ (λ stops. apart (TooLong TraceFile) (λ e. absurd (omega arith)) stops.0)
    (λ text. never_then (scripting files unit script) _ (scripting_never files unit script)
    (λ said. never_then (pacing unit until) _ (pacing_never unit until)
    (λ done. never_then (auditing (judged_by unit supply.nexts supply.sizes until said) text) _ (λ stops. stops) (λ counts stops. stops))))))
serving_never files (Tracing name until inputs script) =
    never_then (compiling files name) _ (compiling_never files name)
    (λ unit. never_then (supplying unit until) _ (supplying_never unit until)
    (λ supply. never_then (listing files unit inputs) _ (listing_never files unit inputs)
    (λ lists. never_then (scripting files unit script) _ (scripting_never files unit script)
    (λ said. never_then (pacing unit until) _ (pacing_never unit until)
    (λ done. never_then (fitting (trace_by unit supply.nexts supply.sizes until lists said)) _ (fitting_never (trace_by unit supply.nexts supply.sizes until lists said)) (λ told stops. stops))))))
serving_never files (Save name date inputs script) =
    never_then (compiling files name) _ (compiling_never files name)
    (λ unit. never_then (supplying unit date) _ (supplying_never unit date)
    (λ supply. never_then (listing files unit inputs) _ (listing_never files unit inputs)
    (λ lists. never_then (scripting files unit script) _ (scripting_never files unit script)
    (λ said. never_then (pacing unit date) _ (pacing_never unit date)
    (λ done. never_then (leaving (meaning_of unit supply.nexts lists said) date (state_text unit supply.nexts supply.sizes date lists said)) _
    (leaving_never (meaning_of unit supply.nexts lists said) date (state_text unit supply.nexts supply.sizes date lists said)) (λ left stops. stops))))))
serving_never files (Resume name state until inputs script) =
    never_then (compiling files name) _ (compiling_never files name)
    (λ unit. never_then (supplying unit until) _ (supplying_never unit until)
    (λ supply. never_then (reading files StateFile state) _ (λ stops. apart (TooLong StateFile) (λ e. absurd (omega arith)) stops.0)
    (λ bytes. never_then (restoring (form_of (compiled_plan unit supply.nexts supply.sizes until) supply.graphs) bytes) _ (λ stops. stops)
    (λ opening. never_then (listing files unit inputs) _ (listing_never files unit inputs)
    (λ lists. never_then (scripting files unit script) _ (scripting_never files unit script) (λ said. never_then (pacing unit until) _ (pacing_never unit until) (λ done stops. stops)))))))

nothing_asked : (words : List (List ℕ)) (files : Option Files) → (answering words files).stops Words → AskNothing words
unfolding in_row
nothing_asked words files (inl (is, none)) = none
nothing_asked words files (inr (command, asks, stops)) = absurd (serving_never files command stops)

-- 2 is answered for such words alone.
pub ends_listed : (seen : Seen) (old now : Option (List ℕ)) (before after answer : ℕ) (left : Option Progress) → Ends seen old now before after answer left → answer ≡ 2 → AskNothing seen.words
ends_listed seen old now before after _ left (ends_memory command asks grew) two = absurd (omega (arith, two))
ends_listed seen old now before after _ _ (ends_said _ _ _ (may_refuse refusal stops) grew) two =
    nothing_asked seen.words seen.files (subst (λ r. (coming seen).stops r) (two_by refusal _ (is_status refusal) two) stops)
ends_listed seen old now before after _ _ (ends_said _ _ _ (may_miss file unread) grew) two = absurd (omega (arith, two))
ends_listed seen old now before after _ _ (ends_said _ _ _ (may_serve done other gives leaves bounded) grew) two = absurd (omega (arith, two))
ends_listed seen old now before after _ _ (ends_cut status text left may rose front) two = absurd (omega (arith, two))

-- 3 is answered for a file that couldn't be read, with its line.
pub ends_read : (seen : Seen) (old now : Option (List ℕ)) (before after answer : ℕ) (left : Option Progress) → Ends seen old now before after answer left → answer ≡ 3 → (file : File) × IsUnread seen file × Grew old now (read_line (file_name file))
ends_read seen old now before after _ left (ends_memory command asks grew) three = absurd (omega (arith, three))
ends_read seen old now before after _ _ (ends_said _ _ _ (may_refuse refusal stops) grew) three = absurd (not_by refusal _ 3 (is_status refusal) (λ e. absurd (omega arith)) (inr (inl refl)) three)
ends_read seen old now before after _ _ (ends_said _ _ _ (may_miss file unread) grew) three = (file, unread, grew)
ends_read seen old now before after _ _ (ends_said _ _ _ (may_serve done other gives leaves bounded) grew) three = absurd (omega (arith, three))
ends_read seen old now before after _ _ (ends_cut status text left may rose front) three = absurd (omega (arith, three))

-- 4 is answered where a write failed: then a front of a text that may answer the words was written.
pub ends_cut_short : (seen : Seen) (old now : Option (List ℕ)) (before after answer : ℕ) (left : Option Progress) → Ends seen old now before after answer left → answer ≡ 4
    → Rose before after × ((status : ℕ) × (text : List ℕ) × (kernel : Option Progress) × MayAnswer seen status text kernel × GrewByFront old now text)
ends_cut_short seen old now before after _ left (ends_memory command asks grew) four = absurd (omega (arith, four))
ends_cut_short seen old now before after _ _ (ends_said _ _ _ (may_refuse refusal stops) grew) four = absurd (not_by refusal _ 4 (is_status refusal) (λ e. absurd (omega arith)) (inr (inr (inl refl))) four)
ends_cut_short seen old now before after _ _ (ends_said _ _ _ (may_miss file unread) grew) four = absurd (omega (arith, four))
ends_cut_short seen old now before after _ _ (ends_said _ _ _ (may_serve done other gives leaves bounded) grew) four = absurd (omega (arith, four))
ends_cut_short seen old now before after _ _ (ends_cut status text left may rose front) four = (rose, (status, text, left, may, front))

-- 8 is answered with nothing written.
pub ends_for_memory : (seen : Seen) (old now : Option (List ℕ)) (before after answer : ℕ) (left : Option Progress) → Ends seen old now before after answer left → answer ≡ 8 → Grew old now []
ends_for_memory seen old now before after _ left (ends_memory command asks grew) eight = grew
ends_for_memory seen old now before after _ _ (ends_said _ _ _ (may_refuse refusal stops) grew) eight = absurd (not_by refusal _ 8 (is_status refusal) (λ e. absurd (omega arith)) (inr (inr (inr refl))) eight)
ends_for_memory seen old now before after _ _ (ends_said _ _ _ (may_miss file unread) grew) eight = absurd (omega (arith, eight))
ends_for_memory seen old now before after _ _ (ends_said _ _ _ (may_serve done other gives leaves bounded) grew) eight = absurd (omega (arith, eight))
ends_for_memory seen old now before after _ _ (ends_cut status text left may rose front) eight = absurd (omega (arith, eight))

-- 0 is answered where the whole text of what is served was written, and what is left did it.
pub ends_left : (seen : Seen) (old now : Option (List ℕ)) (before after answer : ℕ) (left : Option Progress) → Ends seen old now before after answer left → answer ≡ 0
    → (done : Service) × (coming seen).gives done × Grew old now (text_of done) × Leaves done left × IsBounded done
ends_left seen old now before after _ left (ends_memory command asks grew) zero = absurd (omega (arith, zero))
ends_left seen old now before after _ _ (ends_said _ _ _ (may_refuse refusal stops) grew) zero = absurd (not_by refusal _ 0 (is_status refusal) (λ e. absurd (omega arith)) (inl refl) zero)
ends_left seen old now before after _ _ (ends_said _ _ _ (may_miss file unread) grew) zero = absurd (omega (arith, zero))
ends_left seen old now before after _ _ (ends_said _ _ _ (may_serve done other gives leaves bounded) grew) zero = (done, gives, grew, leaves, bounded)
ends_left seen old now before after _ _ (ends_cut status text left may rose front) zero = absurd (omega (arith, zero))

-- A kernel is left by a run alone, and is over.
over_at : (unit : Whole) (nexts : List (List (List ℕ))) (sizes : Sizes) (until : ℕ) (inputs : List (List ℤ)) (script : Said) (opening : Option State) (p : Progress) → HasRun unit nexts sizes until inputs script opening p → stage_of p ≡ Over
over_at unit nexts sizes until inputs script opening p ran = by (p.dates == p.plan.until + 1) refl
  where
    by : (t : Bool) → (p.dates == p.plan.until + 1) ≡ t → stage_of p ≡ Over
    by true e = rw e refl
    by false e = let dates = ran.dates in let last = ran.its_until in grind (arith, nat_tests)

over_of : (done : Service) (left : Option Progress) → Leaves done left → IfSome left (λ kernel. stage_of kernel ≡ Over)
over_of (Ran unit nexts sizes until inputs script) left (p, is, plan, ran) = subst (λ l. IfSome l (λ kernel. stage_of kernel ≡ Over)) (sym is) (over_at unit nexts sizes until inputs script None p ran)
over_of (Tried unit nexts sizes until) left (p, is, plan, ran) = subst (λ l. IfSome l (λ kernel. stage_of kernel ≡ Over)) (sym is) (over_at unit nexts sizes until (no_inputs unit) no_script None p ran)
over_of (Traced unit nexts sizes until inputs script) left (p, is, plan, ran) = subst (λ l. IfSome l (λ kernel. stage_of kernel ≡ Over)) (sym is) (over_at unit nexts sizes until inputs script None p ran)
over_of (Saved unit nexts sizes date inputs script) left (p, is, plan, ran) = subst (λ l. IfSome l (λ kernel. stage_of kernel ≡ Over)) (sym is) (over_at unit nexts sizes date inputs script None p ran)
over_of (Resumed unit nexts sizes until state inputs script) left (p, is, plan, ran) = subst (λ l. IfSome l (λ kernel. stage_of kernel ≡ Over)) (sym is) (over_at unit nexts sizes until inputs script (Some state) p ran)
over_of (Checked unit sizes lines extent) left is = subst (λ l. IfSome l (λ kernel. stage_of kernel ≡ Over)) (sym is) tt
over_of (Drawn unit graphs costs) left is = subst (λ l. IfSome l (λ kernel. stage_of kernel ≡ Over)) (sym is) tt
over_of (Made text) left is = subst (λ l. IfSome l (λ kernel. stage_of kernel ≡ Over)) (sym is) tt
over_of (Built image) left is = subst (λ l. IfSome l (λ kernel. stage_of kernel ≡ Over)) (sym is) tt
over_of (Audited acts looks) left is = subst (λ l. IfSome l (λ kernel. stage_of kernel ≡ Over)) (sym is) tt
over_of (Executed unit code nexts sizes until inputs script) left (p, is, plan, coded, ran) = subst (λ l. IfSome l (λ kernel. stage_of kernel ≡ Over)) (sym is) (over_at unit nexts sizes until inputs script None p ran)

pub ends_over : (seen : Seen) (old now : Option (List ℕ)) (before after answer : ℕ) (left : Option Progress) → Ends seen old now before after answer left → IfSome left (λ kernel. stage_of kernel ≡ Over)
ends_over seen old now before after _ _ (ends_memory command asks grew) = tt
ends_over seen old now before after _ _ (ends_said _ _ _ (may_refuse refusal stops) grew) = tt
ends_over seen old now before after _ _ (ends_said _ _ _ (may_miss file unread) grew) = tt
ends_over seen old now before after _ _ (ends_said _ _ _ (may_serve done other gives leaves bounded) grew) = over_of done other leaves
ends_over seen old now before after _ _ (ends_cut status text left may rose front) = tt

pub ends_none_left : (seen : Seen) (old now : Option (List ℕ)) (before after answer : ℕ) (left : Option Progress) → Ends seen old now before after answer left → answer ≢ 0 → left ≡ None
ends_none_left seen old now before after _ _ (ends_memory command asks grew) some = refl
ends_none_left seen old now before after _ _ (ends_said _ _ _ (may_refuse refusal stops) grew) some = refl
ends_none_left seen old now before after _ _ (ends_said _ _ _ (may_miss file unread) grew) some = refl
ends_none_left seen old now before after _ _ (ends_said _ _ _ (may_serve done other gives leaves bounded) grew) some = absurd (some refl)
ends_none_left seen old now before after _ _ (ends_cut status text left may rose front) some = refl

-- What words come to keeps its bounds.
abbrev pub AllBounded : Type 0
AllBounded = (words : List (List ℕ)) (files : Option Files) (done : Service) → (answering words files).gives done → IsBounded done

-- A run that nothing refuses is written whole and keeps its bounds, or memory ran out and nothing was written.
pub ends_headline : OneAnswer → AllBounded → (seen : Seen) (old now : Option (List ℕ)) (before after answer : ℕ) (left : Option Progress) → Ends seen old now before after answer left
    → (files : Files) (done : Service) → seen.files ≡ Some files → (answering seen.words (Some files)).gives done → (Rose seen.before seen.after → ⊥) → (Rose before after → ⊥)
    → ((answer ≡ 0) × Grew old now (text_of done) × IsBounded done) ⊎ ((answer ≡ 8) × Grew old now [])
ends_headline one_answer bounded seen old now before after answer left ends files done told gives shelf sink =
    elim (ends_complete one_answer seen old now before after answer left ends files 0 (text_of done) told (served done gives) shelf sink) [
      | inl (zero, grew) ↦ inl (zero, grew, bounded seen.words (Some files) done gives)
      | inr eight ↦ inr (eight, ends_for_memory seen old now before after answer left ends eight)
    ]
