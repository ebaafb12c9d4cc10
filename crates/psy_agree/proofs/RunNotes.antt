-- The notes of a run: those of the events of each date, of its end, and of its summary. Their lines are its text.
use Rattle.std.proofs.Common.{◌≡◌, refl, sym, ap, subst, ◌∙◌, ℕ, zero, suc, ◌+◌, ◌<◌, ◌≤◌, List, [], ◌∷◌, ◌++◌, length, map, flat_map, get_or, Option, Some, None, Bor, arith}
use Rattle.std.specs.Prelude.{FitsSigned}
use Rattle.std.specs.Int.{w32}
use Rattle.std.specs.List.{AllByRecursion, range_with_len}
use Rattle.std.proofs.lemmas.Grind.{flat_map-append}
use Rattle.std.proofs.lemmas.List.FromFn.{length-map-range_with_len}
use Rattle.psy_base.specs.declared.limits.TheConstants.{UNTIL, AGENTS, VARIABLES, STREAMS}
use Rattle.psy_base.specs.declared.sizes.Sizes.{Sizes}
use Rattle.psy_text.specs.Fronts.{IsName}
use Rattle.psy_log.specs.Forms.{line_of}
use Rattle.psy_log.specs.declared.note.Note.{Note}
use Rattle.psy_log.specs.declared.note.Note.TheVariants as note
use Rattle.psy_history.specs.Actions.{System, stream_of, variable_of}
use Rattle.psy_tree.specs.Parts.{agent_at}
use Rattle.psy_history.specs.History.{history}
use Rattle.psy_history.specs.Lines.{Event, Stop, Publish, Show, events}
use Rattle.psy_history.specs.Schedule.{Turn}
use Rattle.psy_history.specs.Summary.{dates_from, due_by, due_count, least_slack, most_held, reach}
use Rattle.psy_notes.specs.Notes.{IsLong, IsShort, OrNone}
use Rattle.psy_notes.specs.Stands.{run_begins}
use Rattle.psy_notes.specs.Texts.{IsText, text_of}
use Rattle.psy_kernel.specs.Texts.{agent_end, event_line, lines_of, log_of, stream_end, summary_by, variable_end, text_of as lines_text}
use Rattle.psy_agree.proofs.RunsLead.{AreRunNotes, IsAgentLine, IsAt, IsStreamLine, IsVariableLine, run_reads, summary_notes, trial_reads}

-- ---- notes

-- A name as a note has it
abbrev pub named : List ℕ → Bor (List ℕ)
named name = record { ref_ptr = (0, 0); now = name }

module _ (s : System) where
  -- The note of an event
  abbrev pub event_note : ℕ → Event → Note
  event_note date (Stop agent None) = note.StopOverrun date (named (agent_at s.unit agent).name)
  event_note date (Stop agent (Some kind)) = note.StopTrap date (named (agent_at s.unit agent).name) kind
  event_note date (Publish variable value) = note.Value date (named (variable_of s variable).name) value
  event_note date (Show stream value) = note.Message date (named (stream_of s stream).name) value

  -- Those of a date
  abbrev pub date_notes : ℕ → List Note
  date_notes date = map (event_note date) (events s date)

  module _ (turns : ℕ → List (Option Turn)) (sizes : Sizes) (until : ℕ) where
    abbrev agent_note : ℕ → Note
    agent_note agent =
        let due = due_by until (history s (until + 1) agent) in
        note.AgentEnd (named (agent_at s.unit agent).name) (due_count s agent due) (least_slack s (turns agent) agent due)

    abbrev variable_note : ℕ → Note
    variable_note variable = note.VariableEnd (named (variable_of s variable).name) (get_or sizes.rings variable 0) (reach s turns (history s (until + 1)) variable)

    abbrev stream_note : ℕ → Note
    stream_note stream = note.StreamEnd (named (stream_of s stream).name) (get_or sizes.queues stream 0) (most_held s until stream)

    abbrev agent_notes : List Note
    agent_notes = map agent_note (range_with_len 0 (length s.unit.agents))

    abbrev variable_notes : List Note
    variable_notes = map variable_note (range_with_len 0 (length s.unit.variables))

    abbrev stream_notes : List Note
    stream_notes = map stream_note (range_with_len 0 (length s.unit.streams))

    -- ---- their lines

    -- Lines of notes that are made of some things, where each is that of its thing
    lines_same : {X : Type 0} (f : X → Note) (g : X → List ℕ) → ((x : X) → line_of (f x) ≡ g x) → (xs : List X) → text_of (map f xs) ≡ lines_text (map g xs)
    lines_same f g same [] = refl
    lines_same f g same (x ∷ xs) = ap (λ line. line ++ text_of (map f xs)) (same x) ∙ ap (λ rest. g x ++ rest) (lines_same f g same xs)

    event_same : (date : ℕ) (e : Event) → line_of (event_note date e) ≡ event_line s date e
    event_same date (Stop agent None) = refl
    event_same date (Stop agent (Some kind)) = refl
    event_same date (Publish variable value) = refl
    event_same date (Show stream value) = refl

    dates_same : (dates : List ℕ) → text_of (flat_map date_notes dates) ≡ flat_map (λ date. lines_text (lines_of s date)) dates
    dates_same [] = refl
    dates_same (date ∷ dates) = flat_map-append line_of (date_notes date) (flat_map date_notes dates)
        ∙ ap (λ text. text ++ text_of (flat_map date_notes dates)) (lines_same (event_note date) (event_line s date) (event_same date) (events s date))
        ∙ ap (λ text. lines_text (lines_of s date) ++ text) (dates_same dates)

    summary_same : text_of (summary_notes until agent_notes variable_notes stream_notes) ≡ lines_text (summary_by s turns sizes until)
    summary_same =
        let agents = lines_same agent_note (agent_end s turns until) (λ agent. refl) (range_with_len 0 (length s.unit.agents)) in
        let variables = lines_same variable_note (variable_end s turns sizes until) (λ variable. refl) (range_with_len 0 (length s.unit.variables)) in
        let streams = lines_same stream_note (stream_end s sizes until) (λ stream. refl) (range_with_len 0 (length s.unit.streams)) in
        ap (λ rest. line_of (note.End until) ++ rest) (three agent_notes variable_notes stream_notes (map (agent_end s turns until) (range_with_len 0 (length s.unit.agents)))
        (map (variable_end s turns sizes until) (range_with_len 0 (length s.unit.variables))) (map (stream_end s sizes until) (range_with_len 0 (length s.unit.streams))) agents variables streams)
      where
        three : (us vs ss : List Note) (xs ys zs : List (List ℕ)) → text_of us ≡ lines_text xs → text_of vs ≡ lines_text ys → text_of ss ≡ lines_text zs
            → text_of (us ++ (vs ++ ss)) ≡ lines_text (xs ++ (ys ++ zs))
        three us vs ss xs ys zs p q r =
            flat_map-append line_of us (vs ++ ss) ∙ ap (λ rest. text_of us ++ rest) (flat_map-append line_of vs ss) ∙ (λ i. p i ++ (q i ++ r i))
            ∙ ap (λ rest. lines_text xs ++ rest) (sym (flat_map-append (λ line. line) ys zs)) ∙ sym (flat_map-append (λ line. line) xs (ys ++ zs))

-- ---- what they need

-- What is told of a date has a name, and a value of 32 bits
abbrev pub IsTellable : System → Event → Type 0
IsTellable s (Stop agent trap) = IsName (agent_at s.unit agent).name
IsTellable s (Publish variable value) = IsName (variable_of s variable).name × FitsSigned w32 value
IsTellable s (Show stream value) = IsName (stream_of s stream).name × FitsSigned w32 value

-- A whole run whose names are words, and whose numbers have the bits of their places
pub record IsTellableRun (s : System) (turns : ℕ → List (Option Turn)) (sizes : Sizes) (until : ℕ) : Type 0 where
  pub whole : s.opening.dates ≡ 0
  pub most : until ≤ UNTIL
  pub events_told : (date : ℕ) → date ≤ until → AllByRecursion (IsTellable s) (events s date)
  pub few_agents : length s.unit.agents ≤ AGENTS
  pub few_variables : length s.unit.variables ≤ VARIABLES
  pub few_streams : length s.unit.streams ≤ STREAMS
  pub agents : (agent : ℕ) → agent < length s.unit.agents → IsName (agent_at s.unit agent).name
  pub variables : (variable : ℕ) → variable < length s.unit.variables → IsName (variable_of s variable).name
  pub streams : (stream : ℕ) → stream < length s.unit.streams → IsName (stream_of s stream).name
  pub counts : (agent : ℕ) → IsLong (due_count s agent (due_by until (history s (until + 1) agent)))
  pub slacks : (agent : ℕ) → OrNone IsLong (least_slack s (turns agent) agent (due_by until (history s (until + 1) agent)))
  pub rings : (variable : ℕ) → variable < length s.unit.variables → IsShort (get_or sizes.rings variable 0)
  pub reaches : (variable : ℕ) → variable < length s.unit.variables → OrNone IsShort (reach s turns (history s (until + 1)) variable)
  pub queues : (stream : ℕ) → stream < length s.unit.streams → IsShort (get_or sizes.queues stream 0)
  pub held : (stream : ℕ) → stream < length s.unit.streams → IsShort (most_held s until stream)

-- What is made of the numbers from one on
all_numbers : {X : Type 0} (P : X → Type 0) (f : ℕ → X) (first n below : ℕ) → first + n ≤ below → ((k : ℕ) → k < below → P (f k)) → AllByRecursion P (map f (range_with_len first n))
all_numbers P f first zero below within each = tt
all_numbers P f first (suc n) below within each = (each first (omega (arith, within)), all_numbers P f (first + 1) n below (omega (arith, within)) each)

module _ (s : System) (turns : ℕ → List (Option Turn)) (sizes : Sizes) (until : ℕ) (run : IsTellableRun s turns sizes until) where
  event_at : (date : ℕ) → date ≤ until → (e : Event) → IsTellable s e → IsAt date (event_note s date e)
  event_at date within (Stop agent None) named = ((omega (arith, within, run.most), (named, tt)), λ last. refl)
  event_at date within (Stop agent (Some kind)) named = ((omega (arith, within, run.most), (named, (tt, tt))), λ last. refl)
  event_at date within (Publish variable value) told = ((omega (arith, within, run.most), (told.0, (told.1, tt))), λ last. refl)
  event_at date within (Show stream value) told = ((omega (arith, within, run.most), (told.0, (told.1, tt))), λ last. refl)

  events_at : (date : ℕ) → date ≤ until → (es : List Event) → AllByRecursion (IsTellable s) es → AllByRecursion (IsAt date) (map (event_note s date) es)
  events_at date within [] told = tt
  events_at date within (e ∷ es) told = (event_at date within e told.0, events_at date within es told.1)

  are_notes : AreRunNotes until (date_notes s) (agent_notes s turns sizes until) (variable_notes s turns sizes until) (stream_notes s turns sizes until)
  are_notes = record {
    most = run.most;
    dated = λ date within. events_at date within (events s date) (run.events_told date within);
    agent_lines = all_numbers IsAgentLine (agent_note s turns sizes until) 0 (length s.unit.agents) (length s.unit.agents) (omega arith)
        (λ k less. ((run.agents k less, (run.counts k, (run.slacks k, tt))), λ agents. refl));
    few_agents = omega (arith, run.few_agents, length-map-range_with_len (agent_note s turns sizes until) 0 (length s.unit.agents));
    variable_lines = all_numbers IsVariableLine (variable_note s turns sizes until) 0 (length s.unit.variables) (length s.unit.variables) (omega arith)
        (λ k less. record { told = (run.variables k less, (run.rings k less, (run.reaches k less, tt))); first = λ agents. refl; next = λ variables. refl });
    few_variables = omega (arith, run.few_variables, length-map-range_with_len (variable_note s turns sizes until) 0 (length s.unit.variables));
    stream_lines = all_numbers IsStreamLine (stream_note s turns sizes until) 0 (length s.unit.streams) (length s.unit.streams) (omega arith)
        (λ k less. record { told = (run.streams k less, (run.queues k less, (run.held k less, tt))); first = λ agents. refl; behind = λ variables. refl; next = λ streams. refl });
    few_streams = omega (arith, run.few_streams, length-map-range_with_len (stream_note s turns sizes until) 0 (length s.unit.streams));
  }

  abbrev summary : List Note
  summary = summary_notes until (agent_notes s turns sizes until) (variable_notes s turns sizes until) (stream_notes s turns sizes until)

  -- The summary alone is read
  pub summary_is_read : (notes : List Note) × IsText run_begins (lines_text (summary_by s turns sizes until)) notes
  summary_is_read = (summary, subst (λ text. IsText run_begins text summary) (summary_same s turns sizes until) (trial_reads until (date_notes s) _ _ _ are_notes))

  -- And so is the whole run
  pub run_is_read : (notes : List Note) × IsText run_begins (log_of s (until + 1) ++ lines_text (summary_by s turns sizes until)) notes
  run_is_read =
      let dates = range_with_len 0 (until + 1) in
      let dated = flat_map (date_notes s) dates in
      let whole : flat_map (λ date. lines_text (lines_of s date)) dates ≡ log_of s (until + 1) =
      sym (ap (λ first. flat_map (λ date. lines_text (lines_of s date)) (dates_from first (until + 1))) run.whole) in
      let same : text_of (dated ++ summary) ≡ log_of s (until + 1) ++ lines_text (summary_by s turns sizes until) =
      flat_map-append line_of dated summary ∙ (λ i. (dates_same s turns sizes until dates ∙ whole) i ++ summary_same s turns sizes until i) in
      (dated ++ summary, subst (λ text. IsText run_begins text (dated ++ summary)) same (run_reads until (date_notes s) _ _ _ are_notes))
