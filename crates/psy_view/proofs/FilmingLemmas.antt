-- What is told of the run in a file longer than is read together, of which a picture is asked for.
use Rattle.std.proofs.Common.{◌≡◌, ◌≢◌, false, ◌<◌, Bor, append-nil, refl, sym, subst, ap, ◌∙◌, ℕ, List, [], ◌∷◌, ◌++◌, map, length, Option, None, Some, Result, Ok, IfOk}
use Rattle.psy_base.specs.declared.memory.Memory.{Memory}
use Rattle.psy_door.specs.Files.{Files}
use Rattle.psy_draw.specs.Knowledge.{nothing}
use Rattle.psy_draw.specs.Pictures.{IsPicture}
use Rattle.psy_draw.specs.declared.window.Window.{Window}
use Rattle.psy_export.specs.Ending.{IsSaidOf}
use Rattle.psy_film.specs.Causes.{IsCause, IsNoRun, IsOther, IsUnread}
use Rattle.psy_film.specs.Films.{IsRunBy}
use Rattle.psy_film.specs.Sources.{AreFedBy, foreign_by, knowledge_by}
use Rattle.psy_film.specs.declared.fault.FilmFault.{FilmFault}
use Rattle.psy_film.specs.declared.fault.FilmFault.TheVariants as fault
use Rattle.psy_film.specs.declared.source.Source.{Source}
use Rattle.psy_history.specs.declared.told.Inputs.{Inputs}
use Rattle.psy_log.specs.declared.note.Note.{Note}
use Rattle.psy_match.specs.Knowledge.{knowledge_in}
use Rattle.psy_passes.specs.Runs.{IsRun}
use Rattle.psy_passes.specs.declared.fault.PassFault.{PassFault}
use Rattle.psy_passes.specs.declared.fault.PassFault.TheVariants as pass
use Rattle.psy_script.specs.Inputs.{AreListsOf}
use Rattle.psy_plan.specs.Lines.{line_of}
use Rattle.psy_plan.specs.Programs.{IsProgram, IsRefused}
use Rattle.psy_plan.specs.declared.refusal.Refusal.{Refusal}
use Rattle.psy_tree.specs.declared.unit.Unit.{Unit as Whole}
use Rattle.psy_view.specs.Answer.{breaks, has_many}
use Rattle.psy_view.specs.Asked.{File, Request, Timeline, TimelineOf, TimelineWith, files_of, of_run}
use Rattle.psy_view.specs.Fetching.{AreTexts, ComeTo, FetchesRun, IsLong, IsUnread as IsMissed, behind, behind_long, failed, long}
use Rattle.psy_view.specs.Filming.{IsFilmed, IsMismatch, SaysOf, film_drawn, film_mismatched, film_unshown, is_changed, is_no_run, is_other, is_unread}
use Rattle.psy_view.specs.Outcome.{IsToldOf, Replies, changed, missed, of_long_run, stopped_at, told_of_run, unread_now, viewed_all}
use Rattle.psy_view.specs.Refusals.{foreign_line}
use Rattle.psy_view.specs.Views.{IsDrawn, IsForRun, IsOtherRun, IsTold, IsToldOfNotes, IsUnshown, RefusesInputs, ViewOf}
use Rattle.psy_view.specs.Views.{alone, by_inputs, by_other, by_program, drawn, empty, no_inputs, no_program_there, of_a_run, of_another, of_no_run, undrawn}
use Rattle.psy_view.specs.Views.{broken_at, no_run, of_notes, timeline, undrawn_with, unknown, unlisted, with_inputs, with_other}
use Rattle.psy_view.specs.declared.fetching.FetchedRun.{FetchedRun}
use Rattle.psy_view.specs.declared.fetching.FetchedRun.TheVariants as run
use Rattle.psy_view.specs.declared.view.View.{View}
use Rattle.psy_draw.specs.Listing.{first_unasked}
use Rattle.psy_view.proofs.PictureLemmas.{unasked_within}
use Rattle.psy_view.proofs.PlanLemmas.{refused_as, shown_as}

-- What was said is this.
said_is : (Told : ℕ → List ℕ → Type 0) (status told : ℕ) (text other : List ℕ) → Told told other → (status ≡ told) × (text ≡ other) → Told status text
said_is Told status told text other is says = subst (λ s. Told s text) (sym says.0) (subst (Told told) (sym says.1) is)

-- ---- faults

module _ (files : Option Files) (before after : ℕ) (name program : List ℕ) (source : Option Source) where
  abbrev Missed : ℕ → List ℕ → Type 0
  Missed = IsMismatch files before after name program source

  -- Why the file isn't read as a run
  missed_by : (why : PassFault) → IsNoRun files name before after why → (status : ℕ) (text : List ℕ) → IsSaidOf name why status text → Missed status text
  missed_by (pass.Line line) is status text says = said_is Missed status 1 text _ (is_no_run _ (breaks is.0 line is.1 is.2)) says
  missed_by (pass.Unlisted line) is status text says = absurd is
  missed_by pass.Many is status text says = said_is Missed status 1 text _ (is_no_run _ (has_many is.0 is.1 is.2)) says
  missed_by pass.Unread is status text says = said_is Missed status 3 text _ (is_unread is) says
  missed_by pass.Changed is status text says = said_is Missed status 3 text _ (is_changed is.0) says
  missed_by pass.Unwritten is status text says = absurd is
  missed_by pass.Memory is status text says = absurd says

  module _ (window : Window) (names : List (List ℕ)) where
    -- Why it isn't one of the program
    pub mismatched_by : (came : FilmFault) → IsOther files name source before after came → (status : ℕ) (text : List ℕ)
        → SaysOf name program window names came status text → Missed status text
    mismatched_by (fault.Run why) is status text says = missed_by why is status text says
    mismatched_by (fault.Foreign line) is status text says = said_is Missed status 1 text _ (is_other is.0 line is.1 is.2) says
    mismatched_by (fault.Unknown place) is status text says = absurd is
    mismatched_by fault.Empty is status text says = absurd is

    abbrev Came : ℕ → List ℕ → Type 0
    Came = IsFilmed files before after name program window names source

    -- Why it isn't read as a log of the program
    unread_by : (why : PassFault) → IsUnread files name source before after why → (status : ℕ) (text : List ℕ) → IsSaidOf name why status text
        → Came status text
    unread_by (pass.Line line) is status text says = film_mismatched _ _ (missed_by (pass.Line line) is status text says)
    unread_by (pass.Unlisted line) is status text says = said_is Came status 1 text _ (film_unshown is.0 _ is.1 (unlisted line is.2)) says
    unread_by pass.Many is status text says = film_mismatched _ _ (missed_by pass.Many is status text says)
    unread_by pass.Unread is status text says = film_mismatched _ _ (missed_by pass.Unread is status text says)
    unread_by pass.Changed is status text says = film_mismatched _ _ (missed_by pass.Changed is status text says)
    unread_by pass.Unwritten is status text says = absurd is
    unread_by pass.Memory is status text says = absurd says

    -- Why no picture is drawn
    pub filmed_by : (came : FilmFault) → IsCause files name window source names before after came → (status : ℕ) (text : List ℕ)
        → SaysOf name program window names came status text → Came status text
    filmed_by (fault.Run why) is status text says = unread_by why is status text says
    filmed_by (fault.Foreign line) is status text says = film_mismatched _ _ (mismatched_by (fault.Foreign line) is status text says)
    filmed_by (fault.Unknown place) is status text says =
        said_is Came status 1 text _ (film_unshown is.0 _ is.1 (unknown place says.0 is.2 is.3 says.1)) (says.2, says.3)
    filmed_by fault.Empty is status text says = said_is Came status 1 text _ (film_unshown is.0 _ is.1 (empty is.2 is.3 is.4)) says

module _ (files : Option Files) (before after : ℕ) (name : List ℕ) (source : Option Source) where
  -- Where only the program is asked for, no name is missed, and nothing is written.
  pub never_unknown : (came : FilmFault) → IsOther files name source before after came → (place : ℕ) → came ≡ fault.Unknown place → ⊥
  never_unknown came is place lacks = subst (IsOther files name source before after) lacks is

  pub never_written : (came : FilmFault) → IsOther files name source before after came → came ≢ fault.Run pass.Unwritten
  never_written came is unwritten = subst (IsOther files name source before after) unwritten is

  module _ (window : Window) (names : List (List ℕ)) where
    -- The place of a name lies among them, and nothing is written.
    pub within_by : {S : Type 0} (f : S → List ℕ) (asked : List S) (came : FilmFault) → names ≡ map f asked
        → IsCause files name window source names before after came → (place : ℕ) → came ≡ fault.Unknown place → place < length asked
    within_by f asked came are is place lacks =
        let cause = subst (IsCause files name window source names before after) lacks is in
        unasked_within f cause.0 asked place (subst (λ ns. first_unasked cause.0 ns ≡ Some place) are cause.3)

    pub written_by : (came : FilmFault) → IsCause files name window source names before after came → came ≢ fault.Run pass.Unwritten
    written_by came is unwritten = subst (IsCause files name window source names before after) unwritten is

-- ---- what is told

module _ (files : Option Files) (before after : ℕ) (name program : List ℕ) (source : Option Source) (request : Request) (texts : List (List ℕ)) where
  abbrev Tells : ℕ → List ℕ → Type 0
  Tells = IsToldOf files before after request name texts

  -- What is told of notes, for this file
  pub told_by : IsForRun request name → (notes : List Note) → IsRun files name notes → (status : ℕ) (text : List ℕ)
      → IsToldOfNotes notes request texts status text → Tells status text
  told_by for notes run status text is = told_of_run status text (of_a_run name notes status text for run is)

  -- A run of another program
  abbrev Others : Type 0
  Others = (notes : List Note) (line : ℕ) → foreign_by source notes ≡ Some line → IsToldOfNotes notes request texts 1 (foreign_line name line program)

  pub mismatch_told : IsForRun request name → Others → (status : ℕ) (text : List ℕ) → IsMismatch files before after name program source status text
      → Tells status text
  mismatch_told for others _ _ (is_other notes line run foreign) = told_by for notes run 1 _ (others notes line foreign)
  mismatch_told for others _ _ (is_no_run told is) = told_of_run 1 told (of_no_run name told for is)
  mismatch_told for others _ _ (is_unread rose) = unread_now rose
  mismatch_told for others _ _ (is_changed none) = changed none

  module _ (window : Window) (names : List (List ℕ)) where
    -- A picture of a run
    abbrev Pictures : Type 0
    Pictures = (notes more : List Note) (svg : List ℕ) → foreign_by source notes ≡ None → AreFedBy source notes more
        → IsPicture name window (knowledge_by source notes) names (notes ++ more) svg → IsToldOfNotes notes request texts 0 svg

    -- Why there is none
    abbrev NoPictures : Type 0
    NoPictures = (notes : List Note) (told : List ℕ) → foreign_by source notes ≡ None → IsUnshown name window names notes told
        → IsToldOfNotes notes request texts 1 told

    pub filmed_told : IsForRun request name → Pictures → NoPictures → Others → (status : ℕ) (text : List ℕ)
        → IsFilmed files before after name program window names source status text → Tells status text
    filmed_told for pictures none others _ _ (film_drawn svg is) =
        told_by for is.notes is.run.run 0 svg (pictures is.notes is.more svg is.run.own is.fed is.picture)
    filmed_told for pictures none others _ _ (film_unshown notes told run is) = told_by for notes run.run 1 told (none notes told run.own is)
    filmed_told for pictures none others status text (film_mismatched _ _ is) = mismatch_told for others status text is

-- ---- by what is asked for

-- The program of a run
abbrev pub by_unit : Bor Whole → Option Source
by_unit unit = Some (record { unit = unit; inputs = None })

-- The same, and inputs
abbrev pub by_lists : Bor Whole → Bor Inputs → Option Source
by_lists unit lists = Some (record { unit = unit; inputs = Some lists })

-- A picture with nothing behind the notes
no_more : (IsOf : List Note → Type 0) (notes more : List Note) → more ≡ [] → IsOf (notes ++ more) → IsOf notes
no_more IsOf notes more none is = subst IsOf (ap (λ ms. notes ++ ms) none ∙ append-nil notes) is

module _ (files : Option Files) (before after : ℕ) (name : List ℕ) (window : Window) (names : List (List ℕ)) where
  pub alone_told : (program : List ℕ) (status : ℕ) (text : List ℕ) → IsFilmed files before after name program window names None status text
      → IsToldOf files before after (Timeline name window names) name [] status text
  alone_told program =
      filmed_told files before after name program None (Timeline name window names) [] window names refl
      (λ notes more svg own fed is. alone name window names 0 svg (drawn svg (no_more (λ ns. IsPicture name window nothing names ns svg) notes more fed is)))
      (λ notes told own is. alone name window names 1 told (undrawn told is))
      (λ notes line is. (let wrong : None ≡ Some line = is in absurd cc))

  pub program_told : (program text : List ℕ) (unit : Bor Whole) → IsProgram text unit.now → (status : ℕ) (told : List ℕ)
      → IsFilmed files before after name program window names (by_unit unit) status told
      → IsToldOf files before after (TimelineOf name program window names) name (text ∷ []) status told
  program_told program text unit is =
      filmed_told files before after name program (by_unit unit) (TimelineOf name program window names) (text ∷ []) window names refl
      (λ notes more svg own fed picture. by_program name program window names text unit.now 0 svg (record { program = is; own = own })
      (drawn svg (no_more (λ ns. IsPicture name window (knowledge_in unit.now notes) names ns svg) notes more fed picture)))
      (λ notes told own no. by_program name program window names text unit.now 1 told (record { program = is; own = own }) (undrawn told no))
      (λ notes line foreign. by_other name program window names text _ (of_another unit.now line is foreign))

  module _ (program inputs text fed : List ℕ) (unit : Bor Whole) (is : IsProgram text unit.now) where
    abbrev WithInputs : ℕ → List ℕ → Type 0
    WithInputs = IsToldOf files before after (TimelineWith name program inputs window names) name (text ∷ fed ∷ [])

    pub inputs_told : (lists : Bor Inputs) → AreListsOf unit.now fed lists.now.lists → (status : ℕ) (told : List ℕ)
        → IsFilmed files before after name program window names (by_lists unit lists) status told → WithInputs status told
    inputs_told lists are =
        filmed_told files before after name program (by_lists unit lists) (TimelineWith name program inputs window names) (text ∷ fed ∷ [])
        window names refl
        (λ notes more svg own come picture. by_inputs name program inputs window names text fed unit.now 0 svg (record { program = is; own = own })
        (with_inputs lists.now.lists more svg are come picture))
        (λ notes told own no. by_inputs name program inputs window names text fed unit.now 1 told (record { program = is; own = own })
        (undrawn_with lists.now.lists told are no))
        (λ notes line foreign. with_other name program inputs window names text fed _ (of_another unit.now line is foreign))

    -- Inputs that are refused: of another program
    pub unfed_other : (status : ℕ) (told : List ℕ) → IsMismatch files before after name program (by_unit unit) status told → WithInputs status told
    unfed_other =
        mismatch_told files before after name program (by_unit unit) (TimelineWith name program inputs window names) (text ∷ fed ∷ []) refl
        (λ notes line foreign. with_other name program inputs window names text fed _ (of_another unit.now line is foreign))

    -- Of this one
    pub unfed_told : ((notes : List Note) × IsRunBy files name (by_unit unit) notes) → (status : ℕ) (told : List ℕ) → status ≡ 1
        → ((line : List ℕ) × RefusesInputs unit.now fed line × IsTold inputs fed line told) → WithInputs status told
    unfed_told of status told one refuses =
        subst (λ s. WithInputs s told) (sym one)
        (told_by files before after name program (by_unit unit) (TimelineWith name program inputs window names) (text ∷ fed ∷ []) refl of.0 of.1.run 1 told
        (by_inputs name program inputs window names text fed unit.now 1 told (record { program = is; own = of.1.own })
        (no_inputs refuses.0 told refuses.1 refuses.2)))

-- ---- by no program

module _ (files : Option Files) (before after : ℕ) (name program : List ℕ) (request : Request) (texts : List (List ℕ)) (for : IsForRun request name) where
  pub refused_other : (status : ℕ) (told : List ℕ) → IsMismatch files before after name program None status told
      → IsToldOf files before after request name texts status told
  refused_other = mismatch_told files before after name program None request texts for (λ notes line is. (let wrong : None ≡ Some line = is in absurd cc))

  pub refused_told : (text : List ℕ) (refusal : Refusal) → IsRefused text refusal
      → ((notes : List Note) (told : List ℕ) → IsOtherRun name program text notes told → IsToldOfNotes notes request texts 1 told)
      → ((notes : List Note) × IsRunBy files name None notes) → (came : Result View Memory) → IfOk came (λ v. v.status ≡ 1)
      → IfOk came (λ v. IsTold program text (line_of refusal) v.text.items)
      → IfOk came (λ v. IsToldOf files before after request name texts v.status v.text.items)
  refused_told text refusal is gives of came one tells =
      refused_as (IsTold program text (line_of refusal)) (IsToldOf files before after request name texts) came one tells
      (λ told tell. told_by files before after name program None request texts for of.0 of.1.run 1 told
      (gives of.0 told (no_program_there refusal told is tell)))

-- ---- by what was read

-- The file of the run was read, or is longer than is read together.
abbrev pub IsThere : FetchedRun → Type 0
IsThere (run.Read bytes) = Unit {0}
IsThere (run.Unread view) = ⊥

module _ (files : Option Files) (before after : ℕ) (name : List ℕ) where
  -- With no call that failed
  pub no_fault : (came : FetchedRun) → FetchesRun files before after name came → IsThere came → after ≡ before
  no_fault (run.Read (Some bytes)) is there = is.1
  no_fault (run.Read None) is there = is.1
  no_fault (run.Unread view) is there = absurd there

  -- The files behind it are come to.
  pub come_behind : (came : FetchedRun) → FetchesRun files before after name came → IsThere came → (others : List File) (file : File)
      → ComeTo files others file → ComeTo files (of_run name ∷ others) file
  come_behind (run.Read (Some bytes)) is there others file comes = behind _ bytes.items others file is.0 comes
  come_behind (run.Read None) is there others file comes = behind_long _ others file refl is.0 comes
  come_behind (run.Unread view) is there others file comes = absurd there

module _ (files : Option Files) (before after : ℕ) (request : Request) where
  abbrev Reply : ℕ → List ℕ → Type 0
  Reply = Replies files before after request

  -- The file of the run couldn't be read.
  pub run_unread : (name : List ℕ) → ComeTo files (files_of request) (of_run name) → (view : View)
      → FetchesRun files before after name (run.Unread view) → Reply view.status view.text.items
  run_unread name comes view is = said_is Reply view.status 3 view.text.items _ (missed (of_run name) comes is.0) (is.1, is.2)

  -- A file behind it couldn't be read, or is too long.
  pub file_unread : (file : File) → ComeTo files (files_of request) file → file.in_pieces ≡ false → (status : ℕ) (text : List ℕ)
      → IsMissed files before after file status text → Reply status text
  file_unread file comes whole _ _ (failed rose) = missed file comes rose
  file_unread file comes whole _ _ (long is) = stopped_at file comes whole is

  -- All were read together.
  pub viewed_so : (texts : List (List ℕ)) → AreTexts files (files_of request) texts → (came : Result View Memory)
      → IfOk came (λ v. ViewOf request texts v.status v.text.items) → IfOk came (λ v. Reply v.status v.text.items)
  viewed_so texts are came views = shown_as (ViewOf request texts) Reply came views (λ status text is. viewed_all texts status text are is)

  -- The run is longer than is read together.
  pub long_so : (name : List ℕ) (others : List File) (texts : List (List ℕ)) → files_of request ≡ of_run name ∷ others → IsLong files (of_run name)
      → AreTexts files others texts → (came : Result View Memory)
      → IfOk came (λ v. IsToldOf files before after request name texts v.status v.text.items) → IfOk came (λ v. Reply v.status v.text.items)
  long_so name others texts first longer are came tells =
      shown_as (IsToldOf files before after request name texts) Reply came tells
      (λ status text is. of_long_run name others texts status text first longer are is)

-- It came out well.
pub ok_is : (Of : View → Type 0) (came : Result View Memory) (view : View) → came ≡ Ok view → Of view → IfOk came Of
ok_is Of came view same is = subst (λ c. IfOk c Of) (sym same) is

-- The picture of a run alone
pub drawn_view : (name bytes : List ℕ) (window : Window) (names : List (List ℕ)) (status : ℕ) (text : List ℕ) → IsDrawn name window names bytes status text
    → ViewOf (Timeline name window names) (bytes ∷ []) status text
drawn_view name bytes window names _ _ (of_notes notes status text is shown) =
    timeline _ bytes [] status text (of_a_run name notes status text refl is (alone name window names status text shown))
drawn_view name bytes window names _ _ (no_run line cut) = timeline _ bytes [] 1 _ (of_no_run name _ refl (broken_at line cut))
