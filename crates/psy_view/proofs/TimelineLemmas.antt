-- What is told of a run that is drawn by its program.
use Rattle.std.proofs.Common.{◌≡◌, ◌∙◌, sym, refl, subst, ℕ, ℤ, ◌<◌, List, [], ◌∷◌, ◌++◌}
use Rattle.psy_draw.specs.Dates.{last_date}
use Rattle.psy_draw.specs.Listing.{first_unasked, first_unlisted}
use Rattle.psy_draw.specs.Places.{window_end}
use Rattle.psy_draw.specs.declared.window.Window.{Window}
use Rattle.psy_log.specs.declared.note.Note.{Note}
use Rattle.psy_match.specs.Feeding.{AreFed}
use Rattle.psy_match.specs.Knowledge.{knowledge_in}
use Rattle.psy_script.specs.Inputs.{AreListsOf}
use Rattle.psy_tree.specs.declared.unit.Unit.{Unit as Whole}
use Rattle.psy_view.specs.Asked.{Request, TimelineOf, TimelineWith}
use Rattle.psy_view.specs.Views.{IsFed, with_inputs, undrawn_with, IsForRun, broken_at, IsOtherRun, no_program_there, of_another}
use Rattle.psy_view.specs.Views.{IsRunPair, IsRunUnpaired, breaks, no_program, is_foreign, IsShown, drawn, undrawn, IsUnshown, unlisted, unknown, empty}
use Rattle.psy_view.specs.Views.{of_a_run, of_no_run, IsToldOfNotes, by_program, by_other, by_inputs, with_other, ViewOf, timeline}

module _ (name program : List ℕ) (window : Window) (names : List (List ℕ)) (bytes text : List ℕ) where
  -- Of a text that is no run of the program
  unpaired : (request : Request) (texts : List (List ℕ)) → IsForRun request name
      → ((notes : List Note) (told : List ℕ) → IsOtherRun name program text notes told → IsToldOfNotes notes request texts 1 told)
      → (told : List ℕ) → IsRunUnpaired name program bytes text told → ViewOf request (bytes ∷ texts) 1 told
  unpaired request texts for gives _ (breaks line is) = timeline request bytes texts 1 _ (of_no_run name _ for (broken_at line is))
  unpaired request texts for gives _ (no_program notes refusal told is refused tells) =
      timeline request bytes texts 1 told (of_a_run name notes 1 told for is (gives notes told (no_program_there refusal told refused tells)))
  unpaired request texts for gives _ (is_foreign notes unit line is own foreign) =
      timeline request bytes texts 1 _ (of_a_run name notes 1 _ for is (gives notes _ (of_another unit line own foreign)))

  -- By the program alone
  pub undrawn_of : (status : ℕ) (told : List ℕ) → status ≡ 1 → IsRunUnpaired name program bytes text told
      → ViewOf (TimelineOf name program window names) (bytes ∷ text ∷ []) status told
  undrawn_of status told one is =
      subst (λ s. ViewOf (TimelineOf name program window names) (bytes ∷ text ∷ []) s told) (sym one)
      (unpaired (TimelineOf name program window names) (text ∷ []) refl (λ notes told is. by_other name program window names text told is) told is)

  pub drawn_of : (notes : List Note) (unit : Whole) → IsRunPair bytes text notes unit → (status : ℕ) (told : List ℕ)
      → IsShown name window (knowledge_in unit notes) names notes status told
      → ViewOf (TimelineOf name program window names) (bytes ∷ text ∷ []) status told
  drawn_of notes unit pair status told is =
      timeline (TimelineOf name program window names) bytes (text ∷ []) status told
      (of_a_run name notes status told refl pair.written
      (by_program name program window names text unit status told (record { program = pair.program; own = pair.own }) is))

  -- And by inputs
  module _ (inputs fed : List ℕ) where
    pub undrawn_by : (status : ℕ) (told : List ℕ) → status ≡ 1 → IsRunUnpaired name program bytes text told
        → ViewOf (TimelineWith name program inputs window names) (bytes ∷ text ∷ fed ∷ []) status told
    undrawn_by status told one is =
        subst (λ s. ViewOf (TimelineWith name program inputs window names) (bytes ∷ text ∷ fed ∷ []) s told) (sym one)
        (unpaired (TimelineWith name program inputs window names) (text ∷ fed ∷ []) refl
        (λ notes told is. with_other name program inputs window names text fed told is) told is)

    pub drawn_by : (notes : List Note) (unit : Whole) → IsRunPair bytes text notes unit → (status : ℕ) (told : List ℕ)
        → IsFed name inputs window names notes unit fed status told
        → ViewOf (TimelineWith name program inputs window names) (bytes ∷ text ∷ fed ∷ []) status told
    drawn_by notes unit pair status told is =
        timeline (TimelineWith name program inputs window names) bytes (text ∷ fed ∷ []) status told
        (of_a_run name notes status told refl pair.written
        (by_inputs name program inputs window names text fed unit status told (record { program = pair.program; own = pair.own }) is))

-- ---- notes behind those of the run

module _ (name inputs : List ℕ) (window : Window) (names : List (List ℕ)) (notes more : List Note) (unit : Whole) (fed : List ℕ) where
  -- Why there is no picture is told by the run's own notes.
  unshown : last_date (notes ++ more) ≡ last_date notes → first_unlisted (notes ++ more) ≡ first_unlisted notes
      → first_unasked (notes ++ more) names ≡ first_unasked notes names → (told : List ℕ) → IsUnshown name window names (notes ++ more) told
      → IsUnshown name window names notes told
  unshown last lists asks _ (unlisted line lacks) = unlisted line (sym lists ∙ lacks)
  unshown last lists asks _ (unknown place asked listed lacks at) = unknown place asked (sym lists ∙ listed) (sym asks ∙ lacks) at
  unshown last lists asks _ (empty listed known none) =
      empty (sym lists ∙ listed) (sym asks ∙ known) (subst (λ date. window_end window date < window.from) last none)

  pub fed_shown : (lists : List (List ℤ)) → AreListsOf unit fed lists → AreFed unit lists notes more
      → last_date (notes ++ more) ≡ last_date notes → first_unlisted (notes ++ more) ≡ first_unlisted notes
      → first_unasked (notes ++ more) names ≡ first_unasked notes names → (status : ℕ) (told : List ℕ)
      → IsShown name window (knowledge_in unit notes) names (notes ++ more) status told → IsFed name inputs window names notes unit fed status told
  fed_shown lists are feed last listed asks _ _ (drawn svg picture) = with_inputs lists more svg are feed picture
  fed_shown lists are feed last listed asks _ _ (undrawn told is) = undrawn_with lists told are (unshown last listed asks told is)
