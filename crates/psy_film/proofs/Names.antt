-- The names that the summary of a run lists.
use Rattle.std.proofs.Common.{◌≡◌, ℕ, ◌+◌, Bool, true, false, ◌||◌, not, cond, List, [], ◌∷◌, ◌++◌, Option, bytes_eq, map, option_map, refl, sym, ap, ◌∙◌}
use Rattle.std.specs.Prelude.{fold, if◌then◌else◌}
use Rattle.std.specs.List.{list_any, position}
use Rattle.std.proofs.lemmas.List.Folds.{list_any-append}
use Rattle.std.proofs.lemmas.Slice.Eq.{bytes_eq-Decides}
use Rattle.psy_lists.proofs.lemmas.Tests.{or_false, or_or}
use Rattle.psy_door.specs.Files.{Files}
use Rattle.psy_log.specs.declared.note.Note.{Note}
use Rattle.psy_log.specs.declared.note.Note.TheVariants as note
use Rattle.psy_log.specs.Forms.{says}
use Rattle.psy_passes.specs.Listing.{added_agent, added_stream, added_variable}
use Rattle.psy_passes.specs.Listing as listing
use Rattle.psy_passes.specs.Names.{with_name}
use Rattle.psy_passes.specs.NameChecks.{EndAs, kept}
use Rattle.psy_passes.specs.NameChecks as passes
use Rattle.psy_draw.specs.Gathering.{is_dated, undated}
use Rattle.psy_draw.specs.Listing.{ends_agent, ends_stream, ends_variable, first_unlisted, is_listed}
use Rattle.psy_draw.specs.Sayings.{HasSummary}
use Rattle.psy_film.specs.Films.{IsLogOf}

-- ---- one name more

with_one : (called : List ℕ) (names : List (List ℕ)) (name : List ℕ)
    → list_any (bytes_eq called) (with_name names name) ≡ (list_any (bytes_eq called) names || bytes_eq called name)
with_one called names name = by (list_any (bytes_eq name) names) refl
  where
    already : (b : Bool) → bytes_eq called name ≡ b → list_any (bytes_eq name) names ≡ true → list_any (bytes_eq called) names ≡ (list_any (bytes_eq called) names || b)
    already true e there =
        let is : list_any (bytes_eq called) names ≡ true = ap (λ n. list_any (bytes_eq n) names) ((bytes_eq-Decides called name).0 e) ∙ there in
        is ∙ ap (λ b. b || true) (sym is)
    already false e there = sym (or_false (list_any (bytes_eq called) names))

    by : (b : Bool) → list_any (bytes_eq name) names ≡ b
        → list_any (bytes_eq called) (if b then names else names ++ name ∷ []) ≡ (list_any (bytes_eq called) names || bytes_eq called name)
    by true e = already (bytes_eq called name) refl e
    by false e =
        list_any-append (bytes_eq called) names (name ∷ []) ∙ ap (λ b. list_any (bytes_eq called) names || b) (or_false (bytes_eq called name))

-- ---- the names of a summary

agents_are : (called : List ℕ) (names : List (List ℕ)) (notes : List Note)
    → list_any (bytes_eq called) (fold added_agent names notes) ≡ (list_any (bytes_eq called) names || list_any (ends_agent called) notes)
agents_are called names [] = sym (or_false (list_any (bytes_eq called) names))
agents_are called names (note.AgentEnd agent count slack ∷ notes) =
    agents_are called (with_name names agent.now) notes ∙ ap (λ b. b || list_any (ends_agent called) notes) (with_one called names agent.now)
    ∙ or_or (list_any (bytes_eq called) names) (bytes_eq called agent.now) (list_any (ends_agent called) notes)
agents_are called names (n ∷ notes) = agents_are called names notes

variables_are : (called : List ℕ) (names : List (List ℕ)) (notes : List Note)
    → list_any (bytes_eq called) (fold added_variable names notes) ≡ (list_any (bytes_eq called) names || list_any (ends_variable called) notes)
variables_are called names [] = sym (or_false (list_any (bytes_eq called) names))
variables_are called names (note.VariableEnd variable size reach ∷ notes) =
    variables_are called (with_name names variable.now) notes ∙ ap (λ b. b || list_any (ends_variable called) notes) (with_one called names variable.now)
    ∙ or_or (list_any (bytes_eq called) names) (bytes_eq called variable.now) (list_any (ends_variable called) notes)
variables_are called names (n ∷ notes) = variables_are called names notes

streams_are : (called : List ℕ) (names : List (List ℕ)) (notes : List Note)
    → list_any (bytes_eq called) (fold added_stream names notes) ≡ (list_any (bytes_eq called) names || list_any (ends_stream called) notes)
streams_are called names [] = sym (or_false (list_any (bytes_eq called) names))
streams_are called names (note.StreamEnd stream size held ∷ notes) =
    streams_are called (with_name names stream.now) notes ∙ ap (λ b. b || list_any (ends_stream called) notes) (with_one called names stream.now)
    ∙ or_or (list_any (bytes_eq called) names) (bytes_eq called stream.now) (list_any (ends_stream called) notes)
streams_are called names (n ∷ notes) = streams_are called names notes

-- A name is listed by one definition where it is by the other.
listed_same : (notes : List Note) (n : Note) → is_listed notes n ≡ listing.is_listed notes n
listed_same notes (note.StopOverrun date agent) = sym (agents_are agent.now [] notes)
listed_same notes (note.StopTrap date agent kind) = sym (agents_are agent.now [] notes)
listed_same notes (note.Value date variable value) = sym (variables_are variable.now [] notes)
listed_same notes (note.Message date stream value) = sym (streams_are stream.now [] notes)
listed_same notes _ = refl

pub unlisted_same : (notes : List Note) → first_unlisted notes ≡ listing.first_unlisted notes
unlisted_same notes =
    let P : (Note → Bool) → Option ℕ = λ passes. option_map (λ k. k + 1) (position (λ n. not (passes n)) notes) in
    ap P (λ i n. listed_same notes n i)

-- ---- the summary

kept_is : (n : Note) (notes : List Note) → kept n notes ≡ cond (not (is_dated n)) (n ∷ notes) notes
kept_is (note.StopOverrun date agent) notes = refl
kept_is (note.StopTrap date agent kind) notes = refl
kept_is (note.Value date variable value) notes = refl
kept_is (note.Message date stream value) notes = refl
kept_is n notes = refl

undated_is : (notes : List Note) → passes.undated notes ≡ undated notes
undated_is [] = refl
undated_is (n ∷ notes) = ap (kept n) (undated_is notes) ∙ kept_is n (undated notes)

-- The notes that were read from the lines of its end and summary are those of a log.
pub has_summary : (files : Option Files) (name tail : List ℕ) (summary notes : List Note) → EndAs summary tail → IsLogOf files name tail notes → HasSummary notes summary
has_summary files name tail summary notes ends log =
    sym (ap (map says) (undated_is notes)) ∙ sym (ends notes log.log.lines log.ends) ∙ ap (map says) (undated_is summary)
