-- The changes that are told of notes one by one are those of the dump.
use Rattle.std.proofs.Common.{◌≡◌, ◌∙◌, inr, refl, sym, ap, subst, ℕ, List, [], ◌∷◌, ◌++◌, Option, append_assoc, append-nil}
use Rattle.psy_door.specs.Files.{Files}
use Rattle.psy_door.specs.Growth.{Grew, GrewByFront}
use Rattle.psy_log.specs.declared.note.Note.{Note}
use Rattle.psy_notes.specs.declared.stand.Stand.{Stand}
use Rattle.psy_notes.specs.Stands.{run_begins}
use Rattle.psy_notes.specs.Texts.{IsText, Leads, text_of}
use Rattle.psy_passes.specs.declared.listed.Listed.{Listed}
use Rattle.psy_passes.specs.Listing.{streams_in, variables_in}
use Rattle.psy_passes.specs.Logs.{IsLog}
use Rattle.psy_passes.specs.Runs.{IsRun, tail_of}
use Rattle.psy_passes.specs.Telling.{Told, told_nothing, told_more}
use Rattle.psy_passes.proofs.lemmas.Growth.{front_behind, grew_more}
use Rattle.psy_passes.specs.NameChecks.{AreNamesOf}
use Rattle.psy_passes.specs.Outcomes.{IsFileText}
use Rattle.psy_wave.specs.declared.teller.ChangeTeller.{ChangeTeller}
use Rattle.psy_wave.specs.Changes.{change, changes, later, stamp, time_of, vcd_of}
use Rattle.psy_wave.specs.Heads.{head}
use Rattle.psy_wave.specs.Streams.{DumpFront, TellsChange, vcd_under}

-- What notes change, by the names that were found, behind a time
abbrev changed : Listed → ℕ → List Note → List ℕ
changed listed last notes = changes listed.variables listed.streams listed.agents last notes

one_more : (listed : Listed) (now : ChangeTeller) (n : Note) (piece text : List ℕ) (next : ChangeTeller) (more : List Note) (whole : List ℕ)
    → now.listed ≡ listed → TellsChange now n piece next → whole ≡ text ++ changed listed now.last (n ∷ more) → whole ≡ (text ++ piece) ++ changed listed next.last more
one_more listed now n piece text next more whole same tells is =
    let times = stamp now.last (time_of n) in
    let told : Listed → List ℕ = λ l. change l.variables l.streams l.agents n in
    let after : ℕ → List ℕ = λ last. changed listed last more in
    let one : piece ≡ times ++ told listed = tells.change ∙ ap (λ l. times ++ told l) same in
    is ∙ ap (λ p. text ++ (p ++ after (later now.last (time_of n)))) (sym one) ∙ sym (append_assoc text piece (after (later now.last (time_of n))))
    ∙ ap (λ last. (text ++ piece) ++ after last) (sym tells.last)

-- What was told goes on to the changes, whatever notes come behind.
abbrev pub GoesOn : Listed → List Note → List ℕ → ChangeTeller → Type 0
GoesOn listed notes text now = (now.listed ≡ listed) × ((more : List Note) → changed listed 0 (notes ++ more) ≡ text ++ changed listed now.last more)

pub changes_told : (old : ChangeTeller) (notes : List Note) (text : List ℕ) (now : ChangeTeller) → Told TellsChange old notes text now → old.last ≡ 0
    → GoesOn old.listed notes text now
changes_told old _ _ _ told_nothing first = (refl, λ more. ap (λ last. changed old.listed last more) (sym first))
changes_told old _ _ _ (told_more notes text now n piece next before tells) first =
    let so_far = changes_told old notes text now before first in (
      tells.listed ∙ so_far.0,
      λ more.
          one_more old.listed now n piece text next more (changed old.listed 0 ((notes ++ n ∷ []) ++ more)) so_far.0 tells
          (ap (changed old.listed 0) (append_assoc notes (n ∷ []) more) ∙ so_far.1 (n ∷ more)),
    )

-- ---- what is written

-- Head and changes by the names that were found are those by the names of the summary.
under_same : (listed : Listed) (tail : List ℕ) (before : List Note) (notes : List Note) → AreNamesOf listed tail → IsText run_begins (text_of before) before
    → tail ≡ tail_of before
    → head listed.variables listed.streams listed.agents ++ changed listed 0 notes ≡ vcd_under before notes
under_same listed tail before notes names read is =
    let those = names before read is in
    let both : List (List ℕ) → List (List ℕ) → List (List ℕ) → List ℕ = λ vs ss ags. head vs ss ags ++ changes vs ss ags 0 notes in
    ap (λ vs. both vs listed.streams listed.agents) those.1 ∙ ap (λ ss. both (variables_in before) ss listed.agents) those.2
    ∙ ap (λ ags. both (variables_in before) (streams_in before) ags) those.0

-- Head and changes of a whole log are its dump.
pub dump_written : (files : Option Files) (name tail : List ℕ) (old : ChangeTeller) (a b c : Option (List ℕ)) (first : List ℕ) (now : ChangeTeller)
    → AreNamesOf old.listed tail → old.last ≡ 0 → first ≡ head old.listed.variables old.listed.streams old.listed.agents → Grew a b first
    → ((notes : List Note) × (text : List ℕ) × IsRun files name notes × IsLog (text_of notes) notes × (tail_of notes ≡ tail) × Told TellsChange old notes text now
    × Grew b c text)
    → (notes : List Note) × IsRun files name notes × IsLog (text_of notes) notes × Grew a c (vcd_of notes)
dump_written files name tail old a b c first now names zero is begun done =
    let so_far = changes_told old done.0 done.1 now done.5 zero in
    let body : done.1 ≡ changed old.listed 0 done.0 =
    sym (ap (changed old.listed 0) (sym (append-nil done.0)) ∙ so_far.1 [] ∙ append-nil done.1) in
    let whole : first ++ done.1 ≡ vcd_of done.0 =
    ap (λ t. t ++ done.1) is ∙ ap (λ t. head old.listed.variables old.listed.streams old.listed.agents ++ t) body
    ∙ under_same old.listed tail done.0 done.0 names done.2.read (sym done.4) in
    (done.0, done.2, done.3, subst (Grew a c) whole (grew_more a b c first done.1 begun done.6))

-- Head and changes of a front of a run are a front of a dump.
pub dump_begun : (files : Option Files) (name tail : List ℕ) (old : ChangeTeller) (a b c : Option (List ℕ)) (first : List ℕ)
    → AreNamesOf old.listed tail → old.last ≡ 0 → first ≡ head old.listed.variables old.listed.streams old.listed.agents → Grew a b first
    → ((notes : List Note) × IsRun files name notes × IsLog (text_of notes) notes × (tail ≡ tail_of notes))
    → ((notes : List Note) × (last : Stand) × (rest : List ℕ) × (text : List ℕ) × (now : ChangeTeller) × Leads run_begins notes last
    × IsFileText files name (text_of notes ++ rest) × Told TellsChange old notes text now × GrewByFront b c text)
    → (text : List ℕ) × DumpFront files name text × GrewByFront a c text
dump_begun files name tail old a b c first names zero is begun run told =
    let so_far = changes_told old told.0 told.3 told.4 told.7 zero in (
      first ++ told.3,
      inr
          (record {
            before = run.0;
            run = run.1;
            log = run.2;
            notes = told.0;
            last = told.1;
            rest = told.2;
            leads = told.5;
            read = told.6;
            goes_on = λ more. (
              changed old.listed told.4.last more,
              sym (under_same old.listed tail run.0 (told.0 ++ more) names run.1.read run.3)
                  ∙ ap (λ t. head old.listed.variables old.listed.streams old.listed.agents ++ t) (so_far.1 more)
                  ∙ ap (λ t. t ++ (told.3 ++ changed old.listed told.4.last more)) (sym is)
                  ∙ sym (append_assoc first told.3 (changed old.listed told.4.last more)),
            );
          }),
      front_behind a b c first told.3 begun told.8,
    )

-- A front of the head is one too.
pub head_begun : (files : Option Files) (name tail : List ℕ) (listed : Listed) (a b : Option (List ℕ)) (first : List ℕ) → AreNamesOf listed tail
    → first ≡ head listed.variables listed.streams listed.agents → GrewByFront a b first
    → ((notes : List Note) × IsRun files name notes × IsLog (text_of notes) notes × (tail ≡ tail_of notes))
    → (text : List ℕ) × DumpFront files name text × GrewByFront a b text
head_begun files name tail listed a b first names is front run = (
  first,
  inr
      (record {
        before = run.0;
        run = run.1;
        log = run.2;
        notes = [];
        last = run_begins;
        rest = text_of run.0;
        leads = refl;
        read = run.1.told;
        goes_on = λ more. (
          changed listed 0 more,
          sym (under_same listed tail run.0 more names run.1.read run.3) ∙ ap (λ t. t ++ changed listed 0 more) (sym is),
        );
      }),
  front,
)
