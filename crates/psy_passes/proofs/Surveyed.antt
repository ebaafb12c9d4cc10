-- What a scan says of a run, where the names of its summary are known.
use Rattle.std.proofs.Common.{◌≡◌, ◌≢◌, ◌∙◌, inl, inr, refl, sym, ap, ℕ, ◌+◌, not, List, [], ◌++◌, Option, None, Some, option_map, append-nil}
use Rattle.std.specs.List.{position}
use Rattle.psy_door.specs.Files.{Files, bytes_under}
use Rattle.psy_door.specs.Growth.{Grew, GrewByFront}
use Rattle.psy_log.specs.declared.note.Note.{Note}
use Rattle.psy_notes.specs.declared.stand.Stand.{Stand}
use Rattle.psy_notes.specs.Stands.{run_begins}
use Rattle.psy_notes.specs.Texts.{Leads, text_of}
use Rattle.psy_passes.specs.declared.listed.Listed.{Listed}
use Rattle.psy_passes.specs.Listing.{agents_in, first_unlisted, streams_in, variables_in}
use Rattle.psy_passes.specs.Logs.{IsLog}
use Rattle.psy_passes.specs.Tables.{is_among}
use Rattle.psy_passes.specs.declared.scan_fault.ScanFault.{ScanFault}
use Rattle.psy_passes.specs.declared.scan_fault.ScanFault.TheVariants as fault
use Rattle.psy_passes.specs.Runs.{Halts, IsRun, tail_of}
use Rattle.psy_passes.specs.Telling.{Told, told_nothing}
use Rattle.psy_passes.proofs.lemmas.Growth.{front_nothing, front_whole}
use Rattle.psy_passes.specs.declared.name_check.NameCheck.{NameCheck}
use Rattle.psy_passes.specs.declared.strict.Strict.{Strict}
use Rattle.psy_passes.specs.NameChecks.{AreNamesOf, Looks, RefusesOther, TellsListed, first_other}
use Rattle.psy_passes.specs.Outcomes.{IsFileText}
use Rattle.psy_passes.proofs.Firsts.{none_mapped}
use Rattle.psy_passes.proofs.Tellers.{names_found, strictly_told}
use Rattle.psy_passes.proofs.Twice.{NotBoth, OneFront, at_end, at_line, at_many, at_name, breaks_of, many_of}

-- The law of names that a summary doesn't list
abbrev pub FoundUnlisted : Type 0
FoundUnlisted = (listed : Listed) (notes : List Note) → listed.agents ≡ agents_in notes → listed.variables ≡ variables_in notes → listed.streams ≡ streams_in notes
    → option_map (λ k. k + 1) (position (λ n. not (is_among listed n)) notes) ≡ first_unlisted notes

-- A run was read to its end.
abbrev pub Scanned : {T : Type 0} → (T → Note → List ℕ → T → Type 0) → Option Files → List ℕ → T → T → List ℕ → Option (List ℕ) → Option (List ℕ) → Type 0
Scanned tells files name old new tail a b =
    (notes : List Note) × (text : List ℕ) × IsRun files name notes × Told tells old notes text new × (tail ≡ tail_of notes) × Grew a b text

-- A run was read up to a fault.
abbrev pub HaltsAt : {T : Type 0} → (T → Note → List ℕ → T → Type 0) → (T → Note → Type 0) → T → Option (List ℕ) → Option (List ℕ) → Option Files → List ℕ
    → ScanFault → Type 0
HaltsAt tells refuses old a b files name why = (whole : List ℕ) × IsFileText files name whole × Halts tells refuses old a b whole why

-- ---- the pass for names

unlisted_of : FoundUnlisted → (files : Option Files) (name : List ℕ) (listed : Listed) (tail now : List ℕ) (notes : List Note) → AreNamesOf listed tail → now ≡ tail
    → IsRun files name notes → now ≡ tail_of notes → option_map (λ k. k + 1) (first_other listed notes) ≡ first_unlisted notes
unlisted_of found files name listed tail now notes names same run is =
    let those = names notes run.read (sym same ∙ is) in found listed notes those.0 those.1 those.2

first_of : FoundUnlisted → (files : Option Files) (name : List ℕ) (listed : Listed) (tail now : List ℕ) (old new : NameCheck) (a b : Option (List ℕ))
    → AreNamesOf listed tail → old.listed.now ≡ listed → old.notes ≡ 0 → old.unlisted ≡ None → (done : Scanned Looks files name old new now a b) → now ≡ tail
    → new.unlisted ≡ first_unlisted done.0
first_of found files name listed tail now old new a b names is none nowhere done same =
    let looked = names_found old done.0 done.1 new done.3 none nowhere done.2.few in
    looked.2 ∙ ap (λ l. option_map (λ k. k + 1) (first_other l done.0)) is ∙ unlisted_of found files name listed tail now done.0 names same done.2 done.4

pub names_listed : FoundUnlisted → (files : Option Files) (name : List ℕ) (listed : Listed) (tail now : List ℕ) (old new : NameCheck) (a b : Option (List ℕ))
    → AreNamesOf listed tail → old.listed.now ≡ listed → old.notes ≡ 0 → old.unlisted ≡ None → Scanned Looks files name old new now a b → now ≡ tail
    → new.unlisted ≡ None → (notes : List Note) × IsRun files name notes × IsLog (text_of notes) notes × (tail_of notes ≡ tail)
names_listed found files name listed tail now old new a b names is none nowhere done same all =
    let first = first_of found files name listed tail now old new a b names is none nowhere done same in
    (done.0, done.2, record { lines = done.2.read; listed = sym first ∙ all }, sym done.4 ∙ same)

pub name_unlisted : FoundUnlisted → (files : Option Files) (name : List ℕ) (listed : Listed) (tail now : List ℕ) (old new : NameCheck) (a b : Option (List ℕ)) (line : ℕ)
    → AreNamesOf listed tail → old.listed.now ≡ listed → old.notes ≡ 0 → old.unlisted ≡ None → Scanned Looks files name old new now a b → now ≡ tail
    → new.unlisted ≡ Some line → (notes : List Note) × IsRun files name notes × (first_unlisted notes ≡ Some line)
name_unlisted found files name listed tail now old new a b line names is none nowhere done same other =
    let first = first_of found files name listed tail now old new a b names is none nowhere done same in
    (done.0, done.2, sym first ∙ other)

-- ---- the file changed

-- The file changed, where it was a run before whose end and summary had these lines.
abbrev pub ChangedSince : Option Files → List ℕ → List ℕ → Type 0
ChangedSince files name tail = (before : List Note) → IsRun files name before → tail_of before ≡ tail → files ≡ None

module _ {T : Type 0} (tells : T → Note → List ℕ → T → Type 0) (refuses : T → Note → Type 0) (old : T) (a b : Option (List ℕ)) (files : Option Files) (name tail : List ℕ) where
  pub changed_line : NotBoth → (line : ℕ) → HaltsAt tells refuses old a b files name (fault.Line line) → ChangedSince files name tail
  changed_line not_both line halts = λ before run was.
      at_line not_both files name before halts.0 line run halts.1 (breaks_of tells refuses old a b halts.0 line halts.2)

  pub changed_many : OneFront → HaltsAt tells refuses old a b files name fault.Many → ChangedSince files name tail
  changed_many front halts = λ before run was. at_many front files name before halts.0 run halts.1 (many_of tells refuses old a b halts.0 halts.2)

  pub changed_end : OneFront → (new : T) (now : List ℕ) → Scanned tells files name old new now a b → now ≢ tail → ChangedSince files name tail
  changed_end front new now done differs = λ before run was. at_end front files name before done.0 tail run done.2 was (λ is. differs (done.4 ∙ is))

  -- None is refused.
  pub unrefused : {A : Type 0} → ((state : T) (note : Note) → refuses state note → ⊥) → (line : ℕ) → HaltsAt tells refuses old a b files name (fault.Refused line) → A
  unrefused none line halts = absurd (none halts.2.now halts.2.stops.0 halts.2.stops.5)

-- ---- the pass for what is told

-- Before anything is read
abbrev whole_of : Option Files → List ℕ → List ℕ
whole_of None name = []
whole_of (Some told) name = bytes_under told name

whole_told : (files : Option Files) (name : List ℕ) → IsFileText files name (whole_of files name)
whole_told None name = tt
whole_told (Some told) name = refl

ended_told : (files : Option Files) (name bytes : List ℕ) → IsFileText files name bytes → IsFileText files name (bytes ++ [])
ended_told None name bytes is = tt
ended_told (Some told) name bytes is = is ∙ sym (append-nil bytes)

cut_told : (files : Option Files) (name bytes cut : List ℕ) → bytes ≡ cut → IsFileText files name bytes → IsFileText files name cut
cut_told None name bytes cut same is = tt
cut_told (Some told) name bytes cut same is = is ∙ same

-- Some was told of a front of the run.
abbrev pub ToldFront : {T : Type 0} → (T → Note → List ℕ → T → Type 0) → Option Files → List ℕ → T → Option (List ℕ) → Option (List ℕ) → Type 0
ToldFront {T} tells files name teller a b =
    (notes : List Note) × (last : Stand) × (rest : List ℕ) × (text : List ℕ) × (now : T) × Leads run_begins notes last × IsFileText files name (text_of notes ++ rest)
    × Told tells teller notes text now × GrewByFront a b text

pub told_none : {T : Type 0} (tells : T → Note → List ℕ → T → Type 0) (files : Option Files) (name : List ℕ) (teller : T) (a : Option (List ℕ))
    → ToldFront tells files name teller a a
told_none tells files name teller a = ([], run_begins, whole_of files name, [], teller, refl, whole_told files name, told_nothing, front_nothing a [])

module _ {T : Type 0} (tells : T → Note → List ℕ → T → Type 0) (refuses : T → Note → Type 0) (teller : Strict T) (a b : Option (List ℕ)) (files : Option Files) (name : List ℕ) where
  pub told_halt : (why : ScanFault) → HaltsAt (TellsListed tells) (RefusesOther refuses) teller a b files name why → ToldFront tells files name teller.inner a b
  told_halt why found =
      let halts = found.2 in (
        halts.notes,
        halts.last,
        halts.rest,
        halts.text,
        halts.now.inner,
        halts.leads,
        cut_told files name found.0 (text_of halts.notes ++ halts.rest) halts.cut found.1,
        (strictly_told tells teller halts.notes halts.text halts.now halts.tells_so).2,
        halts.written,
      )

  pub told_end : (new : Strict T) (now : List ℕ) → Scanned (TellsListed tells) files name teller new now a b → ToldFront tells files name teller.inner a b
  told_end new now done = (
    done.0,
    done.2.read.last,
    [],
    done.1,
    new.inner,
    done.2.read.leads,
    ended_told files name (text_of done.0) done.2.told,
    (strictly_told tells teller done.0 done.1 new done.3).2,
    front_whole a b done.1 done.5,
  )

  -- All was told of a log.
  abbrev ToldAll : List ℕ → T → Type 0
  ToldAll tail now =
      (notes : List Note) × (text : List ℕ) × IsRun files name notes × IsLog (text_of notes) notes × (tail_of notes ≡ tail) × Told tells teller.inner notes text now
      × Grew a b text

  pub told_all : FoundUnlisted → (tail : List ℕ) (new : Strict T) (now : List ℕ) → AreNamesOf teller.listed tail
      → Scanned (TellsListed tells) files name teller new now a b → now ≡ tail → ToldAll tail new.inner
  told_all found tail new now names done same =
      let told = strictly_told tells teller done.0 done.1 new done.3 in
      let first = unlisted_of found files name teller.listed tail now done.0 names same done.2 done.4 in
      (done.0, done.1, done.2, record { lines = done.2.read; listed = sym first ∙ ap (option_map (λ k. k + 1)) told.1 }, sym done.4 ∙ same, told.2, done.5)

  -- A name was refused, so the file isn't the log that it was.
  pub changed_name : OneFront → FoundUnlisted → (tail : List ℕ) (line : ℕ) → AreNamesOf teller.listed tail
      → HaltsAt (TellsListed tells) (RefusesOther refuses) teller a b files name (fault.Refused line)
      → ((state : T) (note : Note) → refuses state note → ⊥) → (before : List Note) → IsRun files name before → IsLog (text_of before) before → tail_of before ≡ tail
      → files ≡ None
  changed_name front found tail line names halted none before run log was =
      let halts = halted.2 in
      let note = halts.stops.0 in
      let told = strictly_told tells teller halts.notes halts.text halts.now halts.tells_so in
      let those = names before run.read (sym was) in
      let first : first_other teller.listed before ≡ None =
      none_mapped (first_other teller.listed before) (found teller.listed before those.0 those.1 those.2 ∙ log.listed) in
      by (halts.stops.5) told.0 first
    where
      by : RefusesOther refuses halted.2.now halted.2.stops.0 → halted.2.now.listed ≡ teller.listed → first_other teller.listed before ≡ None → files ≡ None
      by (inr refused) same first = absurd (none halted.2.now.inner halted.2.stops.0 refused)
      by (inl other) same first =
          at_name front files name teller.listed before halted.2.notes halted.2.last halted.2.stops.1 halted.2.stops.0 halted.0 halted.2.stops.2 run halted.1 first
          halted.2.leads halted.2.stops.3 (halted.2.cut ∙ ap (λ r. text_of halted.2.notes ++ r) halted.2.stops.4)
          (ap (λ l. is_among l halted.2.stops.0) (sym same) ∙ other)
