-- What is kept of a run, line by line.
use Rattle.std.proofs.Common.{◌≡◌, ◌∙◌, refl, sym, ap, subst, ℕ, ◌+◌, ◌<◌, List, [], ◌∷◌, ◌++◌, length, Option, append_assoc, append-nil, length-append, arith}
use Rattle.std.proofs.lemmas.Grind.{flat_map-append}
use Rattle.psy_door.specs.Growth.{GrewByFront}
use Rattle.psy_log.specs.declared.note.Note.{Note}
use Rattle.psy_log.specs.Forms.{line_of}
use Rattle.psy_notes.specs.declared.stand.Stand.{Stand}
use Rattle.psy_notes.specs.Stands.{run_begins}
use Rattle.psy_notes.specs.Texts.{Leads, Steps, text_of}
use Rattle.psy_passes.specs.declared.scan_fault.ScanFault.{ScanFault}
use Rattle.psy_passes.specs.declared.scan_fault.ScanFault.TheVariants as fault
use Rattle.psy_passes.specs.declared.progress.Progress.{Progress}
use Rattle.psy_passes.specs.declared.reading.TheConstants.{LINES}
use Rattle.psy_passes.specs.Progress.{IsUntaken, StandsFor, WritesOn}
use Rattle.psy_passes.specs.Runs.{Halts, IsOutside, Stops, tail_line, tail_of}
use Rattle.psy_passes.specs.Telling.{told_nothing, told_more}
use Rattle.psy_passes.proofs.lemmas.Notes.{Leads-more}
use Rattle.psy_passes.proofs.lemmas.Growth.{grew_nothing, grew_more, front_behind, front_nothing}

-- Nothing was read.
pub starts : {T : Type 0} (tells : T → Note → List ℕ → T → Type 0) (old : T) (held : Option (List ℕ)) (kept : Progress) → kept.stand ≡ run_begins → kept.lines ≡ 0
    → kept.tail.items ≡ [] → kept.text.items ≡ [] → StandsFor tells old held held [] [] old kept
starts tells old held kept stand lines tail text =
    record { leads = sym stand; lines = lines; few = omega arith; told = told_nothing; tail = tail; written = ([], grew_nothing held, sym text) }

-- A note was taken.
pub takes : {T : Type 0} (tells : T → Note → List ℕ → T → Type 0) (old : T) (held now_held : Option (List ℕ)) (notes : List Note) (text : List ℕ) (now next : T)
    (kept new : Progress) (note : Note) (piece : List ℕ) → StandsFor tells old held now_held notes text now kept → Steps kept.stand note new.stand → kept.lines < LINES
    → tells now note piece next → new.lines ≡ kept.lines + 1 → new.tail.items ≡ kept.tail.items ++ tail_line note → new.text.items ≡ kept.text.items ++ piece
    → StandsFor tells old held now_held (notes ++ note ∷ []) (text ++ piece) next new
takes tells old held now_held notes text now next kept new note piece stands steps few tells_it lines tail waits =
    let count : length (notes ++ note ∷ []) ≡ length notes + 1 = length-append notes (note ∷ []) in
    record {
      leads = Leads-more run_begins notes kept.stand note new.stand stands.leads steps;
      lines = omega (arith, lines, stands.lines, count);
      few = omega (arith, few, stands.lines, count);
      told = told_more notes text now note piece next stands.told tells_it;
      tail =
          tail ∙ ap (λ t. t ++ tail_line note) stands.tail
          ∙ sym (flat_map-append tail_line notes (note ∷ []) ∙ ap (λ t. tail_of notes ++ t) (append-nil (tail_line note)));
      written =
          (stands.written.0, stands.written.1, ap (λ t. t ++ piece) stands.written.2 ∙ append_assoc stands.written.0 kept.text.items piece ∙ ap (λ t. stands.written.0 ++ t) (sym waits));
    }

-- Some of what waits was written.
pub writes : {T : Type 0} (tells : T → Note → List ℕ → T → Type 0) (old : T) (held before now : Option (List ℕ)) (notes : List Note) (text : List ℕ) (state : T)
    (kept new : Progress) → StandsFor tells old held before notes text state kept → WritesOn before now kept new → StandsFor tells old held now notes text state new
writes tells old held before now notes text state kept new stands on =
    record {
      leads = subst (Leads run_begins notes) (sym on.stand) stands.leads;
      lines = on.lines ∙ stands.lines;
      few = stands.few;
      told = stands.told;
      tail = ap (λ t. t.items) on.tail ∙ stands.tail;
      written = (
        stands.written.0 ++ on.text.0,
        grew_more held before now stands.written.0 on.text.0 stands.written.1 on.text.1,
        stands.written.2 ∙ ap (λ t. stands.written.0 ++ t) on.text.2 ∙ sym (append_assoc stands.written.0 on.text.0 new.text.items),
      );
    }

-- Nothing was written.
pub writes_nothing : (held : Option (List ℕ)) (kept : Progress) → WritesOn held held kept kept
writes_nothing held kept = record { stand = refl; lines = refl; tail = refl; text = ([], grew_nothing held, refl) }

-- A front of what waits was written, where a write failed.
pub cut_off : {T : Type 0} (tells : T → Note → List ℕ → T → Type 0) (old : T) (held before now : Option (List ℕ)) (notes : List Note) (text : List ℕ) (state : T)
    (kept : Progress) → StandsFor tells old held before notes text state kept → GrewByFront before now kept.text.items → GrewByFront held now text
cut_off tells old held before now notes text state kept stands front =
    subst (GrewByFront held now) (sym stands.written.2) (front_behind held before now stands.written.0 kept.text.items stands.written.1 front)

-- It is read no further.
pub halts : {T : Type 0} (tells : T → Note → List ℕ → T → Type 0) (refuses : T → Note → Type 0) (old : T) (held now : Option (List ℕ)) (notes : List Note)
    (text : List ℕ) (state : T) (kept : Progress) (whole rest : List ℕ) (why : ScanFault) → StandsFor tells old held now notes text state kept
    → whole ≡ text_of notes ++ rest → Stops refuses notes kept.stand rest state why → Halts tells refuses old held now whole why
halts tells refuses old held now notes text state kept whole rest why stands cut stops =
    record {
      notes = notes;
      last = kept.stand;
      rest = rest;
      text = text;
      now = state;
      leads = stands.leads;
      cut = cut;
      tells_so = stands.told;
      stops = stops;
      written = cut_off tells old held now now notes text state kept stands (front_nothing now kept.text.items);
    }

-- The same where a write failed.
pub halts_unwritten : {T : Type 0} (tells : T → Note → List ℕ → T → Type 0) (refuses : T → Note → Type 0) (old : T) (held before now : Option (List ℕ))
    (notes : List Note) (text : List ℕ) (state : T) (kept : Progress) (whole rest : List ℕ) (why : ScanFault) → StandsFor tells old held before notes text state kept
    → whole ≡ text_of notes ++ rest → why ≡ fault.Unwritten → GrewByFront before now kept.text.items → Halts tells refuses old held now whole why
halts_unwritten tells refuses old held before now notes text state kept whole rest why stands cut is front =
    record {
      notes = notes;
      last = kept.stand;
      rest = rest;
      text = text;
      now = state;
      leads = stands.leads;
      cut = cut;
      tells_so = stands.told;
      stops = subst (Stops refuses notes kept.stand rest state) (sym is) tt;
      written = cut_off tells old held before now notes text state kept stands front;
    }

-- Why a note isn't taken is why the text isn't read on.
pub untaken_stops : {T : Type 0} (refuses : T → Note → Type 0) (notes : List Note) (last to : Stand) (rest more : List ℕ) (now : T) (note : Note) (lines : ℕ) (why : ScanFault)
    → IsUntaken refuses now note lines why → lines ≡ length notes → Steps last note to → rest ≡ line_of note ++ more → Stops refuses notes last rest now why
untaken_stops refuses notes last to rest more now note lines (fault.Refused line) untaken is steps cut = (note, to, more, steps, cut, untaken.0, untaken.1 ∙ ap (λ n. n + 1) is)
untaken_stops refuses notes last to rest more now note lines fault.Memory untaken is steps cut = tt
untaken_stops refuses notes last to rest more now note lines _ untaken is steps cut = absurd untaken

-- What comes from outside stops everywhere.
pub outside_stops : {T : Type 0} (refuses : T → Note → Type 0) (notes : List Note) (last : Stand) (rest : List ℕ) (now : T) (why : ScanFault) → IsOutside why → Stops refuses notes last rest now why
outside_stops refuses notes last rest now fault.Unread is = tt
outside_stops refuses notes last rest now fault.Memory is = tt
outside_stops refuses notes last rest now _ is = absurd is
