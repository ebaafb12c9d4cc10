-- What writing lines did: they were written, or cut where a write failed; of some lines, of a date, of many dates, of a run.
use Rattle.std.proofs.Common.{◌≡◌, ◌∙◌, sym, ap, subst, refl, ℕ, suc, ◌+◌, ◌≤◌, ◌<◌, List, [], ◌∷◌, ◌++◌, append_assoc, length, slice_get, take, drop, drop-cons, take-append-drop, Some, Option, Result, Ok, Err, IfErr, append-nil, arith}
use Rattle.std.specs.List.{flat_map}
use Rattle.std.proofs.lemmas.Grind.{flat_map-append}
use Rattle.std.proofs.lemmas.List.{take_all, take_more}
use Rattle.std.proofs.lemmas.Option.{slice_get_within, get_or_from_slice_get}
use Rattle.std.proofs.Math.Seq.{take-append-add}
use Rattle.psy_run.proofs.lemmas.Growth.{Grew-trans}
use Rattle.psy_door.specs.Growth.{Grew, GrewByFront}
use Rattle.psy_kernel.specs.Texts.{lines_of, log_of, text_of}
use Rattle.psy_log.specs.declared.write.WriteFault.{WriteFault}
use Rattle.psy_log.specs.Writing.{Written}
use Rattle.psy_history.specs.Actions.{System}
use Rattle.psy_history.specs.Summary.{dates_from}
use Rattle.psy_run.specs.Cuts.{IsCutAt, Wrote, log_lines}
use Rattle.psy_run.proofs.WritingLemmas.{GrewByFront-append}
use Rattle.psy_run.proofs.LogLemmas.{dates-more, dates-next}

text_of-append : (xs ys : List (List ℕ)) → text_of (xs ++ ys) ≡ text_of xs ++ text_of ys
text_of-append xs ys = flat_map-append (λ line. line) xs ys

-- Lines, cut before and behind one of them
split_at : (lines : List (List ℕ)) (n : ℕ) (line : List ℕ) → slice_get lines n ≡ Some line → lines ≡ take n lines ++ line ∷ drop (suc n) lines
split_at lines n line at =
    let here = drop-cons lines n line (slice_get_within lines n line at) ∙ ap (λ l. l ∷ drop (suc n) lines) (get_or_from_slice_get lines n line line at) in
    sym (take-append-drop n lines) ∙ ap (λ rest. take n lines ++ rest) here

-- The write of one line failed, behind those before it.
pub cut_at_line : (a b c : Option (List ℕ)) (lines : List (List ℕ)) (n taken : ℕ) (line : List ℕ) → slice_get lines n ≡ Some line → Grew a b (text_of (take n lines)) → Grew b c (take taken line) → taken < length line → IsCutAt a c lines taken
cut_at_line a b c lines n taken line at first front short = record {
  before = take n lines;
  line = line;
  behind = drop (suc n) lines;
  all = split_at lines n line at;
  short = short;
  grew = Grew-trans a b c (text_of (take n lines)) (take taken line) first front;
}

-- It failed among the later of two parts, behind the first one.
pub cut_behind : (a b c : Option (List ℕ)) (first lines : List (List ℕ)) (taken : ℕ) → Grew a b (text_of first) → IsCutAt b c lines taken → IsCutAt a c (first ++ lines) taken
cut_behind a b c first lines taken grew cut = record {
  before = first ++ cut.before;
  line = cut.line;
  behind = cut.behind;
  all = ap (λ ls. first ++ ls) cut.all ∙ sym (append_assoc first cut.before (cut.line ∷ cut.behind));
  short = cut.short;
  grew =
      subst (Grew a c) (sym (append_assoc (text_of first) (text_of cut.before) (take taken cut.line)) ∙ ap (λ text. text ++ take taken cut.line) (sym (text_of-append first cut.before)))
      (Grew-trans a b c (text_of first) (text_of cut.before ++ take taken cut.line) grew cut.grew);
}

-- Or among the first
pub cut_before : (a c : Option (List ℕ)) (lines rest : List (List ℕ)) (taken : ℕ) → IsCutAt a c lines taken → IsCutAt a c (lines ++ rest) taken
cut_before a c lines rest taken cut = record {
  before = cut.before;
  line = cut.line;
  behind = cut.behind ++ rest;
  all = ap (λ ls. ls ++ rest) cut.all ∙ append_assoc cut.before (cut.line ∷ cut.behind) rest;
  short = cut.short;
  grew = cut.grew;
}

-- The last part was written, or a write of it failed.
pub cut_last : (a b c : Option (List ℕ)) (first lines : List (List ℕ)) (result : Result (Unit {0}) WriteFault) → Grew a b (text_of first) → IfErr result (λ fault. IsCutAt b c lines fault.taken) → IfErr result (λ fault. IsCutAt a c (first ++ lines) fault.taken)
cut_last a b c first lines (Ok done) grew cut = tt
cut_last a b c first lines (Err fault) grew cut = cut_behind a b c first lines fault.taken grew cut

-- ---- lines that were written, or cut

-- One line
pub wrote_line : (a b : Option (List ℕ)) (result : Result (Unit {0}) WriteFault) (line : List ℕ) → Written a b result line → IfErr result (λ fault. Grew a b (take fault.taken line)) → IfErr result (λ fault. fault.taken < length line)
    → Wrote a b result (line ∷ [])
wrote_line a b (Ok done) line written front short = subst (Grew a b) (sym (append-nil line)) written
wrote_line a b (Err fault) line written front short = record { before = []; line = line; behind = []; all = refl; short = short; grew = front }

-- Those behind others
pub wrote_behind : (a b c : Option (List ℕ)) (result : Result (Unit {0}) WriteFault) (first lines : List (List ℕ)) → Grew a b (text_of first) → Wrote b c result lines → Wrote a c result (first ++ lines)
wrote_behind a b c (Ok done) first lines grew wrote = subst (Grew a c) (sym (text_of-append first lines)) (Grew-trans a b c (text_of first) (text_of lines) grew wrote)
wrote_behind a b c (Err fault) first lines grew wrote = cut_behind a b c first lines fault.taken grew wrote

-- As a text they were written, or a front of it.
pub wrote_text : (a b : Option (List ℕ)) (result : Result (Unit {0}) WriteFault) (lines : List (List ℕ)) → Wrote a b result lines → Written a b result (text_of lines)
wrote_text a b (Ok done) lines wrote = wrote
wrote_text a b (Err fault) lines cut =
    let whole : text_of lines ≡ (text_of cut.before ++ cut.line) ++ text_of cut.behind =
    ap text_of cut.all ∙ text_of-append cut.before (cut.line ∷ cut.behind) ∙ sym (append_assoc (text_of cut.before) cut.line (text_of cut.behind)) in
    subst (GrewByFront a b) (sym whole) (GrewByFront-append a b (text_of cut.before ++ cut.line) (text_of cut.behind) (front_by cut))
  where
    front_by : (cut : IsCutAt a b lines fault.taken) → GrewByFront a b (text_of cut.before ++ cut.line)
    front_by cut = (length (text_of cut.before) + fault.taken, subst (Grew a b) (sym (take-append-add (text_of cut.before) cut.line fault.taken)) cut.grew)

-- One line alone was written, or a front of it.
pub wrote_one : (a b : Option (List ℕ)) (result : Result (Unit {0}) WriteFault) (line : List ℕ) → Wrote a b result (line ∷ []) → Written a b result line
wrote_one a b result line wrote = subst (Written a b result) (append-nil line) (wrote_text a b result (line ∷ []) wrote)

-- And as lines they were cut.
pub wrote_cut : (a b : Option (List ℕ)) (result : Result (Unit {0}) WriteFault) (lines : List (List ℕ)) → Wrote a b result lines → IfErr result (λ fault. IsCutAt a b lines fault.taken)
wrote_cut a b (Ok done) lines wrote = tt
wrote_cut a b (Err fault) lines cut = cut

-- ---- line by line

module _ (lines : List (List ℕ)) (a b c : Option (List ℕ)) (n : ℕ) (line : List ℕ) (at : slice_get lines n ≡ Some line) (so_far : Grew a b (text_of (take n lines))) where
  -- One line more was written,
  pub grew_line : Grew b c (text_of (line ∷ [])) → Grew a c (text_of (take (n + 1) lines))
  grew_line next =
      let within : n < length lines = slice_get_within lines n line at in
      let more : take (n + 1) lines ≡ take n lines ++ line ∷ [] = take_more lines n line within ∙ ap (λ l. take n lines ++ l ∷ []) (get_or_from_slice_get lines n line line at) in
      subst (Grew a c) (sym (ap text_of more ∙ text_of-append (take n lines) (line ∷ []))) (Grew-trans a b c (text_of (take n lines)) (text_of (line ∷ [])) so_far next)

  -- or it was cut.
  pub cut_line : (taken : ℕ) → IsCutAt b c (line ∷ []) taken → IsCutAt a c lines taken
  cut_line taken cut =
      subst (λ ls. IsCutAt a c ls taken) (sym (split_at lines n line at))
      (cut_behind a b c (take n lines) (line ∷ drop (suc n) lines) taken so_far (cut_before b c (line ∷ []) (drop (suc n) lines) taken cut))

-- All of them were.
pub grew_lines : (lines : List (List ℕ)) (a b : Option (List ℕ)) (n : ℕ) → length lines ≤ n → Grew a b (text_of (take n lines)) → Grew a b (text_of lines)
grew_lines lines a b n all grew = subst (λ ls. Grew a b (text_of ls)) (take_all n lines all) grew

-- ---- part by part

-- Lines so far, and the whole next part of them
pub grew_part : (a b c : Option (List ℕ)) (so_far part next : List (List ℕ)) → next ≡ so_far ++ part → Grew a b (text_of so_far) → Grew b c (text_of part) → Grew a c (text_of next)
grew_part a b c so_far part next is first second =
    subst (Grew a c) (sym (ap text_of is ∙ text_of-append so_far part)) (Grew-trans a b c (text_of so_far) (text_of part) first second)

-- Lines so far, and the next part of them cut: so all of them are.
pub cut_part : (a b c : Option (List ℕ)) (so_far part next rest whole : List (List ℕ)) (taken : ℕ) → next ≡ so_far ++ part → whole ≡ next ++ rest → Grew a b (text_of so_far) → IsCutAt b c part taken → IsCutAt a c whole taken
cut_part a b c so_far part next rest whole taken is all first cut =
    subst (λ ls. IsCutAt a c ls taken) (sym (all ∙ ap (λ front. front ++ rest) is)) (cut_before a c (so_far ++ part) rest taken (cut_behind a b c so_far part taken first cut))

-- ---- date by date

-- The text of dates is that of their lines.
pub log_text : (s : System) (dates : ℕ) → log_of s dates ≡ text_of (log_lines s dates)
log_text s dates = by (dates_from s.opening.dates dates)
  where
    by : (ds : List ℕ) → flat_map (λ date. text_of (lines_of s date)) ds ≡ text_of (flat_map (lines_of s) ds)
    by [] = refl
    by (d ∷ ds) = ap (λ text. text_of (lines_of s d) ++ text) (by ds) ∙ sym (text_of-append (lines_of s d) (flat_map (lines_of s) ds))

-- A write of a date's lines failed.
pub cut_at_date : (a b c : Option (List ℕ)) (s : System) (date n taken : ℕ) → s.opening.dates ≤ date → date + 1 ≤ n → Grew a b (log_of s date) → IsCutAt b c (lines_of s date) taken → IsCutAt a c (log_lines s n) taken
cut_at_date a b c s date n taken behind h first cut =
    let more = dates-more (lines_of s) s.opening.dates (date + 1) n (omega (arith, behind)) h in
    cut_part a b c (log_lines s date) (lines_of s date) (log_lines s (date + 1)) more.0 (log_lines s n) taken (dates-next (lines_of s) s.opening.dates date behind) more.1
    (subst (Grew a b) (log_text s date) first) cut
