-- The text of a history is what it tells up to a date, and behind that the text of the history that is taken up again there.
use Rattle.std.proofs.Common.{◌≡◌, ◌∙◌, ℕ, zero, suc, ◌+◌, ◌-◌, ◌<◌, ◌≤◌, List, ◌∷◌, ◌++◌, append_assoc, refl, ap, ap₂, arith}
use Rattle.std.specs.List.{flat_map, range_with_len}
use Rattle.std.proofs.lemmas.List.Concat.{flat_map-append}
use Rattle.psy_base.specs.declared.sizes.Sizes.{Sizes}
use Rattle.psy_history.specs.Actions.{System}
use Rattle.psy_history.specs.Lines.{events}
use Rattle.psy_history.specs.Resuming.{resumed_at}
use Rattle.psy_history.specs.Summary.{dates_from}
use Rattle.psy_kernel.specs.Texts.{lines_of, log_of, run_text, summary_of, text_of}
use Rattle.psy_rest.proofs.SameEnds.{SameFigures, same_lines, same_summary}

-- ---- dates

-- Numbers in a row are those before one of them, and those from it on.
range_parts : (from some more many : ℕ) → many ≡ some + more → range_with_len from many ≡ range_with_len from some ++ range_with_len (from + some) more
range_parts from zero more many is = ap₂ range_with_len (omega arith) (omega (arith, is))
range_parts from (suc some) more zero is = absurd (omega (arith, is))
range_parts from (suc some) more (suc many) is =
    let behind : (from + 1) + some ≡ from + suc some = omega arith in
    ap (λ rest. from ∷ rest) (range_parts (from + 1) some more many (omega (arith, is)) ∙ ap (λ n. range_with_len (from + 1) some ++ range_with_len n more) behind)

-- Dates are those up to one of them, and those behind it.
dates_parts : (dates date until : ℕ) → dates ≤ suc date → date ≤ until → dates_from dates (until + 1) ≡ dates_from dates (date + 1) ++ range_with_len (suc date) (until + 1 - suc date)
dates_parts zero date until behind late =
    let at : 0 + (date + 1) ≡ suc date = omega arith in
    range_parts 0 (date + 1) (until + 1 - suc date) (until + 1) (omega (arith, late)) ∙ ap (λ n. range_with_len 0 (date + 1) ++ range_with_len n (until + 1 - suc date)) at
dates_parts (suc last) date until behind late =
    let at : suc last + (date + 1 - suc last) ≡ suc date = omega (arith, behind) in
    range_parts (suc last) (date + 1 - suc last) (until + 1 - suc date) (until + 1 - suc last) (omega (arith, behind, late))
    ∙ ap (λ n. range_with_len (suc last) (date + 1 - suc last) ++ range_with_len n (until + 1 - suc date)) at

-- ---- texts

-- What a history tells of a date
abbrev told : System → ℕ → List ℕ
told s date = text_of (lines_of s date)

module _ (s : System) (sizes : Sizes) (order : ℕ → List ℕ) (date until : ℕ) (behind : s.opening.dates ≤ suc date) (late : date ≤ until)
    (lines : (at : ℕ) → date < at → events s at ≡ events (resumed_at s sizes.rings order date) at) (figures : SameFigures s (resumed_at s sizes.rings order date) order until) where
  -- The history that is taken up again
  abbrev t : System
  t = resumed_at s sizes.rings order date

  told_same : (from many : ℕ) → date < from → flat_map (told s) (range_with_len from many) ≡ flat_map (told t) (range_with_len from many)
  told_same from zero since = refl
  told_same from (suc many) since = ap₂ (λ text more. text ++ more) (same_lines s s.executor t.opening from (lines from since)) (told_same (from + 1) many (omega (arith, since)))

  log_parts : log_of s (until + 1) ≡ log_of s (date + 1) ++ log_of t (until + 1)
  log_parts =
      ap (flat_map (told s)) (dates_parts s.opening.dates date until behind late)
      ∙ flat_map-append (told s) (dates_from s.opening.dates (date + 1)) (range_with_len (suc date) (until + 1 - suc date))
      ∙ ap (λ text. log_of s (date + 1) ++ text) (told_same (suc date) (until + 1 - suc date) (omega arith))

  pub text_parts : run_text s order sizes until ≡ log_of s (date + 1) ++ run_text t order sizes until
  text_parts =
      ap₂ (λ log summary. log ++ text_of summary) log_parts (same_summary s s.executor t.opening order sizes until figures)
      ∙ append_assoc (log_of s (date + 1)) (log_of t (until + 1)) (text_of (summary_of t order sizes until))
