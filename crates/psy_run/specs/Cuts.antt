-- Where a write failed: the lines before the one that failed were written, and a front of it.
use Rattle.std.specs.Prelude.{◌≡◌, ℕ, ◌+◌, ◌<◌, List, ◌∷◌, ◌++◌, length, take, Option, Result, MatchResult}
use Rattle.std.specs.List.{flat_map}
use Rattle.psy_base.specs.declared.sizes.Sizes.{Sizes}
use Rattle.psy_door.specs.Growth.{Grew}
use Rattle.psy_history.specs.Actions.{System}
use Rattle.psy_history.specs.Summary.{dates_from}
use Rattle.psy_log.specs.declared.write.WriteFault.{WriteFault}
use Rattle.psy_kernel.specs.Texts.{lines_of, summary_of, text_of}

-- The lines of the dates below this one: 0, 1 and so on, behind those that were done before
abbrev pub log_lines : System → ℕ → List (List ℕ)
log_lines s dates = flat_map (lines_of s) (dates_from s.opening.dates dates)

-- The lines of a run up to a date: those of each date, then the summary
abbrev pub run_lines : System → (ℕ → List ℕ) → Sizes → ℕ → List (List ℕ)
run_lines s order sizes until = log_lines s (until + 1) ++ summary_of s order sizes until

-- A sink grew by lines, the first of these, and by so many bytes of the next, which weren't all.
pub record IsCutAt (old new : Option (List ℕ)) (lines : List (List ℕ)) (taken : ℕ) : Type 0 where
  pub before : List (List ℕ)
  pub line : List ℕ
  pub behind : List (List ℕ)
  pub all : lines ≡ before ++ (line ∷ behind)
  pub short : taken < length line
  pub grew : Grew old new (text_of before ++ take taken line)

-- Lines were written, all of them, or a write failed and they were cut there.
abbrev pub Wrote : Option (List ℕ) → Option (List ℕ) → Result (Unit {0}) WriteFault → List (List ℕ) → Type 0
Wrote old new result lines = MatchResult result (λ done. Grew old new (text_of lines)) (λ fault. IsCutAt old new lines fault.taken)
