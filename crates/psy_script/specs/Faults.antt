-- The first line of a text that is at fault.
use Rattle.std.specs.Prelude.{◌≡◌, ℕ, suc, ◌<◌, ◌≤◌, List, [], ◌∷◌, ◌++◌, length, Option, Some, None}
use Rattle.psy_base.specs.declared.limits.TheConstants.{LINES}
use Rattle.psy_script.specs.declared.fault.LineKind.{LineKind}
use Rattle.psy_script.specs.declared.fault.LineKind.TheVariants.{BadLine, NoSuchName, Again, Range}
use Rattle.psy_text.specs.Lines.{lines_of}

-- The number by which a refusal names the kind
abbrev pub line_number : LineKind → ℕ
line_number BadLine = 1
line_number NoSuchName = 2
line_number Again = 3
line_number Range = 4

-- What is wrong with a line that stands behind these, if anything is
abbrev pub Judge : Type 0
Judge = List (List ℕ) → List ℕ → Option LineKind

-- A fault, and the number of its line, counted from 1
pub record Fault : Type 0 where
  pub kind : LineKind
  pub line : ℕ

-- The fault of this kind in a line of this number; where there is none, the one behind it
abbrev pub fault_or : Option LineKind → ℕ → Option Fault → Option Fault
fault_or None line behind = behind
fault_or (Some kind) line behind = Some (record { kind = kind; line = line })

-- The first fault of lines that stand behind others
abbrev pub first_behind : Judge → List (List ℕ) → List (List ℕ) → Option Fault
first_behind judge before [] = None
first_behind judge before (line ∷ rest) = fault_or (judge before line) (suc (length before)) (first_behind judge (before ++ line ∷ []) rest)

-- The first fault of some lines
abbrev pub first_fault : Judge → List (List ℕ) → Option Fault
first_fault judge lines = first_behind judge [] lines

-- The text has no more than 10,000 lines, and none of them is at fault.
pub record IsLawful (judge : Judge) (text : List ℕ) : Type 0 where
  pub few : length (lines_of text) ≤ LINES
  pub sound : first_fault judge (lines_of text) ≡ None

-- It has no more than 10,000 lines, and this is the first fault.
pub record IsFirst (judge : Judge) (text : List ℕ) (kind : LineKind) (line : ℕ) : Type 0 where
  pub few : length (lines_of text) ≤ LINES
  pub fault : first_fault judge (lines_of text) ≡ Some (record { kind = kind; line = line })

-- It has more.
abbrev pub HasManyLines : List ℕ → Type 0
HasManyLines text = LINES < length (lines_of text)
