-- The names of the variables without a value, in lines of text.
use Rattle.std.specs.Prelude.{◌+◌, ◌*◌, ◌++◌, ◌||◌, ◌==◌, ℕ, Bool, List, [], ◌∷◌, cond, decimal, length, min, nat_le}
use Rattle.std.specs.List.{flat_map}
use Rattle.psy_draw.specs.declared.line.Line.{Line}
use Rattle.psy_draw.specs.declared.inputs.TheConstants.{FIRST_NAME, FURTHER_NAME, LEAD, NEXT_NAME, TEXT_END}
use Rattle.psy_page.specs.Spelling.{escaped}
use Rattle.psy_page.specs.Templates.{fill}

-- The last line: its number, counted from 1, and 0 where there is none yet; and its letters, as far as they are counted
pub record Last : Type 0 where
  pub number : ℕ
  pub letters : ℕ

-- What a line says
abbrev pub last_of : Line → Last
last_of line = record { number = line.number; letters = line.letters }

-- No line
abbrev pub no_line : Last
no_line = record { number = 0; letters = 0 }

-- The letters that a name takes, of which at most 150 are counted, with a comma and a blank behind them
abbrev pub letters_for : List ℕ → ℕ
letters_for name = min (length name) 150 + 2

-- The name has room in the last line: that has at most 150 letters then, or there are 4,000 lines.
abbrev pub has_room : Last → List ℕ → Bool
has_room last name = nat_le (last.letters + letters_for name) 150 || nat_le 4000 last.number

-- The last line behind a name
abbrev pub behind_name : Last → List ℕ → Last
behind_name last name =
    cond (last.number == 0) (record { number = 1; letters = 34 + letters_for name })
    (cond (has_room last name) (record { number = last.number; letters = min (last.letters + letters_for name) 150 })
    (record { number = last.number + 1; letters = letters_for name }))

-- What is written for a name: in the first line, behind a comma in the last one, or in a further one, each 16 pixels below the one before it
abbrev pub name_text : Last → List ℕ → List ℕ
name_text last name =
    cond (last.number == 0) (fill FIRST_NAME.now (decimal 16 ∷ LEAD.now ∷ flat_map escaped name ∷ []))
    (cond (has_room last name) (fill NEXT_NAME.now (flat_map escaped name ∷ []))
    (fill FURTHER_NAME.now (decimal ((last.number + 1) * 16) ∷ flat_map escaped name ∷ [])))

-- Names behind a line
abbrev pub names_text : Last → List (List ℕ) → List ℕ
names_text last [] = []
names_text last (name ∷ names) = name_text last name ++ names_text (behind_name last name) names

-- The last line behind names
abbrev pub behind_names : Last → List (List ℕ) → Last
behind_names last [] = last
behind_names last (name ∷ names) = behind_names (behind_name last name) names

-- How many lines names take
abbrev pub input_lines : List (List ℕ) → ℕ
input_lines names = (behind_names no_line names).number

-- The last line ends, where there is one.
abbrev pub end_text : ℕ → List ℕ
end_text number = cond (number == 0) [] TEXT_END.now

-- The lines of names
abbrev pub input_text : List (List ℕ) → List ℕ
input_text names = names_text no_line names ++ end_text (input_lines names)
