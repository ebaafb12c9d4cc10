-- Which file a line speaks of with which psyc refuses.
use Rattle.std.specs.Prelude.{ℕ, Bool, ◌||◌, ◌==◌, nat_le, if◌then◌else◌, List, codes, bytes_eq, length, take, slice_get, Option, None}

-- The status with which psyc ends where it refuses the words, or the texts that it was given: a program, a demand, a line, or a count beyond its limit
abbrev pub is_refusal : ℕ → Bool
is_refusal status = status == 1 || (status == 2 || (status == 5 || (status == 6 || status == 7)))

-- The line begins with these bytes.
unfoldable pub begins_with : List ℕ → List ℕ → Bool
begins_with front line = bytes_eq (take (length front) line) front

-- It refuses the words.
abbrev pub is_of_words : List ℕ → Bool
is_of_words line = bytes_eq line (codes "words")

-- It refuses a line of the inputs, or of the script.
abbrev pub is_of_line : List ℕ → Bool
is_of_line line = begins_with (codes "refused inputs ") line || begins_with (codes "refused script ") line

-- It speaks of the inputs, or of the script.
abbrev pub is_of_inputs : List ℕ → Bool
is_of_inputs line = begins_with (codes "refused inputs ") line || (begins_with (codes "limit inputs ") line || begins_with (codes "read inputs") line)

abbrev pub is_of_script : List ℕ → Bool
is_of_script line = begins_with (codes "refused script ") line || (begins_with (codes "limit script ") line || begins_with (codes "read script") line)

-- It doesn't tell whether it speaks of the inputs or of the script.
abbrev pub is_of_either : List ℕ → Bool
is_of_either line = begins_with (codes "limit lines ") line

-- The name of the inputs, where there is no script beside them
abbrev pub inputs_alone : List (List ℕ) → Option (List ℕ)
inputs_alone words = if nat_le (length words) 4 then slice_get words 3 else None

-- The name of the file that a line speaks of, among the words `run PROGRAM UNTIL [INPUTS [SCRIPT]]` or `check PROGRAM UNTIL`
abbrev pub spoken_of : List (List ℕ) → List ℕ → Option (List ℕ)
spoken_of words line =
    if is_of_inputs line then slice_get words 3
    else if is_of_script line then slice_get words 4
    else if is_of_either line then inputs_alone words
    else slice_get words 1
