-- What is wrong with a state, by the numbers of its faults, and what each means.
use Rattle.std.specs.Prelude.{ℕ, ◌==◌, if◌then◌else◌, List, ◌++◌, codes, Option, None, Some}
use Rattle.psy_where.specs.declared.unsound.Unsound.{Unsound}
use Rattle.psy_where.specs.declared.unsound.Unsound.TheVariants.{Spelling, Standing, Held}

-- The fault of a number
abbrev pub unsound_of : ℕ → Option Unsound
unsound_of number =
    if number == 1 then Some Spelling
    else if number == 2 then Some Standing
    else if number == 3 then Some Held
    else None

-- What it means
abbrev pub unsound_sentence : Unsound → List ℕ
unsound_sentence Spelling =
    codes "the field of the state that begins at this byte is missing, cut or out of its range, or a byte stands behind the last field"
unsound_sentence Standing =
    codes "the agent can't stand so at that date: it hasn't begun though its first date has come, has begun though it hasn't, "
    ++ codes "or starts at a point that no run of the program reaches at such a date"
unsound_sentence Held =
    codes "this message isn't behind the one before it, entered behind the state's date, can be seen before it entered, "
    ++ codes "expires no later than it can be seen, or has expired though its receiver has begun"
