-- The rules that the code of an image breaks, by their numbers, and what each means.
use Rattle.std.specs.Prelude.{ℕ, ◌==◌, if◌then◌else◌, List, codes, Option, None, Some}
use Rattle.psy_where.specs.declared.broken.Broken.{Broken}
use Rattle.psy_where.specs.declared.broken.Broken.TheVariants.{Outside, Shared, Heights, Framed, Named, Ordered, Ended}

-- The rule of a number
abbrev pub broken_of : ℕ → Option Broken
broken_of number =
    if number == 1 then Some Outside
    else if number == 2 then Some Shared
    else if number == 3 then Some Heights
    else if number == 4 then Some Framed
    else if number == 5 then Some Named
    else if number == 6 then Some Ordered
    else if number == 7 then Some Ended
    else None

-- What it means that it is broken
abbrev pub broken_sentence : Broken → List ℕ
broken_sentence Outside =
    codes "a way leads out of the code: what this instruction goes on to isn't in it, or a point or a function begins behind its end"
broken_sentence Shared = codes "this instruction is reached from two owners: each agent and each function has code of its own"
broken_sentence Heights =
    codes "two ways come here with different operands, one that is popped isn't there, `Return` or `Advance` has too many, or `stack` is passed"
broken_sentence Framed = codes "a cell or a counter lies outside its frame, or a call needs more cells and counters than `frames`"
broken_sentence Named =
    codes "an operand names nothing that there is or that this agent may name, or reaches back beyond the depth of a variable"
broken_sentence Ordered = codes "a function calls only functions of lower numbers, and touches no variable, no stream and no point"
broken_sentence Ended =
    codes "this `Advance` names no point, or one that begins elsewhere than behind it; or no way leads from here to an `Advance`"
