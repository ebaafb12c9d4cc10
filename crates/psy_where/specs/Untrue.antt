-- What is wrong with a trace, by the numbers of its faults, and what each means.
use Rattle.std.specs.Prelude.{ℕ, ◌==◌, if◌then◌else◌, List, codes, Option, None, Some}
use Rattle.psy_where.specs.declared.untrue.Untrue.{Untrue}
use Rattle.psy_where.specs.declared.untrue.Untrue.TheVariants.{Form, Name, Order, Course, Work, Date, Turn, Look}

-- The fault of a number
abbrev pub untrue_of : ℕ → Option Untrue
untrue_of number =
    if number == 1 then Some Form
    else if number == 2 then Some Name
    else if number == 3 then Some Order
    else if number == 4 then Some Course
    else if number == 5 then Some Work
    else if number == 6 then Some Date
    else if number == 7 then Some Turn
    else if number == 8 then Some Look
    else None

-- What it means
abbrev pub untrue_sentence : Untrue → List ℕ
untrue_sentence Form =
    codes "this line isn't one of a trace, ends it at another date, or stands behind its end; or the end is missing, and this would be its line"
untrue_sentence Name = codes "the program has no agent or no variable of this name"
untrue_sentence Order =
    codes "this line isn't behind the one before: acts, pubs, segs and looks, each by agent, variable or processor, then number, date or cycle"
untrue_sentence Course =
    codes "the agent doesn't go on so: each action starts where the one before ended, at a point that may follow, and is due at that point's deadline"
untrue_sentence Work =
    codes "its cycles aren't those of its segments, or pass the budget, or lie before its start or behind its deadline; or it is due and not finished"
untrue_sentence Date = codes "this isn't the variable's next date, or the place isn't that of the date; or at the end a date is missing"
untrue_sentence Turn =
    codes "here the processor doesn't go to the pending action of the earliest deadline, or leaves one waiting in the gap before"
untrue_sentence Look =
    codes "this look isn't in a cycle of its action, reaches back beyond the depth, or has another place or value than that of the date that it asks for"
