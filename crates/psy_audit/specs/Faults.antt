-- The faults of a trace, by line.
use Rattle.std.specs.Prelude.{◌≡◌, ℕ, suc, Bool, true, false, not, ◌==◌, ◌&&◌, ◌||◌, nat_lt, if◌then◌else◌, List, [], ◌∷◌, ◌++◌, length, Option, Some, None}
use Rattle.std.specs.List.{list_all, list_any, range_with_len}
use Rattle.psy_history.specs.Processors.{processors}
use Rattle.psy_audit.specs.declared.said.Said.{Said}
use Rattle.psy_audit.specs.declared.said.Said.TheVariants.{Acted, Published, Served, Looked, Ended}
use Rattle.psy_audit.specs.Courses.{has_begun, has_course, has_cycles}
use Rattle.psy_audit.specs.Looks.{is_look}
use Rattle.psy_audit.specs.Publications.{is_next, is_published}
use Rattle.psy_audit.specs.Traces.{Judged, Lines, is_end, last_of}
use Rattle.psy_audit.specs.Turns.{is_over, is_served}

-- ---- names and order

-- Its names are those of agents and variables.
abbrev pub has_names : Judged → Said → Bool
has_names j (Acted a) = nat_lt a.agent (length j.unit.agents)
has_names j (Published p) = nat_lt p.variable (length j.unit.variables)
has_names j (Served s) = nat_lt s.agent (length j.unit.agents)
has_names j (Looked l) = nat_lt l.agent (length j.unit.agents) && nat_lt l.variable (length j.unit.variables)
has_names j Ended = true

-- What lines are ordered by: first their kind; then actions by agent and number, publications by variable and date, stretches by processor and
-- cycle, looks by agent, number and cycle.
abbrev pub place_of : Said → List ℕ
place_of (Acted a) = 0 ∷ a.agent ∷ a.number ∷ []
place_of (Published p) = 1 ∷ p.variable ∷ p.date ∷ []
place_of (Served s) = 2 ∷ s.processor ∷ s.first ∷ []
place_of (Looked l) = 3 ∷ l.agent ∷ l.number ∷ l.cycle ∷ []
place_of Ended = 4 ∷ []

-- Some numbers come before others: at the first place where they differ stands the less.
abbrev pub is_less : List ℕ → List ℕ → Bool
is_less [] others = false
is_less (a ∷ rest) [] = false
is_less (a ∷ rest) (b ∷ others) = nat_lt a b || a == b && is_less rest others

-- It comes behind a line, where that one says something.
abbrev pub comes_behind : Option (Option Said) → Said → Bool
comes_behind (Some (Some before)) said = is_less (place_of before) (place_of said)
comes_behind before said = true

-- ---- the fault of a line

-- The end of a trace: of each agent, each variable and each processor there is all that there has to be.
abbrev pub end_fault : Judged → Lines → Option ℕ
end_fault j all =
    if not (list_all (has_begun j all) (range_with_len 0 (length j.unit.agents))) then Some 4
    else if not (list_all (is_published j all) (range_with_len 0 (length j.unit.variables))) then Some 6
    else if not (list_all (is_over j all) (range_with_len 0 (processors j.unit))) then Some 7
    else None

-- What is wrong with what a line tells of
abbrev pub fault_in : Judged → Lines → Lines → Said → Option ℕ
fault_in j all before (Acted a) = if not (has_course j all before a) then Some 4 else if not (has_cycles j all a) then Some 5 else None
fault_in j all before (Published p) = if not (is_next j before p) then Some 6 else None
fault_in j all before (Served s) = if not (is_served j all before s) then Some 7 else None
fault_in j all before (Looked l) = if not (is_look j all l) then Some 8 else None
fault_in j all before Ended = end_fault j all

-- The least number of what is wrong with a line that stands behind others of a trace: it has no listed form, or follows the end (1); a name
-- is no agent's or variable's (2); it doesn't come behind the line before (3); or what it tells of isn't so (4 to 8).
abbrev pub fault_of : Judged → Lines → Lines → Option Said → Option ℕ
fault_of j all before None = Some 1
fault_of j all before (Some said) =
    if list_any is_end before then Some 1
    else if not (has_names j said) then Some 2
    else if not (comes_behind (last_of before) said) then Some 3
    else fault_in j all before said

-- ---- the first line that has one

-- The number of a fault, and of its line, counted from 1
pub record Fault : Type 0 where
  pub number : ℕ
  pub line : ℕ

-- The fault of this number in this line; where there is none, the one behind it
abbrev pub fault_or : Option ℕ → ℕ → Option Fault → Option Fault
fault_or None line behind = behind
fault_or (Some number) line behind = Some (record { number = number; line = line })

-- The first fault of lines that stand behind others of a trace. Behind the last line an end that is missing is one of form.
abbrev pub first_behind : Judged → Lines → Lines → Lines → Option Fault
first_behind j all before [] = if list_any is_end before then None else Some (record { number = 1; line = suc (length before) })
first_behind j all before (line ∷ lines) =
    fault_or (fault_of j all before line) (suc (length before)) (first_behind j all (before ++ line ∷ []) lines)

-- The first fault of a trace
abbrev pub first_fault : Judged → Lines → Option Fault
first_fault j lines = first_behind j lines [] lines

-- A legal trace: no line has a fault.
abbrev pub IsLegal : Judged → Lines → Type 0
IsLegal j lines = first_fault j lines ≡ None
