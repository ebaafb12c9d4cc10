-- What is asked of the actions of a trace: that they are those of the program, one after the other, and have their cycles in time.
use Rattle.std.specs.Prelude.{ℕ, ◌+◌, ◌*◌, Bool, true, false, not, ◌==◌, ◌&&◌, ◌||◌, nat_le, nat_lt, List, map, Option, Some, None}
use Rattle.std.specs.List.{count_by, list_all, list_any, range_with_len}
use Rattle.psy_base.specs.Extremes.{most_of}
use Rattle.psy_meaning.specs.Timing.{Timing, budget_at, deadline, end_date, first_date, following}
use Rattle.psy_audit.specs.declared.said.Act.{Act}
use Rattle.psy_audit.specs.declared.said.Ending.{Ending}
use Rattle.psy_audit.specs.declared.said.Ending.TheVariants.{At, Unfinished}
use Rattle.psy_audit.specs.declared.said.Segment.{Segment}
use Rattle.psy_audit.specs.Traces.{Judged, Lines, acts_of, last_of, segments_of, timing_in}

-- ---- one action behind the other

-- The first action of an agent: number 0, from point 0 and at the agent's first date
abbrev pub is_first : Timing → Act → Bool
is_first timing a = a.number == 0 && (a.point == 0 && a.start == first_date timing)

-- The action ended at this date.
abbrev pub ends_at : ℕ → Ending → Bool
ends_at date (At end) = end == date
ends_at date ending = false

-- The action goes on from one of the same agent: it is the next, starts where that one ended, and at a point that may follow, with this date.
abbrev pub goes_on : Timing → Act → Act → Bool
goes_on timing before a = a.number == before.number + 1 && (ends_at a.start before.ending
    && list_any (λ to. to == a.point && end_date timing before.start to == a.start) (following timing before.point))

-- It is the first, or goes on from the last one before.
abbrev pub comes_next : Timing → Option Act → Act → Bool
comes_next timing None a = is_first timing a
comes_next timing (Some before) a = goes_on timing before a

-- An action that ended at a date could end there, and where that is before the last date, some action goes on from it.
abbrev pub is_continued : Timing → ℕ → List Act → Act → Ending → Bool
is_continued timing until its a (At end) = list_any (λ to. end_date timing a.start to == end) (following timing a.point)
    && (nat_le until end || list_any (goes_on timing a) its)
is_continued timing until its a ending = true

-- The action is one that an agent may do behind its last one, where these are its actions: it comes next, starts before the last date, is due at
-- its deadline, and is continued.
abbrev pub is_course : Timing → ℕ → Option Act → List Act → Act → Bool
is_course timing until last its a =
    comes_next timing last a
    && (nat_lt a.start until
    && (a.due == deadline timing a.point a.start
    && is_continued timing until its a a.ending))

-- The action is one that its agent may do behind the lines before.
abbrev pub has_course : Judged → Lines → Lines → Act → Bool
has_course j all before a = is_course (timing_in j a.agent) j.until (last_of (acts_of a.agent before)) (acts_of a.agent all) a

-- An agent with a first date before the last date has an action.
abbrev pub has_begun : Judged → Lines → ℕ → Bool
has_begun j all agent = nat_le j.until (first_date (timing_in j agent)) || list_any (λ (a : Act). true) (acts_of agent all)

-- ---- cycles

-- The cycle is one of the stretch.
abbrev pub has_cycle : ℕ → Segment → Bool
has_cycle cycle s = nat_le s.first cycle && nat_lt cycle s.past

-- The stretch has a cycle.
abbrev pub is_filled : Segment → Bool
is_filled s = nat_lt s.first s.past

-- The number of cycles of some stretches; one that several have is counted once.
abbrev pub cycles_in : List Segment → ℕ
cycles_in its = count_by (λ cycle. list_any (has_cycle cycle) its) (range_with_len 0 (most_of (map (λ (s : Segment). s.past) its)))

-- No cycle of the stretch lies before the start of an action, none at or behind its deadline.
abbrev pub is_within : Judged → Act → Segment → Bool
is_within j a s = not (is_filled s) || nat_le (a.start * j.unit.quantum) s.first && nat_le s.past (a.due * j.unit.quantum)

-- It wasn't finished.
abbrev pub is_unfinished : Ending → Bool
is_unfinished Unfinished = true
is_unfinished ending = false

-- An action has the cycles that it tells of in these stretches, no more than its budget, between its start and its deadline, and is finished where it was due.
abbrev pub are_cycles : Judged → List Segment → Act → Bool
are_cycles j its a =
    nat_le a.work (budget_at (timing_in j a.agent) a.point)
    && (a.work == cycles_in its
    && (list_all (is_within j a) its
    && not (is_unfinished a.ending && nat_le a.due j.until)))

-- It has them in the stretches that are its own.
abbrev pub has_cycles : Judged → Lines → Act → Bool
has_cycles j all a = are_cycles j (segments_of a.agent a.number all) a
