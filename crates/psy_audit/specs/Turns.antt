-- What is asked of the processors of a trace: that each cycle goes to the pending action of the earliest deadline, and none is left while one is pending.
use Rattle.std.specs.Prelude.{ℕ, ◌-◌, ◌*◌, Bool, true, not, ◌==◌, ◌&&◌, ◌||◌, nat_le, nat_lt, if◌then◌else◌, List, [], ◌∷◌, filter, Option, Some, None, is_none}
use Rattle.std.specs.List.{flat_map, list_all, list_any, range_with_len}
use Rattle.psy_history.specs.Processors.{processor_at, served}
use Rattle.psy_audit.specs.declared.said.Act.{Act}
use Rattle.psy_audit.specs.declared.said.Segment.{Segment}
use Rattle.psy_audit.specs.Courses.{is_filled, is_unfinished}
use Rattle.psy_audit.specs.Traces.{Judged, Lines, acts_of, last_of, segments, segments_of}

-- ---- which action comes first

-- An action is pending at a cycle: it is released, and has a cycle of its own at that one or behind it, or wasn't finished.
abbrev pub is_pending_at : Judged → Lines → ℕ → Act → Bool
is_pending_at j all cycle a = nat_le (a.start * j.unit.quantum) cycle
    && (is_unfinished a.ending || list_any (λ (s : Segment). is_filled s && nat_lt cycle s.past) (segments_of a.agent a.number all))

-- The actions of a processor that are pending at a cycle, agent by agent in the order in force
abbrev pub pending_at : Judged → Lines → ℕ → ℕ → List Act
pending_at j all processor cycle =
    flat_map (λ agent. filter (is_pending_at j all cycle) (acts_of agent all)) (served j.unit processor (j.order cycle))

-- Of an action and the first of those behind it, the one of the earlier deadline; of equal ones the one before
abbrev pub sooner_of : Act → Option Act → Option Act
sooner_of a None = Some a
sooner_of a (Some later) = if nat_le a.due later.due then Some a else Some later

-- The action of the earliest deadline; of equal ones the first in the list
abbrev pub soonest_of : List Act → Option Act
soonest_of [] = None
soonest_of (a ∷ rest) = sooner_of a (soonest_of rest)

-- The action that comes first on a processor at a cycle
abbrev pub first_at : Judged → Lines → ℕ → ℕ → Option Act
first_at j all processor cycle = soonest_of (pending_at j all processor cycle)

-- No action but the one of the stretch comes first.
abbrev pub is_own : Segment → Option Act → Bool
is_own s None = true
is_own s (Some a) = a.agent == s.agent && a.number == s.number

-- ---- stretches

-- The numbers from one on, before another
abbrev pub between : ℕ → ℕ → List ℕ
between from to = range_with_len from (to - from)

-- The stretches of a processor
abbrev pub segments_on : ℕ → Lines → List Segment
segments_on processor lines = filter (λ (s : Segment). s.processor == processor) (segments lines)

-- The cycle behind a stretch, and 0 where there is none
abbrev pub past_of : Option Segment → ℕ
past_of None = 0
past_of (Some s) = s.past

-- The cycle behind the last stretch of a processor
abbrev pub past_on : ℕ → Lines → ℕ
past_on processor lines = past_of (last_of (segments_on processor lines))

-- No action of the processor is pending from one cycle on, before another.
abbrev pub is_idle : Judged → Lines → ℕ → ℕ → ℕ → Bool
is_idle j all processor from to = list_all (λ cycle. is_none (first_at j all processor cycle)) (between from to)

-- A stretch touches one before it of the same action on the same processor: it doesn't begin behind it.
abbrev pub touches : Segment → Segment → Bool
touches s before = before.agent == s.agent && (before.number == s.number && nat_le s.first before.past)

-- A stretch is of an action, on the processor of its agent.
abbrev pub is_of_act : Judged → Lines → Segment → Bool
is_of_act j all s = processor_at j.unit s.agent == s.processor && list_any (λ (a : Act). a.number == s.number) (acts_of s.agent all)

-- A stretch has cycles, all before the last date, and is of an action of the processor; it touches none before it of the same action; at each of
-- its cycles none but its action comes first, and in the gap before it none is pending.
abbrev pub is_served : Judged → Lines → Lines → Segment → Bool
is_served j all before s =
    is_filled s
    && (nat_le s.past (j.until * j.unit.quantum)
    && (is_of_act j all s
    && (not (list_any (touches s) (segments_on s.processor before))
    && (list_all (λ cycle. is_own s (first_at j all s.processor cycle)) (between s.first s.past)
    && is_idle j all s.processor (past_on s.processor before) s.first))))

-- Nothing is pending on a processor behind its last stretch, before the last date.
abbrev pub is_over : Judged → Lines → ℕ → Bool
is_over j all processor = is_idle j all processor (past_on processor all) (j.until * j.unit.quantum)
