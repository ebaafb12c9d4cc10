-- The actions of an agent as they wait for its processor.
use Rattle.std.specs.Prelude.{ℕ, ◌*◌, Bool, ◌&&◌, ◌||◌, nat_le, nat_lt, if◌then◌else◌, List, map, filter}
use Rattle.psy_base.specs.Extremes.{most_of}
use Rattle.psy_audit.specs.declared.said.Act.{Act}
use Rattle.psy_audit.specs.declared.said.Segment.{Segment}
use Rattle.psy_audit.specs.declared.waits.Wait.{Wait}
use Rattle.psy_audit.specs.Courses.{is_filled, is_unfinished}
use Rattle.psy_audit.specs.Traces.{Judged, Lines, acts_of, segments_of}

-- The cycle behind the last one of a stretch, and 0 where it has none
abbrev pub end_in : Segment → ℕ
end_in s = if is_filled s then s.past else 0

-- The cycle behind the last one of some stretches
abbrev pub past_in : List Segment → ℕ
past_in its = most_of (map end_in its)

-- An action as it waits, with these stretches: from its release on, until its last cycle is over
abbrev pub wait_in : Judged → List Segment → Act → Wait
wait_in j its a = record { act = a; from = a.start * j.unit.quantum; past = past_in its }

-- The action is pending at a cycle.
abbrev pub is_waiting : ℕ → Wait → Bool
is_waiting cycle w = nat_le w.from cycle && (is_unfinished w.act.ending || nat_lt cycle w.past)

-- The actions that are pending at a cycle
abbrev pub pending_in : ℕ → List Wait → List Act
pending_in cycle waits = map (λ (w : Wait). w.act) (filter (is_waiting cycle) waits)

-- The actions of an agent of a trace as they wait
abbrev pub waits_in : Judged → Lines → ℕ → List Wait
waits_in j all agent = map (λ (a : Act). wait_in j (segments_of a.agent a.number all) a) (acts_of agent all)
