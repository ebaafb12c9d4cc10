-- What a run did up to a date, told as a trace: the actions that started, the values published, what each processor's cycles went to, and the looks.
use Rattle.std.specs.Prelude.{ℕ, zero, suc, ◌+◌, ◌-◌, ◌*◌, ◌%◌, ◌==◌, ◌&&◌, nat_lt, if◌then◌else◌, List, [], ◌∷◌, ◌++◌, map, filter, length, get_or, reverse}
use Rattle.std.specs.Prelude.{Option, Some, None, ℤ, pos}
use Rattle.std.specs.List.{flat_map, range_with_len}
use Rattle.psy_base.specs.declared.sizes.Sizes.{Sizes}
use Rattle.psy_budget.specs.Charges.{cycle_of}
use Rattle.psy_clock.specs.Dates.{count}
use Rattle.psy_code.specs.Views.{Looked, View}
use Rattle.psy_history.specs.Actions.{Action, System, Verdict, Done, publishing}
use Rattle.psy_history.specs.History.{history}
use Rattle.psy_history.specs.Lines.{is_date}
use Rattle.psy_history.specs.Processors.{processors}
use Rattle.psy_history.specs.Rings.{slot_of}
use Rattle.psy_history.specs.Schedule.{Turn, cycle_of_unit, is_pending, units}
use Rattle.psy_history.specs.Scheduled.{turns_by, turns_of}
use Rattle.psy_history.specs.Visible.{published}
use Rattle.psy_audit.specs.declared.said.Act.{Act}
use Rattle.psy_audit.specs.declared.said.Ending.{Ending}
use Rattle.psy_audit.specs.declared.said.Ending.TheVariants.{At, Stopped, Unfinished}
use Rattle.psy_audit.specs.declared.said.Look.{Look}
use Rattle.psy_audit.specs.declared.said.Publication.{Publication}
use Rattle.psy_audit.specs.declared.said.Said.{Said}
use Rattle.psy_audit.specs.declared.said.Said.TheVariants.{Acted, Published, Served, Looked as Seen, Ended}
use Rattle.psy_audit.specs.declared.said.Segment.{Segment}

-- ---- actions

-- How an action ends that had all its work: at the date of the point that it reached, or it is stopped
abbrev pub ending_by : Verdict → Ending
ending_by (Done point end) = At end
ending_by verdict = Stopped

-- An action, of which its processor's cycles up to the last date are these turns: what it had of them, and whether that was all
abbrev pub act_of : List (Option Turn) → Action → Act
act_of turns r = record {
  agent = r.agent;
  number = r.number;
  point = r.point;
  start = r.start;
  due = r.deadline;
  work = units r.agent r.number turns;
  ending = if is_pending turns r then Unfinished else ending_by r.verdict;
}

-- The actions of an agent that start below a date, the first one first
abbrev pub started : System → ℕ → ℕ → List Action
started s until agent = reverse (history s until agent)

-- The lines of an agent's actions
abbrev pub acts_told : System → (ℕ → List ℕ) → ℕ → ℕ → List Said
acts_told s order until agent = map (λ r. Acted (act_of (turns_by s order (until * s.unit.quantum) agent) r)) (started s until agent)

-- ---- publications

-- What a variable publishes at a date of its clock, in the place of the date's number modulo the size of its ring
abbrev pub publication_at : System → Sizes → ℕ → ℕ → List Said
publication_at s sizes variable date =
    if is_date (publishing s variable) date
    then Published (record {
      variable = variable;
      date = date;
      slot = (count (publishing s variable) date - 1) % get_or sizes.rings variable 0;
      value = published s (history s (date + 1)) variable date;
    }) ∷ []
    else []

-- The lines of what a variable publishes up to a date
abbrev pub publications_told : System → Sizes → ℕ → ℕ → List Said
publications_told s sizes until variable = flat_map (publication_at s sizes variable) (range_with_len 0 (until + 1))

-- ---- stretches

-- One cycle of a processor, which goes to an action
abbrev pub one_cycle : ℕ → ℕ → Turn → Segment
one_cycle processor cycle turn = record { processor = processor; first = cycle; past = cycle + 1; agent = turn.agent; number = turn.number }

-- Stretches, the last one first, with the cycle that comes next: it makes the last one longer where that is of its action and ends there.
abbrev pub with_cycle : ℕ → ℕ → Option Turn → List Segment → List Segment
with_cycle processor cycle None stretches = stretches
with_cycle processor cycle (Some turn) [] = one_cycle processor cycle turn ∷ []
with_cycle processor cycle (Some turn) (s ∷ before) =
    if s.past == cycle && (s.agent == turn.agent && s.number == turn.number)
    then record s { past = cycle + 1 } ∷ before
    else one_cycle processor cycle turn ∷ s ∷ before

-- The longest stretches of cycles of a processor that go to one action, the last one first, where the cycles go to these turns
abbrev pub stretches : ℕ → List (Option Turn) → List Segment
stretches processor [] = []
stretches processor (turn ∷ turns) = with_cycle processor (length turns) turn (stretches processor turns)

-- The lines of what the cycles of a processor up to a date go to
abbrev pub stretches_told : System → (ℕ → List ℕ) → ℕ → ℕ → List Said
stretches_told s order until processor = map Served (reverse (stretches processor (turns_of s order (until * s.unit.quantum) processor)))

-- ---- looks

-- The value that a view shows of a variable, so many of its dates back
abbrev pub shown : View → ℕ → ℕ → ℤ
shown view variable back = get_or (get_or view.pasts variable []) back (pos 0)

-- A look of an action that is executed in a cycle: what it reads, and in which place of the ring
abbrev pub look_in : System → Sizes → Action → Looked → Option ℕ → List Said
look_in s sizes r look None = []
look_in s sizes r look (Some cycle) = Seen (record {
  agent = r.agent;
  number = r.number;
  cycle = cycle;
  variable = look.variable;
  back = look.back;
  slot = slot_of (get_or sizes.rings look.variable 0) (count (publishing s look.variable) r.start) look.back;
  value = shown r.view look.variable look.back;
}) ∷ []

-- The looks of an action that are executed, where the cycles of its processor go to these turns: each in the cycle that pays its instruction
abbrev pub looks_of : System → Sizes → List (Option Turn) → Action → List Said
looks_of s sizes turns r = flat_map (λ (look : Looked).
    look_in s sizes r look (cycle_of_unit r.agent r.number (cycle_of (s.stalls r.agent) r.number look.number) turns)) r.deeds.looks

-- The lines of the looks of an agent's actions
abbrev pub looks_told : System → (ℕ → List ℕ) → Sizes → ℕ → ℕ → List Said
looks_told s order sizes until agent = flat_map (looks_of s sizes (turns_by s order (until * s.unit.quantum) agent)) (started s until agent)

-- ---- the trace

-- The trace of a run up to a date, whose ties go by this order and whose buffers have these sizes
abbrev pub trace_of : System → (ℕ → List ℕ) → Sizes → ℕ → List Said
trace_of s order sizes until =
    flat_map (acts_told s order until) (range_with_len 0 (length s.unit.agents))
    ++ (flat_map (publications_told s sizes until) (range_with_len 0 (length s.unit.variables))
    ++ (flat_map (stretches_told s order until) (range_with_len 0 (processors s.unit))
    ++ (flat_map (looks_told s order sizes until) (range_with_len 0 (length s.unit.agents))
    ++ Ended ∷ [])))
