-- What is kept of a run, and its text.
use Rattle.std.specs.Prelude.{ℕ, ◌+◌, ◌-◌, ◌%◌, ◌==◌, ◌&&◌, Bool, true, false, if◌then◌else◌, List, [], ◌∷◌, ◌++◌, filter, length, get_or, map}
use Rattle.std.specs.Prelude.{slice_set, Option, None, Some, pos}
use Rattle.std.specs.List.{flat_map, range_with_len}
use Rattle.psy_audit.specs.declared.said.Act.{Act}
use Rattle.psy_audit.specs.declared.said.Look.{Look}
use Rattle.psy_audit.specs.declared.said.Publication.{Publication}
use Rattle.psy_audit.specs.declared.said.Said.TheVariants.{Acted, Published, Served, Looked, Ended}
use Rattle.psy_audit.specs.declared.said.Segment.{Segment}
use Rattle.psy_audit.specs.Spelled.{line_told}
use Rattle.psy_audit.specs.Traced.{one_cycle}
use Rattle.psy_audit.specs.declared.said.Ending.{Ending}
use Rattle.psy_audit.specs.declared.said.Ending.TheVariants.{At, Stopped, Unfinished}
use Rattle.psy_clock.specs.Dates.{count}
use Rattle.psy_dates.specs.declared.plan.Plan.{Plan}
use Rattle.psy_dates.specs.declared.seat.Phase.{Phase}
use Rattle.psy_dates.specs.declared.seat.Phase.TheVariants as phase
use Rattle.psy_dates.specs.declared.seat.Seat.{Seat}
use Rattle.psy_dates.specs.declared.shared.Shared.{Shared}
use Rattle.psy_history.specs.Lines.{is_date}
use Rattle.psy_kernel.specs.declared.seen.Seen.{Seen}
use Rattle.psy_tree.specs.Parts.{clock_in, variable_at}
use Rattle.psy_collect.specs.declared.kept.Kept.{Kept}
use Rattle.psy_history.specs.Processors.{processor_at, processors}
use Rattle.psy_tree.specs.declared.unit.Unit.{Unit as Whole}

-- ---- the text of what is kept

-- The lines of an agent's actions, among these
abbrev pub acts_text : Whole → List Act → ℕ → List ℕ
acts_text unit acts agent = flat_map (λ a. line_told unit 0 (Acted a)) (filter (λ (a : Act). a.agent == agent) acts)

-- The lines of a variable's publications
abbrev pub publications_text : Whole → List Publication → ℕ → List ℕ
publications_text unit publications variable =
    flat_map (λ p. line_told unit 0 (Published p)) (filter (λ (p : Publication). p.variable == variable) publications)

-- The lines of a processor's stretches
abbrev pub segments_text : Whole → List Segment → ℕ → List ℕ
segments_text unit segments processor = flat_map (λ s. line_told unit 0 (Served s)) (filter (λ (s : Segment). s.processor == processor) segments)

-- The lines of an agent's looks
abbrev pub looks_text : Whole → List Look → ℕ → List ℕ
looks_text unit looks agent = flat_map (λ l. line_told unit 0 (Looked l)) (filter (λ (l : Look). l.agent == agent) looks)

-- The text of all that is kept, up to a date
abbrev pub kept_text : Whole → ℕ → Kept → List ℕ
kept_text unit until k =
    flat_map (acts_text unit k.acts) (range_with_len 0 (length unit.agents))
    ++ (flat_map (publications_text unit k.publications) (range_with_len 0 (length unit.variables))
    ++ (flat_map (segments_text unit k.segments) (range_with_len 0 (processors unit))
    ++ (flat_map (looks_text unit k.looks) (range_with_len 0 (length unit.agents))
    ++ line_told unit until Ended)))

-- ---- what is kept

-- Nothing, of so many agents and processors
abbrev pub nothing_kept : ℕ → ℕ → Kept
nothing_kept agents count = record {
  acts = [];
  publications = [];
  segments = [];
  looks = [];
  doing = map (λ agent. None) (range_with_len 0 agents);
  serving = map (λ processor. None) (range_with_len 0 count);
}

-- How many lines of it are certain
abbrev pub count_kept : Kept → ℕ
count_kept k = length k.acts + (length k.publications + (length k.segments + length k.looks))

-- ---- a cycle that goes to an action

-- An action with one cycle more
abbrev pub one_more : Act → Act
one_more a = record a { work = a.work + 1 }

-- A stretch goes on with a cycle that goes to an action.
abbrev pub goes_on : Segment → ℕ → ℕ → ℕ → Bool
goes_on s cycle agent number = s.past == cycle && (s.agent == agent && s.number == number)

-- The last stretch of a processor, where it is over before a cycle that goes to an action
abbrev pub parted : Option Segment → ℕ → ℕ → ℕ → List Segment
parted None cycle agent number = []
parted (Some s) cycle agent number = if goes_on s cycle agent number then [] else s ∷ []

-- The stretch that has the cycle: the last one, or another
abbrev pub joined : Option Segment → ℕ → ℕ → ℕ → ℕ → Segment
joined None processor cycle agent number = one_cycle processor cycle (record { agent = agent; number = number })
joined (Some s) processor cycle agent number =
    if goes_on s cycle agent number then record s { past = cycle + 1 } else one_cycle processor cycle (record { agent = agent; number = number })

-- What is kept, with a cycle of a processor that goes to an action
abbrev pub served_more : ℕ → ℕ → ℕ → ℕ → Kept → Kept
served_more processor cycle agent number k = record k {
  segments = k.segments ++ parted (get_or k.serving processor None) cycle agent number;
  serving = slice_set k.serving processor (Some (joined (get_or k.serving processor None) processor cycle agent number));
}

-- The same, where this is its agent's last action, which has one cycle more
abbrev pub given_by : ℕ → ℕ → Option Act → Kept → Kept
given_by processor cycle None k = k
given_by processor cycle (Some a) k =
    served_more processor cycle a.agent a.number (record k { doing = slice_set k.doing a.agent (Some (one_more a)) })

-- What is kept, with a cycle of a processor that goes to an agent's last action
abbrev pub given : ℕ → ℕ → ℕ → Kept → Kept
given processor cycle agent k = given_by processor cycle (get_or k.doing agent None) k

-- A look of an action of an agent, of this number, in a cycle
abbrev pub look_of : ℕ → ℕ → ℕ → Seen → Look
look_of number cycle agent seen = record {
  agent = agent;
  number = number;
  cycle = cycle;
  variable = seen.variable;
  back = seen.back;
  slot = seen.slot;
  value = seen.value;
}

-- What is kept, with a look of an agent's last action
abbrev pub looked_by : ℕ → ℕ → Option Act → Seen → Kept → Kept
looked_by cycle agent None seen k = k
looked_by cycle agent (Some a) seen k = record k { looks = k.looks ++ look_of a.number cycle agent seen ∷ [] }

-- The same, where it looks at something
abbrev pub looked : ℕ → ℕ → Option Seen → Kept → Kept
looked cycle agent None k = k
looked cycle agent (Some seen) k = looked_by cycle agent (get_or k.doing agent None) seen k

-- What is kept, with a cycle of a processor that goes to an agent's last action, and what that looks at
abbrev pub turned : ℕ → ℕ → ℕ → Option Seen → Kept → Kept
turned processor cycle agent seen k = looked cycle agent seen (given processor cycle agent k)

-- The same, where the cycle goes to an agent
abbrev pub turned_by : Whole → ℕ → Option ℕ → Option Seen → Kept → Kept
turned_by unit cycle None seen k = k
turned_by unit cycle (Some agent) seen k = turned (processor_at unit agent) cycle agent seen k

-- ---- a date

-- What a variable publishes at the date done last, with what is shared then
abbrev pub published_in : Plan → Shared → ℕ → ℕ → List Publication
published_in plan shared date variable =
    if is_date (clock_in plan.unit (variable_at plan.unit variable).clock) date
    then record {
      variable = variable;
      date = date;
      slot = (count (clock_in plan.unit (variable_at plan.unit variable).clock) date - 1) % get_or plan.sizes.rings variable 0;
      value = get_or (get_or shared.rings.items variable []) 0 (pos 0);
    } ∷ []
    else []

-- A seat of which nothing is known
abbrev pub no_seat : Seat
no_seat = record { phase = phase.Waiting; number = 0; point = 0; start = 0; deadline = 0; end = 0; reached = 0; trap = None }

-- The action of a seat, of which nothing was done
abbrev pub act_in : ℕ → Seat → Act
act_in agent seat = record { agent = agent; number = seat.number; point = seat.point; start = seat.start; due = seat.deadline; work = 0; ending = Unfinished }

-- An agent started an action at this date.
abbrev pub has_started : ℕ → Phase → ℕ → Bool
has_started date phase.Waiting start = false
has_started date phase start = start == date

-- No action of the agent is under way.
abbrev pub rests : Phase → Bool
rests phase.Acting = false
rests phase = true

-- The last action of an agent, with how it ended
abbrev pub ended_by : Ending → Option Act → List Act
ended_by ending None = []
ended_by ending (Some a) = record a { ending = ending } ∷ []

-- The action of an agent that was its last, where its seat says that it started another at this date
abbrev pub over_in : List (Option Act) → List Seat → ℕ → ℕ → List Act
over_in doing seats date agent =
    if has_started date (get_or seats agent no_seat).phase (get_or seats agent no_seat).start then ended_by (At date) (get_or doing agent None) else []

-- The last action of an agent: another one, where it started that at this date
abbrev pub last_in : List (Option Act) → List Seat → ℕ → ℕ → Option Act
last_in doing seats date agent =
    if has_started date (get_or seats agent no_seat).phase (get_or seats agent no_seat).start
    then Some (act_in agent (get_or seats agent no_seat))
    else get_or doing agent None

-- ---- the end

-- How the action of a seat ended
abbrev pub ending_of : Phase → ℕ → Ending
ending_of phase.Waiting end = Unfinished
ending_of phase.Acting end = Unfinished
ending_of phase.Ended end = At end
ending_of phase.Stopped end = Stopped
ending_of phase.Silent end = Stopped

-- The last action of an agent, with how it ended by its seat
abbrev pub end_in : List (Option Act) → List Seat → ℕ → List Act
end_in doing seats agent = ended_by (ending_of (get_or seats agent no_seat).phase (get_or seats agent no_seat).end) (get_or doing agent None)
